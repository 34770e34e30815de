-- The spellings of the records, written out, and the cells that a fresh database fills.
use Rattle.std.proofs.Common.{◌≡◌, ℕ, List, [], ◌∷◌, ◌++◌, length, refl}
use Rattle.std.specs.Int.{w32, to_be_bytes}
use Rattle.std.specs.List.{flat_map}
use Rattle.scql_base.specs.declared.condition.Condition.{Condition}
use Rattle.scql_base.specs.declared.words.Subject.{Subject}
use Rattle.scql_base.specs.Strings.{spelled}
use Rattle.scql_base.specs.declared.records.User.{User}
use Rattle.scql_base.specs.declared.records.Grant.{Grant}
use Rattle.scql_base.specs.declared.records.RowRecord.{RowRecord}
use Rattle.scql_model.specs.Records.{profile_code, subject_code, comparison_code, counter_record, user_record, table_record, view_record, dictionary_record, grant_record, row_record}
use Rattle.scql_model.specs.Database.{fresh, weight}

-- four octets, the highest first
abbrev pub four : ℕ → List ℕ
four n = to_be_bytes w32 n

-- a list of names: how many, and each as a text
abbrev pub names_spelling : List (List ℕ) → List ℕ
names_spelling names = length names ∷ flat_map spelled names

abbrev pub condition_spelling : Condition → List ℕ
condition_spelling c = spelled c.column ++ (comparison_code c.comparison ∷ spelled c.value)

pub counter-spelling : (next : ℕ) → counter_record.spell next ≡ 0x00 ∷ four next
counter-spelling next = refl

pub user-spelling : (u : User) → user_record.spell u ≡ 0x01 ∷ (four u.stamp ++ (four u.owner ++ (profile_code u.profile ∷ u.tries ∷ (spelled u.name ++ spelled u.secret))))
user-spelling u = refl

pub table-spelling : (stamp owner : ℕ) (name : List ℕ) (columns : List (List ℕ))
    → table_record.spell (stamp, (owner, (name, columns))) ≡ 0x02 ∷ (four stamp ++ (four owner ++ (spelled name ++ names_spelling columns)))
table-spelling stamp owner name columns = refl

pub view-spelling : (stamp owner base : ℕ) (name : List ℕ) (columns : List (List ℕ)) (conditions : List Condition)
    → view_record.spell (stamp, (owner, (base, (name, (columns, conditions)))))
    ≡ 0x03 ∷ (four stamp ++ (four owner ++ (four base ++ (spelled name ++ (names_spelling columns ++ (length conditions ∷ flat_map condition_spelling conditions))))))
view-spelling stamp owner base name columns conditions = refl

pub dictionary-spelling : (stamp owner : ℕ) (name : List ℕ) (subject : Subject)
    → dictionary_record.spell (stamp, (owner, (name, subject))) ≡ 0x04 ∷ (four stamp ++ (four owner ++ (spelled name ++ (subject_code subject ∷ []))))
dictionary-spelling stamp owner name subject = refl

pub grant-spelling : (g : Grant) → grant_record.spell g ≡ 0x05 ∷ (four g.stamp ++ (four g.object ++ (four g.grantee ++ (g.privileges ∷ []))))
grant-spelling g = refl

pub row-spelling : (r : RowRecord) → row_record.spell r ≡ 0x06 ∷ (four r.stamp ++ (four r.table ++ flat_map spelled r.row))
row-spelling r = refl

-- the counter and the owner fill a cell each
pub weight-fresh : (n : ℕ) → weight (fresh n) ≡ 2
weight-fresh n = refl
