-- What is sought among the rows of a dictionary.
use Rattle.std.proofs.Common.{◌≡◌, ℕ, Bool, List, map, filter, Option, Some, option_map, refl, sym, ap, ◌∙◌}
use Rattle.std.specs.Prelude.{◌&&◌}
use Rattle.std.specs.List.{find}
use Rattle.scql_base.specs.declared.condition.Condition.{Condition}
use Rattle.scql_base.specs.declared.records.Object.{Object}
use Rattle.scql_base.specs.declared.records.ObjectKind.TheVariants.{Dictionary}
use Rattle.scql_base.specs.declared.words.Subject.{Subject}
use Rattle.scql_model.specs.Contents.{contents_of, cut_to, narrowed}
use Rattle.scql_model.specs.Database.{Database, object_stamped}
use Rattle.scql_model.specs.Dictionaries.{rows_told}
use Rattle.scql_model.specs.Matching.{Columns, matches}
use Rattle.scql_model.specs.Objects.{StampedRow, dictionary_columns}
use Rattle.plain_database.specs.Sought.{admits}
use Rattle.plain_database.specs.declared.sought.Sought.{Sought}
use Rattle.plain_database.proofs.SoughtRows.{and-swap, find-filter, find-image}

-- a told row is the one that is sought, where the dictionary has these columns
abbrev pub is_sought_row : Columns → List Condition → Sought → StampedRow → Bool
is_sought_row columns conditions sought r = admits sought r.stamp && matches columns conditions r.values

-- a told row, cut to the wanted columns
abbrev row_cut : Columns → Columns → StampedRow → StampedRow
row_cut columns wanted r = record r { values = cut_to columns wanted r.values }

-- the first of the records that are admitted of which it is told, and whose row meets the conditions, is told and sought
pub told-admitted : {X : Type 0} (tells : X → Bool) (told : X → StampedRow) (stamp_of : X → ℕ) (columns : Columns) (conditions : List Condition) (sought : Sought) (records : List X)
    → ((x : X) → (told x).stamp ≡ stamp_of x)
    → find (λ x. tells x && matches columns conditions (told x).values) (filter (λ x. admits sought (stamp_of x)) records)
    ≡ find (λ x. tells x && is_sought_row columns conditions sought (told x)) records
told-admitted tells told stamp_of columns conditions sought records same =
    find-filter (λ x. tells x && matches columns conditions (told x).values) (λ x. admits sought (stamp_of x)) (λ x. tells x && is_sought_row columns conditions sought (told x)) records
    (λ x. rw (same x) (and-swap (tells x) (admits sought (stamp_of x)) (matches columns conditions (told x).values)))

-- the row is that of the first record that is told and sought
pub shown-told : {X : Type 0} (tells : X → Bool) (told : X → StampedRow) (columns wanted : Columns) (conditions : List Condition) (sought : Sought) (records : List X) (found : Option X)
    → found ≡ find (λ x. tells x && is_sought_row columns conditions sought (told x)) records
    → option_map (λ x. row_cut columns wanted (told x)) found
    ≡ find (λ (r : StampedRow). admits sought r.stamp) (narrowed wanted conditions (record { columns = columns; rows = map told (filter tells records) }))
shown-told tells told columns wanted conditions sought records found is =
    ap (option_map (λ x. row_cut columns wanted (told x))) is
    ∙ sym (find-image tells told (λ (r : StampedRow). matches columns conditions r.values) (row_cut columns wanted) (λ (r : StampedRow). admits sought r.stamp) records)

-- a dictionary contains what it tells of
pub dictionary-contents : (db : Database) (stamp : ℕ) (o : Object) (subject : Subject) → object_stamped db.objects stamp ≡ Some o → o.kind ≡ Dictionary subject
    → contents_of db stamp ≡ record { columns = dictionary_columns subject; rows = rows_told db o.owner subject }
unfolding contents_of
dictionary-contents db stamp o subject at is = rw (at, is) refl
