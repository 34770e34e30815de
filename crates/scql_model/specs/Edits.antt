-- Edits of a database: records are added, changed and removed, the counter among them.
use Rattle.std.specs.Prelude.{ℕ, ◌+◌, ◌*◌, ◌==◌, not, ◌||◌, Bool, List, [], ◌∷◌, ◌++◌, length, map, filter, nat_lt, ◌&&◌, true, false, Result, Ok, Err, if◌then◌else◌}
use Rattle.std.specs.List.{list_any, sum_by}
use Rattle.eeprom.specs.Slots.{replaced, without}
use Rattle.scql_base.specs.declared.records.User.{User}
use Rattle.scql_base.specs.declared.records.Object.{Object}
use Rattle.scql_base.specs.declared.records.Grant.{Grant}
use Rattle.scql_base.specs.declared.records.RowRecord.{RowRecord}
use Rattle.scql_base.specs.declared.words.StatusWord.{StatusWord}
use Rattle.scql_base.specs.Words.{no_space}
pub use Rattle.scql_model.specs.Records.{AnyRecord, of_counter, of_user, of_object, of_grant, of_row, record_stamp, record_spelling}
use Rattle.scql_model.specs.Stored.{cells_for_octets}
use Rattle.scql_model.specs.Database.{Database, stamps, weight}

-- how many cells a record takes
abbrev pub cells_of_record : AnyRecord → ℕ
cells_of_record r = cells_for_octets (record_spelling r)

-- A record is added behind all others of its kind, it takes the place of the one that has its stamp, or it is removed.
pub data Action : Type 0 where
  to_add : Action
  to_change : Action
  to_remove : Action

pub record Edit : Type 0 where
  pub action : Action
  pub entry : AnyRecord

abbrev pub adding : AnyRecord → Edit
adding r = record { action = to_add; entry = r }

abbrev pub changing : AnyRecord → Edit
changing r = record { action = to_change; entry = r }

abbrev pub removing : AnyRecord → Edit
removing r = record { action = to_remove; entry = r }

-- a new record, which takes the next stamp: the counter counts on, and the record is added
abbrev pub making : Database → AnyRecord → List Edit
making db r = changing (of_counter (db.next + 1)) ∷ adding r ∷ []

-- the records of one kind after an edit of one of them; the key of a record is its stamp
abbrev pub list_after : {X : Type 0} → Action → (X → ℕ) → X → List X → List X
list_after to_add key x xs = xs ++ x ∷ []
list_after to_change key x xs = replaced key x xs
list_after to_remove key x xs = without key (key x) xs

-- the database after an edit of this record; there is one counter, whose every edit sets the next stamp
abbrev pub edited : Action → AnyRecord → Database → Database
edited action (of_counter next) db = record db { next = next }
edited action (of_user u) db = record db { users = list_after action (λ (v : User). v.stamp) u db.users }
edited action (of_object o) db = record db { objects = list_after action (λ (p : Object). p.stamp) o db.objects }
edited action (of_grant g) db = record db { grants = list_after action (λ (h : Grant). h.stamp) g db.grants }
edited action (of_row r) db = record db { rows = list_after action (λ (s : RowRecord). s.stamp) r db.rows }

-- the database after edits, one after another
abbrev pub applied : Database → List Edit → Database
applied db [] = db
applied db (e ∷ edits) = applied (edited e.action e.entry db) edits

-- the stamps of the records that are added, changed or removed
abbrev pub touched : List Edit → List ℕ
touched edits = map (λ (e : Edit). record_stamp e.entry) edits

-- how many cells the records take that are added or changed
abbrev pub cells_of_edit : Action → AnyRecord → ℕ
cells_of_edit to_add r = cells_of_record r
cells_of_edit to_change r = cells_of_record r
cells_of_edit to_remove r = 0

abbrev pub cells_written : List Edit → ℕ
cells_written edits = sum_by (λ (e : Edit). cells_of_edit e.action e.entry) edits

-- at most so many octets are written for the cells, each of which has 32
abbrev pub octets_for_cells : ℕ → ℕ
octets_for_cells cells = 32 * cells

-- and for a commit: two for the count of the journal's entries, two for its gate, which is opened and closed, and for each touched
-- record four in the journal and two in the directory
abbrev pub octets_for_commit : ℕ → ℕ
octets_for_commit count = 4 + 6 * count

-- at most so many octets are written for edits that are committed at once
abbrev pub octets_for : List Edit → ℕ
octets_for edits = octets_for_cells (cells_written edits) + octets_for_commit (length (touched edits))

-- a database has the record of this stamp; each has a counter
abbrev pub has_record : Database → ℕ → Bool
has_record db stamp = stamp == 0 || list_any (λ other. stamp == other) (stamps db)

-- the stamps of some more records behind those of others, without those that are there
abbrev pub joined : List ℕ → List ℕ → List ℕ
joined before more = before ++ filter (λ stamp. not (list_any (λ other. stamp == other) before)) more

-- What a transaction has touched after further edits: those records that the committed or the working database still has.
abbrev pub touched_after : Database → Database → List ℕ → List Edit → List ℕ
touched_after committed working before edits =
    filter (λ stamp. has_record committed stamp || has_record working stamp) (joined before (touched edits))

-- Where there is room for edits.

-- the last number of four octets is no stamp, so that the next stamp always has a spelling
abbrev pub stamps_end : ℕ
stamps_end = 4294967295

-- the records take more cells than the card has
abbrev pub is_overfull : Database → Bool
is_overfull db = nat_lt db.cells (weight db)

-- a stamp is taken where the counter is changed
abbrev pub is_counter : AnyRecord → Bool
is_counter (of_counter next) = true
is_counter r = false

abbrev pub takes_stamp : List Edit → Bool
takes_stamp edits = list_any (λ (e : Edit). is_counter e.entry) edits

-- no stamp is left that is to be taken, or the records would take more cells than the card has
abbrev pub lacks_room : Database → List Edit → Bool
lacks_room db edits = takes_stamp edits && db.next == stamps_end || is_overfull (applied db edits)

-- the database with the edits, where there is room for them
abbrev pub with_edits : Database → List Edit → Result Database StatusWord
with_edits db edits = if lacks_room db edits then Err no_space else Ok (applied db edits)
