-- What a kind of record owes towards a database, so that an edit of one record is a change of one slot.
use Rattle.std.specs.Prelude.{◌≡◌, ℕ, ◌+◌, ◌<◌, true, false, List, length, Some}
use Rattle.std.specs.List.{list_all, sum_by, AllByRecursion}
use Rattle.eeprom.specs.StoreOf.{Slots, cells_for}
use Rattle.eeprom.specs.Slots.{Rises, kept}
use Rattle.scql_model.specs.Records.{AnyRecord, record_spelling, record_stamp, counter_in}
use Rattle.scql_model.specs.Database.{Database, IsValid, weight}
use Rattle.scql_model.specs.Edits.{Action, edited, is_counter, list_after}
use Rattle.catalog_codec.specs.Kinds.{Kind, HaveOtherMarks, read_as}
use Rattle.catalog_codec.specs.Catalog.{counter_kind, user_kind, object_kind, grant_kind, row_kind}
use Rattle.record_store.specs.Tags.{stamp_of}
use Rattle.record_table.specs.Listed.{listed}
use Rattle.record_table.specs.Touching.{stamp_in}
use Rattle.scql_model.specs.Opens.{Holds, is_spelled, counter_stamp}

-- There are as many slots as before, each is spelled, and the records of all kinds with other marks are as they were.
pub record LeavesOthers {X : Type 0} (kind : Kind X) (old new : Slots) : Type 0 where
  pub cells : length new ≡ length old
  pub spelled : list_all is_spelled new ≡ true
  pub counter : HaveOtherMarks kind counter_kind → kept counter_stamp counter_in new ≡ kept counter_stamp counter_in old
  pub users : HaveOtherMarks kind user_kind → listed user_kind new ≡ listed user_kind old
  pub objects : HaveOtherMarks kind object_kind → listed object_kind new ≡ listed object_kind old
  pub grants : HaveOtherMarks kind grant_kind → listed grant_kind new ≡ listed grant_kind old
  pub rows : HaveOtherMarks kind row_kind → listed row_kind new ≡ listed row_kind old

-- how many cells records of a kind take
abbrev pub cells_of_list : {X : Type 0} → Kind X → List X → ℕ
cells_of_list {X} kind xs = sum_by (λ x. cells_for (length (kind.form.spell x))) xs

-- What a kind owes towards a database, whose records of it stand among those of all kinds.
pub record IsEditable {X : Type 0} (kind : Kind X) (any : X → AnyRecord) : Type 0 where
  -- a record is spelled and named the same there, and is no counter; octets are read as a record of its stamp, and of as many octets as it is spelled with
  pub spells : (x : X) → record_spelling (any x) ≡ kind.form.spell x
  pub stamps : (x : X) → record_stamp (any x) ≡ kind.key x
  pub no_counter : (x : X) → is_counter (any x) ≡ false
  pub spelled : (x : X) → kind.form.fits x ≡ true → is_spelled (Some (kind.form.spell x)) ≡ true
  pub named : (octets : List ℕ) (x : X) → read_as kind octets ≡ Some x → stamp_in octets ≡ Some (kind.key x)
  pub stamped : (octets : List ℕ) (x : X) → read_as kind octets ≡ Some x → stamp_of octets ≡ kind.key x
  pub lengths : (octets : List ℕ) (x : X) → read_as kind octets ≡ Some x → length octets ≡ length (kind.form.spell x)
  -- the records of the kind that a database has are those that its slots list
  pub records : Database → List X
  pub held : (slots : Slots) (db : Database) → Holds slots db → listed kind slots ≡ records db
  -- in a valid database they rise up to the next stamp, within their limits
  pub rises : (db : Database) → IsValid db → Rises kind.key (records db)
  pub below : (db : Database) → IsValid db → AllByRecursion (λ x. kind.key x < db.next) (records db)
  pub limits : (db : Database) → IsValid db → list_all kind.form.fits (records db) ≡ true
  -- an edit of one of them changes their list alone, whatever the counter counts
  pub after : (action : Action) (x : X) (db : Database) → records (edited action (any x) db) ≡ list_after action kind.key x (records db)
  pub holds : (action : Action) (x : X) (old new : Slots) (db : Database) → Holds old db → LeavesOthers kind old new → listed kind new ≡ list_after action kind.key x (records db)
      → Holds new (edited action (any x) db)
  pub weights : (action : Action) (x : X) (db : Database)
      → weight (edited action (any x) db) + cells_of_list kind (records db) ≡ weight db + cells_of_list kind (list_after action kind.key x (records db))
  pub counts : (action : Action) (x : X) (next : ℕ) (db : Database) → edited action (any x) (record db { next = next }) ≡ record (edited action (any x) db) { next = next }
