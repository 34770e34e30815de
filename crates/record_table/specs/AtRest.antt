-- A store outside of a transaction: the database that it holds, and another one that is committed in its place.
use Rattle.std.specs.Prelude.{◌≡◌, ℕ, false, List, [], ◌∷◌, Some, Result, Err, IfSome, IsErrOf, OnOk, drop}
use Rattle.eeprom.specs.Chip.{Chip, Becomes, Keeps, Leaves, MayBeLeftSince, RisesAtMost}
use Rattle.eeprom.specs.Fault.{CountsFaults}
use Rattle.eeprom.specs.StoreOf.{image_size}
use Rattle.record_store.specs.Held.{Held, IsOver}
use Rattle.record_store.specs.declared.side.Side.TheVariants.{Committed}
use Rattle.scql_base.specs.declared.words.StatusWord.{StatusWord}
use Rattle.scql_model.specs.Database.{Database, IsValid}
use Rattle.scql_model.specs.Edits.{applied, changing, lacks_room, octets_for}
use Rattle.scql_model.specs.Opens.{Opens, OpensToOneOf}
use Rattle.scql_model.specs.Records.{AnyRecord}
use Rattle.catalog_codec.specs.Kinds.{Kind}
use Rattle.record_table.specs.Changed.{IsChanged}
use Rattle.record_table.specs.Listed.{at_slot, slots_of}
use Rattle.record_table.specs.Making.{GoesOn, IsHeld, is_stop_fault}
use Rattle.record_table.specs.declared.stop.Stop.{Stop}
use Rattle.record_table.specs.declared.stop.Stop.TheVariants.{Refused, Fault}

-- a store is in no transaction, over its EEPROM
pub record IsIdleOver (store : Held) (chip : Chip) : Type 0 where
  pub idle : store.begun ≡ false
  pub over : IsOver store chip

-- what is committed is the database
abbrev pub IsAtRest : Held → Chip → Database → Type 0
IsAtRest store chip db = IsHeld store Committed chip db

-- at each moment a power loss leaves an image that opens to one of these databases, and nothing was given meanwhile
abbrev pub LeavesOneOf : List Database → Chip → Chip → Type 0
LeavesOneOf dbs old new = Leaves (OpensToOneOf dbs) old new

-- From old on to new there was a moment at which a power loss may leave an image that opens to this database, as far as moments are told.
pub record LeavesOnce (db : Database) (old new : Chip) : Type 0 where
  pub left : List ℕ
  pub opens : Opens left db
  pub moment : MayBeLeftSince new old.clock old.still.mark left

-- there was one with the first of these databases
abbrev pub LeavesFirst : List Database → Chip → Chip → Type 0
LeavesFirst [] old new = ⊥
LeavesFirst (db ∷ dbs) old new = LeavesOnce db old new

-- A database is committed in the place of another, or a device failed; it is never refused. A power loss leaves the one or the other, and at most so
-- many octets are written.
pub record Replaces {T : Type 0} (db next : Database) (most : ℕ) (result : Result T Stop) (store : Held) (old new : Chip) : Type 0 where
  pub rests : OnOk result (IsAtRest store new next)
  pub unrefused : (word : StatusWord) → result ≡ Err (Refused word) → ⊥
  pub moments : LeavesOneOf (db ∷ next ∷ []) old new
  pub octets : OnOk result (Becomes (RisesAtMost most) old.written new.written)

-- How it ends that a record of a kind is committed in a transaction of its own, in the slot of the one of its stamp; `any` says of which kind it is.
pub record CommitsInPlace {X S T : Type 0} (chip : S → Chip) (faults : S → ℕ) (kind : Kind X) (any : X → AnyRecord) (x : X) (slot : ℕ) (before after : S) (old new : Held) (result : Result T Stop) : Type 0 where
  -- The database with it takes the place of the one without, where that is valid and there is room;
  pub replaces : (db : Database) (was : X) → IsAtRest old (chip before) db → IfSome (slots_of old Committed (chip before)) (λ slots. Some was ≡ at_slot kind slot slots)
      → kind.key was ≡ kind.key x → lacks_room db (changing (any x) ∷ []) ≡ false → IsValid (applied db (changing (any x) ∷ []))
      → Replaces db (applied db (changing (any x) ∷ [])) (octets_for (changing (any x) ∷ [])) result new (chip before) (chip after)
  -- and in any case the slot has the record then, or where that is refused each slot has what it had.
  pub changed : OnOk result (Becomes (IsChanged kind x slot) (slots_of old Committed (chip before)) (slots_of new Committed (chip after)))
  pub refused : (word : StatusWord) → IsErrOf result (Refused word) → slots_of new Committed (chip after) ≡ slots_of old Committed (chip before)
  -- The store goes on, and nothing is written behind its image. A fault of the EEPROM was counted.
  pub goes_on : ¬ IsErrOf result Fault → GoesOn old new (chip before) (chip after)
  pub behind : Keeps (drop (image_size old.chains.cells)) (chip before) (chip after)
  pub cause : CountsFaults is_stop_fault (faults before) (faults after) result
