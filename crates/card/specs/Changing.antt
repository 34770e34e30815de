-- A change of the database of a card: of which operations, for whom, and what it comes to.
use Rattle.std.specs.Prelude.{◌≡◌, ◌⊎◌, ◌==◌, ℕ, Bool, true, false, List, [], ◌∷◌, Option, Result, Ok, Err, IfOk, drop, OnErr, OnOk, option_map, if◌then◌else◌}
use Rattle.eeprom.specs.Chip.{Chip, Becomes, Keeps, RisesAtMost}
use Rattle.eeprom.specs.Fault.{Counts}
use Rattle.eeprom.specs.StoreOf.{image_size}
use Rattle.eeprom.specs.declared.EepromFault.{EepromFault}
use Rattle.record_store.specs.Held.{Held}
use Rattle.record_store.specs.declared.side.Side.{Side}
use Rattle.record_store.specs.declared.side.Side.TheVariants.{Working}
use Rattle.scql_base.specs.declared.operation.Operation.{Operation}
use Rattle.scql_base.specs.declared.operation.Operation.TheVariants as asks
use Rattle.scql_base.specs.declared.operation.OperationKind.{OperationKind}
use Rattle.scql_base.specs.declared.operation.OperationKind.TheVariants.{Insert, Update, Delete}
use Rattle.scql_base.specs.declared.records.User.{User}
use Rattle.scql_base.specs.declared.words.Actor.{Actor}
use Rattle.scql_base.specs.declared.words.StatusWord.{StatusWord}
use Rattle.scql_base.specs.Words.{done}
use Rattle.scql_model.specs.Bound.{or_nothing}
use Rattle.scql_model.specs.Creating.{IsActorOf}
use Rattle.scql_model.specs.Database.{Database, user_named}
use Rattle.scql_model.specs.Edits.{Edit, octets_for, with_edits}
use Rattle.scql_model.specs.Refusals.{◌>>=◌}
use Rattle.scql_model.specs.WellFormed.{FitsCard, HasForm}
use Rattle.record_table.specs.Making.{IsHeld, Makes}
use Rattle.record_table.specs.AtRest.{IsAtRest, LeavesOneOf}
use Rattle.row_table.specs.Tables.{InTransaction, Stand}
use Rattle.row_table.specs.declared.tables.Tables.{Tables}

-- the operations that change the row at a cursor
abbrev pub goes_through_cursor : OperationKind → Bool
goes_through_cursor Update = true
goes_through_cursor Delete = true
goes_through_cursor kind = false

-- those that change rows, and leave users, objects and grants as they are
abbrev pub changes_rows : OperationKind → Bool
changes_rows Insert = true
changes_rows Update = true
changes_rows Delete = true
changes_rows kind = false

-- what an operation may ask of a database that it changes
pub record MayChange (db : Database) (actor : Actor) (operation : Operation) : Type 0 where
  -- it acts for PUBLIC, or for a user with the user's profile
  pub acts : IsActorOf db actor
  pub form : HasForm operation
  pub fits : FitsCard db.limit operation

-- An operation may be made on the working side of tables over an EEPROM.
pub record MayBeMade (tables : Tables) (chip : Chip) (operation : Operation) : Type 0 where
  -- The tables stand, in a transaction that is open.
  pub «open» : InTransaction tables chip
  -- The operation fits the card.
  pub fits : FitsCard tables.store.row_limit operation

-- Tables over an EEPROM once a change has ended.
pub record StandAfter {S : Type 0} (chip : S → Chip) (faults : S → ℕ) (before after : S) (old new : Tables) (result : Result StatusWord EepromFault) : Type 0 where
  -- They stand,
  pub stand : OnOk result (Stand new (chip after))
  -- what lies behind the image is as it was, at each moment,
  pub behind : Keeps (drop (image_size old.store.chains.cells)) (chip before) (chip after)
  -- and where they don't, a fault of the EEPROM was counted.
  pub cause : Counts (faults before) (faults after) result

-- the new database of a change with these edits, or the first refusal that applies
abbrev pub new_of : Database → Result (List Edit) StatusWord → Result Database StatusWord
new_of db edited = edited >>= with_edits db

-- so many octets are written for it at most
abbrev pub octets_of : Database → Result (List Edit) StatusWord → ℕ
octets_of db edited = or_nothing (edited >>= λ edits. with_edits db edits >>= λ (new : Database). Ok (octets_for edits))

-- what is committed: the new database, or nothing
abbrev pub commits_of : Result Database StatusWord → List Database
commits_of (Ok new) = new ∷ []
commits_of (Err word) = []

-- the new database is held, and the answer is done; or it is the refusal's word, and the database is held as before
abbrev pub Concludes : Database → Result Database StatusWord → StatusWord → Held → Chip → Type 0
Concludes db (Ok new) word store chip = (word ≡ done) × IsAtRest store chip new
Concludes db (Err refused) word store chip = (word ≡ refused) × IsAtRest store chip db

-- What a change does that has these edits, or is refused so: it is concluded, or a device failed. A power loss leaves the database as it was or the new one.
-- What commits nothing writes nothing, and what is answered has written at most so many octets.
pub record Changes (db : Database) (edited : Result (List Edit) StatusWord) (result : Result StatusWord EepromFault) (store : Held) (old new : Chip) : Type 0 where
  pub step : IfOk result (λ word. Concludes db (new_of db edited) word store new)
  pub moments : LeavesOneOf (db ∷ commits_of (new_of db edited)) old new
  pub unwritten : OnOk result (commits_of (new_of db edited) ≡ [] → new ≡ old)
  pub octets : OnOk result (Becomes (RisesAtMost (octets_of db edited)) old.written new.written)

-- Two databases have the same catalog: the same users, objects and grants.
pub record HaveSameCatalog (db next : Database) : Type 0 where
  pub users : next.users ≡ db.users
  pub objects : next.objects ≡ db.objects
  pub grants : next.grants ≡ db.grants

-- Whatever database a side of a store holds afterwards, it held one with the same catalog before.
abbrev pub KeepsCatalog : Side → Held → Held → Chip → Chip → Type 0
KeepsCatalog side old new before after = (next : Database) → IsHeld new side after next → (db : Database) × IsHeld old side before db × HaveSameCatalog db next

-- The working database is another one with these edits, and the answer is done; or it is the refusal's word, and nothing was done.
abbrev pub ConcludesWithin : Database → Result (List Edit) StatusWord → StatusWord → Held → Held → Chip → Chip → Type 0
ConcludesWithin db edited word before after old new =
    ((edits : List Edit) × (edited ≡ Ok edits) × (word ≡ done) × Makes db edits before after old new)
    ⊎ ((new_of db edited ≡ Err word) × (after ≡ before) × (new ≡ old))

-- the stamp that the user of a name has
abbrev pub stamp_named : Database → List ℕ → Option ℕ
stamp_named db name = option_map (λ (u : User). u.stamp) (user_named db.users name)

-- What is told of who goes: where DELETE USER is done, the stamp of the user; and where an operation is stopped, nothing.
pub record TellsGone {S : Type 0} (store : Held) (chip : Chip) (operation : Operation) (result : Result (Unit {0}) S) (before after : Option ℕ) : Type 0 where
  pub gone : (db : Database) (name : List ℕ) → IsHeld store Working chip db → operation ≡ asks.DeleteUser name → OnOk result (after ≡ stamp_named db name)
  pub none : OnErr result (after ≡ before)

-- whose stamp is told once DELETE USER of a name was answered with a word: the user's, if it is done
abbrev pub gone_after : Database → List ℕ → StatusWord → Option ℕ → Option ℕ
gone_after db name word before = if word.word == done.word then stamp_named db name else before
