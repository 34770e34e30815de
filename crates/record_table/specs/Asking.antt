-- What is asked of the database that a side of a store holds.
use Rattle.std.specs.Prelude.{◌≡◌, ℕ, Bool, Option, Result, Err}
use Rattle.eeprom.specs.Frame.{Reads}
use Rattle.eeprom.specs.StoreOf.{Slots}
use Rattle.eeprom.specs.declared.device.Eeprom.{Ghosts}
use Rattle.record_store.specs.declared.side_reader.SideReader.{SideReader}
use Rattle.scql_base.specs.declared.words.StatusWord.{StatusWord}
use Rattle.scql_model.specs.Database.{Database}
use Rattle.record_table.specs.Listed.{slots_of}
use Rattle.record_table.specs.Making.{IsHeld}
use Rattle.record_table.specs.declared.stop.Stop.{Stop}
use Rattle.record_table.specs.declared.stop.Stop.TheVariants.{Refused, Fault}

-- a reader's side has these slots, and holds this database
abbrev pub slots_asked : {B : Type 0} {g : Ghosts B} → SideReader B g → Option Slots
slots_asked {B} {g} reader = slots_of reader.store.now reader.side (g.chip reader.bench.now)

abbrev pub Holds : {B : Type 0} {g : Ghosts B} → SideReader B g → Database → Type 0
Holds {B} {g} reader db = IsHeld reader.store.now reader.side (g.chip reader.bench.now) db

-- so many octets were read through it so far
abbrev pub octets_so_far : {B : Type 0} {g : Ghosts B} → SideReader B g → Option ℕ
octets_so_far {B} {g} reader = g.octets_read reader.bench.now

-- The same side of the same store is read further.
pub record SameSide {B : Type 0} {g : Ghosts B} (old new : SideReader B g) : Type 0 where
  pub store : new.store ≡ old.store
  pub side : new.side ≡ old.side
  pub bench : new.bench.ghost_name ≡ old.bench.ghost_name

-- a stop is the refusal of an outcome, or the EEPROM's fault
abbrev pub IsStopOf : {T : Type 0} → Result T StatusWord → Stop → Type 0
IsStopOf {T} outcome (Refused word) = outcome ≡ Err word
IsStopOf {T} outcome Fault = Unit {0}

-- A question was asked of the database that a reader's side holds.
pub record Asks {B T E : Type 0} {g : Ghosts B} (is_fault : E → Bool) (is_answer : Database → Result T E → Type 0) (old new : SideReader B g) (result : Result T E) : Type 0 where
  -- Whichever database that is, it is answered so.
  pub answers : (db : Database) → Holds old db → is_answer db result
  -- The same side of the same store is read further,
  pub goes_on : SameSide old new
  -- nothing is written, whatever is answered, and faults are counted.
  pub frame : Reads is_fault g.chip g.faults old.bench.now new.bench.now result
