-- What reading leaves of what is read.
use Rattle.std.specs.Prelude.{◌≡◌, ℕ, Bool, Option, Result}
use Rattle.std.proofs.Common.{Bor}
use Rattle.eeprom.specs.Frame.{Reads}
use Rattle.eeprom.specs.StoreOf.{Slots}
use Rattle.eeprom.specs.declared.device.Eeprom.{Ghosts}
use Rattle.record_store.specs.Held.{Held}
use Rattle.record_store.specs.declared.side.Side.{Side}
use Rattle.scql_model.specs.Database.{Database}
use Rattle.record_table.specs.Listed.{slots_of}
use Rattle.record_table.specs.Making.{IsHeld}
use Rattle.row_index.specs.declared.index.RowIndex.{RowIndex}
use Rattle.db_read.specs.declared.reader.Reader.{Reader}

-- a reader reads from this database, which its side of the store holds
abbrev pub ReadsFrom : {B : Type 0} {g : Ghosts B} → Reader B g → Database → Type 0
ReadsFrom {B} {g} reader db = IsHeld reader.store.now reader.side (g.chip reader.bench.now) db

-- the slots of its side, where told
abbrev pub slots_read : {B : Type 0} {g : Ghosts B} → Reader B g → Option Slots
slots_read {B} {g} reader = slots_of reader.store.now reader.side (g.chip reader.bench.now)

-- how many octets have been read so far, where told
abbrev pub read_so_far : {B : Type 0} {g : Ghosts B} → Reader B g → Option ℕ
read_so_far {B} {g} reader = g.octets_read reader.bench.now

-- the same side of the same store is read, by the same index, over the same EEPROM
pub record GoesOn {B : Type 0} {g : Ghosts B} (old new : Reader B g) : Type 0 where
  pub store : new.store ≡ old.store
  pub index : new.index ≡ old.index
  pub side : new.side ≡ old.side
  pub bench : new.bench.ghost_name ≡ old.bench.ghost_name

-- A call reads by a reader: the reader goes on, nothing is written, whatever is answered, and faults are counted.
pub record ReadsOn {B T E : Type 0} {g : Ghosts B} (is_fault : E → Bool) (old new : Reader B g) (result : Result T E) : Type 0 where
  pub goes_on : GoesOn old new
  pub frame : Reads is_fault g.chip g.faults old.bench.now new.bench.now result

-- what stays so, as a value
pub record Standing : Type 0 where
  pub store : Bor Held
  pub index : Bor RowIndex
  pub side : Side
  pub bench : ℕ

abbrev pub standing : {B : Type 0} {g : Ghosts B} → Reader B g → Standing
standing r = record { store = r.store; index = r.index; side = r.side; bench = r.bench.ghost_name }
