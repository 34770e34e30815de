-- How a run over lines ends, and what has failed then.
use Rattle.std.specs.Prelude.{◌≡◌, ℕ, ◌≤◌, Bool, true, false, List}
use Rattle.eeprom.specs.Chip.{Chip}
use Rattle.eeprom.specs.Fault.{Rose}
use Rattle.scql_model.specs.Lines.{Language}
use Rattle.line_input.specs.declared.input.InputEnd.{InputEnd}
use Rattle.line_run.specs.declared.line_stop.LineStop.{LineStop}
use Rattle.line_run.specs.Extent.{RunsInput}
use Rattle.program.specs.declared.status.Status.{Status}
use Rattle.program.specs.declared.status.Status.TheVariants.{Done, Refused, Eeprom, ReadFault, WriteFault}
use Rattle.program.specs.Numbers.{status_at}

-- the counts of faults of all devices
pub record AllFaults : Type 0 where
  pub eeprom : ℕ
  pub source : ℕ
  pub outlet : ℕ

-- How the counts of faults move where a run ends so: a device that failed counted it, and else they stay. Of several faults the last one tells: before the outlet the EEPROM may have failed.
abbrev pub EndsBy : Status → AllFaults → AllFaults → Type 0
EndsBy Eeprom old new = Rose old.eeprom new.eeprom × (new.source ≡ old.source) × (new.outlet ≡ old.outlet)
EndsBy ReadFault old new = Rose old.source new.source × (new.eeprom ≡ old.eeprom) × (new.outlet ≡ old.outlet)
EndsBy WriteFault old new = Rose old.outlet new.outlet × (new.source ≡ old.source) × (old.eeprom ≤ new.eeprom)
EndsBy status old new = new ≡ old

-- the ends of a run that read its input to its end
abbrev pub reads_all : Status → Bool
reads_all Done = true
reads_all Refused = true
reads_all status = false

-- A run over its input, of which this is left, ended so: its lines came to an end, in which one was refused or none.
pub record RunsTo {S X : Type 0} (chip : X → Chip) (eeprom : X → ℕ) (language : Language S) (state : S) (status : Status) (input left : List ℕ) (old new : X) : Type 0 where
  pub end : InputEnd LineStop
  pub refused : Bool
  pub ends : status ≡ status_at end refused
  pub runs : RunsInput chip eeprom language state end input left old new
