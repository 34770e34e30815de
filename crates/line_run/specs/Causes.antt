-- Counts of faults, which tell why a run ended.
use Rattle.std.specs.Prelude.{◌≡◌, ℕ, ◌≤◌, Result, Err, OnOk, IsErrOf}
use Rattle.eeprom.specs.Fault.{Rose}
use Rattle.line_input.specs.declared.input.InputEnd.{InputEnd}
use Rattle.line_input.specs.declared.input.InputEnd.TheVariants.{Stopped}
use Rattle.line_run.specs.declared.line_stop.LineStop.{LineStop}
use Rattle.line_run.specs.declared.line_stop.LineStop.TheVariants.{Eeprom, Outlet, Both, NoMemory}

-- the counts of faults of an EEPROM and of an outlet
pub record Faults : Type 0 where
  pub eeprom : ℕ
  pub outlet : ℕ

-- Each stop has its cause: the count of a device that failed rises, and that of one that didn't stays. No count falls.
pub record Causes {T : Type 0} (old new : Faults) (result : Result T LineStop) : Type 0 where
  pub quiet : OnOk result (new ≡ old)
  pub eeprom : IsErrOf result Eeprom → Rose old.eeprom new.eeprom
  pub outlet_stays : IsErrOf result Eeprom → new.outlet ≡ old.outlet
  pub outlet : IsErrOf result Outlet → Rose old.outlet new.outlet
  pub eeprom_stays : IsErrOf result Outlet → new.eeprom ≡ old.eeprom
  pub both : IsErrOf result Both → Rose old.eeprom new.eeprom × Rose old.outlet new.outlet
  pub both_stay : IsErrOf result NoMemory → new ≡ old
  pub eeprom_later : old.eeprom ≤ new.eeprom
  pub outlet_later : old.outlet ≤ new.outlet

-- a responder stopped for this reason
abbrev pub CausesStop : LineStop → Faults → Faults → Type 0
CausesStop stop old new = Causes {T = Unit {0}} old new (Err stop)

-- So it is where a run ends because it was stopped; and at any other end no count rose.
abbrev pub CausesEnd : InputEnd LineStop → Faults → Faults → Type 0
CausesEnd (Stopped stop) old new = CausesStop stop old new
CausesEnd end old new = new ≡ old
