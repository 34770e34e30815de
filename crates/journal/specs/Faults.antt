-- Which refusals are faults of the EEPROM.
use Rattle.std.specs.Prelude.{Bool, true, false}
use Rattle.journal.specs.declared.refusal.ReplayRefusal.{ReplayRefusal}
use Rattle.journal.specs.declared.refusal.ReplayRefusal.TheVariants.{BadJournal, Fault}

abbrev pub is_replay_fault : ReplayRefusal → Bool
is_replay_fault BadJournal = false
is_replay_fault Fault = true
