-- A run that copies a table.
use Rattle.std.specs.Prelude.{◌≡◌, ℕ, Bool, List, Option}
use Rattle.eeprom.specs.Fault.{Rose}
use Rattle.eeprom.specs.Output.{Prints}
use Rattle.scql_model.specs.Machine.{Machine}
use Rattle.terminal.specs.Failing.{IsStart}
use Rattle.planner.specs.StatementLines.{TerminalState}
use Rattle.reader_rack.specs.declared.reader.Reader.{Reader}
use Rattle.reader_rack.specs.RackText.{RackState, sits}
use Rattle.reader_rack.specs.Racks.{IsRack}
use Rattle.table_copy.specs.Progress.{ShowsCopy}
use Rattle.table_copy.specs.declared.copy_end.CopyEnd.{CopyEnd}
use Rattle.copy_run.specs.Copies.{copy_for, copy_text, status_of}
use Rattle.copy_run.specs.Racks.{EndsAt, IsCopied}
use Rattle.copy_run.specs.declared.copy_status.CopyStatus.{CopyStatus}
use Rattle.copy_run.specs.declared.copy_status.CopyStatus.TheVariants as ends
use Rattle.copy_run.specs.declared.names.CopyNames.{CopyNames}

-- The line of how a copy ended was given, and it is reported so; or the outlet failed, and a start of the line was given.
abbrev pub Says : CopyEnd → CopyStatus → Option (List ℕ) → Option (List ℕ) → ℕ → ℕ → Type 0
Says end ends.Usage given now sink sink' = ⊥
Says end ends.WriteFault given now sink sink' = IsStart (copy_text end) given now × Rose sink sink'
Says end status given now sink sink' = (status ≡ status_of end) × Prints (copy_text end) given now × (sink' ≡ sink)

-- A copy between readers 1 and 2 by these names ended so. Where the cards' machines are told it is the copy between them, and the rack is one behind it; and a card is mute only where its reader's count rose.
pub record IsRun {L P : Type 0} (is_at : L → Machine → Type 0) (is_live : L → Bool) (faults : L → ℕ) (lost : P → Bool) (shown : P → Option (List ℕ)) (names : CopyNames) (old new : List (Reader L)) (current : ℕ) (person after : P) (end : CopyEnd) : Type 0 where
  pub told : (state : RackState) (s d : TerminalState) → IsRack is_at is_live old current state → state.reader 1 ≡ sits s → state.reader 2 ≡ sits d
      → IsCopied is_at is_live new current state 1 2 s d (copy_for s.machine d.machine names) end
  pub causes : EndsAt is_live faults 1 2 end old new
  pub shows : ShowsCopy lost shown end person after
