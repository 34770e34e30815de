-- A desk that prints: what went out, and what becomes of its card.
use Rattle.std.specs.Prelude.{◌≡◌, ℕ, ◌≤◌, Bool, List, Option, Result, OnOk, OnErr}
use Rattle.eeprom.specs.Chip.{Chip}
use Rattle.eeprom.specs.Fault.{Rose}
use Rattle.eeprom.specs.Output.{Prints}
use Rattle.scql_model.specs.Machine.{Machine}
use Rattle.card_link.specs.Link.{AfterOutput}
use Rattle.terminal.specs.Failing.{IsStart}

-- output leads from one state of a desk to another
pub record Leads {L : Type 0} (is_at : L → Machine → Type 0) (is_live : L → Bool) (faults mark : L → ℕ) (chip : L → Chip) (goes_on : L → L → Type 0) (old new : L) : Type 0 where
  pub gives : AfterOutput is_at is_live faults mark chip old new
  pub goes : goes_on old new

-- a text was printed
pub record Says {L : Type 0} (given : L → Option (List ℕ)) (sink_faults : L → ℕ) (leads : L → L → Type 0) (text : List ℕ) (old new : L) : Type 0 where
  pub printed : Prints text (given old) (given new)
  pub same : sink_faults new ≡ sink_faults old
  pub led : leads old new

-- the outlet failed in a text, of which a start was printed
pub record Cuts {L : Type 0} (given : L → Option (List ℕ)) (sink_faults : L → ℕ) (leads : L → L → Type 0) (text : List ℕ) (old new : L) : Type 0 where
  pub start : IsStart text (given old) (given new)
  pub rose : Rose (sink_faults old) (sink_faults new)
  pub later : sink_faults old ≤ sink_faults new
  pub led : leads old new

-- How the printing of a text ended on a desk.
pub record EndsSaying {L E : Type 0} (is_at : L → Machine → Type 0) (is_live : L → Bool) (faults mark : L → ℕ) (chip : L → Chip) (goes_on : L → L → Type 0) (given : L → Option (List ℕ)) (sink_faults : L → ℕ) (text : List ℕ) (result : Result (Unit {0}) E) (old new : L) : Type 0 where
  -- It was printed;
  pub says : OnOk result (Says given sink_faults (Leads is_at is_live faults mark chip goes_on) text old new)
  -- or the outlet failed in it, and a start of it was printed.
  pub cuts : OnErr result (Cuts given sink_faults (Leads is_at is_live faults mark chip goes_on) text old new)
