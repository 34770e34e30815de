-- How a line ends of which nothing is printed.
use Rattle.std.specs.Prelude.{◌≡◌, ℕ, Bool, Option, Some, None, Result, Ok, Err}
use Rattle.scql_model.specs.Lines.{Effect}
use Rattle.scql_model.specs.Machine.{Machine}
use Rattle.script.specs.declared.fault.ScriptFault.{ScriptFault}
use Rattle.script.specs.declared.statement.Statement.{Statement}
use Rattle.planner.specs.declared.closing.Closing.{Closing}
use Rattle.planner.specs.Meaning.{meaning}
use Rattle.planner.specs.StatementLines.{TerminalState}
use Rattle.terminal.specs.declared.quiet_end.QuietEnd.{QuietEnd}
use Rattle.terminal.specs.declared.quiet_end.QuietEnd.TheVariants as ends
use Rattle.terminal.specs.Holding.{Holding, Sits}
use Rattle.card_link.specs.Link.{Mutes}

-- how a line closes that is a statement
abbrev pub closing_in : TerminalState → Result Statement ScriptFault → Option Closing
closing_in state (Err fault) = None
closing_in state (Ok statement) = Some (meaning state.machine state.channel statement).closing

-- How a line ends that does this and closes so, of which nothing is printed.
abbrev pub EndsQuietly : {L : Type 0} → (L → Machine → Type 0) → Effect TerminalState → Option Closing → Holding → QuietEnd → L → Type 0
EndsQuietly is_at does closes holding (ends.Closed closing) new = (closes ≡ Some closing) × Sits is_at does.next holding new
EndsQuietly is_at does closes holding ends.Faulty new = (closes ≡ None) × Sits is_at does.next holding new
EndsQuietly is_at does closes holding ends.Mute new = Unit {0}

-- the card answers as before, and its count stays
pub record IsHeard {L : Type 0} (is_live : L → Bool) (faults : L → ℕ) (old new : L) : Type 0 where
  pub live : is_live new ≡ is_live old
  pub faults_same : faults new ≡ faults old

-- Why it ends so: the card failed, or it didn't.
abbrev pub EndsQuietlyBy : {L : Type 0} → (L → Bool) → (L → ℕ) → QuietEnd → L → L → Type 0
EndsQuietlyBy is_live faults ends.Mute old new = Mutes is_live faults old new
EndsQuietlyBy is_live faults end' old new = IsHeard is_live faults old new
