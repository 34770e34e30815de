-- How a line ended: over one machine at which the card was, and what holds whatever is told of the card.
use Rattle.std.specs.Prelude.{◌≡◌, ℕ, ◌∷◌, Bool, List, Option}
use Rattle.eeprom.specs.Chip.{Chip}
use Rattle.scql_model.specs.Lines.{Effect}
use Rattle.scql_model.specs.Machine.{Machine}
use Rattle.scql_model.specs.Matching.{Values}
use Rattle.card_link.specs.Link.{IsOneOf, LeavesOpen}
use Rattle.planner.specs.declared.closing.Closing.{Closing}
use Rattle.planner.specs.StatementLines.{TerminalState}
use Rattle.terminal.specs.declared.line_end.LineEnd.{LineEnd}
use Rattle.terminal.specs.declared.quiet_end.QuietEnd.{QuietEnd}
use Rattle.terminal.specs.declared.refusal.Refusal.{Refusal}
use Rattle.terminal.specs.Holding.{Holding, Knows, terminal_at}
use Rattle.terminal.specs.Line.{EndsBy, EndsSo, IsMoment}
use Rattle.terminal.specs.Quiet.{EndsQuietly, EndsQuietlyBy}

-- A line ended so at a desk whose card was at a machine. The line does this there, gives these rows, and is refused for this reason or isn't.
pub record LineEnds {L : Type 0} (is_at : L → Machine → Type 0) (given : L → Option (List ℕ)) (mark : L → ℕ) (chip : L → Chip) (m : Machine) (does : Effect TerminalState) (rows : List Values) (refusal : Option Refusal) (holding : Holding) (result : LineEnd) (old new : L) : Type 0 where
  -- Its text was printed, and the terminal is in the line's next state; or a device failed, and as much of both as then is.
  pub ends : EndsSo is_at given m does rows refusal holding result old new
  -- A power loss leaves a moment of the line.
  pub moments : LeavesOpen (IsMoment (mark old) m.committed does.commits) (chip old) (chip new)

-- So it ended at any machine at which the card was, where the terminal knows which channel has the open transaction. What the line does there, the rows and the refusal follow from the terminal's state.
abbrev pub EndsLine : {L : Type 0} → (is_at : L → Machine → Type 0) (given : L → Option (List ℕ)) (mark : L → ℕ) (chip : L → Chip) (does : TerminalState → Effect TerminalState) (rows : TerminalState → List Values)
    (refusal : TerminalState → Option Refusal) (before holding : Holding) (result : LineEnd) (old new : L) → Type 0
EndsLine is_at given mark chip does rows refusal before holding result old new =
    (m : Machine) → is_at old m → Knows before.transaction m
    → LineEnds is_at given mark chip m (does (terminal_at m before.channel)) (rows (terminal_at m before.channel)) (refusal (terminal_at m before.channel)) holding result old new

-- What a line leaves of a desk that ended so.
pub record LineLeaves {L : Type 0} (is_live : L → Bool) (faults sink_faults : L → ℕ) (goes : L → L → Type 0) (result : LineEnd) (old new : L) : Type 0 where
  -- It ended so since that device failed, or none did.
  pub ends_by : EndsBy is_live faults sink_faults result old new
  -- The link goes on.
  pub goes_on : goes old new

-- A line of which nothing is printed ended so over a link whose card was at a machine. The line does this there, and closes so.
pub record QuietEnds {L : Type 0} (is_at : L → Machine → Type 0) (mark : L → ℕ) (chip : L → Chip) (m : Machine) (does : Effect TerminalState) (closes : Option Closing) (holding : Holding) (result : QuietEnd) (old new : L) : Type 0 where
  -- The terminal is in the line's next state, and the line's closing is told; or the card failed.
  pub ends : EndsQuietly is_at does closes holding result new
  -- A power loss leaves the database as it was, or one that the line commits.
  pub moments : LeavesOpen (IsOneOf (mark old) (m.committed ∷ does.commits)) (chip old) (chip new)

-- So it ended at any machine at which the card was, where the terminal knows which channel has the open transaction.
abbrev pub EndsQuietLine : {L : Type 0} → (is_at : L → Machine → Type 0) (mark : L → ℕ) (chip : L → Chip) (does : TerminalState → Effect TerminalState) (closes : TerminalState → Option Closing) (before holding : Holding) (result : QuietEnd)
    (old new : L) → Type 0
EndsQuietLine is_at mark chip does closes before holding result old new =
    (m : Machine) → is_at old m → Knows before.transaction m
    → QuietEnds is_at mark chip m (does (terminal_at m before.channel)) (closes (terminal_at m before.channel)) holding result old new

-- What a line of which nothing is printed leaves of a link that ended so.
pub record QuietLeaves {L : Type 0} (is_live : L → Bool) (faults marked : L → ℕ) (stays goes : L → L → Type 0) (result : QuietEnd) (old new : L) : Type 0 where
  -- It ended so since the card failed, or it didn't.
  pub ends_by : EndsQuietlyBy is_live faults result old new
  -- Nothing was printed, so the link keeps what its calls keep, and its mark.
  pub keeps : stays old new
  pub mark : marked new ≡ marked old
  -- The link goes on.
  pub goes_on : goes old new
