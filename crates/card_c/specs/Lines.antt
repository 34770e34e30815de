-- How a line of a terminal ends over a card that keeps its text.
use Rattle.std.specs.Prelude.{◌≡◌, ℕ, false}
use Rattle.scql_model.specs.Lines.{Effect}
use Rattle.scql_model.specs.Machine.{Machine}
use Rattle.card_link.specs.Link.{LeavesOpen}
use Rattle.planner.specs.StatementLines.{TerminalState}
use Rattle.terminal.specs.declared.line_end.LineEnd.{LineEnd}
use Rattle.terminal.specs.declared.line_end.LineEnd.TheVariants as ends
use Rattle.terminal.specs.Holding.{Holding}
use Rattle.terminal.specs.Line.{IsAnswered, IsCutShort, IsMoment}
use Rattle.card_c.specs.OnLog.{IsDeskAt, OnLog, desk_chip, given_by, mark_of}
use Rattle.card_c.specs.declared.status.TheConstants.{DONE, NO_MEMORY}

-- It was answered, refused or not; the card is mute; or memory for the text was wanting, and all that the line commits is committed.
abbrev pub EndsLine : Machine → Effect TerminalState → Holding → LineEnd → OnLog → OnLog → Type 0
EndsLine m does holding ends.Answered old new = IsAnswered IsDeskAt given_by does holding old new
EndsLine m does holding (ends.Refused why) old new = IsAnswered IsDeskAt given_by does holding old new
EndsLine m does holding ends.Mute old new = new.card.live ≡ false
EndsLine m does holding ends.SinkFault old new = IsCutShort IsDeskAt given_by m does holding old new

-- A line that does this over a card at a machine ended so, and a power loss leaves a moment of it.
pub record SaysLine (m : Machine) (does : Effect TerminalState) (holding : Holding) (end : LineEnd) (old new : OnLog) : Type 0 where
  pub ends : EndsLine m does holding end old new
  pub moments : LeavesOpen (IsMoment (mark_of old) m.committed does.commits) (desk_chip old) (desk_chip new)

-- how a call ends that carried out a line
abbrev pub status_in : LineEnd → ℕ
status_in ends.Answered = DONE
status_in (ends.Refused why) = DONE
status_in ends.Mute = NO_MEMORY
status_in ends.SinkFault = NO_MEMORY
