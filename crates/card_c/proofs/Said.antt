-- What a terminal says of a line, as the call that carries it out says it.
use Rattle.std.proofs.Common.{List, Option}
use Rattle.planner.specs.StatementLines.{TerminalState}
use Rattle.scql_model.specs.Lines.{Effect}
use Rattle.scql_model.specs.Machine.{Machine}
use Rattle.scql_model.specs.Matching.{Values}
use Rattle.terminal.specs.declared.line_end.LineEnd.{LineEnd}
use Rattle.terminal.specs.declared.line_end.LineEnd.TheVariants as ends
use Rattle.terminal.specs.declared.refusal.Refusal.{Refusal}
use Rattle.terminal.specs.Holding.{Holding}
use Rattle.terminal.specs.Ending.{LineEnds}
use Rattle.terminal.specs.Line.{EndsBy, EndsSo}
use Rattle.card_c.specs.Lines.{EndsLine, SaysLine}
use Rattle.card_c.specs.OnLog.{IsDeskAt, OnLog, desk_chip, faults_of, given_by, is_live, mark_of, text_faults_of}

ends-line : (m : Machine) (does : Effect TerminalState) (rows : List Values) (refusal : Option Refusal) (holding : Holding) (end : LineEnd) (old new : OnLog)
    → EndsSo IsDeskAt given_by m does rows refusal holding end old new → EndsBy is_live faults_of text_faults_of end old new → EndsLine m does holding end old new
ends-line m does rows refusal holding ends.Answered old new so by = so.0
ends-line m does rows refusal holding (ends.Refused why) old new so by = so.0
ends-line m does rows refusal holding ends.Mute old new so by = by.0.gone
ends-line m does rows refusal holding ends.SinkFault old new so by = so

pub says-line : (m : Machine) (does : Effect TerminalState) (rows : List Values) (refusal : Option Refusal) (holding : Holding) (end : LineEnd) (old new : OnLog)
    → LineEnds IsDeskAt given_by mark_of desk_chip m does rows refusal holding end old new → EndsBy is_live faults_of text_faults_of end old new → SaysLine m does holding end old new
says-line m does rows refusal holding end old new so by = record { ends = ends-line m does rows refusal holding end old new so.ends by; moments = so.moments }
