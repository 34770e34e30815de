-- What there is of a line: its text, or as much of it as was printed where a device failed; the moments of it.
use Rattle.std.specs.Prelude.{◌≡◌, ◌⊎◌, ℕ, ◌<◌, Bool, List, [], ◌∷◌, ◌++◌, map, Option, Some, None, is_some, Result, Ok, Err}
use Rattle.std.specs.List.{concat}
use Rattle.eeprom.specs.Output.{Prints}
use Rattle.scql_model.specs.Database.{Database}
use Rattle.scql_model.specs.Lines.{Effect}
use Rattle.scql_model.specs.Machine.{Machine}
use Rattle.scql_model.specs.Matching.{Values}
use Rattle.card_link.specs.Link.{IsOneOf, Mutes}
use Rattle.script.specs.declared.fault.ScriptFault.{ScriptFault}
use Rattle.script.specs.declared.statement.Statement.{Statement}
use Rattle.planner.specs.declared.closing.Closing.{Closing}
use Rattle.planner.specs.declared.closing.Closing.TheVariants.{Refused}
use Rattle.planner.specs.Meaning.{meaning}
use Rattle.planner.specs.StatementLines.{TerminalState}
use Rattle.planner.specs.Text.{row_text}
use Rattle.terminal.specs.declared.line_end.LineEnd.{LineEnd}
use Rattle.terminal.specs.declared.line_end.LineEnd.TheVariants as ends
use Rattle.terminal.specs.declared.refusal.Refusal.{Refusal}
use Rattle.terminal.specs.declared.refusal.Refusal.TheVariants.{Word, Fault}
use Rattle.scql_model.specs.Lives.{after_all}
use Rattle.terminal.specs.Holding.{Holding, Knows, Sits}
use Rattle.terminal.specs.Failing.{Breaks, IsStart, Works}

-- why a statement was refused that closed so, if it was
abbrev pub refusal_of : Closing → Option Refusal
refusal_of (Refused word) = Some (Word word)
refusal_of closing = None

-- why a line is refused, if it is: its closing line is a refusal, or an error
abbrev pub refusal_in : TerminalState → Result Statement ScriptFault → Option Refusal
refusal_in state (Err fault) = Some (Fault fault)
refusal_in state (Ok statement) = refusal_of (meaning state.machine state.channel statement).closing

abbrev pub refuses : TerminalState → Result Statement ScriptFault → Bool
refuses state read = is_some (refusal_in state read)

-- the rows that a line's statement gives
abbrev pub rows_in : TerminalState → Result Statement ScriptFault → List Values
rows_in state (Err fault) = []
rows_in state (Ok statement) = (meaning state.machine state.channel statement).rows

-- the terminal is in the line's next state, and the line's text was printed
pub record IsAnswered {L : Type 0} (is_at : L → Machine → Type 0) (given : L → Option (List ℕ)) (does : Effect TerminalState) (holding : Holding) (old new : L) : Type 0 where
  pub sits : Sits is_at does.next holding new
  pub text : Prints does.text (given old) (given new)

-- a card that goes mute: some first rows were printed
pub record IsCutOff {L : Type 0} (given : L → Option (List ℕ)) (rows : List Values) (old new : L) : Type 0 where
  pub first : List Values
  pub rest : List Values
  pub split : rows ≡ first ++ rest
  pub printed : Prints (concat (map row_text first)) (given old) (given new)

-- an outlet that fails: it printed the start of the text, the card is where all of the line's commits were made, and the terminal knows which channel has the open transaction
pub record IsCutShort {L : Type 0} (is_at : L → Machine → Type 0) (given : L → Option (List ℕ)) (m : Machine) (does : Effect TerminalState) (holding : Holding) (old new : L) : Type 0 where
  pub said : List ℕ
  pub rest : List ℕ
  pub start : does.text ≡ said ++ rest
  pub printed : Prints said (given old) (given new)
  pub machine : Machine
  pub at : is_at new machine
  pub committed : machine.committed ≡ after_all m.committed does.commits
  pub knows : Knows holding.transaction machine

-- How a line ends that does this, gives these rows, and is refused for this reason or isn't.
abbrev pub EndsSo : {L : Type 0} → (L → Machine → Type 0) → (L → Option (List ℕ)) → Machine → Effect TerminalState → List Values → Option Refusal → Holding → LineEnd → L → L → Type 0
EndsSo is_at given m does rows refusal holding ends.Answered old new = IsAnswered is_at given does holding old new × (refusal ≡ None)
EndsSo is_at given m does rows refusal holding (ends.Refused why) old new = IsAnswered is_at given does holding old new × (refusal ≡ Some why)
EndsSo is_at given m does rows refusal holding ends.Mute old new = IsCutOff given rows old new
EndsSo is_at given m does rows refusal holding ends.SinkFault old new = IsCutShort is_at given m does holding old new

-- Why it ends so: no device failed, the card did, or the outlet.
abbrev pub EndsBy : {L : Type 0} → (L → Bool) → (L → ℕ) → (L → ℕ) → LineEnd → L → L → Type 0
EndsBy is_live faults sink_faults ends.Answered old new = Works is_live faults sink_faults old new
EndsBy is_live faults sink_faults (ends.Refused why) old new = Works is_live faults sink_faults old new
EndsBy is_live faults sink_faults ends.Mute old new = Mutes is_live faults old new × (sink_faults new ≡ sink_faults old)
EndsBy is_live faults sink_faults ends.SinkFault old new = Breaks faults sink_faults old new × (is_live new ≡ is_live old)

-- a closing text is printed, or its start is where the outlet fails
abbrev pub ClosesSo : {L : Type 0} → (L → Option (List ℕ)) → (L → Bool) → (L → ℕ) → (L → ℕ) → List ℕ → Option Refusal → LineEnd → L → L → Type 0
ClosesSo given is_live faults sink_faults text refusal ends.Answered old new = (refusal ≡ None) × Prints text (given old) (given new) × Works is_live faults sink_faults old new
ClosesSo given is_live faults sink_faults text refusal (ends.Refused why) old new = (refusal ≡ Some why) × Prints text (given old) (given new) × Works is_live faults sink_faults old new
ClosesSo given is_live faults sink_faults text refusal ends.Mute old new = ⊥
ClosesSo given is_live faults sink_faults text refusal ends.SinkFault old new = IsStart text (given old) (given new) × Breaks faults sink_faults old new × (is_live new ≡ is_live old)

-- A moment of a line: with the mark of its start the database is the one before it, or one that it commits; with a later mark it is the one after all commits.
abbrev pub IsMoment : ℕ → Database → List Database → ℕ → Database → Type 0
IsMoment mark db commits g left = IsOneOf mark (db ∷ commits) g left ⊎ ((mark < g) × (left ≡ after_all db commits))
