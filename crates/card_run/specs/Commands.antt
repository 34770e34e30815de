-- How a line ends that was asked of a card over its bench.
use Rattle.std.specs.Prelude.{Result, OnOk, IfErr, IsErrOf}
use Rattle.eeprom.specs.Chip.{Chip}
use Rattle.scql_model.specs.Lines.{Effect, Language, LineContent, command_lines, content_effect}
use Rattle.scql_model.specs.Machine.{Machine}
use Rattle.card.specs.Card.{IsAt, IsReady, Kept}
use Rattle.line_run.specs.declared.line_stop.LineStop.{LineStop}
use Rattle.line_run.specs.declared.line_stop.LineStop.TheVariants.{NoMemory}
use Rattle.line_run.specs.Answering.{Answered, Failed}
use Rattle.line_run.specs.Causes.{Causes, Faults}
use Rattle.card_run.specs.Behind.{StaysBehind}

-- A line that does this from a state of its language on ended so.
pub record EndsLine {S T : Type 0} (language : Language S) (state : S) (does : Effect S) (is_at : S → Type 0) (old new : Chip) (result : Result T LineStop) : Type 0 where
  -- At each moment a power loss leaves what the line commits, all of it once an octet of its text has gone out,
  pub answered : OnOk result (Answered language state does is_at old new)
  -- also where the outlet alone fails; where the EEPROM does it leaves the database before the line or one that it commits.
  pub failed : IfErr result (λ stop. Failed stop language state does old new)

-- What a line leaves that ended so: where it was answered what answers lines is ready for another, each fault has its cause, no memory is taken, and the rest is as it is to be.
pub record LeavesLine {T : Type 0} (is_ready stays : Type 0) (before after : Faults) (result : Result T LineStop) : Type 0 where
  pub ready : OnOk result is_ready
  pub causes : Causes before after result
  pub memory : ¬ IsErrOf result NoMemory
  pub rest : stays

-- A line may be answered: the card is ready, and the line is one that is taken.
pub record MayAnswer (card : Kept) (chip : Chip) (taken : Type 0) : Type 0 where
  pub ready : IsReady card chip
  pub short : taken

-- A line on which this stands was answered by a card over its bench, which were and are so, with these counts of faults before and after.
pub record AnswersContent {T : Type 0} (content : LineContent) (was now : Kept) (old new : Chip) (before after : Faults) (result : Result T LineStop) : Type 0 where
  -- From a machine on it ended as what stands there does.
  pub ended : (m : Machine) → IsAt was old m → EndsLine command_lines m (content_effect m content) (λ next. IsAt now new next) old new result
  -- A card that answers is ready, and keeps its number of cells, and nothing is written behind its image.
  pub leaves : LeavesLine (IsReady now new) (StaysBehind was now old new) before after result
