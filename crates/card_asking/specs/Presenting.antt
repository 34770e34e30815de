-- A user is presented on a card, on channel 0.
use Rattle.std.specs.Prelude.{◌≡◌, ℕ, Bool, true, false, List, Result, Ok, Err}
use Rattle.scql_base.specs.declared.operation.Operation.TheVariants.{PresentUser}
use Rattle.scql_model.specs.Machine.{Machine}
use Rattle.scql_model.specs.Step.{Answer}
use Rattle.card_link.specs.Link.{Mutes}
use Rattle.script.specs.Commands.{asking}
use Rattle.planner.specs.Meaning.{answer_to}
use Rattle.planner.specs.Words.{is_done}
use Rattle.card_asking.specs.Calls.{StillAnswers}
use Rattle.card_asking.specs.Giving.{IsLike}
use Rattle.card_asking.specs.declared.presenting.Unpresented.{Unpresented}
use Rattle.card_asking.specs.declared.presenting.Unpresented.TheVariants.{Refused, Mute}

-- the answer to PRESENT USER on channel 0
abbrev pub presented : Machine → List ℕ → Answer
presented m user = answer_to m (asking 0 (PresentUser user))

-- the card is at the machine behind this answer, which has the committed database and the open transaction's channel that it had before
pub record IsBehind {L : Type 0} (is_at : L → Machine → Type 0) (m : Machine) (answer : Answer) (now : L) : Type 0 where
  pub at : is_at now answer.machine
  pub like : IsLike m answer.machine

-- a user is presented where the answer is 9000, and is refused by any other word
abbrev pub PresentsSo : {L : Type 0} → (L → Machine → Type 0) → Machine → Answer → Result (Unit {0}) Unpresented → L → Type 0
PresentsSo is_at m answer (Ok x) now = (is_done answer.reply.word ≡ true) × IsBehind is_at m answer now
PresentsSo is_at m answer (Err (Refused word)) now = (is_done answer.reply.word ≡ false) × (word ≡ answer.reply.word) × IsBehind is_at m answer now
PresentsSo is_at m answer (Err Mute) now = Unit {0}

-- the card is mute only where it failed
abbrev pub EndsPresenting : {L : Type 0} → (L → Bool) → (L → ℕ) → Result (Unit {0}) Unpresented → L → L → Type 0
EndsPresenting is_live faults (Err Mute) old new = Mutes is_live faults old new
EndsPresenting is_live faults r old new = StillAnswers is_live faults old new
