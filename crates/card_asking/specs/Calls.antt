-- What calls leave of a link.
use Rattle.std.specs.Prelude.{◌≡◌, ℕ, ◌∷◌, Bool, IsTrue, Result, OnOk, OnErr}
use Rattle.eeprom.specs.Chip.{Chip}
use Rattle.scql_base.specs.Words.{memory_failure}
use Rattle.scql_model.specs.Machine.{Machine}
use Rattle.scql_model.specs.Replies.{Reply, said}
use Rattle.scql_model.specs.Step.{Answer}
use Rattle.card_link.specs.Link.{Answered, IsOneOf, LeavesOpen, Mutes}
use Rattle.card_asking.specs.declared.mute.Mute.{Mute}

-- a card answers still, and its count is as before
pub record StillAnswers {L : Type 0} (is_live : L → Bool) (faults : L → ℕ) (old new : L) : Type 0 where
  pub live : IsTrue (is_live new)
  pub same : faults new ≡ faults old

-- calls left the mark and the rest of a link's object, and lead from one to the other
pub record HasGoneOn {L : Type 0} (mark : L → ℕ) (keeps goes_on : L → L → Type 0) (old new : L) : Type 0 where
  pub marked : mark new ≡ mark old
  pub kept : keeps old new
  pub goes : goes_on old new

-- A card that was at a machine was asked for something, to which this is the answer there.
pub record AsksOver {L A : Type 0} (is_at : L → Machine → Type 0) (mark : L → ℕ) (chip : L → Chip) (m : Machine) (answer : Answer) (result : Result A Mute) (reply : Reply) (old new : L) : Type 0 where
  -- It answered so, unless it is mute.
  pub answered : OnOk result (Answered is_at answer reply new)
  -- A power loss leaves the database as it was, or one that the answer commits.
  pub moments : LeavesOpen (IsOneOf (mark old) (m.committed ∷ answer.commits)) (chip old) (chip new)

-- What is left of a link whose card was asked, whatever is told of it.
pub record AskingLeaves {L A : Type 0} (is_live : L → Bool) (faults mark : L → ℕ) (keeps goes_on : L → L → Type 0) (result : Result A Mute) (reply : Reply) (old new : L) : Type 0 where
  -- The card answers still;
  pub replied : OnOk result (StillAnswers is_live faults old new)
  -- or it failed and answers no more, and then the last reply is 6581.
  pub mute : OnErr result (Mutes is_live faults old new × (reply ≡ said memory_failure))
  pub rest : HasGoneOn mark keeps goes_on old new
