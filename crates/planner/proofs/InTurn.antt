-- What holds of the step of each part of a command, and goes over from there to the answer to a command that goes on, holds of its answer.
use Rattle.std.proofs.Common.{◌≡◌, ℕ, zero, suc, ◌+◌, Bool, true, false, ◌++◌, length, if◌then◌else◌, refl, arith}
use Rattle.scql_base.specs.declared.operation.Command.{Command}
use Rattle.scql_model.specs.Machine.{Machine}
use Rattle.scql_model.specs.Spelling.{field_of, part_count, part_octets}
use Rattle.scql_model.specs.Step.{Answer, step}
use Rattle.scql_model.proofs.PartsAgain.{parts_some}
use Rattle.planner.specs.Meaning.{answer_to, followed_by, in_turn, parts_from, all_in_turn}
use Rattle.planner.specs.Words.{is_done}

abbrev pub joined : Answer → Answer → Answer
joined first next = record next { commits = first.commits ++ next.commits }

module _ (Holds : Machine → Answer → Type 0) (c : Command) (of_part : (m : Machine) (place : ℕ) → Holds m (step m (part_octets c place)))
    (of_both : (m : Machine) (place : ℕ) (next : Answer) → Holds (step m (part_octets c place)).machine next → Holds m (joined (step m (part_octets c place)) next)) where
  followed : (m : Machine) (place : ℕ) (next : Answer) → Holds (step m (part_octets c place)).machine next → Holds m (followed_by (step m (part_octets c place)) next)
  followed m place next holds = go (is_done (step m (part_octets c place)).reply.word)
    where
      go : (goes_on : Bool) → Holds m (if goes_on then joined (step m (part_octets c place)) next else step m (part_octets c place))
      go true = of_both m place next holds
      go false = of_part m place

  turns-hold : (n place next : ℕ) (m : Machine) → Holds m (in_turn m (part_octets c place) (parts_from next n c))
  turns-hold zero place next m = of_part m place
  turns-hold (suc n) place next m =
      let first : Answer = step m (part_octets c place) in
      followed m place (in_turn first.machine (part_octets c next) (parts_from (next + 1) n c)) (turns-hold n next (next + 1) first.machine)

  pub answer-holds : (m : Machine) → Holds m (answer_to m c)
  unfolding answer_to
  answer-holds m = go (part_count c) refl
    where
      go : (count : ℕ) → part_count c ≡ count → Holds m (all_in_turn m (parts_from 0 count c))
      go zero is = absurd (omega (arith, is, parts_some (length (field_of c.operation))))
      go (suc n) is = turns-hold n 0 (0 + 1) m
