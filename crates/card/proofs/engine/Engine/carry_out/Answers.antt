-- A command reads, or what was found for the one that read last is let go behind it.
use Rattle.std.proofs.Common.{rules, ◌≡◌, ℕ, List, Result, Ok, Err, sym, ◌∙◌, ap, subst}
use Rattle.std.specs.Prelude.{OnOk}
use Rattle.eeprom.specs.Chip.{Chip}
use Rattle.eeprom.specs.declared.EepromFault.{EepromFault}
use Rattle.scql_base.specs.declared.words.StatusWord.{StatusWord}
use Rattle.scql_base.specs.declared.operation.Command.{Command}
use Rattle.scql_base.specs.declared.operation.Operation.TheVariants.{Verify}
use Rattle.scql_model.proofs.FewCommits.{one-answered}
use Rattle.scql_model.specs.Machine.{Machine}
use Rattle.scql_model.specs.Step.{answered, carried_out}
use Rattle.card.specs.Answering.{LeavesFirstOfTwo}
use Rattle.card.specs.Card.{IsReady, Kept}
use Rattle.card.specs.declared.found.Found.{Found}
use Rattle.card.proofs.Sides.{IsReady-none}
use Rattle.card.proofs.engine.Engine.carry_out.Goals as goal

-- VERIFY alone commits a second database.
not_twice : (m : Machine) (c : Command) (result : Result StatusWord EepromFault) (old new : Chip) → ((secret : List ℕ) → c.operation ≡ Verify secret → ⊥) → OnOk result (LeavesFirstOfTwo (answered m (carried_out m c)) old new)
not_twice m c (Ok word) old new other = λ first second rest twice. absurd (one-answered m c first second rest other twice)
not_twice m c (Err fault) old new other = tt

pub returns-then-is_reading-clause-lowered : goal.returns-then-is_reading-clause-lowered
returns-then-is_reading-clause-lowered g c = λ m at. not_twice m c.args.command.now c.read.result _ _ (λ secret is. let reads = sym c.is_reading.ensures ∙ c.if-is_reading.true in let wrong = rw is at reads in absurd cc)

-- What was found is let go.

pub returns-then-not-changes_rows-clause-carries : goal.returns-then-not-changes_rows-clause-carries
returns-then-not-changes_rows-clause-carries g c = record {
  performs = search rules;
  ready = (let new = g.B.Eeprom.chip c.carry_out_otherwise.new.bench in
      subst (λ (kept : Kept). IsReady (record kept { found = c.forget.new.self }) new) (sym c.self.view_is)
      (IsReady-none c.carry_out_otherwise.new.self c.forget.new.self new (ap (λ (f : Found). f.last) c.forget.ensures) c.in_ok-word.ensures.carries.ready));
  cause = search rules;
  cells = search rules;
  behind = search rules;
}
