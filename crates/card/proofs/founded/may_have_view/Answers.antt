-- A step down is a step less.
use Rattle.std.proofs.Common.{◌≡◌, ◌-◌, ap, arith, refl, suc, sym, ◌∙◌}
use Rattle.card.specs.KeptRecords.{objects_in}
use Rattle.card.proofs.Founding.{reaches, reaches-base, reaches-dictionary, reaches-none, reaches-table}
use Rattle.card.proofs.founded.may_have_view.Goals as goal

pub loop-step-init : goal.loop-step-init
loop-step-init c = record { reached = λ n count. (let four : n ≡ 4 = omega arith in ap (λ n. reaches n (objects_in c.args.records.now.items) c.args.stamp) (sym four)) }

pub loop-step-preserved : goal.loop-step-preserved
loop-step-preserved c = record {
  reached = λ n count. c.loop-step.invariant.reached (suc n) (omega arith) ∙ reaches-base n (objects_in c.args.records.now.items) c.loop-step.stamp c.in-Some.object _ _ (sym c.in-Some.ensures) c.in-View.is (λ depth. refl);
}

pub returns-in_default : goal.returns-in_default
returns-in_default c =
    let left = 3 - c.loop-step._step in
    sym (c.loop-step.invariant.reached (suc left) (omega (arith, c.loop-step-test.true)) ∙ reaches-none left (objects_in c.args.records.now.items) c.loop-step.stamp (sym c.in_default.ensures))

pub returns-in-Table : goal.returns-in-Table
returns-in-Table c =
    let left = 3 - c.loop-step._step in
    sym (c.loop-step.invariant.reached (suc left) (omega (arith, c.loop-step-test.true)) ∙ reaches-table left (objects_in c.args.records.now.items) c.loop-step.stamp c.in-Some.object _ (sym c.in-Some.ensures) c.in-Table.is)

pub returns-in-Dictionary : goal.returns-in-Dictionary
returns-in-Dictionary c =
    let left = 3 - c.loop-step._step in
    sym (c.loop-step.invariant.reached (suc left) (omega (arith, c.loop-step-test.true)) ∙ reaches-dictionary left (objects_in c.args.records.now.items) c.loop-step.stamp c.in-Some.object _ (sym c.in-Some.ensures) c.in-Dictionary.is (λ depth. refl))

pub returns : goal.returns
returns c = sym (c.loop-step.invariant.reached 0 (omega (arith, c.loop-step-test.false)))
