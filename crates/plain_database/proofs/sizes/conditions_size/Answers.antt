use Rattle.std.proofs.Common.{length, ap, sym, ◌∙◌, arith}
use Rattle.std.proofs.lemmas.List.{take_all}
use Rattle.plain_database.proofs.SpelledSizes.{conditions-size}
use Rattle.plain_database.proofs.sizes.conditions_size.Goals as goal

pub returns : goal.returns
returns c =
    let whole = take_all c.loop-condition.condition-index c.as_slice-conditions.result.now (omega arith) in
    let many = ap length c.as_slice-conditions.ensures.conditions in
    record {
      number = c.loop-condition.invariant.size ∙ (rw (whole, c.as_slice-conditions.ensures.conditions) (sym (conditions-size c.args.conditions.now)));
      few = omega (arith, c.loop-condition.invariant.short, c.loop-condition-test.false, c.as_slice-conditions.ensures.list.count, many);
    }
