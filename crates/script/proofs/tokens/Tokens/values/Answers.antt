use Rattle.std.proofs.Common.{option_map, sym, ap, arith}
use Rattle.script.specs.Parsed.{row_of}
use Rattle.script.proofs.ReadingRows.{row-begun, row-grown, row-fault, row-fails, row-ends, row-is_full, row-held}
use Rattle.script.proofs.tokens.Tokens.values.Goals as goal

pub returns-in_err-with_value-clause-row : goal.returns-in_err-with_value-clause-row
returns-in_err-with_value-clause-row c =
    rw c.from_residual.ensures (sym (ap (λ whole. option_map row_of whole.0) (row-fault _ c.args.self.now _ (sym c.in_err-with_value.ensures.rest) c.in_err-with_value.ensures.row)))

pub returns-in_err-with_value-clause-rest : goal.returns-in_err-with_value-clause-rest
returns-in_err-with_value-clause-rest c =
    sym (ap (λ whole. whole.1) (row-fault _ c.args.self.now _ (sym c.in_err-with_value.ensures.rest) c.in_err-with_value.ensures.row))

pub loop-count-init : goal.loop-count-init
loop-count-init c = record {
  reading = row-begun c.args.self.now _ _ (sym c.in_ok-with_value.ensures.rest) (rw c.requires at c.in_ok-with_value.ensures.row);
  few = omega arith;
}

pub returns-in_err-with_value-2-clause-row : goal.returns-in_err-with_value-2-clause-row
returns-in_err-with_value-2-clause-row c =
    rw c.from_residual-in_err-with_value-2.ensures (sym (ap (λ whole. option_map row_of whole.0) (row-fails _ _ c.loop-count.invariant.reading (omega (arith, c.loop-count-test.true))
    (sym c.if-takes.ensures.value) (sym (rw c.if-takes.ensures.rest at c.in_err-with_value-2.ensures.rest)) (rw c.if-takes.ensures.rest at c.in_err-with_value-2.ensures.row))))

pub returns-in_err-with_value-2-clause-rest : goal.returns-in_err-with_value-2-clause-rest
returns-in_err-with_value-2-clause-rest c =
    sym (ap (λ whole. whole.1) (row-fails _ _ c.loop-count.invariant.reading (omega (arith, c.loop-count-test.true))
    (sym c.if-takes.ensures.value) (sym (rw c.if-takes.ensures.rest at c.in_err-with_value-2.ensures.rest)) (rw c.if-takes.ensures.rest at c.in_err-with_value-2.ensures.row)))

pub loop-count-preserved : goal.loop-count-preserved
loop-count-preserved c = record {
  reading = row-grown _ _ c.loop-count.invariant.reading (omega (arith, c.loop-count-test.true))
      (sym c.if-takes.ensures.value) (sym (rw c.if-takes.ensures.rest at c.in_ok-with_value-2.ensures.rest)) (rw c.if-takes.ensures.rest at c.in_ok-with_value-2.ensures.row);
  few = omega (arith, c.loop-count-test.true);
}

pub returns-else-takes-clause-row : goal.returns-else-takes-clause-row
returns-else-takes-clause-row c =
    row-held c.loop-count.invariant.reading (row-ends c.loop-count.invariant.reading (sym c.if-takes.ensures.value))

pub returns-else-takes-clause-rest : goal.returns-else-takes-clause-rest
returns-else-takes-clause-rest c =
    rw c.if-takes.ensures.rest (sym (ap (λ whole. whole.1) (row-ends c.loop-count.invariant.reading (sym c.if-takes.ensures.value))))

pub returns-after-loop-count-clause-row : goal.returns-after-loop-count-clause-row
returns-after-loop-count-clause-row c =
    row-held c.loop-count.invariant.reading (row-is_full c.loop-count.invariant.reading (omega (arith, c.loop-count-test.false)))

pub returns-after-loop-count-clause-rest : goal.returns-after-loop-count-clause-rest
returns-after-loop-count-clause-rest c =
    sym (ap (λ whole. whole.1) (row-is_full c.loop-count.invariant.reading (omega (arith, c.loop-count-test.false))))
