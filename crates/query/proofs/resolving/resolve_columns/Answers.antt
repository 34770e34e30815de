use Rattle.std.proofs.Common.{rules, ◌+◌, [], ◌∷◌, length, length-append, sym, ◌∙◌, ap, arith}
use Rattle.query.specs.Resolving as resolving
use Rattle.query.proofs.InTurn.{found-one, found-none, found-all}
use Rattle.query.proofs.resolving.resolve_columns.Goals as goal

pub returns-in_err-resolve_column-clause-fault : goal.returns-in_err-resolve_column-clause-fault
returns-in_err-resolve_column-clause-fault c =
    search (
      rules,
      found-none _ c.loop-column.invariant.found c.loop-column-test.true
          (ap (λ item. resolving.column item c.loop-column.objects) (sym c.column-item.is) ∙ c.in_err-resolve_column.ensures.fault),
    )

pub loop-column-preserved : goal.loop-column-preserved
loop-column-preserved c = record {
  found = rw c.push.ensures (found-one _ c.loop-column.invariant.found c.loop-column-test.true
      (ap (λ item. resolving.column item c.loop-column.objects) (sym c.column-item.is) ∙ c.in_ok-resolve_column.ensures.column));
  count = ap length c.push.ensures ∙ (length-append c.loop-column.found (c.in_ok-resolve_column.field-0 ∷ []) ∙ ap (λ n. n + 1) c.loop-column.invariant.count);
}

pub returns-clause-columns : goal.returns-clause-columns
returns-clause-columns c = found-all c.loop-column.invariant.found (omega (arith, c.loop-column-test.false))
