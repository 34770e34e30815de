use Rattle.std.proofs.Common.{rules, ◌+◌, [], ◌∷◌, length, length-append, sym, ◌∙◌, ap, arith}
use Rattle.query.specs.Resolving as resolving
use Rattle.query.proofs.InTurn.{found-one, found-none, found-all}
use Rattle.query.proofs.resolving.resolve_pairs.Goals as goal

pub returns-in_err-resolve_pair-clause-fault : goal.returns-in_err-resolve_pair-clause-fault
returns-in_err-resolve_pair-clause-fault c =
    search (
      rules,
      found-none _ c.loop-pair.invariant.found c.loop-pair-test.true
          (ap (λ item. resolving.equality item c.loop-pair.objects) (sym c.pair-item.is) ∙ c.in_err-resolve_pair.ensures.fault),
    )

pub loop-pair-preserved : goal.loop-pair-preserved
loop-pair-preserved c = record {
  found = rw c.push.ensures (found-one _ c.loop-pair.invariant.found c.loop-pair-test.true
      (ap (λ item. resolving.equality item c.loop-pair.objects) (sym c.pair-item.is) ∙ c.in_ok-resolve_pair.ensures.equality));
  count = ap length c.push.ensures ∙ (length-append c.loop-pair.found (c.in_ok-resolve_pair.field-0 ∷ []) ∙ ap (λ n. n + 1) c.loop-pair.invariant.count);
}

pub returns-clause-equalities : goal.returns-clause-equalities
returns-clause-equalities c = found-all c.loop-pair.invariant.found (omega (arith, c.loop-pair-test.false))
