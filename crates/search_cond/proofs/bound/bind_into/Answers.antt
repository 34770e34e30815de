use Rattle.std.proofs.Common.{◌+◌, ◌&&◌, Some, drop, sym, ◌∙◌, ap, arith}
use Rattle.scql_model.specs.Matching.{matches}
use Rattle.search_cond.specs.Bound.{first_unknown, is_met, passes}
use Rattle.search_cond.proofs.Binding.{drop-first, first_unknown-known, first_unknown-unknown, known-None, known-Some, meets-is_met, met_more}
use Rattle.search_cond.proofs.bound.bind_into.Goals as goal

pub returns-in_default-clause-unknown : goal.returns-in_default-clause-unknown
returns-in_default-clause-unknown c =
    let columns = c.args.columns.now in
    let items = c.as_slice-condition-items.result.now in
    let here = c.condition-item.result in
    let left = drop-first items c.loop-condition.condition-index here c.loop-condition-test.true c.condition-item.is in
    sym c.loop-condition.invariant.known ∙ ap (first_unknown columns) left
    ∙ first_unknown-unknown columns here _ (known-None columns here.column (sym c.place_of.ensures ∙ c.in_default.is)) ∙ ap Some (sym c.copy.ensures)

pub loop-condition-preserved : goal.loop-condition-preserved
loop-condition-preserved c =
    let columns = c.args.columns.now in
    let items = c.as_slice-condition-items.result.now in
    let here = c.condition-item.result in
    let left = drop-first items c.loop-condition.condition-index here c.loop-condition-test.true c.condition-item.is in
    let found = sym c.place_of.ensures ∙ c.in-Some.is in
    record {
      met = λ values. ap (λ held. passes values held && matches columns (drop (c.loop-condition.condition-index + 1) items) values) c.push.ensures.items
          ∙ met_more columns values c.loop-condition.bound-inside.held.items c.placed_at.result here _ (meets-is_met columns values here c.in-Some.place found ∙ ap (is_met values) (sym c.placed_at.ensures))
          ∙ ap (λ rest. passes values c.loop-condition.bound-inside.held.items && matches columns rest values) (sym left) ∙ c.loop-condition.invariant.met values;
      known = sym (ap (first_unknown columns) left ∙ first_unknown-known columns here _ (known-Some columns here.column c.in-Some.place found)) ∙ c.loop-condition.invariant.known;
      count = omega (arith, c.push.ensures.len, c.loop-condition.invariant.count);
      fits = c.loop-condition.invariant.fits;
    }
