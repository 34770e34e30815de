use Rattle.std.proofs.Common.{[], get_or, refl, ◌∙◌, ap}
use Rattle.scql_model.specs.Matching.{compares}
use Rattle.search_cond.proofs.Binding.{value_there}
use Rattle.search_cond.proofs.bound.holds_at.Goals as goal

pub returns : goal.returns
returns c =
    let p = c.args.condition.now in
    let values = c.args.row.now in
    let value = ap (λ v. v.now) c.unwrap_or-value.ensures ∙ value_there c.get.result _ values p.place c.get.ensures.value refl in
    c.compares.ensures ∙ ap (λ v. compares p.comparison v c.as_slice.result.now) value ∙ ap (λ v. compares p.comparison (get_or values p.place []) v) c.as_slice.ensures.octets
