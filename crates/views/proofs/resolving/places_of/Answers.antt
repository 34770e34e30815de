-- A column that has no place isn't among all.
use Rattle.std.proofs.Common.{List, ℕ, sym, ap, ◌∙◌}
use Rattle.std.specs.List.{list_any}
use Rattle.std.specs.Str.{bytes_eq}
use Rattle.std.proofs.lemmas.Bool.{false≢true}
use Rattle.std.proofs.lemmas.List.Folds.{list_all_at}
use Rattle.scql_model.specs.Database.{are_among}
use Rattle.search_cond.proofs.Binding.{known-None}
use Rattle.views.proofs.resolving.places_of.Goals as goal

pub returns-in_err-place_of-clause-there : goal.returns-in_err-place_of-clause-there
returns-in_err-place_of-clause-there c = λ among.
    let all = c.args.all.now in
    let here = c.column-item.result in
    let none = known-None all here (sym c.place_of.ensures.place ∙ c.in_err-place_of.was) in
    let one = ap (λ (name : List ℕ). list_any (bytes_eq name) all) (sym c.column-item.is) ∙ none in
    let wrong = list_all_at (λ (name : List ℕ). list_any (bytes_eq name) all) c.as_slice-column-items.result.now c.loop-column.column-index here c.loop-column-test.true one in
    absurd (false≢true (sym wrong ∙ (ap (λ columns. are_among columns all) c.as_slice-column-items.ensures.names ∙ among)))
