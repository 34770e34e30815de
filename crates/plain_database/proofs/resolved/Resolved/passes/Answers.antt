use Rattle.std.proofs.Common.{List, Bor, sym, ◌∙◌}
use Rattle.std.proofs.lemmas.List.Folds.{list_all-map}
use Rattle.scql_base.specs.declared.condition.Condition.{Condition}
use Rattle.scql_model.specs.Matching.{matches}
use Rattle.plain_database.proofs.resolved.Resolved.passes.Goals as goal

pub returns : goal.returns
returns c =
    let each = list_all-map (λ (conditions : List Condition). matches c.self.inside.all.now conditions c.args.row.now) (λ (f : Bor (List Condition)). f.now) c.self.inside.filters.items in
    rw (← c.self.view_is) ((rw c.as_slice.ensures.value at c.passes_each.ensures) ∙ sym each)
