-- A condition's column is a column as its name is.
use Rattle.std.proofs.Common.{◌&&◌, Bool, List, ℕ, map, sym, ap, ◌∙◌}
use Rattle.std.specs.List.{list_any}
use Rattle.std.specs.Str.{bytes_eq}
use Rattle.std.proofs.lemmas.List.Folds.{list_all-map}
use Rattle.scql_base.specs.declared.condition.Condition.{Condition}
use Rattle.scql_model.specs.Database.{are_among}
use Rattle.db_read.proofs.declaring.are_named.Goals as goal

pub returns-then-are_columns : goal.returns-then-are_columns
returns-then-are_columns c =
    let all = c.args.all.now in
    let conditions = c.args.conditions.now in
    c.are_of_columns.ensures ∙ (sym (list_all-map (λ (name : List ℕ). list_any (bytes_eq name) all) (λ (x : Condition). x.column) conditions)
    ∙ ap (λ (b : Bool). b && are_among (map (λ (x : Condition). x.column) conditions) all) (sym c.if-are_columns.true ∙ c.are_columns.ensures))
