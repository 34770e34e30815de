use Rattle.std.proofs.Common.{sym, ◌∙◌}
use Rattle.std.specs.List.{list_any}
use Rattle.std.specs.Str.{bytes_eq}
use Rattle.std.proofs.lemmas.List.Folds.{list_all-map}
use Rattle.scql_base.specs.declared.condition.Condition.{Condition}
use Rattle.plain_database.proofs.columns.are_named_among.Goals as goal

pub returns-then-are_among : goal.returns-then-are_among
returns-then-are_among c =
    let each = list_all-map (λ name. list_any (bytes_eq name) c.args.all.now) (λ (x : Condition). x.column) c.args.conditions.now in
    rw (← c.if-are_among.ensures) (c.are_known.ensures ∙ sym each)
