-- The columns are among all, and so are those of the conditions.
use Rattle.std.proofs.Common.{sym, ◌∙◌}
use Rattle.db_define.proofs.ViewMade.{among-all}
use Rattle.db_define.proofs.view.has_columns.Goals as goal

pub returns-then-has_each : goal.returns-then-has_each
returns-then-has_each c = among-all c.args.all.now c.args.columns.now c.args.conditions.now c.has_conditions.result (sym c.has_each.ensures ∙ c.if-has_each.true) c.has_conditions.ensures
