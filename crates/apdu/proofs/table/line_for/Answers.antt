-- The table is the model's.
use Rattle.std.proofs.Common.{ap, List, ◌∙◌}
use Rattle.scql_base.specs.declared.operation.Line.{Line}
use Rattle.scql_model.specs.Spelling.{line_for}
use Rattle.apdu.proofs.table.line_for.Goals as goal

pub returns : goal.returns
returns c = c.find_kind.ensures ∙ ap (λ (lines : List Line). line_for lines c.args.kind) c.operations.ensures
