-- The table is the model's.
use Rattle.std.proofs.Common.{List, ap, ◌∙◌}
use Rattle.scql_base.specs.declared.operation.Line.{Line}
use Rattle.scql_model.specs.Operations.{has_instruction}
use Rattle.apdu.proofs.table.has_instruction.Goals as goal

pub returns : goal.returns
returns c = c.is_among.ensures ∙ ap (λ (lines : List Line). has_instruction lines c.args.ins) c.operations.ensures
