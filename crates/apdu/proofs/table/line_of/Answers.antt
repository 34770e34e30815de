-- The table is the model's.
use Rattle.std.proofs.Common.{◌≡◌, ap, List, Some, slice_get, sym, ◌∙◌}
use Rattle.scql_base.specs.declared.operation.Line.{Line}
use Rattle.scql_model.specs.Operations.{line_of, operations}
use Rattle.apdu.proofs.TableLines.{line_of-place}
use Rattle.apdu.proofs.table.line_of.Goals as goal

pub returns-in-Some : goal.returns-in-Some
returns-in-Some c =
    let at : slice_get operations c.from.result ≡ Some c.in-Some.line =
    ap (λ (lines : List Line). slice_get lines c.from.result) (sym c.operations-lines.ensures) ∙ (sym c.line_at.ensures ∙ c.in-Some.is) in
    sym (line_of-place c.from.result c.args.ins c.args.p1 c.args.p2 c.in-Some.line at (sym c.is_for.ensures ∙ c.if-is_for.true))

pub returns-in_default : goal.returns-in_default
returns-in_default c =
    c.find_line.ensures
    ∙ ap (λ (lines : List Line). line_of lines c.args.ins c.args.p1 c.args.p2) c.operations-lines.ensures
