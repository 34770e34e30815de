-- The row that is cut isn't too long, so it takes each value.
use Rattle.std.proofs.Common.{sym, ◌∙◌, arith}
use Rattle.scql_model.specs.Matching as matching
use Rattle.plain_database.proofs.CutRows.{cut-fits}
use Rattle.plain_database.proofs.matching.cut_to.Goals as goal

pub prove-unreachable-requires : goal.prove-unreachable-requires
prove-unreachable-requires c =
    cut-fits (matching.value_of c.args.columns.now c.args.row.now) c.as_slice-wanted.result.now c.loop-name.name-index c.name-item.result c.push.result (omega arith) c.name-item.is
    (rw c.as_slice-wanted.ensures.names c.as_slice-wanted.ensures.list.count) (rw c.as_slice-wanted.ensures.names c.requires) (rw c.value_of.ensures.value at c.value_of.ensures.short) (sym c.is_ok-fits.ensures.value ∙ c.if-prove.true)
    (rw (c.loop-name.invariant, c.value_of.ensures.value) at c.push.ensures.err)
