-- The row is found where it stands in order.
use Rattle.std.proofs.Common.{ap, sym, ◌∙◌}
use Rattle.record_store.specs.declared.side.Side.TheVariants.{Working}
use Rattle.row_index.specs.Ordered.{Ordered}
use Rattle.row_index.proofs.Stamped.{where-indexed}
use Rattle.row_index.proofs.index.RowIndex.removed.Goals as goal

pub returns-in-Some-clause-removed : goal.returns-in-Some-clause-removed
returns-in-Some-clause-removed c = rw (← c.self.view_is)
    (where-indexed _ c.args.store.now Working c.stamps-stamps.result.now _ c.stamps-stamps.ensures (λ slots here order. c.take_out.ensures.taken order))

pub returns-in_default-clause-removed : goal.returns-in_default-clause-removed
returns-in_default-clause-removed c = rw (← c.self.view_is)
    (where-indexed _ c.args.store.now Working c.stamps-stamps.result.now _ c.stamps-stamps.ensures (λ slots here order. c.take_out.ensures.taken order))
