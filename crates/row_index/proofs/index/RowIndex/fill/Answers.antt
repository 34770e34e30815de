-- Where the stamps of the store's records are told, the rows are those of its slots.
use Rattle.std.proofs.Common.{subst, sym, ◌∙◌}
use Rattle.record_store.specs.declared.side.Side.TheVariants.{Committed}
use Rattle.record_table.specs.Listed.{slots_of}
use Rattle.row_index.proofs.Stamped.{IfSome-both, stamps-told}
use Rattle.row_index.proofs.index.RowIndex.fill.Goals as goal

pub returns-clause-filled : goal.returns-clause-filled
returns-clause-filled c = rw (← c.self.view_is) (λ chip over.
    IfSome-both (slots_of c.args.store.now Committed chip) _ _ (λ slots are places. rw c.fill.ensures.cells (c.fill.ensures.filled slots places are)) (stamps-told c.args.store.now Committed chip c.stamps.result.now over c.stamps.ensures))
