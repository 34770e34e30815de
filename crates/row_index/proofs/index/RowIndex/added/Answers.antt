-- The row is put where it stands in order, since the slot is one of the store and there is room for it.
use Rattle.std.proofs.Common.{◌≡◌, ◌<◌, ℕ, List, Option, Some, None, true, is_some, ap, sym, subst, ◌∙◌}
use Rattle.std.specs.Prelude.{IfSome}
use Rattle.record_store.specs.declared.side.Side.TheVariants.{Working}
use Rattle.record_table.specs.Listed.{slots_of}
use Rattle.row_index.proofs.ChangedPlaces.{HasRows-added, room-added}
use Rattle.row_index.proofs.Stamped.{IfSome-both, stamps-told}
use Rattle.row_index.proofs.index.RowIndex.added.Goals as goal

pub returns-in-Some-clause-added : goal.returns-in-Some-clause-added
returns-in-Some-clause-added c = rw (← c.self.view_is) (λ chip before over has_rows.
    IfSome-both (slots_of c.args.store.now Working chip) _ _ (λ after are more.
    let room = room-added c.self.inside.committed.cells c.args.table c.args.slot c.self.inside.working.rows before after has_rows more in
    HasRows-added c.self.inside.committed.cells c.args.table c.args.slot c.self.inside.working.rows c.put.new.self.rows c.stamps-stamps.result.now before after has_rows more are
    (rw c.in-Some.is at c.put.ensures.fits) (λ order. (rw c.in-Some.is at c.put.ensures.placed) order room.2))
    (stamps-told c.args.store.now Working chip c.stamps-stamps.result.now over c.stamps-stamps.ensures))

pub returns-in_default-clause-added : goal.returns-in_default-clause-added
returns-in_default-clause-added c = rw (← c.self.view_is) (λ chip before over has_rows.
    IfSome-both (slots_of c.args.store.now Working chip) _ _ (λ after are more.
    let room = room-added c.self.inside.committed.cells c.args.table c.args.slot c.self.inside.working.rows before after has_rows more in
    let there : is_some c.put.result ≡ true = c.put.ensures.there (rw c.self.invariant.same_cells room.0) (rw c.self.invariant.same_cells room.1) in
    absurd (let none = ap is_some c.in_default.is in cc))
    (stamps-told c.args.store.now Working chip c.stamps-stamps.result.now over c.stamps-stamps.ensures))
