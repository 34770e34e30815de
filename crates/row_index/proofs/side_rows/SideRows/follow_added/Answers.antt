-- The slot is one of the store, since the other side has it; and there is room for it.
use Rattle.std.proofs.Common.{◌≡◌, ◌<◌, ℕ, List, ap, arith, subst, sym, ◌∙◌}
use Rattle.std.specs.List.{AllByRecursion, insert}
use Rattle.row_index.proofs.SlotPlaces.{all-inserted}
use Rattle.row_index.proofs.side_rows.SideRows.follow_added.Goals as goal

pub index-requires : goal.index-requires
index-requires c =
    let slots : c.other.inside.slots.items ≡ insert c.args.self.now.rows.slots c.args.at c.args.slot = rw (← c.other.view_is) at c.requires.one_more.slots in
    let there = all-inserted (λ slot. slot < c.other.inside.cells) c.args.self.now.rows.slots c.args.at c.args.slot (subst (AllByRecursion (λ slot. slot < c.other.inside.cells)) slots c.other.invariant.within) in
    omega (arith, there, c.from.ensures, c.other.invariant.each, c.other.inside.tables.ok.0)

pub index_mut-requires : goal.index_mut-requires
index_mut-requires c =
    let slots : c.other.inside.slots.items ≡ insert c.args.self.now.rows.slots c.args.at c.args.slot = rw (← c.other.view_is) at c.requires.one_more.slots in
    let cells = rw (← c.other.view_is, ← c.self.view_is) at c.requires.cells in
    let there = all-inserted (λ slot. slot < c.other.inside.cells) c.args.self.now.rows.slots c.args.at c.args.slot (subst (AllByRecursion (λ slot. slot < c.other.inside.cells)) slots c.other.invariant.within) in
    omega (arith, there, cells, c.from-2.ensures, c.self.invariant.each, c.self.inside.tables.ok.0)
