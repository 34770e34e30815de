-- A slot stands behind those of lesser keys, if it stands there at all.
use Rattle.std.proofs.Common.{◌≡◌, ◌<◌, ℕ, List, Some, true, length, ap, sym, ◌∙◌, arith}
use Rattle.std.specs.Option.{option_map_or}
use Rattle.std.specs.List.{slice_get}
use Rattle.row_index.specs.SideRows.{SideRows}
use Rattle.row_index.proofs.SlotPlaces.{IsOneMore-taken, got-within, kept-among, taken-among, there}
use Rattle.row_index.proofs.side_rows.SideRows.take_out.Goals as goal

pub returns-then-not-stands_at-clause-taken : goal.returns-then-not-stands_at-clause-taken
returns-then-not-stands_at-clause-taken c = rw (← c.self.view_is) (λ order.
    let count = rw (c.as_slice.ensures.value, c.columns-columns.ensures.stamps, c.columns-columns.ensures.tables, ← c.self.view_is) at c.count_before-at.ensures.count order.rises in
    ap (λ (slots : List ℕ). record { tables = c.self.inside.tables.items; slots = slots })
    (sym (kept-among c.args.stamps.now c.self.inside.tables.items c.args.slot c.self.inside.slots.items c.count_before-at.result order.rises count (rw c.as_slice-2.ensures.value at (sym c.stands_at.ensures ∙ c.if-not-stands_at.true)))))

pub remove-requires : goal.remove-requires
remove-requires c =
    let got = there c.args.slot (slice_get c.self.inside.slots.items c.count_before-at.result) (rw c.as_slice-2.ensures.value at (sym c.stands_at.ensures ∙ c.if-not-stands_at.false)) in
    omega (arith, got-within c.self.inside.slots.items c.count_before-at.result c.args.slot got, c.self.inside.slots.ok.0)

pub returns-clause-one_less : goal.returns-clause-one_less
returns-clause-one_less c = rw (← c.self.view_is)
    (let got = there c.args.slot (slice_get c.self.inside.slots.items c.count_before-at.result) (rw c.as_slice-2.ensures.value at (sym c.stands_at.ensures ∙ c.if-not-stands_at.false)) in
    IsOneMore-taken c.self.inside.tables.items c.self.inside.slots.items c.count_before-at.result c.args.slot c.remove.new.self.items got c.remove.ensures.items)

pub returns-clause-taken : goal.returns-clause-taken
returns-clause-taken c = rw (← c.self.view_is) (λ order.
    let count = rw (c.as_slice.ensures.value, c.columns-columns.ensures.stamps, c.columns-columns.ensures.tables, ← c.self.view_is) at c.count_before-at.ensures.count order.rises in
    ap (λ (slots : List ℕ). record { tables = c.self.inside.tables.items; slots = slots })
    (c.remove.ensures.items ∙ taken-among c.args.stamps.now c.self.inside.tables.items c.args.slot c.self.inside.slots.items c.count_before-at.result order.rises count (rw c.as_slice-2.ensures.value at (sym c.stands_at.ensures ∙ c.if-not-stands_at.false))))
