-- The row of the cursor's stamp, if the cursor reaches it.
use Rattle.std.proofs.Common.{◌≡◌, None, Some, sym, ◌∙◌}
use Rattle.std.specs.Prelude.{IfSome}
use Rattle.std.specs.List.{find}
use Rattle.eeprom.specs.Slots.{has}
use Rattle.record_store.specs.declared.side.Side.TheVariants.{Working}
use Rattle.catalog_codec.specs.Catalog.{row_kind}
use Rattle.record_table.specs.Listed.{listed, slots_of}
use Rattle.db_write.proofs.RowReached.{finds-none, finds-some, indexed-no-row, indexed-row, said-held}
use Rattle.db_write.proofs.reaching.find_row.Goals.{After-is_row_reached}
use Rattle.db_write.proofs.reaching.find_row.Goals as goal

-- the row that was read is that of the stamp
stands : (g : _) (c : After-is_row_reached g) → IfSome (slots_of c.args.tables.now.store Working (g.B.Eeprom.chip c.args.bench.now)) (λ slots. Some c.row_in.new.room.row ≡ find (has row_kind.key c.in-Some.stamp) (listed row_kind slots))
stands g c =
    let table = c.in_ok-find_table.ensures in
    let chip = g.B.Eeprom.chip c.args.bench.now in
    indexed-row c.args.tables.now.index c.args.tables.now.store chip _ c.in-Some.stamp c.in-Some-find.slot c.find.result (Some c.row_in.new.room.row) (c.find.ensures.value chip c.requires.stand.over c.requires.stand.index)
    c.requires.stand.index c.in-Some-find.is (rw (table.reads.goes_on.store, table.reads.goes_on.side, table.reads.frame.same, c.if-not-branch-2.false) at c.in_ok-row_in.ensures.row)

pub returns-in_default-find-clause-finds : goal.returns-in_default-find-clause-finds
returns-in_default-find-clause-finds g c = λ db held.
    let chip = g.B.Eeprom.chip c.args.bench.now in
    finds-none _ c.in-Some.stamp _ held (c.in_ok-find_table.ensures.found db held (c.requires.chosen db held)) c.if-not-branch.false (sym c.stamp_at.ensures ∙ c.in-Some.is)
    (said-held c.args.tables.now.store chip db c.in-Some.stamp held)
    (indexed-no-row c.args.tables.now.store chip db _ c.in-Some.stamp c.find.result held (c.find.ensures.value chip c.requires.stand.over c.requires.stand.index) c.in_default-find.is c.find_table.new.choice.resolved.filters.items c.find_table.new.choice.conditions)

pub returns-then-not-branch-2-clause-finds : goal.returns-then-not-branch-2-clause-finds
returns-then-not-branch-2-clause-finds g c = λ db held.
    let table = c.in_ok-find_table.ensures in
    let chip = g.B.Eeprom.chip c.args.bench.now in
    finds-none _ c.in-Some.stamp None held (table.found db held (c.requires.chosen db held)) c.if-not-branch.false (sym c.stamp_at.ensures ∙ c.in-Some.is)
    (indexed-row c.args.tables.now.index c.args.tables.now.store chip _ c.in-Some.stamp c.in-Some-find.slot c.find.result None (c.find.ensures.value chip c.requires.stand.over c.requires.stand.index) c.requires.stand.index
    c.in-Some-find.is (rw (table.reads.goes_on.store, table.reads.goes_on.side, table.reads.frame.same, c.if-not-branch-2.true) at c.in_ok-row_in.ensures.row)) tt

pub returns-then-not-is_row_reached-clause-finds : goal.returns-then-not-is_row_reached-clause-finds
returns-then-not-is_row_reached-clause-finds g c = λ db held.
    finds-none _ c.in-Some.stamp (Some c.row_in.new.room.row) held (c.in_ok-find_table.ensures.found db held (c.requires.chosen db held)) c.if-not-branch.false (sym c.stamp_at.ensures ∙ c.in-Some.is)
    (stands g (goal.at.returns-then-not-is_row_reached-clause-finds g c).After-is_row_reached) (sym c.is_row_reached.ensures ∙ c.if-not-is_row_reached.true)

pub returns-clause-finds : goal.returns-clause-finds
returns-clause-finds g c = λ db held.
    finds-some c.row_in.new.room.row c.in-Some.stamp c.in-Some-find.slot held (c.in_ok-find_table.ensures.found db held (c.requires.chosen db held)) c.if-not-branch.false (sym c.stamp_at.ensures ∙ c.in-Some.is)
    (stands g (goal.at.returns-clause-finds g c).After-is_row_reached) (sym c.is_row_reached.ensures ∙ c.if-not-is_row_reached.false)
