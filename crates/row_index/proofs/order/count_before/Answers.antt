-- Where a slot stands, those of lesser keys stand before it.
use Rattle.std.proofs.Common.{sym, ◌∙◌}
use Rattle.row_index.proofs.SlotPlaces.{standing-before}
use Rattle.row_index.proofs.order.count_before.Goals as goal

pub returns-then-stands_at : goal.returns-then-stands_at
returns-then-stands_at c = record {
  count = λ rises.
      standing-before c.args.columns.now.stamps.now c.args.columns.now.tables.now c.args.slot c.args.slots.now c.args.near rises (sym c.stands_at.ensures ∙ c.if-stands_at.true);
}
