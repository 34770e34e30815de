use Rattle.std.proofs.Common.{◌≡◌, ℕ, true, length, drop}
use Rattle.cell_store.specs.Chains.{is_among}
use Rattle.cell_store.specs.Marks.{is_marked}
use Rattle.record_store.proofs.touched.unmark.Given as goal

abbrev pub invariant-loop-slot : goal.invariant-loop-slot
invariant-loop-slot l = record {
  left : (slot : ℕ) → is_marked l.marks.items slot ≡ true → is_among slot (drop l.slot-index l.slots) ≡ true;
  count : length l.marks.items ≡ length l.fn.marks.items;
}
