use Rattle.std.proofs.Common.{◌≡◌, ◌+◌, ◌≤◌, Some, take}
use Rattle.std.specs.Prelude.{IfSome}
use Rattle.eeprom.specs.Chip.{Chip}
use Rattle.record_store.specs.Held.{IsOver}
use Rattle.record_store.specs.Transaction.{ChangesWhere, entries}
use Rattle.record_store.specs.declared.side.Side.TheVariants.{Committed, Working}
use Rattle.record_table.specs.Listed.{slots_of}
use Rattle.row_table.proofs.RowsLeft.{is_numbered, without_slots}
use Rattle.row_table.proofs.tables.Tables.remove_rows.Given as goal

abbrev pub invariant-loop-slot : goal.invariant-loop-slot
invariant-loop-slot l = record {
  begun : l.store.begun ≡ l.fn.self.store.begun;
  cells : l.store.chains.cells ≡ l.fn.self.store.chains.cells;
  rows : l.store.row_limit ≡ l.fn.self.store.row_limit;
  over : (chip : Chip) → IsOver l.fn.self.store chip → IsOver l.store chip;
  emptied : (chip : Chip) → IsOver l.fn.self.store chip → IfSome (slots_of l.fn.self.store Working chip)
      (λ slots. slots_of l.store Working chip ≡ Some (without_slots (take l.slot-index l.slot-items) slots));
  committed : (chip : Chip) → IsOver l.fn.self.store chip → slots_of l.store Committed chip ≡ slots_of l.fn.self.store Committed chip;
  only : ChangesWhere (λ slot. is_numbered slot (take l.slot-index l.slot-items)) l.fn.self.store l.store;
  entries : entries l.store ≤ entries l.fn.self.store + l.slot-index;
}
