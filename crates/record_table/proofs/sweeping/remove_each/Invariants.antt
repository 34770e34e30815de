use Rattle.std.proofs.Common.{◌≡◌, ◌≤◌, None, Some, get_or}
use Rattle.std.specs.Prelude.{IfSome}
use Rattle.record_store.specs.Held.{IsOver}
use Rattle.record_store.specs.Transaction.{ChangesWhere}
use Rattle.record_store.specs.declared.side.Side.TheVariants.{Committed, Working}
use Rattle.record_table.specs.Listed.{slots_of}
use Rattle.record_table.proofs.Scan.{AreEmptyFrom}
use Rattle.record_table.specs.Swept.{has_passing, without_passing}
use Rattle.record_table.proofs.SweptSlots.{HasEntries, changed_front}
use Rattle.record_table.proofs.sweeping.remove_each.Given as goal

abbrev pub invariant-loop-slot : goal.invariant-loop-slot
invariant-loop-slot g l = record {
  same : g.B.Eeprom.chip l.bench ≡ g.B.Eeprom.chip l.fn.bench;
  faults : g.B.Eeprom.faults l.bench ≡ g.B.Eeprom.faults l.fn.bench;
  bound : l.slot-end ≤ l.fn.store.chains.cells;
  empty : IfSome (slots_of l.fn.store Working (g.B.Eeprom.chip l.fn.bench)) (AreEmptyFrom l.slot-end);
  begun : l.store.begun ≡ l.fn.store.begun;
  cells : l.store.chains.cells ≡ l.fn.store.chains.cells;
  rows : l.store.row_limit ≡ l.fn.store.row_limit;
  over : IsOver l.store (g.B.Eeprom.chip l.bench);
  swept : IfSome (slots_of l.fn.store Working (g.B.Eeprom.chip l.fn.bench))
      (λ slots. slots_of l.store Working (g.B.Eeprom.chip l.fn.bench) ≡ Some (changed_front (without_passing g.R.Record.kind (g.W.Wanted.wants l.wanted)) l.slot slots));
  committed : slots_of l.store Committed (g.B.Eeprom.chip l.fn.bench) ≡ slots_of l.fn.store Committed (g.B.Eeprom.chip l.fn.bench);
  only : IfSome (slots_of l.fn.store Working (g.B.Eeprom.chip l.fn.bench)) (λ slots. ChangesWhere (λ slot. has_passing g.R.Record.kind (g.W.Wanted.wants l.wanted) (get_or slots slot None)) l.fn.store l.store);
  entries : IfSome (slots_of l.fn.store Working (g.B.Eeprom.chip l.fn.bench)) (HasEntries g.R.Record.kind (g.W.Wanted.wants l.wanted) l.fn.store l.store l.slot);
}
