use Rattle.std.proofs.Common.{◌≡◌, ◌≤◌, ◌<◌, ◌-◌, None, Some}
use Rattle.std.specs.Prelude.{IfSome, option_map, filter}
use Rattle.eeprom.specs.Chip.{Becomes}
use Rattle.eeprom.specs.Slots.{nearest_from}
use Rattle.record_table.specs.Asking.{SameSide, slots_asked}
use Rattle.record_table.specs.Listed.{in_slots, at_slot}
use Rattle.record_table.specs.Reading.{NeverFalls}
use Rattle.record_table.proofs.Scan.{AreEmptyFrom, IsOfLeft, ReadsUpTo}
use Rattle.record_table.proofs.next.next_by.Given as goal

abbrev pub invariant-loop-slot : goal.invariant-loop-slot
invariant-loop-slot g l = record {
  goes_on : SameSide l.fn.reader l.reader;
  same : g.B.Eeprom.chip l.reader.bench.now ≡ g.B.Eeprom.chip l.fn.reader.bench.now;
  faults : g.B.Eeprom.faults l.reader.bench.now ≡ g.B.Eeprom.faults l.fn.reader.bench.now;
  bound : l.end ≤ l.fn.reader.store.now.chains.cells;
  empty : IfSome (slots_asked l.fn.reader) (AreEmptyFrom l.end);
  there : IfSome l.nearest (λ near. near.slot < l.fn.reader.store.now.chains.cells);
  at : IfSome l.nearest (λ near. IfSome (slots_asked l.fn.reader) (λ slots. Some near.value ≡ at_slot g.R.Record.kind near.slot slots));
  left : IfSome (slots_asked l.fn.reader)
      (IsOfLeft g.R.Record.kind (λ slots. nearest_from g.R.Record.kind.key l.stamp None (filter (g.W.Wanted.wants l.wanted) (in_slots g.R.Record.kind slots)))
      (λ rest. nearest_from g.R.Record.kind.key l.stamp (option_map (λ near. near.value) l.nearest) (filter (g.W.Wanted.wants l.wanted) rest)) l.slot);
  read : IfSome (slots_asked l.fn.reader)
      (λ slots. Becomes (ReadsUpTo g.R.Record.kind l.slot slots) (g.B.Eeprom.octets_read l.fn.reader.bench.now) (g.B.Eeprom.octets_read l.reader.bench.now));
  rises : NeverFalls (slots_asked l.fn.reader) (g.B.Eeprom.octets_read l.fn.reader.bench.now) (g.B.Eeprom.octets_read l.reader.bench.now);
}

abbrev pub decreases-loop-slot : goal.decreases-loop-slot
decreases-loop-slot g l = l.end - l.slot
