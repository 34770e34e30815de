use Rattle.std.proofs.Common.{◌≡◌, ◌≤◌, ◌-◌}
use Rattle.std.specs.Prelude.{IfSome}
use Rattle.std.specs.List.{find}
use Rattle.eeprom.specs.Chip.{Becomes}
use Rattle.record_table.specs.Asking.{SameSide, slots_asked}
use Rattle.record_table.specs.Listed.{in_slots}
use Rattle.record_table.specs.Reading.{NeverFalls}
use Rattle.record_table.specs.Tagged.{tagged_cells}
use Rattle.record_table.proofs.Scan.{AreEmptyFrom, IsOfLeft}
use Rattle.record_table.proofs.SlotCosts.{ReadsUpTo}
use Rattle.record_table.proofs.TaggedSearches.{IsTaggedAt}
use Rattle.record_table.proofs.finding.find_into.Given as goal

abbrev pub invariant-loop-slot : goal.invariant-loop-slot
invariant-loop-slot g l = record {
  goes_on : SameSide l.fn.reader l.reader;
  same : g.B.Eeprom.chip l.reader.bench.now ≡ g.B.Eeprom.chip l.fn.reader.bench.now;
  faults : g.B.Eeprom.faults l.reader.bench.now ≡ g.B.Eeprom.faults l.fn.reader.bench.now;
  bound : l.end ≤ l.fn.reader.store.now.chains.cells;
  empty : IfSome (slots_asked l.fn.reader) (AreEmptyFrom l.end);
  left : IfSome (slots_asked l.fn.reader)
      (IsOfLeft g.R.Record.kind (λ slots. find (g.W.Wanted.wants l.wanted) (in_slots g.R.Record.kind slots)) (find (g.W.Wanted.wants l.wanted)) l.slot);
  read : IfSome (slots_asked l.fn.reader)
      (λ slots. Becomes (ReadsUpTo (tagged_cells g.R.Record.kind l.tag) l.slot slots) (g.B.Eeprom.octets_read l.fn.reader.bench.now) (g.B.Eeprom.octets_read l.reader.bench.now));
  here : IfSome (slots_asked l.fn.reader) (IsTaggedAt g.R.Record.kind l.tag l.slot);
  rises : NeverFalls (slots_asked l.fn.reader) (g.B.Eeprom.octets_read l.fn.reader.bench.now) (g.B.Eeprom.octets_read l.reader.bench.now);
}

abbrev pub decreases-loop-slot : goal.decreases-loop-slot
decreases-loop-slot g l = l.end - l.slot
