use Rattle.std.proofs.Common.{◌≡◌, ◌≤◌, ◌-◌, ◌^◌, ℕ}
use Rattle.std.specs.Prelude.{IfSome}
use Rattle.std.specs.List.{list_any}
use Rattle.eeprom.specs.Chip.{Becomes}
use Rattle.catalog_codec.specs.Catalog.{grant_kind}
use Rattle.record_table.specs.Asking.{SameSide, slots_asked}
use Rattle.record_table.specs.Listed.{in_slots}
use Rattle.record_table.specs.Reading.{NeverFalls}
use Rattle.record_table.specs.Tagged.{tagged_cells}
use Rattle.record_table.proofs.Scan.{AreEmptyFrom, IsOfLeft}
use Rattle.record_table.proofs.SlotCosts.{ReadsUpTo}
use Rattle.record_table.proofs.TaggedSearches.{IsTaggedAt}
use Rattle.privilege_table.specs.Granted.{has_pair_bit}
use Rattle.privilege_table.proofs.Bits.{any_left}
use Rattle.privilege_table.proofs.privileges.granted.Given as goal

abbrev pub invariant-loop-slot : goal.invariant-loop-slot
invariant-loop-slot g l = record {
  goes_on : SameSide l.fn.reader l.reader;
  same : g.B.Eeprom.chip l.reader.bench.now ≡ g.B.Eeprom.chip l.fn.reader.bench.now;
  faults : g.B.Eeprom.faults l.reader.bench.now ≡ g.B.Eeprom.faults l.fn.reader.bench.now;
  bound : l.end ≤ l.fn.reader.store.now.chains.cells;
  empty : IfSome (slots_asked l.fn.reader) (AreEmptyFrom l.end);
  left : (i : ℕ) → IfSome (slots_asked l.fn.reader)
      (IsOfLeft grant_kind (λ slots. list_any (has_pair_bit l.object l.grantee (2 ^ i)) (in_slots grant_kind slots)) (any_left l.bits (has_pair_bit l.object l.grantee (2 ^ i)) i) l.slot);
  read : IfSome (slots_asked l.fn.reader)
      (λ slots. Becomes (ReadsUpTo (tagged_cells grant_kind l.tag) l.slot slots) (g.B.Eeprom.octets_read l.fn.reader.bench.now) (g.B.Eeprom.octets_read l.reader.bench.now));
  here : IfSome (slots_asked l.fn.reader) (IsTaggedAt grant_kind l.tag l.slot);
  rises : NeverFalls (slots_asked l.fn.reader) (g.B.Eeprom.octets_read l.fn.reader.bench.now) (g.B.Eeprom.octets_read l.reader.bench.now);
}

abbrev pub decreases-loop-slot : goal.decreases-loop-slot
decreases-loop-slot g l = l.end - l.slot
