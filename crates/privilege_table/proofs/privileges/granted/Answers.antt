-- What all grants of a tag give is what those so far gave and those that are left give, slot by slot.
use Rattle.std.proofs.Common.{rules, ◌≡◌, ◌+◌, ◌^◌, ℕ, List, Option, Some, refl, sym, ◌∙◌, arith}
use Rattle.std.specs.List.{list_any, cons_option}
use Rattle.eeprom.specs.StoreOf.{Slots}
use Rattle.record_store.specs.declared.tags.Tag.{Tag}
use Rattle.record_store.specs.declared.tags.Tag.TheVariants.{Name}
use Rattle.scql_base.specs.declared.records.Grant.{Grant}
use Rattle.catalog_codec.specs.Catalog.{grant_kind}
use Rattle.catalog_codec.specs.CatalogLaws.{IsKind-grant}
use Rattle.record_table.specs.Asking.{slots_asked}
use Rattle.record_table.specs.Listed.{in_slots, kind_cells}
use Rattle.record_table.specs.Tagged.{tagged_cells}
use Rattle.record_table.proofs.Asking.{SameSide-refl, SameSide-then, same-slots}
use Rattle.record_table.proofs.ReadingCosts.{falls-both, falls-none}
use Rattle.record_table.proofs.Scan.{empty-told, left-behind, left-empty}
use Rattle.record_table.proofs.SlotCosts.{reads-none, reads-behind, reads-on, reads-all}
use Rattle.record_table.proofs.TaggedSearches.{left-unwanted, tagged-none, tagged-told, unwanted-told}
use Rattle.privilege_table.specs.Granted.{has_pair_bit, is_pair}
use Rattle.privilege_table.proofs.Bits.{any_left, any_left-given, any_left-none, any_left-skips, granted-listed, paired-tag}
use Rattle.privilege_table.proofs.privileges.granted.Goals as goal
use Rattle.privilege_table.proofs.privileges.granted.Goals.{in-Some, in_default}

pub loop-slot-init : goal.loop-slot-init
loop-slot-init g c =
    let slots : Option Slots = slots_asked c.args.reader.now in
    let tag : Option Tag = Some (Name c.pair_tag.result) in
    let next = c.next_tagged-slot in
    record {
      goes_on = SameSide-refl;
      same = refl;
      faults = refl;
      bound = c.slots_in_use-end.ensures.most;
      empty = empty-told c.args.reader.now.store.now c.args.reader.now.side c.slots_in_use-end.result (g.B.Eeprom.chip c.args.reader.now.bench.now).image c.args.reader.now.over.stands c.slots_in_use-end.ensures.empty;
      left = λ i.
          let gives : Grant → _ = has_pair_bit c.args.object c.args.grantee (2 ^ i) in
          left-unwanted grant_kind (is_pair c.args.object c.args.grantee) (any_left 0 gives i) (any_left-skips c.args.object c.args.grantee 0 i) (λ slots. list_any gives (in_slots grant_kind slots)) slots 0 next.result (omega arith)
          (unwanted-told grant_kind (is_pair c.args.object c.args.grantee) tag c.args.reader.now.store.now c.args.reader.now.side 0 next.result (g.B.Eeprom.chip c.args.reader.now.bench.now).image IsKind-grant (paired-tag c.args.object c.args.grantee c.pair_tag.result c.pair_tag.ensures) c.args.reader.now.over.stands next.ensures.others)
          (any_left-none gives i slots);
      read = reads-on (tagged_cells grant_kind tag) slots 0 next.result _ _ (omega arith) (reads-none (tagged_cells grant_kind tag) slots (g.B.Eeprom.octets_read c.args.reader.now.bench.now));
      here = tagged-told grant_kind tag c.args.reader.now.store.now c.args.reader.now.side next.result (g.B.Eeprom.chip c.args.reader.now.bench.now).image c.args.reader.now.over.stands next.ensures.here;
      rises = falls-none slots (g.B.Eeprom.octets_read c.args.reader.now.bench.now);
    }

pub loop-slot-preserved : goal.loop-slot-preserved
loop-slot-preserved g c =
    let slots : Option Slots = slots_asked c.args.reader.now in
    let tag : Option Tag = Some (Name c.pair_tag.result) in
    let here = rw (same-slots c.loop-slot.invariant.goes_on c.loop-slot.invariant.same) at c.in_ok-grant.ensures.value in
    let next = c.next_tagged-slot-in-loop-slot in
    let gives : ℕ → Grant → _ = λ i. has_pair_bit c.args.object c.args.grantee (2 ^ i) in
    let step : (i : ℕ) (rest : List Grant) → any_left c.loop-slot.bits (gives i) i (cons_option c.in_ok-grant.field-0 rest) ≡ any_left c.match-branch-2.bits (gives i) i rest =
    elim c.match-branch-2.branch [
      | in-Some w ↦ λ i rest. rw (w.in-Some.is, w.bits-is) (any_left-given c.loop-slot.bits w.bits_given-bits.result i (gives i) w.in-Some.grant (w.bits_given-bits.ensures i) rest)
      | in_default w ↦ λ i rest. rw (w.in_default.is, w.bits-is) refl
    ] in
    record {
      goes_on = SameSide-then c.loop-slot.invariant.goes_on c.in_ok-grant.ensures.reads.goes_on;
      same = c.in_ok-grant.ensures.reads.frame.same ∙ c.loop-slot.invariant.same;
      faults = c.in_ok-grant.ensures.reads.frame.counts.1 ∙ c.loop-slot.invariant.faults;
      bound = c.loop-slot.invariant.bound;
      empty = c.loop-slot.invariant.empty;
      left = λ i.
          left-unwanted grant_kind (is_pair c.args.object c.args.grantee) (any_left c.match-branch-2.bits (gives i) i) (any_left-skips c.args.object c.args.grantee c.match-branch-2.bits i) (λ slots. list_any (gives i) (in_slots grant_kind slots)) slots (c.loop-slot.slot + 1) next.result next.ensures.onward
          (unwanted-told grant_kind (is_pair c.args.object c.args.grantee) tag c.args.reader.now.store.now c.args.reader.now.side (c.loop-slot.slot + 1) next.result (g.B.Eeprom.chip c.args.reader.now.bench.now).image IsKind-grant (paired-tag c.args.object c.args.grantee c.pair_tag.result c.pair_tag.ensures) c.args.reader.now.over.stands next.ensures.others)
          (left-behind grant_kind (λ slots. list_any (gives i) (in_slots grant_kind slots)) (any_left c.loop-slot.bits (gives i) i) (any_left c.match-branch-2.bits (gives i) i) slots
          c.loop-slot.slot c.in_ok-grant.field-0 here (step i) (c.loop-slot.invariant.left i));
      read = reads-on (tagged_cells grant_kind tag) slots (c.loop-slot.slot + 1) next.result _ _ next.ensures.onward
          (reads-behind (tagged_cells grant_kind tag) (tagged-none grant_kind tag) slots c.loop-slot.slot (kind_cells grant_kind) _ _ _ c.loop-slot.invariant.here c.loop-slot.invariant.read (rw (same-slots c.loop-slot.invariant.goes_on c.loop-slot.invariant.same) at c.in_ok-grant.ensures.reads.octets_read));
      here = tagged-told grant_kind tag c.args.reader.now.store.now c.args.reader.now.side next.result (g.B.Eeprom.chip c.args.reader.now.bench.now).image c.args.reader.now.over.stands next.ensures.here;
      rises = falls-both slots _ _ _ c.loop-slot.invariant.rises (rw (same-slots c.loop-slot.invariant.goes_on c.loop-slot.invariant.same) at c.in_ok-grant.ensures.reads.rises);
    }

pub returns-clause-granted : goal.returns-clause-granted
returns-clause-granted g c =
    granted-listed c.args.object c.args.grantee c.loop-slot.bits (slots_asked c.args.reader.now)
    (λ i. left-empty grant_kind (λ slots. list_any (has_pair_bit c.args.object c.args.grantee (2 ^ i)) (in_slots grant_kind slots)) (any_left c.loop-slot.bits (has_pair_bit c.args.object c.args.grantee (2 ^ i)) i)
    (slots_asked c.args.reader.now) c.slots_in_use-end.result c.loop-slot.slot c.loop-slot-test.false c.loop-slot.invariant.empty (c.loop-slot.invariant.left i))

pub returns-clause-reads : goal.returns-clause-reads
returns-clause-reads g c = record {
  octets_read = rw (sym c.pair_tag.ensures) (reads-all (tagged_cells grant_kind (Some (Name c.pair_tag.result))) (slots_asked c.args.reader.now) c.loop-slot.slot _ _ c.loop-slot.invariant.read);
  rises = search rules;
  goes_on = search rules;
  frame = search rules;
}
