-- The nearest of all grants is that of one so far and those of the slots that are left.
use Rattle.std.proofs.Common.{rules, ◌≡◌, ◌+◌, List, Option, Some, None, refl, ◌∙◌, subst, filter, arith}
use Rattle.std.specs.Prelude.{IfSome}
use Rattle.eeprom.specs.Slots.{nearest_from}
use Rattle.eeprom.specs.StoreOf.{Slots}
use Rattle.scql_base.specs.declared.records.Grant.{Grant}
use Rattle.catalog_codec.specs.Catalog.{grant_kind}
use Rattle.catalog_codec.specs.CatalogLaws.{IsKind-grant}
use Rattle.record_table.specs.Asking.{slots_asked}
use Rattle.record_table.specs.Listed.{at_slot, in_slots}
use Rattle.record_table.proofs.Asking.{SameSide-refl, SameSide-then, same-held, same-slots}
use Rattle.record_table.proofs.ReadingCosts.{falls-both, falls-none}
use Rattle.record_table.proofs.Scan.{AreEmptyFrom, AreOthers, empty-told, others-told, left-behind, left-empty, left-others}
use Rattle.dictionaries.specs.Told.{tells_of_grant}
use Rattle.dictionaries.proofs.Nearest.{nearest-held, reads-end, reads-next, reads-over, reads-start}
use Rattle.dictionaries.proofs.grants.find_next.Goals as goal

pub loop-slot-init : goal.loop-slot-init
loop-slot-init g c =
    let slots : Option Slots = slots_asked c.args.reader.now in
    record {
      goes_on = SameSide-refl;
      same = refl;
      faults = refl;
      bound = c.slots_in_use-end.ensures.most;
      empty = empty-told c.args.reader.now.store.now c.args.reader.now.side c.slots_in_use-end.result (g.B.Eeprom.chip c.args.reader.now.bench.now).image c.args.reader.now.over.stands c.slots_in_use-end.ensures.empty;
      here = c.next_slot-slot.ensures.most (omega arith);
      nearest = λ db held.
          let p = tells_of_grant db c.args.owner in
          left-others grant_kind (λ (slots : Slots). nearest_from grant_kind.key c.args.stamp None (filter p (in_slots grant_kind slots))) (λ (rest : List Grant). nearest_from grant_kind.key c.args.stamp None (filter p rest)) (Some held.slots) 0 c.next_slot-slot.result IsKind-grant (omega arith)
          (subst (λ (o : Option Slots). IfSome o (AreOthers grant_kind 0 c.next_slot-slot.result)) held.told (others-told grant_kind c.args.reader.now.store.now c.args.reader.now.side 0 c.next_slot-slot.result (g.B.Eeprom.chip c.args.reader.now.bench.now).image c.args.reader.now.over.stands c.next_slot-slot.ensures.others)) refl;
      read = reads-over slots 0 c.next_slot-slot.result _ _ (omega arith) (reads-start slots (g.B.Eeprom.octets_read c.args.reader.now.bench.now));
      rises = falls-none slots (g.B.Eeprom.octets_read c.args.reader.now.bench.now);
    }

pub loop-slot-preserved : goal.loop-slot-preserved
loop-slot-preserved g c =
    let slots : Option Slots = slots_asked c.args.reader.now in
    let key = grant_kind.key in
    let more = c.next_slot-slot-in-loop-slot in
    let on = SameSide-then c.loop-slot.invariant.goes_on c.in_ok-grant.ensures.reads.goes_on in
    let still = c.in_ok-grant.ensures.reads.frame.same ∙ c.loop-slot.invariant.same in
    record {
      goes_on = SameSide-then on c.in_ok-nearest.ensures.reads.goes_on;
      same = c.in_ok-nearest.ensures.reads.frame.same ∙ still;
      faults = c.in_ok-nearest.ensures.reads.frame.counts.1 ∙ (c.in_ok-grant.ensures.reads.frame.counts.1 ∙ c.loop-slot.invariant.faults);
      bound = c.loop-slot.invariant.bound;
      empty = c.loop-slot.invariant.empty;
      here = more.ensures.most (omega (arith, c.loop-slot-test.true, c.loop-slot.invariant.bound));
      nearest = λ db held.
          let p = tells_of_grant db c.args.owner in
          left-others grant_kind (λ (slots : Slots). nearest_from key c.args.stamp None (filter p (in_slots grant_kind slots))) (λ (rest : List Grant). nearest_from key c.args.stamp c.in_ok-nearest.nearest (filter p rest)) (Some held.slots) (c.loop-slot.slot + 1) more.result IsKind-grant more.ensures.onward
          (subst (λ (o : Option Slots). IfSome o (AreOthers grant_kind (c.loop-slot.slot + 1) more.result)) held.told (others-told grant_kind c.args.reader.now.store.now c.args.reader.now.side (c.loop-slot.slot + 1) more.result (g.B.Eeprom.chip c.args.reader.now.bench.now).image c.args.reader.now.over.stands more.ensures.others))
          (left-behind grant_kind (λ (slots : Slots). nearest_from key c.args.stamp None (filter p (in_slots grant_kind slots))) (λ (rest : List Grant). nearest_from key c.args.stamp c.loop-slot.nearest (filter p rest))
          (λ (rest : List Grant). nearest_from key c.args.stamp c.in_ok-nearest.nearest (filter p rest)) (Some held.slots) c.loop-slot.slot c.in_ok-grant.grant
          (subst (λ (o : Option Slots). IfSome o (λ slots. c.in_ok-grant.grant ≡ at_slot grant_kind c.loop-slot.slot slots)) held.told (rw (same-slots c.loop-slot.invariant.goes_on c.loop-slot.invariant.same) at c.in_ok-grant.ensures.value))
          (c.in_ok-nearest.ensures.nearest db (same-held on still held)) (c.loop-slot.invariant.nearest db held));
      read = reads-over slots (c.loop-slot.slot + 1) more.result _ _ more.ensures.onward (reads-next slots c.loop-slot.slot _ _ _ _ c.loop-slot.invariant.read (rw (same-slots c.loop-slot.invariant.goes_on c.loop-slot.invariant.same) at c.in_ok-grant.ensures.reads.octets_read)
          (rw (same-slots on still) at c.in_ok-nearest.ensures.reads.octets_read));
      rises = falls-both slots _ _ _ (falls-both slots _ _ _ c.loop-slot.invariant.rises (rw (same-slots c.loop-slot.invariant.goes_on c.loop-slot.invariant.same) at c.in_ok-grant.ensures.reads.rises))
          (rw (same-slots on still) at c.in_ok-nearest.ensures.reads.rises);
    }

pub returns-clause-next : goal.returns-clause-next
returns-clause-next g c = λ db held.
    let p = tells_of_grant db c.args.owner in
    let key = grant_kind.key in
    nearest-held c.args.reader.now.store.now c.args.reader.now.side (g.B.Eeprom.chip c.args.reader.now.bench.now) db c.args.owner c.args.stamp c.loop-slot.nearest held
    (left-empty grant_kind (λ (slots : Slots). nearest_from key c.args.stamp None (filter p (in_slots grant_kind slots))) (λ (rest : List Grant). nearest_from key c.args.stamp c.loop-slot.nearest (filter p rest)) (Some held.slots) c.slots_in_use-end.result c.loop-slot.slot
    c.loop-slot-test.false (subst (λ (o : Option Slots). IfSome o (AreEmptyFrom c.slots_in_use-end.result)) held.told c.loop-slot.invariant.empty) (c.loop-slot.invariant.nearest db held))

pub returns-clause-reads : goal.returns-clause-reads
returns-clause-reads g c = record {
  octets_read = reads-end (slots_asked c.args.reader.now) c.loop-slot.slot c.args.reader.now.store.now.chains.cells _ _ c.loop-slot.invariant.here c.loop-slot.invariant.read;
  rises = search rules;
  goes_on = search rules;
  frame = search rules;
}
