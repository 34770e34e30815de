-- The nearest of all slots is the nearest of one so far and those that are left, slot by slot.
use Rattle.std.proofs.Common.{rules, ◌≡◌, ◌+◌, ◌<◌, List, Option, Some, None, refl, sym, ◌∙◌, arith}
use Rattle.std.specs.Prelude.{IfSome, option_map, filter}
use Rattle.std.specs.List.{cons_option}
use Rattle.eeprom.specs.StoreOf.{Slots}
use Rattle.eeprom.specs.Slots.{nearest_from}
use Rattle.record_table.specs.Asking.{slots_asked}
use Rattle.record_table.specs.Listed.{in_slots, at_slot}
use Rattle.record_table.proofs.Asking.{SameSide-refl, SameSide-then, same-slots}
use Rattle.record_table.proofs.ListedSearches.{next-listed}
use Rattle.record_table.proofs.ReadingCosts.{falls-both, falls-none}
use Rattle.record_table.proofs.Scan.{empty-told, others-told, left-all, left-behind, left-empty, left-others, nearest-passed, nearest-taken, one_of_both, reads-all, reads-none, reads-behind, reads-on}
use Rattle.record_table.proofs.next.next_by.Goals as goal
use Rattle.record_table.proofs.next.next_by.Goals.{in-Some+then-is, in-Some+else-is, in_default}

pub loop-slot-init : goal.loop-slot-init
loop-slot-init g c =
    let slots : Option Slots = slots_asked c.args.reader.now in
    record {
      goes_on = SameSide-refl;
      same = refl;
      faults = refl;
      bound = c.slots_in_use-end.ensures.most;
      empty = empty-told c.args.reader.now.store.now c.args.reader.now.side c.slots_in_use-end.result (g.B.Eeprom.chip c.args.reader.now.bench.now).image c.args.reader.now.over.stands c.slots_in_use-end.ensures.empty;
      there = tt;
      at = tt;
      left = left-others g.R.Record.kind (λ slots. nearest_from g.R.Record.kind.key c.args.stamp None (filter (g.W.Wanted.wants c.args.wanted.now) (in_slots g.R.Record.kind slots))) (λ rest. nearest_from g.R.Record.kind.key c.args.stamp None (filter (g.W.Wanted.wants c.args.wanted.now) rest)) slots 0 c.next_slot-slot.result g.met.R.Record.lawful (omega arith)
          (others-told g.R.Record.kind c.args.reader.now.store.now c.args.reader.now.side 0 c.next_slot-slot.result (g.B.Eeprom.chip c.args.reader.now.bench.now).image c.args.reader.now.over.stands c.next_slot-slot.ensures.others) (left-all g.R.Record.kind (λ rest. nearest_from g.R.Record.kind.key c.args.stamp None (filter (g.W.Wanted.wants c.args.wanted.now) rest)) slots);
      read = reads-on g.R.Record.kind slots 0 c.next_slot-slot.result _ _ (omega arith) (reads-none g.R.Record.kind slots (g.B.Eeprom.octets_read c.args.reader.now.bench.now));
      rises = falls-none slots (g.B.Eeprom.octets_read c.args.reader.now.bench.now);
    }

pub loop-slot-preserved : goal.loop-slot-preserved
loop-slot-preserved g c =
    let slots : Option Slots = slots_asked c.args.reader.now in
    let here = rw (same-slots c.loop-slot.invariant.goes_on c.loop-slot.invariant.same) at c.in_ok-value.ensures.value in
    let within : c.loop-slot.slot < c.args.reader.now.store.now.chains.cells = omega (arith, c.loop-slot.invariant.bound, c.loop-slot-test.true) in
    let key = g.R.Record.kind.key in
    let wants = g.W.Wanted.wants c.args.wanted.now in
    let step : (rest : List g.row.R.Denot) → nearest_from key c.args.stamp (option_map (λ near. near.value) c.loop-slot.nearest) (filter wants (cons_option c.in_ok-value.field-0 rest))
    ≡ nearest_from key c.args.stamp (option_map (λ near. near.value) c.match-branch-2.nearest) (filter wants rest) =
    elim c.match-branch-2.branch [
      | in-Some+then-is w ↦ λ rest. rw (w.in-Some.is, w.nearest-is) (nearest-taken key c.args.stamp wants _ w.in-Some.value _ (sym w.is.ensures ∙ w.if-is.true) w.nearer_of-nearest.ensures.nearer rest)
      | in-Some+else-is w ↦ λ rest. rw (w.in-Some.is, w.nearest-is) (nearest-passed key c.args.stamp wants _ w.in-Some.value (sym w.is.ensures ∙ w.if-is.false) rest)
      | in_default w ↦ λ rest. rw (w.in_default.is, w.nearest-is) refl
    ] in
    record {
      goes_on = SameSide-then c.loop-slot.invariant.goes_on c.in_ok-value.ensures.reads.goes_on;
      same = c.in_ok-value.ensures.reads.frame.same ∙ c.loop-slot.invariant.same;
      faults = c.in_ok-value.ensures.reads.frame.counts.1 ∙ c.loop-slot.invariant.faults;
      bound = c.loop-slot.invariant.bound;
      empty = c.loop-slot.invariant.empty;
      there = elim c.match-branch-2.branch [
        | in-Some+then-is w ↦ rw w.nearest-is (one_of_both c.loop-slot.nearest _ w.nearer_of-nearest.result (λ near. near.slot < c.args.reader.now.store.now.chains.cells) w.nearer_of-nearest.ensures.either c.loop-slot.invariant.there within)
        | in-Some+else-is w ↦ rw w.nearest-is c.loop-slot.invariant.there
        | in_default w ↦ rw w.nearest-is c.loop-slot.invariant.there
      ];
      at = elim c.match-branch-2.branch [
        | in-Some+then-is w ↦
            rw w.nearest-is (one_of_both c.loop-slot.nearest _ w.nearer_of-nearest.result (λ near. IfSome slots (λ slots. Some near.value ≡ at_slot g.R.Record.kind near.slot slots)) w.nearer_of-nearest.ensures.either c.loop-slot.invariant.at
            (rw w.in-Some.is at here))
        | in-Some+else-is w ↦ rw w.nearest-is c.loop-slot.invariant.at
        | in_default w ↦ rw w.nearest-is c.loop-slot.invariant.at
      ];
      left = left-others g.R.Record.kind (λ slots. nearest_from key c.args.stamp None (filter wants (in_slots g.R.Record.kind slots))) (λ rest. nearest_from key c.args.stamp (option_map (λ near. near.value) c.match-branch-2.nearest) (filter wants rest)) slots (c.loop-slot.slot + 1) c.next_slot-slot-in-loop-slot.result g.met.R.Record.lawful c.next_slot-slot-in-loop-slot.ensures.onward
          (others-told g.R.Record.kind c.args.reader.now.store.now c.args.reader.now.side (c.loop-slot.slot + 1) c.next_slot-slot-in-loop-slot.result (g.B.Eeprom.chip c.args.reader.now.bench.now).image c.args.reader.now.over.stands c.next_slot-slot-in-loop-slot.ensures.others)
          (left-behind g.R.Record.kind (λ slots. nearest_from key c.args.stamp None (filter wants (in_slots g.R.Record.kind slots)))
          (λ rest. nearest_from key c.args.stamp (option_map (λ near. near.value) c.loop-slot.nearest) (filter wants rest)) (λ rest. nearest_from key c.args.stamp (option_map (λ near. near.value) c.match-branch-2.nearest) (filter wants rest)) slots c.loop-slot.slot c.in_ok-value.field-0 here step c.loop-slot.invariant.left);
      read = reads-on g.R.Record.kind slots (c.loop-slot.slot + 1) c.next_slot-slot-in-loop-slot.result _ _ c.next_slot-slot-in-loop-slot.ensures.onward (reads-behind g.R.Record.kind slots c.loop-slot.slot _ _ _ c.loop-slot.invariant.read (rw (same-slots c.loop-slot.invariant.goes_on c.loop-slot.invariant.same) at c.in_ok-value.ensures.reads.octets_read));
      rises = falls-both slots _ _ _ c.loop-slot.invariant.rises (rw (same-slots c.loop-slot.invariant.goes_on c.loop-slot.invariant.same) at c.in_ok-value.ensures.reads.rises);
    }

pub returns : goal.returns
returns g c =
    let slots : Option Slots = slots_asked c.args.reader.now in
    record {
      there = search rules;
      at = search rules;
      next = next-listed g.R.Record.kind c.args.stamp (g.W.Wanted.wants c.args.wanted.now) _ slots
          (left-empty g.R.Record.kind (λ slots. nearest_from g.R.Record.kind.key c.args.stamp None (filter (g.W.Wanted.wants c.args.wanted.now) (in_slots g.R.Record.kind slots)))
          (λ rest. nearest_from g.R.Record.kind.key c.args.stamp (option_map (λ near. near.value) c.loop-slot.nearest) (filter (g.W.Wanted.wants c.args.wanted.now) rest)) slots c.slots_in_use-end.result c.loop-slot.slot
          c.loop-slot-test.false c.loop-slot.invariant.empty c.loop-slot.invariant.left);
      octets_read = reads-all g.R.Record.kind slots c.loop-slot.slot _ _ c.loop-slot.invariant.read;
      rises = search rules;
      goes_on = search rules;
      frame = search rules;
    }
