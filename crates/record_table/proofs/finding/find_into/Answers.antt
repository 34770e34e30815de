-- The answer of all slots is that of those that are left, slot by slot.
use Rattle.std.proofs.Common.{rules, ◌+◌, Option, refl, sym, ◌∙◌, arith}
use Rattle.std.specs.List.{find}
use Rattle.eeprom.specs.StoreOf.{Slots}
use Rattle.record_table.specs.Asking.{slots_asked}
use Rattle.record_table.specs.Listed.{in_slots, kind_cells}
use Rattle.record_table.specs.Tagged.{tagged_cells}
use Rattle.record_table.proofs.Asking.{SameSide-refl, SameSide-then, same-slots}
use Rattle.record_table.proofs.ListedSearches.{found-listed, some-listed}
use Rattle.record_table.proofs.ReadingCosts.{falls-both, falls-none}
use Rattle.record_table.proofs.Scan.{empty-told, left-all, left-behind, left-known, left-empty, passed-place, passed_over, here-taken, taken-found}
use Rattle.record_table.proofs.SlotCosts.{reads-none, reads-behind, reads-on, reads-all}
use Rattle.record_table.proofs.TaggedSearches.{find-skips, left-unwanted, unwanted-told, tagged-told, tagged-none}
use Rattle.record_table.proofs.finding.find_into.Goals as goal

pub loop-slot-init : goal.loop-slot-init
loop-slot-init g c =
    let slots : Option Slots = slots_asked c.args.reader.now in
    record {
      goes_on = SameSide-refl;
      same = refl;
      faults = refl;
      bound = c.slots_in_use-end.ensures.most;
      empty = empty-told c.args.reader.now.store.now c.args.reader.now.side c.slots_in_use-end.result (g.B.Eeprom.chip c.args.reader.now.bench.now).image c.args.reader.now.over.stands c.slots_in_use-end.ensures.empty;
      left = left-unwanted g.R.Record.kind (g.W.Wanted.wants c.args.wanted.now) (find (g.W.Wanted.wants c.args.wanted.now)) (find-skips (g.W.Wanted.wants c.args.wanted.now)) (λ slots. find (g.W.Wanted.wants c.args.wanted.now) (in_slots g.R.Record.kind slots)) slots 0 c.next_tagged-slot.result (omega arith)
          (unwanted-told g.R.Record.kind (g.W.Wanted.wants c.args.wanted.now) c.tag-tag.result c.args.reader.now.store.now c.args.reader.now.side 0 c.next_tagged-slot.result (g.B.Eeprom.chip c.args.reader.now.bench.now).image g.met.R.Record.lawful c.tag-tag.ensures.right c.args.reader.now.over.stands c.next_tagged-slot.ensures.others)
          (left-all g.R.Record.kind (find (g.W.Wanted.wants c.args.wanted.now)) slots);
      read = reads-on (tagged_cells g.R.Record.kind c.tag-tag.result) slots 0 c.next_tagged-slot.result _ _ (omega arith) (reads-none (tagged_cells g.R.Record.kind c.tag-tag.result) slots (g.B.Eeprom.octets_read c.args.reader.now.bench.now));
      here = tagged-told g.R.Record.kind c.tag-tag.result c.args.reader.now.store.now c.args.reader.now.side c.next_tagged-slot.result (g.B.Eeprom.chip c.args.reader.now.bench.now).image c.args.reader.now.over.stands c.next_tagged-slot.ensures.here;
      rises = falls-none slots (g.B.Eeprom.octets_read c.args.reader.now.bench.now);
    }

pub returns-then-has_wanted : goal.returns-then-has_wanted
returns-then-has_wanted g c =
    let wants = g.W.Wanted.wants c.args.wanted.now in
    let wanted = sym c.has_wanted.ensures ∙ c.if-has_wanted.true in
    let slots : Option Slots = slots_asked c.args.reader.now in
    let cells = tagged_cells g.R.Record.kind c.tag-tag.result in
    let at = here-taken g.R.Record.kind wants c.in_ok-read.read _ slots c.loop-slot.slot wanted (rw (same-slots c.loop-slot.invariant.goes_on c.loop-slot.invariant.same) at c.in_ok-read.ensures.value) in
    let first = left-known g.R.Record.kind (λ slots. find wants (in_slots g.R.Record.kind slots)) (find wants) slots c.loop-slot.slot _ _ at (taken-found wants c.in_ok-read.read _ wanted) c.loop-slot.invariant.left in
    let read = rw (same-slots c.loop-slot.invariant.goes_on c.loop-slot.invariant.same) at c.in_ok-read.ensures.reads.octets_read in
    record {
      there = search rules;
      at = at;
      both = search rules;
      some = some-listed g.R.Record.kind wants _ slots first;
      first = first;
      found = found-listed g.R.Record.kind wants _ slots first;
      octets_read = rw (sym c.tag-tag.ensures.is) (reads-all cells slots (c.loop-slot.slot + 1) _ _
          (reads-behind cells (tagged-none g.R.Record.kind c.tag-tag.result) slots c.loop-slot.slot (kind_cells g.R.Record.kind) _ _ _ c.loop-slot.invariant.here c.loop-slot.invariant.read read));
      rises = falls-both slots _ _ _ c.loop-slot.invariant.rises (rw (same-slots c.loop-slot.invariant.goes_on c.loop-slot.invariant.same) at c.in_ok-read.ensures.reads.rises);
      goes_on = search rules;
      frame = search rules;
    }

pub loop-slot-preserved : goal.loop-slot-preserved
loop-slot-preserved g c =
    let slots : Option Slots = slots_asked c.args.reader.now in
    let here = rw (same-slots c.loop-slot.invariant.goes_on c.loop-slot.invariant.same) at c.in_ok-read.ensures.value in
    let next = c.next_tagged-slot-in-loop-slot in
    let cells = tagged_cells g.R.Record.kind c.tag-tag.result in
    let fails = passed-place (g.W.Wanted.wants c.args.wanted.now) _ (sym c.has_wanted.ensures ∙ c.if-has_wanted.false) in
    record {
      goes_on = SameSide-then c.loop-slot.invariant.goes_on c.in_ok-read.ensures.reads.goes_on;
      same = c.in_ok-read.ensures.reads.frame.same ∙ c.loop-slot.invariant.same;
      faults = c.in_ok-read.ensures.reads.frame.counts.1 ∙ c.loop-slot.invariant.faults;
      bound = c.loop-slot.invariant.bound;
      empty = c.loop-slot.invariant.empty;
      left = left-unwanted g.R.Record.kind (g.W.Wanted.wants c.args.wanted.now) (find (g.W.Wanted.wants c.args.wanted.now)) (find-skips (g.W.Wanted.wants c.args.wanted.now)) (λ slots. find (g.W.Wanted.wants c.args.wanted.now) (in_slots g.R.Record.kind slots)) slots (c.loop-slot.slot + 1) next.result next.ensures.onward
          (unwanted-told g.R.Record.kind (g.W.Wanted.wants c.args.wanted.now) c.tag-tag.result c.args.reader.now.store.now c.args.reader.now.side (c.loop-slot.slot + 1) next.result (g.B.Eeprom.chip c.args.reader.now.bench.now).image g.met.R.Record.lawful c.tag-tag.ensures.right c.args.reader.now.over.stands next.ensures.others)
          (left-behind g.R.Record.kind (λ slots. find (g.W.Wanted.wants c.args.wanted.now) (in_slots g.R.Record.kind slots)) (find (g.W.Wanted.wants c.args.wanted.now)) (find (g.W.Wanted.wants c.args.wanted.now)) slots
          c.loop-slot.slot _ here (passed_over (g.W.Wanted.wants c.args.wanted.now) _ fails) c.loop-slot.invariant.left);
      read = reads-on cells slots (c.loop-slot.slot + 1) next.result _ _ next.ensures.onward
          (reads-behind cells (tagged-none g.R.Record.kind c.tag-tag.result) slots c.loop-slot.slot (kind_cells g.R.Record.kind) _ _ _ c.loop-slot.invariant.here c.loop-slot.invariant.read (rw (same-slots c.loop-slot.invariant.goes_on c.loop-slot.invariant.same) at c.in_ok-read.ensures.reads.octets_read));
      here = tagged-told g.R.Record.kind c.tag-tag.result c.args.reader.now.store.now c.args.reader.now.side next.result (g.B.Eeprom.chip c.args.reader.now.bench.now).image c.args.reader.now.over.stands next.ensures.here;
      rises = falls-both slots _ _ _ c.loop-slot.invariant.rises (rw (same-slots c.loop-slot.invariant.goes_on c.loop-slot.invariant.same) at c.in_ok-read.ensures.reads.rises);
    }

pub returns : goal.returns
returns g c =
    let wants = g.W.Wanted.wants c.args.wanted.now in
    let slots : Option Slots = slots_asked c.args.reader.now in
    let first = left-empty g.R.Record.kind (λ slots. find wants (in_slots g.R.Record.kind slots)) (find wants) slots c.slots_in_use-end.result c.loop-slot.slot c.loop-slot-test.false c.loop-slot.invariant.empty c.loop-slot.invariant.left in
    record {
      there = search rules;
      at = search rules;
      both = search rules;
      some = some-listed g.R.Record.kind wants _ slots first;
      first = first;
      found = found-listed g.R.Record.kind wants _ slots first;
      octets_read = rw (sym c.tag-tag.ensures.is) (reads-all (tagged_cells g.R.Record.kind c.tag-tag.result) slots c.loop-slot.slot _ _ c.loop-slot.invariant.read);
      rises = search rules;
      goes_on = search rules;
      frame = search rules;
    }
