-- Slot by slot, until all that are left are empty.
use Rattle.std.proofs.lemmas.Grind.{common_steps}
use Rattle.std.proofs.Common.{rules, Option, refl, ◌∙◌, arith}
use Rattle.eeprom.specs.StoreOf.{Slots}
use Rattle.record_store.specs.declared.side.Side.TheVariants.{Working}
use Rattle.record_table.specs.Listed.{slots_of}
use Rattle.record_table.proofs.Scan.{empty-told}
use Rattle.record_table.proofs.SweptSlots.{entries-more, entries-none, only-more, only-none, swept-all, swept-more, swept-none}
use Rattle.record_table.proofs.sweeping.remove_each.Goals as goal

pub loop-slot-init : goal.loop-slot-init
loop-slot-init g c =
    let slots : Option Slots = slots_of c.args.store.now Working (g.B.Eeprom.chip c.args.bench.now) in
    record {
      same = refl;
      faults = refl;
      bound = c.slots_in_use-slot-end.ensures.most;
      empty = empty-told c.args.store.now Working c.slots_in_use-slot-end.result (g.B.Eeprom.chip c.args.bench.now).image c.requires.open.over.stands c.slots_in_use-slot-end.ensures.empty;
      begun = refl;
      cells = refl;
      rows = refl;
      over = c.requires.open.over;
      swept = swept-none slots;
      committed = refl;
      only = only-none g.R.Record.kind (g.W.Wanted.wants c.args.wanted.now) c.args.store.now slots;
      entries = entries-none g.R.Record.kind (g.W.Wanted.wants c.args.wanted.now) c.args.store.now slots;
    }

pub loop-slot-preserved : goal.loop-slot-preserved
loop-slot-preserved g c =
    let kind = g.R.Record.kind in
    let wants = g.W.Wanted.wants c.args.wanted.now in
    let chip = g.B.Eeprom.chip c.args.bench.now in
    let slots : Option Slots = slots_of c.args.store.now Working chip in
    let done = c.in_ok-remove_wanted.ensures in
    let so_far = c.loop-slot.invariant in
    record {
      same = done.frame.same ∙ so_far.same;
      faults = done.frame.counts.1 ∙ so_far.faults;
      bound = so_far.bound;
      empty = so_far.empty;
      begun = done.begun ∙ so_far.begun;
      cells = done.cells ∙ so_far.cells;
      rows = done.rows ∙ so_far.rows;
      over = done.over;
      swept = swept-more kind wants c.loop-slot.store c.remove_wanted.new.store chip c.loop-slot.slot slots so_far.swept (rw (done.frame.same, so_far.same) at done.removed);
      committed = (rw (done.frame.same, so_far.same) at done.committed) ∙ so_far.committed;
      only = only-more kind wants c.args.store.now c.loop-slot.store c.remove_wanted.new.store chip c.loop-slot.slot slots so_far.swept (rw so_far.same at done.only) so_far.only;
      entries = entries-more kind wants c.args.store.now c.loop-slot.store c.remove_wanted.new.store chip c.loop-slot.slot slots so_far.swept (rw so_far.same at done.entries) so_far.entries;
    }

pub returns : goal.returns
returns g c = record {
  removed = rw c.loop-slot.invariant.same (swept-all g.R.Record.kind (g.W.Wanted.wants c.args.wanted.now) c.loop-slot.store (g.B.Eeprom.chip c.args.bench.now) c.slots_in_use-slot-end.result c.loop-slot.slot
      (slots_of c.args.store.now Working (g.B.Eeprom.chip c.args.bench.now)) c.loop-slot-test.false c.loop-slot.invariant.empty c.loop-slot.invariant.swept);
  committed = rw c.loop-slot.invariant.same c.loop-slot.invariant.committed;
  over = c.loop-slot.invariant.over;
  begun = c.loop-slot.invariant.begun;
  cells = c.loop-slot.invariant.cells;
  rows = c.loop-slot.invariant.rows;
  only = c.loop-slot.invariant.only;
  entries = first_of (search rules, grind (arith, common_steps));
  frame = search rules;
}
