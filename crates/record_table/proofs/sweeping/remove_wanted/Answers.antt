-- The slot is emptied where its record is wanted, and else it stays.
use Rattle.std.proofs.lemmas.Grind.{common_steps}
use Rattle.std.proofs.Common.{rules, sym, ◌∙◌, arith}
use Rattle.record_table.proofs.SweptSlots.{emptied-told, entries-passing, entries-unchanged, only-passing, only-unchanged, removed-none, removed-passing, removed-still}
use Rattle.record_table.proofs.sweeping.remove_wanted.Goals as goal
use Rattle.record_table.proofs.sweeping.remove_wanted.Goals.{then-is, else-is}

pub returns-after-is : goal.returns-after-is
returns-after-is g c =
    let kind = g.R.Record.kind in
    let wants = g.W.Wanted.wants c.args.wanted.now in
    let chip = g.B.Eeprom.chip c.args.bench.now in
    let at = rw c.in-Some.is at c.in_ok-entry.ensures.value in
    record {
      removed = elim c.if-is.branch [
        | then-is w ↦ rw w.store-is (removed-still kind wants c.args.store.now w.remove.new.store chip (g.B.Eeprom.chip c.bench-1.given.0) c.args.slot (removed-passing kind wants c.args.store.now w.remove.new.store chip c.args.slot c.in-Some.entry at (sym c.is.ensures ∙ w.if-is.true)
            (emptied-told c.args.store.now w.remove.new.store chip c.args.slot c.requires.open.over.stands w.remove.ensures.removed)) (search rules))
        | else-is w ↦ rw w.store-is (removed-still kind wants c.args.store.now c.args.store.now chip (g.B.Eeprom.chip c.bench-1.given.0) c.args.slot (removed-none kind wants c.args.store.now chip c.args.slot _ at (sym c.is.ensures ∙ w.if-is.false)) (search rules))
      ];
      committed = first_of (search rules, grind (arith, common_steps));
      over = first_of (search rules, grind (arith, common_steps));
      begun = first_of (search rules, grind (arith, common_steps));
      cells = first_of (search rules, grind (arith, common_steps));
      rows = first_of (search rules, grind (arith, common_steps));
      only = elim c.if-is.branch [
        | then-is w ↦ rw w.store-is (only-passing kind wants c.args.store.now w.remove.new.store chip c.args.slot c.in-Some.entry at (sym c.is.ensures ∙ w.if-is.true) w.remove.ensures.only)
        | else-is w ↦ rw w.store-is (only-unchanged kind wants c.args.store.now chip c.args.slot)
      ];
      entries = elim c.if-is.branch [
        | then-is w ↦ rw w.store-is (entries-passing kind wants c.args.store.now w.remove.new.store chip c.args.slot c.in-Some.entry at (sym c.is.ensures ∙ w.if-is.true) w.remove.ensures.entries)
        | else-is w ↦ rw w.store-is (entries-unchanged kind wants c.args.store.now chip c.args.slot)
      ];
      frame = search rules;
    }

pub returns-in_default : goal.returns-in_default
returns-in_default g c = record {
  removed = removed-still g.R.Record.kind (g.W.Wanted.wants c.args.wanted.now) c.args.store.now c.args.store.now (g.B.Eeprom.chip c.args.bench.now) (g.B.Eeprom.chip c.bench-1.given.0) c.args.slot (removed-none g.R.Record.kind (g.W.Wanted.wants c.args.wanted.now) c.args.store.now (g.B.Eeprom.chip c.args.bench.now) c.args.slot _ (rw c.in_default.is at c.in_ok-entry.ensures.value) tt) (search rules);
  committed = first_of (search rules, grind (arith, common_steps));
  over = first_of (search rules, grind (arith, common_steps));
  begun = search rules;
  cells = search rules;
  rows = search rules;
  only = only-unchanged g.R.Record.kind (g.W.Wanted.wants c.args.wanted.now) c.args.store.now (g.B.Eeprom.chip c.args.bench.now) c.args.slot;
  entries = entries-unchanged g.R.Record.kind (g.W.Wanted.wants c.args.wanted.now) c.args.store.now (g.B.Eeprom.chip c.args.bench.now) c.args.slot;
  frame = search rules;
}
