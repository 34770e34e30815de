-- What is gathered of the slots that were claimed is what the store of the image has.
use Rattle.std.proofs.Common.{◌≡◌, ◌+◌, ℕ, false, List, length, Option, Some, refl, sym, ap, subst, ◌∙◌, rules, arith}
use Rattle.std.proofs.lemmas.Grind.{common_steps}
use Rattle.std.specs.Prelude.{IfSome}
use Rattle.eeprom.specs.Chip.{Chip, Becomes, RisesBy}
use Rattle.eeprom.specs.Fault.{CountsFaults}
use Rattle.eeprom.specs.StoreOf.{Stored, is_gate_open, store_of}
use Rattle.record_store.specs.Faults.{is_open_fault}
use Rattle.record_store.specs.declared.side.Side.TheVariants.{Committed}
use Rattle.record_store.specs.Held.{stored}
use Rattle.record_store.specs.Opening.{IsOverSoFar, front_octets}
use Rattle.record_store.specs.Recovery.{KeepsStore}
use Rattle.row_index.specs.Index.{Index}
use Rattle.row_index.proofs.Changes.{length-in_order}
use Rattle.card.specs.KeptRecords.{stamp_of}
use Rattle.card.specs.Pool.{Pool}
use Rattle.card.specs.declared.kept_record.KeptRecord.{KeptRecord}
use Rattle.record_store.proofs.OpeningSlots.{finished-over, finished-opened, read-told}
use Rattle.scql_model.specs.Database.{Database}
use Rattle.scql_model.specs.Opens.{Opens}
use Rattle.card.proofs.GatheredSlots.{Gathers, GathersSoFar, gathered-next, gathered-none, none-next, none-stored}
use Rattle.card.proofs.OpenedDatabase.{gathered-all, opens-finished, none-tested_told, opens-kept, reads-card, refused-kept}
use Rattle.card.proofs.PooledSizes.{fits-slot, size-next}
use Rattle.card.proofs.PlacedRows.{holds-opened, indexed, most-read, read-next}
use Rattle.card.proofs.opening.open_records.Goals.{After-finish-store, In-Some}
use Rattle.card.proofs.opening.open_records.Goals as goal

pub returns-in_err-add_slot-clause-not_a_card : goal.returns-in_err-add_slot-clause-not_a_card
returns-in_err-add_slot-clause-not_a_card g c = λ refused.
    let start = g.B.Eeprom.chip c.new.new.bench in
    refused-kept (g.B.Eeprom.chip c.args.bench.now) start c.new.ensures.frame.store.keeps c.in_ok-opening.ensures.told
    (none-next c.loop-slot.opening c.in_ok-opening-2.opening start.image c.deref.result.now c.loop-slot.slot c.loop-slot.gathered.counter c.loop-slot.gathered.records.items
    (rw (c.loop-slot.invariant.same, sym c.deref.ensures.0) at c.in_ok-opening-2.ensures.slots) c.in_ok-opening-2.ensures.rows (rw c.loop-slot.invariant.same at c.in_ok-opening-2.ensures.over.stands)
    (rw c.row_limit.ensures at (c.in_err-add_slot.ensures.refused (search rules))) c.loop-slot.invariant.gathers)

pub returns-in_err-opening-2-clause-not_a_card : goal.returns-in_err-opening-2-clause-not_a_card
returns-in_err-opening-2-clause-not_a_card g c = λ refused.
    let start = g.B.Eeprom.chip c.new.new.bench in
    refused-kept (g.B.Eeprom.chip c.args.bench.now) start c.new.ensures.frame.store.keeps c.in_ok-opening.ensures.told
    (none-stored start.image (rw c.loop-slot.invariant.same at (c.in_err-opening-2.ensures.not_a_card (first_of (search rules, search (rules, refused, c.from_residual-in_err-opening-2.ensures))))))

pub returns-in_err-opening-2-clause-frame : goal.returns-in_err-opening-2-clause-frame
returns-in_err-opening-2-clause-frame g c = record {
  store = subst (KeepsStore (g.B.Eeprom.chip c.args.bench.now)) (sym (c.in_err-opening-2.ensures.frame.same ∙ c.loop-slot.invariant.same)) c.new.ensures.frame.store;
  counts = subst (λ (n : ℕ). CountsFaults is_open_fault n (g.B.Eeprom.faults c.claim_next.new.bench) c.from_residual-in_err-opening-2.result) (c.loop-slot.invariant.faults ∙ c.in_ok-opening.ensures.frame.counts.1) (first_of (
    search (rules, c.in_err-opening-2.ensures.frame.counts, c.from_residual-in_err-opening-2.ensures),
    grind (arith, common_steps, c.in_err-opening-2.ensures.frame.counts, c.from_residual-in_err-opening-2.ensures),
  ));
}

pub returns-in_err-add_slot-clause-frame : goal.returns-in_err-add_slot-clause-frame
returns-in_err-add_slot-clause-frame g c = record {
  store = subst (KeepsStore (g.B.Eeprom.chip c.args.bench.now)) (sym (c.in_ok-opening-2.ensures.frame.same ∙ c.loop-slot.invariant.same)) c.new.ensures.frame.store;
  counts = first_of (
    search (rules, c.in_ok-opening-2.ensures.frame.counts.1 ∙ (c.loop-slot.invariant.faults ∙ c.in_ok-opening.ensures.frame.counts.1), c.in_err-add_slot.ensures.refusal),
    grind (arith, common_steps, c.in_ok-opening-2.ensures.frame.counts.1 ∙ (c.loop-slot.invariant.faults ∙ c.in_ok-opening.ensures.frame.counts.1), c.in_err-add_slot.ensures.refusal),
  );
}

pub loop-slot-preserved : goal.loop-slot-preserved
loop-slot-preserved g c = record {
  opening = record {
    claimed = c.in_ok-opening-2.ensures.claimed ∙ ap (λ (n : ℕ). n + 1) c.loop-slot.invariant.opening.claimed;
    cells_are = c.in_ok-opening-2.ensures.cells ∙ c.loop-slot.invariant.opening.cells_are;
    over = subst (IsOverSoFar c.in_ok-opening-2.opening) c.loop-slot.invariant.same c.in_ok-opening-2.ensures.over;
    few = c.in_ok-opening-2.ensures.few;
    read = read-next c.loop-slot.opening c.in_ok-opening-2.opening _ _ _ _ c.in_ok-opening-2.ensures.weight c.loop-slot.invariant.opening.read c.in_ok-opening-2.ensures.octets_read;
  };
  gathers = gathered-next c.loop-slot.opening c.in_ok-opening-2.opening (g.B.Eeprom.chip c.new.new.bench).image c.deref.result.now c.loop-slot.slot c.loop-slot.gathered.counter c.add_slot.new.self.counter c.loop-slot.gathered.records.items c.add_slot.new.self.records.items
      (rw (c.loop-slot.invariant.same, sym c.deref.ensures.0) at c.in_ok-opening-2.ensures.slots) c.in_ok-opening-2.ensures.rows (rw c.row_limit.ensures at c.in_ok-add_slot.ensures.admitted) c.in_ok-add_slot.ensures.counters c.in_ok-add_slot.ensures.records c.loop-slot.invariant.gathers;
  few = omega (arith, c.in_ok-add_slot.ensures.few, c.loop-slot.invariant.few);
  capacity = c.in_ok-add_slot.ensures.cells ∙ c.loop-slot.invariant.capacity;
  size = size-next c.deref.result.now c.loop-slot.gathered.records.size c.add_slot.new.self.records.size c.loop-slot.opening.weight c.in_ok-opening-2.opening.weight c.in_ok-add_slot.ensures.size (rw (sym c.deref.ensures.0) at c.in_ok-opening-2.ensures.weight) c.loop-slot.invariant.size;
  same = c.in_ok-opening-2.ensures.frame.same ∙ c.loop-slot.invariant.same;
  faults = c.in_ok-opening-2.ensures.frame.counts.1 ∙ c.loop-slot.invariant.faults;
}

over : (g : _) (c : After-finish-store g) → IsOverSoFar c.loop-slot.opening (g.B.Eeprom.chip c.loop-slot.bench)
over g c = subst (IsOverSoFar c.loop-slot.opening) (sym c.loop-slot.invariant.same) c.loop-slot.invariant.opening.over

pub returns-in_default-clause-not_a_card : goal.returns-in_default-clause-not_a_card
returns-in_default-clause-not_a_card g c = λ _.
    let start = g.B.Eeprom.chip c.new.new.bench in
    refused-kept (g.B.Eeprom.chip c.args.bench.now) start c.new.ensures.frame.store.keeps c.in_ok-opening.ensures.told
    (none-tested_told start.image c.loop-slot.slot c.loop-slot.gathered.counter c.loop-slot.gathered.records.items
    (gathered-all c.loop-slot.opening start.image c.loop-slot.slot c.loop-slot.gathered.counter c.loop-slot.gathered.records.items c.finish-store.result c.finish-store.ensures.opened c.finish-store.ensures.slots c.loop-slot.invariant.opening.over.stands c.loop-slot.invariant.gathers)
    (c.in_default.ensures.refused refl))

pub returns-clause-stored : goal.returns-clause-stored
returns-clause-stored g c =
    finished-opened c.loop-slot.opening c.finish-store.result (g.B.Eeprom.chip c.loop-slot.bench).image c.finish-store.ensures.opened (over g (goal.at.returns-clause-stored g c).After-finish-store).stands

-- what is known once the records passed the test
gathers : (g : _) (c : In-Some g) → GathersSoFar c.loop-slot.opening c.loop-slot.slot (g.B.Eeprom.chip c.new.new.bench).image (Some c.in-Some.ensures.passed.0) c.loop-slot.gathered.records.items
gathers g c =
    subst (λ (counter : Option ℕ). GathersSoFar c.loop-slot.opening c.loop-slot.slot (g.B.Eeprom.chip c.new.new.bench).image counter c.loop-slot.gathered.records.items) c.in-Some.ensures.passed.1
    c.loop-slot.invariant.gathers

all_claimed : (g : _) (c : In-Some g) → c.loop-slot.opening.chains.cells ≡ c.loop-slot.slot
all_claimed g c = omega (arith, c.loop-slot-test.false, c.loop-slot.auto.slot-end, c.cells-cells.ensures.number, c.loop-slot.invariant.opening.cells_are)

whole : (g : _) (c : In-Some g) → IfSome (g.B.Eeprom.chip c.new.new.bench).image (λ image. (was : Stored) → store_of image ≡ Some was → Gathers was.row_limit c.loop-slot.slot was.slots (Some c.in-Some.ensures.passed.0) c.loop-slot.gathered.records.items)
whole g c =
    gathered-all c.loop-slot.opening (g.B.Eeprom.chip c.new.new.bench).image c.loop-slot.slot (Some c.in-Some.ensures.passed.0) c.loop-slot.gathered.records.items c.finish-store.result c.finish-store.ensures.opened c.finish-store.ensures.slots
    c.loop-slot.invariant.opening.over.stands (gathers g c)

opens : (g : _) (c : In-Some g) → IfSome (g.B.Eeprom.chip c.new.new.bench).image (λ image. (db : Database) × Opens image db)
opens g c =
    let all = all_claimed g c in
    opens-finished c.loop-slot.opening (g.B.Eeprom.chip c.new.new.bench).image c.loop-slot.slot c.in-Some.ensures.passed.0 c.loop-slot.gathered.records.items c.finish-store.result c.finish-store.ensures.slots c.finish-store.ensures.opened c.finish-store.ensures.weight
    c.loop-slot.invariant.opening.over.stands c.loop-slot.invariant.opening.few all (omega (arith, all, c.cells-cells.ensures.few, c.cells-cells.ensures.number, c.loop-slot.invariant.opening.cells_are))
    (omega (arith, all, c.cells-cells.ensures.many, c.cells-cells.ensures.number, c.loop-slot.invariant.opening.cells_are)) (gathers g c) c.in-Some.ensures.passed.2

opened : (g : _) (c : After-finish-store g) → IfSome (g.B.Eeprom.chip c.loop-slot.bench).image (λ image. store_of image ≡ stored c.finish-store.result Committed image)
opened g c = finished-opened c.loop-slot.opening c.finish-store.result (g.B.Eeprom.chip c.loop-slot.bench).image c.finish-store.ensures.opened (over g c).stands

pub index_of-index-requires-clause-room : goal.index_of-index-requires-clause-room
index_of-index-requires-clause-room g c =
    omega (arith, ap (length {A = KeptRecord}) c.in-Some.ensures.records, length-in_order stamp_of c.loop-slot.gathered.records.items, c.loop-slot.invariant.few, c.loop-slot.auto.slot-end, c.in_ok-room.ensures.places.1)

-- the same of the EEPROM as it is once all slots were claimed
now : (g : _) (c : In-Some g) (P : List ℕ → Type 0) → IfSome (g.B.Eeprom.chip c.new.new.bench).image P → IfSome (g.B.Eeprom.chip c.loop-slot.bench).image P
now g c P holds = subst (λ (chip : Chip). IfSome chip.image P) (sym c.loop-slot.invariant.same) holds

pub returns-clause-holds : goal.returns-clause-holds
returns-clause-holds g c =
    let at = goal.at.returns-clause-holds g c in
    holds-opened c.finish-store.result (g.B.Eeprom.chip c.loop-slot.bench) c.loop-slot.slot c.in-Some.ensures.passed.0 c.loop-slot.gathered.records.items (sym (c.finish-store.ensures.cells ∙ all_claimed g at.In-Some)) (opened g at.After-finish-store)
    (now g at.In-Some _ (whole g at.In-Some)) (now g at.In-Some _ (opens g at.In-Some))

pub returns-clause-stand : goal.returns-clause-stand
returns-clause-stand g c =
    let at = goal.at.returns-clause-stand g c in
    let chip = g.B.Eeprom.chip c.loop-slot.bench in
    let all = all_claimed g at.In-Some in
    let cells = ap (λ (index : Index). index.cells) c.in_ok-room.ensures.index in
    let store_over = finished-over c.loop-slot.opening c.finish-store.result chip c.finish-store.ensures.stands c.finish-store.ensures.cells (over g at.After-finish-store) in record {
      over = store_over;
      index = indexed c.index_of-index.result c.finish-store.result chip c.in_ok-room.room.index.cells c.loop-slot.slot c.in-Some.ensures.passed.0 c.loop-slot.gathered.records.items c.in-Some.records.items
          c.index_of-index.ensures.cells c.index_of-index.ensures.both (cells ∙ (c.cells-cells.ensures.number ∙ (sym c.loop-slot.invariant.opening.cells_are ∙ all))) c.finish-store.ensures.idle (sym (c.finish-store.ensures.cells ∙ all))
          (c.index_of-index.ensures.filled chip store_over) (opened g at.After-finish-store)
          (now g at.In-Some _ (whole g at.In-Some)) c.in-Some.ensures.passed.2.apart (c.in-Some.ensures.records);
      together = c.index_of-index.ensures.idle ∙ sym c.finish-store.ensures.idle;
    }

pub returns-in_default-clause-most_read : goal.returns-in_default-clause-most_read
returns-in_default-clause-most_read g c =
    most-read c.loop-slot.opening (g.B.Eeprom.octets_read c.args.bench.now) (g.B.Eeprom.octets_read c.new.new.bench) (g.B.Eeprom.octets_read c.loop-slot.bench) c.loop-slot.invariant.opening.few
    (omega (arith, c.loop-slot.invariant.opening.cells_are, c.cells-cells.ensures.number, c.cells-cells.ensures.many)) c.new.ensures.most_read c.loop-slot.invariant.opening.read

pub returns-clause-most_read : goal.returns-clause-most_read
returns-clause-most_read g c =
    most-read c.loop-slot.opening (g.B.Eeprom.octets_read c.args.bench.now) (g.B.Eeprom.octets_read c.new.new.bench) (g.B.Eeprom.octets_read c.loop-slot.bench) c.loop-slot.invariant.opening.few
    (omega (arith, c.loop-slot.invariant.opening.cells_are, c.cells-cells.ensures.number, c.cells-cells.ensures.many)) c.new.ensures.most_read c.loop-slot.invariant.opening.read

pub returns-clause-opens : goal.returns-clause-opens
returns-clause-opens g c =
    let at = goal.at.returns-clause-opens g c in
    opens-kept (g.B.Eeprom.chip c.args.bench.now) (g.B.Eeprom.chip c.new.new.bench) c.new.ensures.frame.store.keeps c.in_ok-opening.ensures.told (opens g at.In-Some)

pub returns-clause-octets_read : goal.returns-clause-octets_read
returns-clause-octets_read g c =
    let at = goal.at.returns-clause-octets_read g c in
    let old = g.B.Eeprom.chip c.args.bench.now in
    let start = g.B.Eeprom.chip c.new.new.bench in
    reads-card old start c.finish-store.result.chains.cells c.loop-slot.slot (Some c.in-Some.ensures.passed.0) c.loop-slot.gathered.records.items (g.B.Eeprom.octets_read c.args.bench.now) (g.B.Eeprom.octets_read c.loop-slot.bench)
    c.new.ensures.frame.store.closed (c.finish-store.ensures.cells ∙ all_claimed g at.In-Some) (whole g at.In-Some)
    (read-told c.loop-slot.opening c.finish-store.result old start (g.B.Eeprom.octets_read c.args.bench.now) (g.B.Eeprom.octets_read c.new.new.bench) (g.B.Eeprom.octets_read c.loop-slot.bench) c.new.ensures.frame.store.closed
    c.finish-store.ensures.opened c.finish-store.ensures.weight c.finish-store.ensures.cells c.loop-slot.invariant.opening.over.stands
    (subst (λ (n : ℕ). IfSome old.image (λ image. is_gate_open image ≡ false → Becomes (RisesBy (front_octets n)) (g.B.Eeprom.octets_read c.args.bench.now) (g.B.Eeprom.octets_read c.new.new.bench)))
    (sym c.loop-slot.invariant.opening.cells_are) c.in_ok-opening.ensures.octets_read) c.loop-slot.invariant.opening.read)

-- by then no record was read
pub returns-in_err-room-clause-no_memory : goal.returns-in_err-room-clause-no_memory
returns-in_err-room-clause-no_memory g c = λ _. (c.in_ok-opening.opening.chains.cells, c.in_ok-opening.ensures.reads_front)

pub returns-in_err-for_cells-clause-no_memory : goal.returns-in_err-for_cells-clause-no_memory
returns-in_err-for_cells-clause-no_memory g c = λ _. (c.in_ok-opening.opening.chains.cells, c.in_ok-opening.ensures.reads_front)

pub returns-in_err-for_cells-clause-frame : goal.returns-in_err-for_cells-clause-frame
returns-in_err-for_cells-clause-frame g c = record {
  store = c.new.ensures.frame.store;
  counts = first_of (
    search (rules, c.in_ok-opening.ensures.frame.counts.1, c.from_residual-in_err-for_cells.ensures),
    grind (arith, common_steps, c.in_ok-opening.ensures.frame.counts.1, c.from_residual-in_err-for_cells.ensures),
  );
}

pub returns-in_err-rooms-clause-no_memory : goal.returns-in_err-rooms-clause-no_memory
returns-in_err-rooms-clause-no_memory g c = λ _. (c.in_ok-opening.opening.chains.cells, c.in_ok-opening.ensures.reads_front)

pub returns-in_err-rooms-clause-frame : goal.returns-in_err-rooms-clause-frame
returns-in_err-rooms-clause-frame g c = record {
  store = c.new.ensures.frame.store;
  counts = first_of (
    search (rules, c.in_ok-opening.ensures.frame.counts.1, c.from_residual-in_err-rooms.ensures),
    grind (arith, common_steps, c.in_ok-opening.ensures.frame.counts.1, c.from_residual-in_err-rooms.ensures),
  );
}

pub returns-in_err-command-clause-no_memory : goal.returns-in_err-command-clause-no_memory
returns-in_err-command-clause-no_memory g c = λ _. (c.in_ok-opening.opening.chains.cells, c.in_ok-opening.ensures.reads_front)

pub returns-in_err-command-clause-frame : goal.returns-in_err-command-clause-frame
returns-in_err-command-clause-frame g c = record {
  store = c.new.ensures.frame.store;
  counts = first_of (
    search (rules, c.in_ok-opening.ensures.frame.counts.1, c.from_residual-in_err-command.ensures),
    grind (arith, common_steps, c.in_ok-opening.ensures.frame.counts.1, c.from_residual-in_err-command.ensures),
  );
}

pub add_slot-requires-clause-fits : goal.add_slot-requires-clause-fits
add_slot-requires-clause-fits g c =
    fits-slot c.deref.result.now c.loop-slot.gathered.records.size c.loop-slot.opening.weight c.in_ok-opening-2.opening.weight c.loop-slot.gathered.records.cells (rw (sym c.deref.ensures.0) at c.in_ok-opening-2.ensures.weight) c.loop-slot.invariant.size
    (omega (arith, c.in_ok-opening-2.ensures.few, c.in_ok-opening-2.ensures.cells, c.loop-slot.invariant.opening.cells_are, c.loop-slot.invariant.capacity, c.cells-cells.ensures.number))

pub loop-slot-init : goal.loop-slot-init
loop-slot-init g c =
    let start = c.in_ok-for_cells.ensures in
    let none = ap (λ (pool : Pool). pool.items) start in
    record {
      opening = search rules;
      gathers = gathered-none c.in_ok-opening.opening (g.B.Eeprom.chip c.new.new.bench).image c.in_ok-for_cells.field-0.items (search rules) none;
      few = omega (arith, ap (length {A = KeptRecord}) none);
      capacity = ap (λ (pool : Pool). pool.cells) start;
      size = omega (arith, ap (λ (pool : Pool). pool.size) start);
      same = refl;
      faults = refl;
    }
