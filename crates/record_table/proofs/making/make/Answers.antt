-- The record is added, the counter counts on, and the slots hold the database with both.
use Rattle.std.proofs.Common.{rules, ◌≡◌, ◌+◌, ◌<◌, ◌≤◌, length, Some, Ok, Err, refl, sym, ap, subst, ◌∙◌, arith}
use Rattle.std.specs.Prelude.{IfSome, drop, is_some}
use Rattle.eeprom.specs.Chip.{Becomes}
use Rattle.eeprom.specs.StoreOf.{Slots, store_of, image_size, cells_for, weight_of}
use Rattle.record_store.specs.Held.{contents}
use Rattle.record_store.specs.Put.{weight_with}
use Rattle.record_store.specs.declared.refusal.StoreRefusal.TheVariants.{Full}
use Rattle.record_store.specs.declared.side.Side.{Side}
use Rattle.record_store.specs.declared.side.Side.TheVariants.{Committed, Working}
use Rattle.record_store.specs.Transaction.{ChangesOnly}
use Rattle.record_store.proofs.Fronts.{Keeps-then}
use Rattle.scql_model.specs.Records.{counter_record}
use Rattle.scql_model.specs.Edits.{making}
use Rattle.scql_model.proofs.Touching.{cells_written-making}
use Rattle.scql_model.proofs.EditLaws.{applied-cells, applied-limit}
use Rattle.catalog_codec.specs.Catalog.{counter_kind}
use Rattle.record_table.specs.Changed.{IsAdded, IsChanged, Rewrites}
use Rattle.record_table.specs.Listed.{at_slot, slots_of}
use Rattle.record_table.specs.Making.{IsMade}
use Rattle.record_table.proofs.HeldRecords.{counter-listed}
use Rattle.record_table.proofs.ListedChanges.{alone-at}
use Rattle.record_table.proofs.Ending.{Ends-store, KeepsRows-made, at-told, counter-fits, full-store, made-told, not_fault, octets-both, IsMade-both}
use Rattle.record_table.proofs.Made.{IsMadeOf-slots, Touches-made, full-made, octets-made}
use Rattle.record_table.proofs.Steps.{Both, StepsTo-told, committed-stays, rewrites-both, slots-same, slots-told, unless-told}
use Rattle.record_table.proofs.TouchedSlots.{Touches-told}
use Rattle.record_table.proofs.making.make.Given.{Over}
use Rattle.record_table.proofs.making.make.Goals as goal

-- what is written of the counter, by its slot and its value
counted : (g : Over) (c : goal.In_ok-change g) → Becomes (Rewrites (IsChanged counter_kind (c.args.counter.now.value + 1) c.args.counter.now.slot) c.add.new.store c.change.new.store) (g.B.Eeprom.chip c.add.new.bench).image
    (g.B.Eeprom.chip c.change.new.bench).image
counted g c =
    subst (λ counter. Becomes (Rewrites (IsChanged counter_kind (counter.value + 1) counter.slot) c.add.new.store c.change.new.store) (g.B.Eeprom.chip c.add.new.bench).image (g.B.Eeprom.chip c.change.new.bench).image)
    c.counter.view_is c.in_ok-change.ensures.put

-- in its slot alone
only_counter : (g : Over) (c : goal.In_ok-change g) → ChangesOnly c.args.counter.now.slot c.add.new.store c.change.new.store
only_counter g c = subst (λ counter. ChangesOnly counter.slot c.add.new.store c.change.new.store) c.counter.view_is c.in_ok-change.ensures.only

-- both writes
both : (g : Over) (c : goal.In_ok-change g)
    → Becomes (Rewrites (Both (IsAdded g.R.Record.kind c.args.value.now c.in_ok-slot.slot) (IsChanged counter_kind (c.args.counter.now.value + 1) c.args.counter.now.slot)) c.args.store.now c.change.new.store)
    (g.B.Eeprom.chip c.args.bench.now).image (g.B.Eeprom.chip c.change.new.bench).image
both g c = rewrites-both _ _ _ _ _ _ _ _ c.in_ok-slot.ensures.put (counted g c)

pub returns-in_err-slot-clause-ends : goal.returns-in_err-slot-clause-ends
returns-in_err-slot-clause-ends g c = λ db held key with.
    let kind = g.R.Record.kind in
    let x = c.args.value.now in
    let chip = g.B.Eeprom.chip c.args.bench.now in
    Ends-store db (Ok (making db (g.R.Editable.any x))) c.from_residual.result c.in_err-slot.field-0.0 c.args.store.now c.add.new.store chip (g.B.Eeprom.chip c.add.new.bench) c.from_residual.ensures.1 λ full.
    let is = c.in_err-slot.was ∙ ap (λ e. Err e) full in
    let over = at-told c.args.store.now Working chip held.slots (λ slots. c.args.store.now.chains.cells < weight_of slots + cells_for (length (kind.form.spell x))) held.told (c.add.ensures.full is) in
    let same = c.add.ensures.unchanged is in
    (full-made kind (g.R.Editable.any) g.met.R.Record.lawful g.met.R.Editable.edits db x held.slots held.holds (omega (arith, held.cells, over)), same.0, ap g.B.Eeprom.chip same.1)

-- the counter has room, where the slots are told
never : (g : Over) (c : goal.After-from_residual-in_err-change g) → c.in_err-change.field-0.0 ≡ Full → (slots : Slots) → slots_of c.args.store.now Working (g.B.Eeprom.chip c.args.bench.now) ≡ Some slots → ⊥
never g c full slots here =
    let kind = g.R.Record.kind in
    let x = c.args.value.now in
    let chip = g.B.Eeprom.chip c.args.bench.now in
    let counter = c.args.counter.now in
    let is = c.in_err-change.was ∙ ap (λ e. Err e) full in
    let added = StepsTo-told (IsAdded kind x c.in_ok-slot.slot) c.args.store.now c.add.new.store chip (g.B.Eeprom.chip c.add.new.bench) slots here c.in_ok-slot.ensures.told c.in_ok-slot.ensures.put in
    let within = at-told c.args.store.now Working chip slots (λ slots. weight_with c.in_ok-slot.slot (kind.form.spell x) slots ≤ c.args.store.now.chains.cells) here c.in_ok-slot.ensures.within in
    let over = at-told c.add.new.store Working (g.B.Eeprom.chip c.add.new.bench) added.now (λ slots. c.add.new.store.chains.cells < weight_with counter.slot (counter_record.spell (counter.value + 1)) slots) added.told
    (subst (λ counter. IfSome (g.B.Eeprom.chip c.add.new.bench).image (λ image. IfSome (contents c.add.new.store Working image) (λ slots. c.add.new.store.chains.cells < weight_with counter.slot (counter_record.spell (counter.value + 1)) slots)))
    c.counter.view_is (c.change.ensures.full is)) in
    let at = subst (λ o. IfSome o (λ slots. Some counter.value ≡ at_slot counter_kind counter.slot slots)) here c.requires.counter.at in
    counter-fits kind x c.in_ok-slot.slot counter.slot counter.value (counter.value + 1) c.args.store.now.chains.cells slots added.now added.is (sym at) within (omega (arith, over, c.in_ok-slot.ensures.cells))

-- where the record has no room nothing is done
unadded : (g : Over) (c : goal.After-from_residual g) (side : Side) → c.in_err-slot.field-0.0 ≡ Full → slots_of c.add.new.store side (g.B.Eeprom.chip c.add.new.bench) ≡ slots_of c.args.store.now side (g.B.Eeprom.chip c.args.bench.now)
unadded g c side full =
    let same = c.add.ensures.unchanged (c.in_err-slot.was ∙ ap (λ e. Err e) full) in
    slots-same c.args.store.now c.add.new.store side (g.B.Eeprom.chip c.args.bench.now) (g.B.Eeprom.chip c.add.new.bench) same.0 (ap g.B.Eeprom.chip same.1)

-- nor is anything told of what has no room behind the record
uncounted : (g : Over) (c : goal.After-from_residual-in_err-change g) (side : Side) → c.in_err-change.field-0.0 ≡ Full → slots_of c.change.new.store side (g.B.Eeprom.chip c.change.new.bench) ≡ slots_of c.args.store.now side (g.B.Eeprom.chip c.args.bench.now)
uncounted g c side full =
    let same = c.change.ensures.unchanged (c.in_err-change.was ∙ ap (λ e. Err e) full) in
    unless-told c.args.store.now c.change.new.store side (g.B.Eeprom.chip c.args.bench.now) (g.B.Eeprom.chip c.change.new.bench) c.requires.open.over.stands (ap (λ bench. is_some (g.B.Eeprom.chip bench).image) same.1 ∙ c.in_ok-slot.ensures.told)
    (never g c full)

pub returns-in_err-change-clause-ends : goal.returns-in_err-change-clause-ends
returns-in_err-change-clause-ends g c = λ db held key with.
    Ends-store db (Ok (making db (g.R.Editable.any c.args.value.now))) c.from_residual-in_err-change.result c.in_err-change.field-0.0 c.args.store.now c.change.new.store (g.B.Eeprom.chip c.args.bench.now) (g.B.Eeprom.chip c.change.new.bench)
    c.from_residual-in_err-change.ensures.1 λ full. absurd (never g c full held.slots held.told)

pub returns-clause-ends : goal.returns-clause-ends
returns-clause-ends g c = λ db held key with.
    let kind = g.R.Record.kind in
    let any = g.R.Editable.any in
    let edits = g.met.R.Editable.edits in
    let x = c.args.value.now in
    let chip = g.B.Eeprom.chip c.args.bench.now in
    let counter = c.args.counter.now in
    let slot = c.in_ok-slot.slot in
    let end = StepsTo-told _ c.args.store.now c.change.new.store chip (g.B.Eeprom.chip c.change.new.bench) held.slots held.told (c.in_ok-change.ensures.told ∙ c.in_ok-slot.ensures.told) (both g c) in
    let at = subst (λ o. IfSome o (λ slots. Some counter.value ≡ at_slot counter_kind counter.slot slots)) held.told c.requires.counter.at in
    let next : counter.value ≡ db.next = alone-at counter_kind held.slots counter.slot counter.value db.next (sym at) (counter-listed held.slots db held.holds) in
    let within = at-told c.args.store.now Working chip held.slots (λ slots. weight_with slot (kind.form.spell x) slots ≤ c.args.store.now.chains.cells) held.told c.in_ok-slot.ensures.within in
    let made = subst (λ n. IsMade kind x slot counter.slot (n + 1) held.slots end.now) next (IsMade-both kind x slot counter.slot (counter.value + 1) held.slots end.now end.is) in
    let new = IsMadeOf-slots kind any g.met.R.Record.lawful edits db x slot counter.slot held.slots end.now held.holds held.valid key (omega (arith, next, c.requires.counter.left))
    (omega (arith, c.in_ok-slot.ensures.there, held.cells, held.holds.cells)) (sym at ∙ ap (λ n. Some n) next) made (omega (arith, within, held.cells)) with in
    let octets = octets-made kind any g.met.R.Record.lawful edits db x in (
      making db (any x),
      refl,
      record {
        room = new.room;
        held = record {
          slots = end.now;
          told = end.told;
          cells = applied-cells db (making db (any x)) ∙ (held.cells ∙ sym (c.in_ok-change.ensures.cells ∙ c.in_ok-slot.ensures.cells));
          limit = applied-limit db (making db (any x)) ∙ (held.limit ∙ sym (c.in_ok-change.ensures.rows ∙ c.in_ok-slot.ensures.rows));
          holds = new.holds;
          valid = new.valid;
        };
        committed = end.committed;
        octets = octets-both _ _ _ _ _ _ c.in_ok-slot.ensures.octets_written c.in_ok-change.ensures.octets_written (omega (arith, octets));
        entries = omega (arith, c.in_ok-slot.ensures.entries, c.in_ok-change.ensures.entries);
        unwritten = λ none. absurd (omega (arith, none, cells_written-making db (any x)));
        touches = Touches-told _ db.next c.args.store.now c.change.new.store chip (g.B.Eeprom.chip c.change.new.bench) held.slots end.now held.told end.told (Touches-made kind any g.met.R.Record.lawful edits db x slot counter.slot held.slots
            end.now c.args.store.now c.add.new.store c.change.new.store key (omega (arith, next, c.requires.counter.left)) (omega (arith, c.in_ok-slot.ensures.there, held.cells, held.holds.cells)) (sym at ∙ ap (λ n. Some n) next) made new.valid
            c.in_ok-slot.ensures.only (only_counter g c));
      },
    )

pub returns-clause-made : goal.returns-clause-made
returns-clause-made g c =
    made-told g.R.Record.kind c.args.value.now _ _ _ _ _
    (slots-told _ c.args.store.now c.change.new.store (g.B.Eeprom.chip c.args.bench.now) (g.B.Eeprom.chip c.change.new.bench) c.requires.open.over.stands (both g c))

pub returns-clause-rows : goal.returns-clause-rows
returns-clause-rows g c = λ apart.
    KeepsRows-made g.R.Record.kind c.args.value.now _ _ _ _ _ _ g.met.R.Record.lawful apart c.requires.counter.at
    (slots-told _ c.args.store.now c.change.new.store (g.B.Eeprom.chip c.args.bench.now) (g.B.Eeprom.chip c.change.new.bench) c.requires.open.over.stands (both g c))

pub returns-in_err-slot-clause-leaves : goal.returns-in_err-slot-clause-leaves
returns-in_err-slot-clause-leaves g c = record {
  goes_on = search rules;
  refused = λ word is. unadded g c Working (full-store c.from_residual.result c.in_err-slot.field-0.0 c.from_residual.ensures.1 (not_fault c.from_residual.result word is));
  committed = λ no_fault. unadded g c Committed (full-store c.from_residual.result c.in_err-slot.field-0.0 c.from_residual.ensures.1 no_fault);
  moments = search rules;
  behind = search rules;
  cause = search rules;
}

pub returns-in_err-change-clause-leaves : goal.returns-in_err-change-clause-leaves
returns-in_err-change-clause-leaves g c = record {
  goes_on = search rules;
  refused = λ word is.
      uncounted g c Working (full-store c.from_residual-in_err-change.result c.in_err-change.field-0.0 c.from_residual-in_err-change.ensures.1 (not_fault c.from_residual-in_err-change.result word is));
  committed = λ no_fault. uncounted g c Committed (full-store c.from_residual-in_err-change.result c.in_err-change.field-0.0 c.from_residual-in_err-change.ensures.1 no_fault);
  moments = Keeps-then store_of _ _ _ c.add.ensures.moments c.change.ensures.moments;
  behind = Keeps-then (drop (image_size c.args.store.now.chains.cells)) _ _ _ c.add.ensures.behind (rw c.in_ok-slot.ensures.cells at c.change.ensures.behind);
  cause = search rules;
}

pub returns-clause-leaves : goal.returns-clause-leaves
returns-clause-leaves g c = record {
  goes_on = search rules;
  refused = search rules;
  committed = λ no_fault. committed-stays _ c.args.store.now c.change.new.store (g.B.Eeprom.chip c.args.bench.now) (g.B.Eeprom.chip c.change.new.bench) (c.in_ok-change.ensures.told ∙ c.in_ok-slot.ensures.told) (both g c);
  moments = Keeps-then store_of _ _ _ c.add.ensures.moments c.change.ensures.moments;
  behind = search rules;
  cause = search rules;
}
