-- The slot is changed, and the slots hold the database with its record in the other's place.
use Rattle.std.proofs.Common.{rules, ◌≡◌, ◌<◌, ◌≤◌, [], ◌∷◌, Some, Ok, Err, refl, sym, ap, subst, ◌∙◌, arith}
use Rattle.std.specs.Prelude.{IfSome}
use Rattle.record_store.specs.Put.{weight_with}
use Rattle.record_store.specs.declared.refusal.StoreRefusal.TheVariants.{Full}
use Rattle.record_store.specs.declared.side.Side.{Side}
use Rattle.record_store.specs.declared.side.Side.TheVariants.{Committed, Working}
use Rattle.scql_model.specs.Edits.{changing}
use Rattle.scql_model.proofs.EditLaws.{applied-cells, applied-limit}
use Rattle.record_table.specs.Changed.{IsChanged}
use Rattle.record_table.specs.Listed.{at_slot, slots_of}
use Rattle.record_table.proofs.Ending.{Ends-store, KeepsRows-one, at-told, full-store, not_fault}
use Rattle.record_table.proofs.InPlace.{IsEditedTo-changed, Touches-in_place, full-changed}
use Rattle.record_table.proofs.Made.{cells-any}
use Rattle.record_table.proofs.Steps.{StepsTo-told, committed-stays, slots-same, slots-told}
use Rattle.record_table.proofs.TouchedSlots.{Touches-told}
use Rattle.record_table.proofs.in_place.change_in_place.Given.{Over}
use Rattle.record_table.proofs.in_place.change_in_place.Goals as goal

pub returns-in_err-change-clause-ends : goal.returns-in_err-change-clause-ends
returns-in_err-change-clause-ends g c = λ db was held there same with.
    let kind = g.R.Record.kind in
    let x = c.args.value.now in
    let chip = g.B.Eeprom.chip c.args.bench.now in
    Ends-store db (Ok (changing (g.R.Editable.any x) ∷ [])) c.from_residual.result c.in_err-change.field-0.0 c.args.store.now c.change.new.store chip (g.B.Eeprom.chip c.change.new.bench) c.from_residual.ensures.1 λ full.
    let is = c.in_err-change.was ∙ ap (λ e. Err e) full in
    let at = subst (λ o. IfSome o (λ slots. Some was ≡ at_slot kind c.args.slot slots)) held.told there in
    let over = at-told c.args.store.now Working chip held.slots (λ slots. c.args.store.now.chains.cells < weight_with c.args.slot (kind.form.spell x) slots) held.told (c.change.ensures.full is) in
    let unchanged = c.change.ensures.unchanged is in (
      full-changed kind g.R.Editable.any g.met.R.Record.lawful g.met.R.Editable.edits held.slots c.args.slot was x db held.holds held.valid (sym at) same (omega (arith, held.cells, over)),
      unchanged.0,
      ap g.B.Eeprom.chip unchanged.1,
    )

-- where the record has no room nothing is done
unchanged : (g : Over) (c : goal.After-from_residual g) (side : Side) → c.in_err-change.field-0.0 ≡ Full → slots_of c.change.new.store side (g.B.Eeprom.chip c.change.new.bench) ≡ slots_of c.args.store.now side (g.B.Eeprom.chip c.args.bench.now)
unchanged g c side full =
    let same = c.change.ensures.unchanged (c.in_err-change.was ∙ ap (λ e. Err e) full) in
    slots-same c.args.store.now c.change.new.store side (g.B.Eeprom.chip c.args.bench.now) (g.B.Eeprom.chip c.change.new.bench) same.0 (ap g.B.Eeprom.chip same.1)

pub returns-clause-ends : goal.returns-clause-ends
returns-clause-ends g c = λ db was held there same with.
    let kind = g.R.Record.kind in
    let any = g.R.Editable.any in
    let x = c.args.value.now in
    let chip = g.B.Eeprom.chip c.args.bench.now in
    let change = changing (any x) ∷ [] in
    let end = StepsTo-told (IsChanged kind x c.args.slot) c.args.store.now c.change.new.store chip (g.B.Eeprom.chip c.change.new.bench) held.slots held.told c.in_ok-change.ensures.told c.in_ok-change.ensures.put in
    let at = subst (λ o. IfSome o (λ slots. Some was ≡ at_slot kind c.args.slot slots)) held.told there in
    let within = at-told c.args.store.now Working chip held.slots (λ slots. weight_with c.args.slot (kind.form.spell x) slots ≤ c.args.store.now.chains.cells) held.told c.in_ok-change.ensures.within in
    let new = IsEditedTo-changed kind any g.met.R.Record.lawful g.met.R.Editable.edits held.slots end.now c.args.slot was x db held.holds held.valid (sym at) same (omega (arith, within, held.cells)) end.is with in
    let cells = cells-any kind any g.met.R.Record.lawful g.met.R.Editable.edits x in (
      change,
      refl,
      record {
        room = new.room;
        held = record {
          slots = end.now;
          told = end.told;
          cells = applied-cells db change ∙ (held.cells ∙ sym c.in_ok-change.ensures.cells);
          limit = applied-limit db change ∙ (held.limit ∙ sym c.in_ok-change.ensures.rows);
          holds = new.holds;
          valid = new.valid;
        };
        committed = end.committed;
        octets = λ after told. (let wrote = c.in_ok-change.ensures.octets_written after told in (wrote.0, wrote.1, omega (arith, wrote.2, cells)));
        entries = c.in_ok-change.ensures.entries;
        unwritten = λ none. absurd (omega (arith, none));
        touches = Touches-told _ db.next c.args.store.now c.change.new.store chip (g.B.Eeprom.chip c.change.new.bench) held.slots end.now held.told end.told (Touches-in_place kind any g.met.R.Record.lawful g.met.R.Editable.edits held.slots end.now
            c.args.slot was x db c.args.store.now c.change.new.store held.holds held.valid (sym at) same end.is new.valid c.in_ok-change.ensures.only);
      },
    )

pub returns-clause-rows : goal.returns-clause-rows
returns-clause-rows g c = λ was apart there.
    let kind = g.R.Record.kind in
    KeepsRows-one kind c.args.slot was (IsChanged kind c.args.value.now c.args.slot) _ _ g.met.R.Record.lawful apart there (λ a b is. (Some (kind.form.spell c.args.value.now), is, g.met.R.Record.lawful.begins c.args.value.now))
    (slots-told (IsChanged kind c.args.value.now c.args.slot) c.args.store.now c.change.new.store (g.B.Eeprom.chip c.args.bench.now) (g.B.Eeprom.chip c.change.new.bench) c.requires.open.over.stands c.in_ok-change.ensures.put)

pub returns-clause-changed : goal.returns-clause-changed
returns-clause-changed g c =
    slots-told (IsChanged g.R.Record.kind c.args.value.now c.args.slot) c.args.store.now c.change.new.store (g.B.Eeprom.chip c.args.bench.now) (g.B.Eeprom.chip c.change.new.bench) c.requires.open.over.stands c.in_ok-change.ensures.put

pub returns-in_err-change-clause-leaves : goal.returns-in_err-change-clause-leaves
returns-in_err-change-clause-leaves g c = record {
  goes_on = search rules;
  refused = λ word is. unchanged g c Working (full-store c.from_residual.result c.in_err-change.field-0.0 c.from_residual.ensures.1 (not_fault c.from_residual.result word is));
  committed = λ no_fault. unchanged g c Committed (full-store c.from_residual.result c.in_err-change.field-0.0 c.from_residual.ensures.1 no_fault);
  moments = search rules;
  behind = search rules;
  cause = search rules;
}

pub returns-clause-leaves : goal.returns-clause-leaves
returns-clause-leaves g c = record {
  goes_on = search rules;
  refused = search rules;
  committed = λ no_fault. committed-stays _ c.args.store.now c.change.new.store (g.B.Eeprom.chip c.args.bench.now) (g.B.Eeprom.chip c.change.new.bench) c.in_ok-change.ensures.told c.in_ok-change.ensures.put;
  moments = search rules;
  behind = search rules;
  cause = search rules;
}
