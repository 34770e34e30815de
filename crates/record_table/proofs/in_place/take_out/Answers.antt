-- The slot is emptied, and the slots hold the database without its record.
use Rattle.std.proofs.Common.{◌≡◌, [], ◌∷◌, Some, None, refl, sym, subst, ◌∙◌, arith}
use Rattle.std.specs.Prelude.{IfSome}
use Rattle.record_store.specs.Held.{StandsFor}
use Rattle.scql_model.specs.Edits.{removing}
use Rattle.scql_model.proofs.EditLaws.{applied-cells, applied-limit}
use Rattle.record_table.specs.Changed.{IsEmptied}
use Rattle.record_table.specs.Listed.{at_slot}
use Rattle.record_table.proofs.Ending.{KeepsRows-one}
use Rattle.record_table.proofs.InPlace.{IsEditedTo-removed, Touches-taken_out}
use Rattle.record_table.proofs.Steps.{StepsTo-told, committed-stays, slots-told}
use Rattle.record_table.proofs.TouchedSlots.{Touches-told}
use Rattle.record_table.proofs.in_place.take_out.Goals as goal

pub returns : goal.returns
returns g c =
    let kind = g.R.Record.kind in
    let any = g.R.Editable.any in
    let slot = c.args.slot in
    let old = c.args.store.now in
    let new = c.remove.new.store in
    record {
      makes = λ db was chip held there over with.
          let change = removing (any was) ∷ [] in
          let end = StepsTo-told (IsEmptied slot) old new chip chip held.slots held.told refl
          (λ image told. (image, told, c.remove.ensures.removed image (subst (λ o. IfSome o (StandsFor old)) told over.stands))) in
          let at = subst (λ o. IfSome o (λ slots. Some was ≡ at_slot kind slot slots)) held.told there in
          let edited = IsEditedTo-removed kind any g.met.R.Record.lawful g.met.R.Editable.edits held.slots end.now slot was db held.holds held.valid (sym at) end.is with in
          record {
            room = edited.room;
            held = record {
              slots = end.now;
              told = end.told;
              cells = applied-cells db change ∙ (held.cells ∙ sym c.remove.ensures.cells);
              limit = applied-limit db change ∙ (held.limit ∙ sym c.remove.ensures.rows);
              holds = edited.holds;
              valid = edited.valid;
            };
            committed = end.committed;
            octets = λ after told. (after, told, omega arith);
            entries = c.remove.ensures.entries;
            unwritten = λ none. refl;
            touches = Touches-told _ db.next old new chip chip held.slots end.now held.told end.told
                (Touches-taken_out kind any g.met.R.Record.lawful g.met.R.Editable.edits held.slots end.now slot was db old new (sym at) end.is c.remove.ensures.only);
          };
      rows = λ was chip apart there over.
          KeepsRows-one kind slot was (IsEmptied slot) _ _ g.met.R.Record.lawful apart there (λ a b is. (None, is, refl))
          (slots-told (IsEmptied slot) old new chip chip over.stands (λ image told. (image, told, c.remove.ensures.removed image (subst (λ o. IfSome o (StandsFor old)) told over.stands))));
      committed = λ chip over.
          committed-stays (IsEmptied slot) old new chip chip refl (λ image told. (image, told, c.remove.ensures.removed image (subst (λ o. IfSome o (StandsFor old)) told over.stands)));
      goes_on = λ chip over. record { begun = c.remove.ensures.begun; cells = c.remove.ensures.cells; rows = c.remove.ensures.rows; told = refl; over = c.remove.ensures.over chip over };
    }
