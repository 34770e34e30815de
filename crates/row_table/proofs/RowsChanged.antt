-- A row takes the place of another, or is taken out: what the store has then, and that the index stands for it.
use Rattle.std.proofs.Common.{◌≡◌, ℕ, ◌+◌, ◌≤◌, ◌<◌, true, List, [], ◌∷◌, Option, Some, None, Result, Ok, Err, refl, sym, subst, ◌∙◌, arith}
use Rattle.std.proofs.lemmas.Option.{none-some, same_Some}
use Rattle.std.specs.Prelude.{IfSome, IsErrOf, OnOk, option_and_then}
use Rattle.eeprom.specs.Chip.{Becomes, Chip}
use Rattle.eeprom.specs.StoreOf.{Slots}
use Rattle.record_store.specs.Held.{Held, IsOver, StandsFor, contents}
use Rattle.record_store.specs.Transaction.{ChangesOnly, entries}
use Rattle.record_store.specs.declared.side.Side.TheVariants.{Committed, Working}
use Rattle.scql_base.specs.declared.records.RowRecord.{RowRecord}
use Rattle.scql_model.specs.Database.{Database}
use Rattle.scql_model.specs.Edits.{changing, removing}
use Rattle.scql_model.specs.Records.{of_row}
use Rattle.scql_model.proofs.EditLaws.{applied-cells, applied-limit}
use Rattle.catalog_codec.specs.Catalog.{row_kind}
use Rattle.catalog_codec.specs.CatalogLaws.{IsKind-row}
use Rattle.record_table.specs.Changed.{IsChanged, IsEmptied, Rewrites}
use Rattle.record_table.specs.EditableLaws.{IsEditable-row}
use Rattle.record_table.specs.Listed.{at_slot, slots_of}
use Rattle.record_table.specs.Making.{Ends, GoesOn, IsHeld, IsValidWith, Makes}
use Rattle.record_table.specs.declared.stop.Stop.{Stop}
use Rattle.record_table.specs.declared.stop.Stop.TheVariants.{Refused, Fault}
use Rattle.record_table.proofs.InPlace.{IsEditedTo-removed, Touches-taken_out}
use Rattle.record_table.proofs.Steps.{StepsTo-told}
use Rattle.record_table.proofs.TouchedSlots.{Touches-told}
use Rattle.row_index.specs.Index.{HasRows, Index, Indexes}
use Rattle.row_index.proofs.ChangedPlaces.{HasRows-changed}
use Rattle.row_table.specs.Found.{HasRowLike}

changed_rows : (index : Index) (row : RowRecord) (slot : ℕ) (old new : Option Slots) → IfSome old (HasRows index.cells index.working) → Becomes (IsChanged row_kind row slot) old new → IfSome old (HasRowLike row slot)
    → row_kind.form.fits row ≡ true → slot < index.cells → IfSome new (HasRows index.cells index.working)
changed_rows index row slot old None has_rows becomes like fits there = tt
changed_rows index row slot None (Some after) has_rows becomes like fits there = absurd (none-some (becomes after refl).0 (becomes after refl).1)
changed_rows index row slot (Some before) (Some after) has_rows becomes like fits there =
    let b = becomes after refl in
    let changed = subst (λ slots. IsChanged row_kind row slot slots after) (sym (same_Some before b.0 b.1)) b.2 in
    HasRows-changed index.cells index.working like.was row slot before after has_rows changed fits there like.at like.stamp like.table

-- The index stands where a row of the same stamp and the same table takes a row's place.
pub Indexes-row_changed : (index : Index) (old new : Held) (before after : Chip) (row : RowRecord) (slot : ℕ) → Indexes index old before → new.chains.cells ≡ old.chains.cells → slots_of new Committed after ≡ slots_of old Committed before
    → slot < old.chains.cells → row_kind.form.fits row ≡ true → IfSome (slots_of old Working before) (HasRowLike row slot) → Becomes (IsChanged row_kind row slot) (slots_of old Working before) (slots_of new Working after) → Indexes index new after
Indexes-row_changed index old new before after row slot is cells committed there fits like becomes = record {
  cells = is.cells ∙ sym cells;
  committed = subst (λ o. IfSome o (HasRows index.cells index.committed)) (sym committed) is.committed;
  working = changed_rows index row slot (slots_of old Working before) (slots_of new Working after) is.working becomes like fits (omega (arith, there, is.cells));
}

-- So where it is changed: the index stands, unless the EEPROM failed.
pub index-row_changed : (index : Index) (db : Database) (result : Result (Unit {0}) Stop) (old new : Held) (before after : Chip) (row : RowRecord) (slot : ℕ) → Indexes index old before → slot < old.chains.cells → row_kind.form.fits row ≡ true → IfSome (slots_of old Working before) (HasRowLike row slot)
    → Ends db (Ok (changing (of_row row) ∷ [])) result old new before after → (¬ IsErrOf result Fault → GoesOn old new before after) → (¬ IsErrOf result Fault → slots_of new Committed after ≡ slots_of old Committed before)
    → OnOk result (Becomes (IsChanged row_kind row slot) (slots_of old Working before) (slots_of new Working after)) → ¬ IsErrOf result Fault → Indexes index new after
index-row_changed index db (Ok u) old new before after row slot is there fits like ends goes_on committed changed fine =
    Indexes-row_changed index old new before after row slot is (goes_on fine).cells (committed fine) there fits like changed
index-row_changed index db (Err (Refused word)) old new before after row slot is there fits like ends goes_on committed changed fine =
    subst (λ chip. Indexes index new chip) (sym ends.2) (subst (λ store. Indexes index store before) (sym ends.1) is)
index-row_changed index db (Err Fault) old new before after row slot is there fits like ends goes_on committed changed fine = absurd (fine refl)

-- The slot of a row is emptied, and the store holds the database without it.
pub Makes-removed : (old new : Held) (chip : Chip) (db : Database) (slot : ℕ) (r : RowRecord) → IsHeld old Working chip db → IsOver old chip → IfSome (slots_of old Working chip) (λ slots. Some r ≡ at_slot row_kind slot slots)
    → IsValidWith db (removing (of_row r) ∷ []) → ((image : List ℕ) → StandsFor old image → Rewrites (IsEmptied slot) old new image image) → new.chains.cells ≡ old.chains.cells → new.row_limit ≡ old.row_limit
    → entries new ≤ entries old + 1 → ChangesOnly slot old new → Makes db (removing (of_row r) ∷ []) old new chip chip
Makes-removed old new chip db slot r held over there with removed cells limit few only =
    let change = removing (of_row r) ∷ [] in
    let end = StepsTo-told (IsEmptied slot) old new chip chip held.slots held.told refl (λ image told. (image, told, removed image (subst (λ o. IfSome o (StandsFor old)) told over.stands))) in
    let at = subst (λ o. IfSome o (λ slots. Some r ≡ at_slot row_kind slot slots)) held.told there in
    let edited = IsEditedTo-removed row_kind of_row IsKind-row IsEditable-row held.slots end.now slot r db held.holds held.valid (sym at) end.is with in
    record {
      room = edited.room;
      held = record {
        slots = end.now;
        told = end.told;
        cells = applied-cells db change ∙ (held.cells ∙ sym cells);
        limit = applied-limit db change ∙ (held.limit ∙ sym limit);
        holds = edited.holds;
        valid = edited.valid;
      };
      committed = end.committed;
      octets = λ after told. (after, told, omega arith);
      entries = few;
      unwritten = λ none. refl;
      touches = Touches-told _ db.next old new chip chip held.slots end.now held.told end.told (Touches-taken_out row_kind of_row IsKind-row IsEditable-row held.slots end.now slot r db old new (sym at) end.is only);
    }

-- What is committed stays where one slot is emptied.
pub committed-emptied : (old new : Held) (chip : Chip) (slot : ℕ) → IfSome chip.image (StandsFor old) → ((image : List ℕ) → StandsFor old image → Rewrites (IsEmptied slot) old new image image)
    → slots_of new Committed chip ≡ slots_of old Committed chip
committed-emptied old new chip slot stands removed = go chip.image stands
  where
    go : (o : Option (List ℕ)) → IfSome o (StandsFor old) → option_and_then (contents new Committed) o ≡ option_and_then (contents old Committed) o
    go None stands = refl
    go (Some image) stands = (removed image stands).committed
