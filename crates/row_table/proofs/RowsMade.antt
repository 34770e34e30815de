-- A row is made: the index with it stands for the store.
use Rattle.std.proofs.Common.{◌≡◌, ℕ, ◌+◌, ◌<◌, Bool, true, List, [], ◌∷◌, ◌++◌, Option, Some, None, Ok, sym, ap, subst, refl, ◌∙◌, arith}
use Rattle.std.proofs.lemmas.Option.{none-some, same_Some}
use Rattle.std.specs.Prelude.{IfSome}
use Rattle.std.specs.List.{list_all, AllByRecursion}
use Rattle.std.proofs.lemmas.Bool.{and_parts}
use Rattle.eeprom.specs.Chip.{Becomes, Chip}
use Rattle.eeprom.specs.StoreOf.{Slots}
use Rattle.record_store.specs.Held.{Held, IsOver}
use Rattle.record_store.specs.declared.side.Side.TheVariants.{Committed, Working}
use Rattle.scql_base.specs.declared.records.RowRecord.{RowRecord}
use Rattle.scql_model.specs.Database.{Database, IsValid}
use Rattle.scql_model.specs.Edits.{applied, making}
use Rattle.scql_model.specs.Records.{of_row}
use Rattle.catalog_codec.specs.Catalog.{counter_kind, row_kind}
use Rattle.record_table.specs.EditableLaws.{IsEditable-row}
use Rattle.record_table.specs.Listed.{at_slot, listed, slots_of}
use Rattle.record_table.specs.Making.{Ends, IsHeld, IsMade}
use Rattle.row_index.specs.Index.{ChangesWorking, HasRows, Index, Indexes, IsOneMoreRow}
use Rattle.row_index.proofs.IndexLaws.{IsOneMoreRow-made}

-- in a valid database the rows have stamps below the next
below-next : (db : Database) (store : Held) (chip : Chip) (held : IsHeld store Working chip db) → AllByRecursion (λ (row : RowRecord). row.stamp < db.next) (listed row_kind held.slots)
below-next db store chip held = subst (AllByRecursion (λ (row : RowRecord). row.stamp < db.next)) (sym (IsEditable-row.held held.slots db held.holds)) (IsEditable-row.below db held.valid)

all-last : {X : Type 0} (p : X → Bool) (xs : List X) (x : X) → list_all p (xs ++ x ∷ []) ≡ true → p x ≡ true
all-last p [] x all = (and_parts (p x) true all).0
all-last p (y ∷ ys) x all = all-last p ys x (and_parts (p y) (list_all p (ys ++ x ∷ [])) all).1

-- The index stands for the store in which the row is made that has the next stamp.
pub Indexes-inserted : {T : Type 0} (index next : Index) (db : Database) (x : T) (row : RowRecord) (old new : Held) (before after : Chip) (slot counter was : ℕ) → Indexes index old before → IsHeld old Working before db → row.stamp ≡ db.next
    → Ends db (Ok (making db (of_row row))) (Ok x) old new before after → new.chains.cells ≡ old.chains.cells → IsOver new after → slot < old.chains.cells
    → IfSome (slots_of old Working before) (λ slots. Some was ≡ at_slot counter_kind counter slots) → Becomes (IsMade row_kind row slot counter (was + 1)) (slots_of old Working before) (slots_of new Working after) → ChangesWorking index next
    → ((before : Slots) → HasRows index.cells index.working before → IfSome (slots_of new Working after) (λ after. IsOneMoreRow row.table slot before after → HasRows next.cells next.working after)) → Indexes next new after
Indexes-inserted index next db x row old new before after slot counter was is held stamp ends cells over there at made changes added =
    let edits : making db (of_row row) ≡ ends.0 = cc (ends.1) in
    let valid : IsValid (applied db (making db (of_row row))) = subst (λ edits. IsValid (applied db edits)) (sym edits) ends.2.held.valid in
    let fits : row_kind.form.fits row ≡ true = all-last row_kind.form.fits db.rows row valid.rows.limits in
    let below = subst (λ (n : ℕ). AllByRecursion (λ (row : RowRecord). row.stamp < n) (listed row_kind held.slots)) (sym stamp) (below-next db old before held) in
    let has_rows : HasRows index.cells index.working held.slots = subst (λ o. IfSome o (HasRows index.cells index.working)) held.told is.working in
    let counted : Some was ≡ at_slot counter_kind counter held.slots = subst (λ o. IfSome o (λ slots. Some was ≡ at_slot counter_kind counter slots)) held.told at in
    record {
      cells = changes.cells ∙ is.cells ∙ sym cells;
      committed = rw (ends.2.committed, changes.cells, changes.committed) is.committed;
      working = told (slots_of new Working after) refl fits below has_rows counted (added held.slots has_rows);
    }
  where
    told : (o : Option Slots) → slots_of new Working after ≡ o → row_kind.form.fits row ≡ true → AllByRecursion (λ (other : RowRecord). other.stamp < row.stamp) (listed row_kind held.slots) → HasRows index.cells index.working held.slots
        → Some was ≡ at_slot counter_kind counter held.slots → IfSome o (λ after. IsOneMoreRow row.table slot held.slots after → HasRows next.cells next.working after) → IfSome o (HasRows next.cells next.working)
    told None now fits below has_rows counted added = tt
    told (Some slots) now fits below has_rows counted added =
        let m = made slots now in
        let more = subst (λ (was_slots : Slots). IsMade row_kind row slot counter (was + 1) was_slots slots) (sym (same_Some held.slots m.0 (sym held.told ∙ m.1))) m.2 in
        added (IsOneMoreRow-made row slot counter was (was + 1) held.slots slots more counted fits (omega (arith, there, is.cells, has_rows.all)) below)
