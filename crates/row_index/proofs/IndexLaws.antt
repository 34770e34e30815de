-- Laws of an index: for which stores it stands after a change.
use Rattle.std.proofs.Common.{◌≡◌, ℕ, suc, ◌<◌, Bool, true, false, List, length, Option, Some, None, get_or, inl, inr, eqb, refl, sym, ap, ◌∙◌, arith, subst}
use Rattle.std.proofs.lemmas.Bool.{cases_Bool, eqb-true, eqb-false}
use Rattle.std.proofs.lemmas.List.{get_or-set_other, get_or-set_same, length-set}
use Rattle.std.proofs.lemmas.Option.{none-some, same_Some}
use Rattle.std.specs.Prelude.{IfSome, is_some, option_and_then}
use Rattle.std.specs.List.{AllByRecursion, count_by}
use Rattle.eeprom.specs.Chip.{Becomes, Chip}
use Rattle.eeprom.specs.Slots.{has, in_order}
use Rattle.eeprom.specs.StoreOf.{Slots}
use Rattle.eeprom.proofs.InOrder.{count-below, count_by-in_order}
use Rattle.record_store.specs.Held.{Held, contents}
use Rattle.record_store.specs.declared.side.Side.TheVariants.{Committed, Working}
use Rattle.scql_base.specs.declared.records.RowRecord.{RowRecord}
use Rattle.catalog_codec.specs.Catalog.{counter_kind, row_kind}
use Rattle.catalog_codec.specs.CatalogLaws.{HaveOtherMarks-row-counter, IsKind-counter, IsKind-row}
use Rattle.catalog_codec.specs.KindLaws.{HaveOtherMarks-sym}
use Rattle.record_table.specs.Listed.{at_slot, listed, slots_of}
use Rattle.record_table.specs.Making.{IsMade, KeepsRows}
use Rattle.record_table.proofs.ListedChanges.{at_slot-kept, is_of, is_of-read}
use Rattle.record_table.proofs.Made.{other_slot}
use Rattle.row_index.specs.Index.{HasRows, Index, Indexes, IsOneMoreRow}
use Rattle.row_index.specs.Places.{place_key, place_stamp, row_places}
use Rattle.row_index.specs.SideRows.{SideRows}
use Rattle.row_index.specs.declared.place.RowPlace.{RowPlace}
use Rattle.row_index.proofs.ChangedPlaces.{HasRows-same, same_places}
use Rattle.row_index.proofs.Scans.{places-below, places_from, row_in_slot}

pub HasRows-kept : (cells : ℕ) (rows : SideRows) (old new : Slots) → HasRows cells rows old → length new ≡ cells → ((slot : ℕ) → at_slot row_kind slot new ≡ at_slot row_kind slot old) → HasRows cells rows new
HasRows-kept cells rows old new has_rows many same =
    HasRows-same cells rows old new has_rows many (ap (in_order place_key) (same_places 0 old new (many ∙ sym has_rows.all) same))

kept_rows : (cells : ℕ) (rows : SideRows) (old new : Option Slots) → IfSome old (HasRows cells rows) → IfSome new (λ slots. length slots ≡ cells) → KeepsRows old new → IfSome new (HasRows cells rows)
kept_rows cells rows old None has_rows many keeps = tt
kept_rows cells rows None (Some after) has_rows many keeps = absurd (none-some (keeps after refl).0 (keeps after refl).1)
kept_rows cells rows (Some before) (Some after) has_rows many keeps =
    let kept = keeps after refl in
    HasRows-kept cells rows before after has_rows many
    (subst (λ slots. (slot : ℕ) → at_slot row_kind slot after ≡ at_slot row_kind slot slots) (sym (same_Some before kept.0 kept.1)) kept.2)

-- An index stands still where every row stays in its slot, and what is committed stays.
pub Indexes-kept : (index : Index) (old new : Held) (before after : Chip) → Indexes index old before → new.chains.cells ≡ old.chains.cells → slots_of new Committed after ≡ slots_of old Committed before
    → IfSome (slots_of new Working after) (λ slots. length slots ≡ new.chains.cells) → KeepsRows (slots_of old Working before) (slots_of new Working after) → Indexes index new after
Indexes-kept index old new before after is cells committed many keeps = record {
  cells = is.cells ∙ sym cells;
  committed = subst (λ o. IfSome o (HasRows index.cells index.committed)) (sym committed) is.committed;
  working = kept_rows index.cells index.working (slots_of old Working before) (slots_of new Working after) is.working
      (subst (λ (n : ℕ). IfSome (slots_of new Working after) (λ slots. length slots ≡ n)) (cells ∙ sym is.cells) many) keeps;
}

none_told : (cells : ℕ) (rows : SideRows) (read : List ℕ → Option Slots) (image : Option (List ℕ)) → is_some image ≡ false → IfSome (option_and_then read image) (HasRows cells rows)
none_told cells rows read None none = tt
none_told cells rows read (Some image) none = absurd (cc)

-- Where the image isn't told every index of the store's cells stands for the store.
pub Indexes-untold : (index : Index) (store : Held) (chip : Chip) → index.cells ≡ store.chains.cells → is_some chip.image ≡ false → Indexes index store chip
Indexes-untold index store chip cells none = record {
  cells = cells;
  committed = none_told index.cells index.committed (contents store Committed) chip.image none;
  working = none_told index.cells index.working (contents store Working) chip.image none;
}

-- a row in an empty slot, and the counter in its own: one more row is there
pub IsOneMoreRow-made : (row : RowRecord) (slot counter was next : ℕ) (old new : Slots) → IsMade row_kind row slot counter next old new → Some was ≡ at_slot counter_kind counter old → row_kind.form.fits row ≡ true → slot < length old
    → AllByRecursion (λ (other : RowRecord). other.stamp < row.stamp) (listed row_kind old) → IsOneMoreRow row.table slot old new
IsOneMoreRow-made row slot counter was next old new made at fits there below =
    let apart = other_slot old counter slot was (sym at) made.added.empty in
    let still : get_or made.between counter None ≡ get_or old counter None =
    ap (λ slots. get_or slots counter None) made.added.is ∙ get_or-set_other old slot counter (Some (row_kind.form.spell row)) None apart in
    let own : is_of counter_kind (get_or made.between counter None) ≡ true =
    ap (is_of counter_kind) still ∙ is_of-read counter_kind (get_or old counter None) was IsKind-counter (sym at) in
    let entry : Option (List ℕ) = Some (counter_kind.form.spell next) in
    let counted : (other : ℕ) → at_slot row_kind other new ≡ at_slot row_kind other made.between
    = λ other. ap (at_slot row_kind other) made.counted
    ∙ at_slot-kept counter_kind row_kind made.between counter entry other IsKind-row (HaveOtherMarks-sym row_kind counter_kind HaveOtherMarks-row-counter) own (IsKind-counter.begins next) in
    record {
      row = row;
      of_table = refl;
      empty = ap row_in_slot made.added.empty;
      at = counted slot ∙ ap (at_slot row_kind slot) made.added.is ∙ ap row_in_slot (get_or-set_same old slot (Some (row_kind.form.spell row)) None there) ∙ IsKind-row.again row fits;
      others = λ other apart. counted other ∙ ap (at_slot row_kind other) made.added.is ∙ ap row_in_slot (get_or-set_other old slot other (Some (row_kind.form.spell row)) None apart);
      all = ap length made.counted ∙ length-set made.between counter entry ∙ ap length made.added.is ∙ length-set old slot _;
      new = count_by-in_order place_key (has place_stamp row.stamp) (places_from 0 old) ∙ sym (count_by-in_order place_stamp (has place_stamp row.stamp) (places_from 0 old))
          ∙ count-below place_stamp row.stamp (in_order place_stamp (places_from 0 old)) (places-below row.stamp old below);
    }
