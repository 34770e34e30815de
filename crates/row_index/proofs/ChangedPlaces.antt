-- What becomes of the places of the rows of slots when one slot is changed.
use Rattle.std.proofs.Common.{◌≡◌, ℕ, zero, suc, ◌+◌, ◌<◌, ◌≤◌, Bool, true, false, cond, not, ltb, eqb, List, [], ◌∷◌, ◌++◌, length, map, Option, Some, None, get_or, inl, inr, refl, sym, ap, ◌∙◌, arith, subst}
use Rattle.std.proofs.Math.ListN.{set}
use Rattle.std.proofs.lemmas.List.{get_or-set_other, get_or-set_same, length-map, length-set}
use Rattle.std.proofs.lemmas.Option.{none-some}
use Rattle.std.specs.Prelude.{option_map}
use Rattle.std.specs.List.{filter, cons_option, count_by, AllByRecursion}
use Rattle.std.proofs.lemmas.Bool.{cases_Bool, eq-eqb, eqb-true, eqb-false, ne_eqb}
use Rattle.std.proofs.lemmas.List.Sums.{sum_by-append}
use Rattle.eeprom.specs.Slots.{AreApart, has, in_order, put_in_order, without}
use Rattle.eeprom.specs.StoreOf.{Slots}
use Rattle.eeprom.proofs.InOrder.{all-filter, counts_not, count_by-cons, count_by-in_order, in_order-middle, without-none}
use Rattle.scql_base.specs.declared.records.RowRecord.{RowRecord}
use Rattle.catalog_codec.specs.Catalog.{row_kind}
use Rattle.record_table.specs.Changed.{IsChanged, IsEmptied}
use Rattle.catalog_codec.specs.CatalogLaws.{IsKind-row}
use Rattle.record_table.specs.Listed.{at_slot}
use Rattle.row_index.specs.Index.{AreStamps, HasRows, IsOneMoreRow}
use Rattle.row_index.specs.Places.{is_in_table, place_in, place_key, place_of, place_slot, place_stamp, row_places}
use Rattle.row_index.specs.SideRows.{AreInOrder, AreRows, SideRows, places_of, without_slot, without_table}
use Rattle.row_index.specs.declared.place.RowPlace.{RowPlace}
use Rattle.row_index.proofs.Changes.{AreApart-put, length-in_order}
use Rattle.row_index.proofs.Filtered.{all-put_in_order, filter-in_order_all}
use Rattle.row_index.proofs.Scans.{row_in_slot, places_from, slots_from, none_lower, lower_part}
use Rattle.row_index.proofs.SlotPlaces.{count_by-map, filter-map, places-of_rows, rows-of_places}
use Rattle.row_index.proofs.Tables.{new_key}
use Rattle.row_index.proofs.Stamped.{order-told, places-stamped, row-stamped, stamped-each}

-- The places before a slot, and those behind it: what the slot has stands between.
record Split (slot : ℕ) (first : ℕ) (entry : Option (List ℕ)) (slots : Slots) : Type 0 where
  before : List RowPlace
  behind : List RowPlace
  old : places_from first slots ≡ before ++ cons_option (place_in (first + slot, get_or slots slot None)) behind
  new : places_from first (set slots slot entry) ≡ before ++ cons_option (place_in (first + slot, entry)) behind

cons_option-append : {X : Type 0} (o : Option X) (xs ys : List X) → cons_option o (xs ++ ys) ≡ cons_option o xs ++ ys
cons_option-append None xs ys = refl
cons_option-append (Some x) xs ys = refl

split_at : (slot first : ℕ) (entry : Option (List ℕ)) (slots : Slots) → slot < length slots → Split slot first entry slots
split_at slot first entry [] within = absurd (omega arith)
split_at zero first entry (old ∷ slots) within =
    let same : first + 0 ≡ first = omega arith in
    record {
      before = [];
      behind = places_from (suc first) slots;
      old = ap (λ n. cons_option (place_in (n, old)) (places_from (suc first) slots)) (sym same);
      new = ap (λ n. cons_option (place_in (n, entry)) (places_from (suc first) slots)) (sym same);
    }
split_at (suc slot) first entry (old ∷ slots) within =
    let rest = split_at slot (suc first) entry slots (omega arith) in
    let same : suc first + slot ≡ first + suc slot = omega arith in
    record {
      before = cons_option (place_in (first, old)) rest.before;
      behind = rest.behind;
      old = ap (cons_option (place_in (first, old))) (subst (λ n. places_from (suc first) slots ≡ rest.before ++ cons_option (place_in (n, get_or slots slot None)) rest.behind) same rest.old)
          ∙ cons_option-append (place_in (first, old)) rest.before _;
      new = ap (cons_option (place_in (first, old))) (subst (λ n. places_from (suc first) (set slots slot entry) ≡ rest.before ++ cons_option (place_in (n, entry)) rest.behind) same rest.new)
          ∙ cons_option-append (place_in (first, old)) rest.before _;
    }

-- a slot is given another record that reads as a row of the same place, or none does
pub places-same : (slot : ℕ) (entry : Option (List ℕ)) (slots : Slots) → slot < length slots → place_in (slot, entry) ≡ place_in (slot, get_or slots slot None) → row_places (set slots slot entry) ≡ row_places slots
places-same slot entry slots within same =
    let s = split_at slot 0 entry slots within in
    let e : place_in (0 + slot, entry) ≡ place_in (0 + slot, get_or slots slot None) = subst (λ n. place_in (n, entry) ≡ place_in (n, get_or slots slot None)) (zero_more slot) same in
    ap (in_order place_key) (s.new ∙ ap (λ o. s.before ++ cons_option o s.behind) e ∙ sym s.old)
  where
    zero_more : (n : ℕ) → n ≡ 0 + n
    zero_more n = omega arith

-- a slot without a row is given one of a new key
places-added : (slot : ℕ) (entry : Option (List ℕ)) (row : RowRecord) (slots : Slots) → slot < length slots → row_in_slot (get_or slots slot None) ≡ None → row_in_slot entry ≡ Some row
    → count_by (has place_key (place_key (place_of slot row))) (row_places slots) ≡ 0 → row_places (set slots slot entry) ≡ put_in_order place_key (place_of slot row) (row_places slots)
places-added slot entry row slots within none reads new =
    let s = split_at slot 0 entry slots within in
    let key = place_key (place_of slot row) in
    let old : places_from 0 slots ≡ s.before ++ s.behind = s.old ∙ ap (λ o. s.before ++ cons_option (option_map (place_of (0 + slot)) o) s.behind) none in
    let at : place_of (0 + slot) row ≡ place_of slot row = ap (λ n. place_of n row) (less_zero slot) in
    let now : places_from 0 (set slots slot entry) ≡ s.before ++ place_of slot row ∷ s.behind =
    s.new ∙ ap (λ o. s.before ++ cons_option (option_map (place_of (0 + slot)) o) s.behind) reads ∙ ap (λ place. s.before ++ place ∷ s.behind) at in
    let b = count_by-in_order place_key (has place_key key) (places_from 0 slots) in
    let c = ap (count_by (has place_key key)) old in
    let d = sum_by-append (λ y. cond (has place_key key y) 1 0) s.before s.behind in
    let free : count_by (has place_key key) s.before ≡ 0 = omega arith in
    ap (in_order place_key) now ∙ in_order-middle place_key (place_of slot row) s.before s.behind free ∙ ap (λ xs. put_in_order place_key (place_of slot row) (in_order place_key xs)) (sym old)
  where
    less_zero : (n : ℕ) → 0 + n ≡ n
    less_zero n = omega arith

-- of the places from a number on, those in lesser slots are none
none_before : (first slot : ℕ) (slots : Slots) → slot < first → count_by (has place_slot slot) (places_from first slots) ≡ 0
none_before first slot slots lower = none_lower first slot (places_from first slots) lower (lower_part first (first + length slots) (places_from first slots) (slots_from first slots))

-- the row of a slot that is emptied is missing
places_from-emptied : (slot first : ℕ) (slots : Slots) → slot < length slots → places_from first (set slots slot None) ≡ without place_slot (first + slot) (places_from first slots)
places_from-emptied slot first [] within = absurd (omega arith)
places_from-emptied zero first (entry ∷ slots) within =
    let same : first + 0 ≡ first = omega arith in
    subst (λ n. places_from (suc first) slots ≡ without place_slot n (cons_option (option_map (place_of first) (row_in_slot entry)) (places_from (suc first) slots))) (sym same)
    (one (row_in_slot entry) (without-none place_slot first (places_from (suc first) slots) (none_before (suc first) first slots (omega arith))))
  where
    one : (row : Option RowRecord) → without place_slot first (places_from (suc first) slots) ≡ places_from (suc first) slots
        → places_from (suc first) slots ≡ without place_slot first (cons_option (option_map (place_of first) row) (places_from (suc first) slots))
    one None none = sym none
    one (Some row) none = rw (eq-eqb first first refl) (sym none)
places_from-emptied (suc slot) first (entry ∷ slots) within =
    let same : suc first + slot ≡ first + suc slot = omega arith in
    one (row_in_slot entry) (subst (λ n. places_from (suc first) (set slots slot None) ≡ without place_slot n (places_from (suc first) slots)) same (places_from-emptied slot (suc first) slots (omega arith)))
  where
    one : (row : Option RowRecord) → places_from (suc first) (set slots slot None) ≡ without place_slot (first + suc slot) (places_from (suc first) slots)
        → cons_option (option_map (place_of first) row) (places_from (suc first) (set slots slot None)) ≡ without place_slot (first + suc slot) (cons_option (option_map (place_of first) row) (places_from (suc first) slots))
    one None rest = rest
    one (Some row) rest = rw (ne_eqb first (first + suc slot) (omega arith)) (ap (λ places. place_of first row ∷ places) rest)

-- there are no more places than slots, and fewer where a slot is empty
pub most-places : (first : ℕ) (slots : Slots) → length (places_from first slots) ≤ length slots
most-places first [] = omega arith
most-places first (entry ∷ slots) = one (row_in_slot entry) (most-places (suc first) slots)
  where
    one : (row : Option RowRecord) → length (places_from (suc first) slots) ≤ length slots → length (cons_option (option_map (place_of first) row) (places_from (suc first) slots)) ≤ suc (length slots)
    one None most = omega arith
    one (Some row) most = omega arith

fewer_places : (slot first : ℕ) (slots : Slots) → slot < length slots → row_in_slot (get_or slots slot None) ≡ None → length (places_from first slots) < length slots
fewer_places slot first [] within none = absurd (omega arith)
fewer_places zero first (entry ∷ slots) within none = rw none (let m = most-places (suc first) slots in omega arith)
fewer_places (suc slot) first (entry ∷ slots) within none = one (row_in_slot entry) (fewer_places slot (suc first) slots (omega arith) none)
  where
    one : (row : Option RowRecord) → length (places_from (suc first) slots) < length slots → length (cons_option (option_map (place_of first) row) (places_from (suc first) slots)) < suc (length slots)
    one None few = omega arith
    one (Some row) few = omega arith

-- a slot without a row has no place
free_slot : (slot first : ℕ) (slots : Slots) → row_in_slot (get_or slots slot None) ≡ None → count_by (has place_slot (first + slot)) (places_from first slots) ≡ 0
free_slot slot first [] none = refl
free_slot zero first (entry ∷ slots) none =
    let same : first + 0 ≡ first = omega arith in
    rw none (subst (λ n. count_by (has place_slot n) (places_from (suc first) slots) ≡ 0) (sym same) (none_before (suc first) first slots (omega arith)))
free_slot (suc slot) first (entry ∷ slots) none =
    let same : suc first + slot ≡ first + suc slot = omega arith in
    one (row_in_slot entry) (subst (λ n. count_by (has place_slot n) (places_from (suc first) slots) ≡ 0) same (free_slot slot (suc first) slots none))
  where
    one : (row : Option RowRecord) → count_by (has place_slot (first + suc slot)) (places_from (suc first) slots) ≡ 0
        → count_by (has place_slot (first + suc slot)) (cons_option (option_map (place_of first) row) (places_from (suc first) slots)) ≡ 0
    one None rest = rest
    one (Some row) rest = counts_not (has place_slot (first + suc slot)) (place_of first row) (places_from (suc first) slots) (ne_eqb first (first + suc slot) (omega arith)) ∙ rest

-- slots that have the same rows have the same places of rows
pub same_places : (first : ℕ) (old new : Slots) → length new ≡ length old → ((slot : ℕ) → at_slot row_kind slot new ≡ at_slot row_kind slot old) → places_from first new ≡ places_from first old
same_places first [] [] many same = refl
same_places first [] (y ∷ ys) many same = absurd (omega (arith, many))
same_places first (x ∷ xs) [] many same = absurd (omega (arith, many))
same_places first (x ∷ xs) (y ∷ ys) many same =
    ap (λ row. cons_option (option_map (place_of first) row) (places_from (suc first) ys)) (same 0)
    ∙ ap (cons_option (option_map (place_of first) (row_in_slot x))) (same_places (suc first) xs ys (omega (arith, many)) (λ slot. same (suc slot)))

within-some : {X : Type 0} (xs : List (Option X)) (i : ℕ) (x : X) → get_or xs i None ≡ Some x → i < length xs
within-some [] i x is = absurd (none-some x is)
within-some (y ∷ ys) zero x is = omega arith
within-some (y ∷ ys) (suc i) x is = (let rest = within-some ys i x is in omega arith)

-- a slot with a row is one of the slots
within-row : (slots : Slots) (slot : ℕ) (row : RowRecord) → at_slot row_kind slot slots ≡ Some row → slot < length slots
within-row slots slot row at = of (get_or slots slot None) refl at
  where
    of : (entry : Option (List ℕ)) → get_or slots slot None ≡ entry → row_in_slot entry ≡ Some row → slot < length slots
    of None is at = absurd (none-some row at)
    of (Some octets) is at = within-some slots slot octets is

-- where a row is added to a slot, its place is put among the others
row_places-added : (table slot : ℕ) (before after : Slots) (more : IsOneMoreRow table slot before after) → count_by (has place_key (place_key (place_of slot more.row))) (row_places before) ≡ 0
    → row_places after ≡ put_in_order place_key (place_of slot more.row) (row_places before)
row_places-added table slot before after more new =
    let entry = get_or after slot None in
    let within : slot < length before = (let there = within-row after slot more.row more.at in omega (arith, there, more.all)) in
    let each : (other : ℕ) → at_slot row_kind other after ≡ at_slot row_kind other (set before slot entry)
    = λ other. elim (cases_Bool (eqb other slot)) [
      | inl t ↦ (let same = eqb-true other slot t in rw same (ap row_in_slot (sym (get_or-set_same before slot entry None within))))
      | inr f ↦ more.others other (eqb-false other slot f) ∙ ap row_in_slot (sym (get_or-set_other before slot other entry None (eqb-false other slot f)))
    ] in
    ap (in_order place_key) (same_places 0 (set before slot entry) after (more.all ∙ sym (length-set before slot entry)) each)
    ∙ places-added slot entry more.row before within more.empty more.at new

same_place : (a b c d slot : ℕ) → a ≡ b → c ≡ d → ◌≡◌ {A = RowPlace} (record { stamp = a; table = c; slot = slot }) (record { stamp = b; table = d; slot = slot })
same_place a b c d slot p q = cc

-- there is room for the row that is added, and its slot is none of the others'
pub room-added : (cells table slot : ℕ) (rows : SideRows) (before after : Slots) → HasRows cells rows before → IsOneMoreRow table slot before after → (slot < cells) × (length rows.slots < cells) × (count_by (λ other. eqb other slot) rows.slots ≡ 0)
room-added cells table slot rows before after has_rows more =
    let within : slot < length before = (let there = within-row after slot more.row more.at in omega (arith, there, more.all)) in
    let few = fewer_places slot 0 before within more.empty in
    let many = length-in_order place_key (places_from 0 before) in
    let len = ap length has_rows.are.slots ∙ length-map (row_places before) place_slot in
    let free = ap (count_by (λ other. eqb other slot)) has_rows.are.slots ∙ count_by-map (λ other. eqb other slot) place_slot (row_places before)
    ∙ count_by-in_order place_key (has place_slot slot) (places_from 0 before) ∙ subst (λ n. count_by (has place_slot n) (places_from 0 before) ≡ 0) (less_zero slot) (free_slot slot 0 before more.empty) in
    (omega (arith, within, has_rows.all), omega (arith, len, many, few, has_rows.all), free)
  where
    less_zero : (n : ℕ) → 0 + n ≡ n
    less_zero n = omega arith

-- The rows are those of the slots again when the one that is added was put among them.
pub HasRows-added : (cells table slot : ℕ) (rows next : SideRows) (stamps : List ℕ) (before after : Slots) → HasRows cells rows before → IsOneMoreRow table slot before after → AreStamps stamps after → get_or stamps slot 0 < 4294967296
    → (AreInOrder (places_of stamps rows) → places_of stamps next ≡ put_in_order place_key (record { stamp = get_or stamps slot 0; table = table; slot = slot }) (places_of stamps rows)) → HasRows cells next after
HasRows-added cells table slot rows next stamps before after has_rows more are_stamps fits put =
    let row = more.row in
    let place : RowPlace = place_of slot row in
    let stamp : get_or stamps slot 0 ≡ row.stamp = row-stamped stamps after slot row are_stamps more.at in
    let small : row.stamp < 4294967296 = subst (λ n. n < 4294967296) stamp fits in
    let stamped = stamped-each stamps before (λ at other is. row-stamped stamps after at other are_stamps (more.others at (λ same. none-some other (sym more.empty ∙ sym (ap (λ n. at_slot row_kind n before) same) ∙ is)) ∙ is)) in
    let here : places_of stamps rows ≡ row_places before = places-of_rows stamps rows (row_places before) has_rows.are stamped in
    let order = order-told cells rows before has_rows in
    let new = new_key place (row_places before) small has_rows.fits more.new in
    let own : record { stamp = get_or stamps slot 0; table = table; slot = slot } ≡ place = same_place (get_or stamps slot 0) row.stamp table row.table slot stamp (sym more.of_table) in
    let after_are = row_places-added table slot before after more new in
    let now : places_of stamps next ≡ row_places after = put (subst AreInOrder (sym here) order) ∙ ap (λ (p : RowPlace). put_in_order place_key p (places_of stamps rows)) own ∙ ap (put_in_order place_key place) here ∙ sym after_are in
    record {
      all = more.all ∙ has_rows.all;
      are = subst (AreRows next) now (rows-of_places stamps next);
      apart = subst (AreApart place_stamp) (sym after_are) (AreApart-put place_key place_stamp place (row_places before) has_rows.apart more.new);
      fits = subst (AllByRecursion (λ (p : RowPlace). place_stamp p < 4294967296)) (sym after_are) (all-put_in_order place_key (λ p. place_stamp p < 4294967296) place (row_places before) small has_rows.fits);
    }

-- slots with the same places have the same rows
pub HasRows-same : (cells : ℕ) (rows : SideRows) (old new : Slots) → HasRows cells rows old → length new ≡ cells → row_places new ≡ row_places old → HasRows cells rows new
HasRows-same cells rows old new has_rows all same = record { all = all; are = rw same has_rows.are; apart = rw same has_rows.apart; fits = rw same has_rows.fits }

-- a row in the place of one with its stamp and its table leaves the places
pub HasRows-changed : (cells : ℕ) (rows : SideRows) (was row : RowRecord) (slot : ℕ) (old new : Slots) → HasRows cells rows old → IsChanged row_kind row slot old new → row_kind.form.fits row ≡ true → slot < cells
    → at_slot row_kind slot old ≡ Some was → row.stamp ≡ was.stamp → row.table ≡ was.table → HasRows cells rows new
HasRows-changed cells rows was row slot old new has_rows changed fits there at stamp table =
    let within : slot < length old = omega (arith, there, has_rows.all) in
    let same = same_place row.stamp was.stamp row.table was.table slot stamp table in
    HasRows-same cells rows old new has_rows (ap length changed ∙ length-set old slot _ ∙ has_rows.all)
    (ap row_places changed ∙ places-same slot _ old within (ap (option_map (place_of slot)) (IsKind-row.again row fits) ∙ ap Some same ∙ sym (ap (option_map (place_of slot)) at)))

filter_count : {X : Type 0} (p q : X → Bool) (xs : List X) → count_by q (filter p xs) ≤ count_by q xs
filter_count p q [] = omega arith
filter_count p q (x ∷ xs) =
    let rest = filter_count p q xs in
    let c = count_by-cons q x xs in
    elim (cases_Bool (p x)) [
      | inl t ↦ rw t (let d = count_by-cons q x (filter p xs) in omega arith)
      | inr f ↦ rw f (omega arith)
    ]

-- what is left of the rows, where some of their places are left
pub HasRows-left : (cells : ℕ) (p : RowPlace → Bool) (rows left : SideRows) (old new : Slots) → HasRows cells rows old → length new ≡ cells → row_places new ≡ filter p (row_places old)
    → left.tables ≡ rows.tables → left.slots ≡ map place_slot (filter p (row_places old)) → HasRows cells left new
HasRows-left cells p rows left old new has_rows all places tables slots = record {
  all = all;
  are = rw places record {
    slots = slots;
    tables = rw tables (all-filter (λ (place : RowPlace). get_or rows.tables place.slot 0 ≡ place.table) p (row_places old) has_rows.are.tables);
  };
  apart = rw places (λ k. let a = has_rows.apart k in let b = filter_count p (has place_stamp k) (row_places old) in omega arith);
  fits = rw places (all-filter (λ (place : RowPlace). place_stamp place < 4294967296) p (row_places old) has_rows.fits);
}

-- a slot that is emptied has no row, and all others stay
pub HasRows-removed : (cells : ℕ) (rows : SideRows) (slot : ℕ) (old new : Slots) → HasRows cells rows old → IsEmptied slot old new → slot < cells → HasRows cells (without_slot slot rows) new
HasRows-removed cells rows slot old new has_rows emptied there =
    let within : slot < length old = omega (arith, there, has_rows.all) in
    let test = λ (y : RowPlace). not (eqb (place_slot y) slot) in
    let places : row_places new ≡ filter test (row_places old) =
    ap row_places emptied ∙ ap (in_order place_key) (subst (λ n. places_from 0 (set old slot None) ≡ without place_slot n (places_from 0 old)) (less_zero slot) (places_from-emptied slot 0 old within))
    ∙ sym (filter-in_order_all place_key test (places_from 0 old)) in
    HasRows-left cells test rows (without_slot slot rows) old new has_rows (ap length emptied ∙ length-set old slot _ ∙ has_rows.all) places refl
    (ap (filter (λ other. not (eqb other slot))) has_rows.are.slots ∙ filter-map (λ other. not (eqb other slot)) place_slot (row_places old))
  where
    less_zero : (n : ℕ) → 0 + n ≡ n
    less_zero n = omega arith

-- where the rows of a table are let go, the places are left that aren't of the table
pub kept-without_table : (table : ℕ) (rows : SideRows) (places : List RowPlace) → AreRows rows places → (without_table table rows).slots ≡ map place_slot (filter (λ place. not (is_in_table table place)) places)
kept-without_table table rows places are = ap (filter (λ slot. not (eqb (get_or rows.tables slot 0) table))) are.slots ∙ each places are.tables
  where
    each : (places : List RowPlace) → AllByRecursion (λ (place : RowPlace). get_or rows.tables place.slot 0 ≡ place.table) places
        → filter (λ slot. not (eqb (get_or rows.tables slot 0) table)) (map place_slot places) ≡ map place_slot (filter (λ place. not (is_in_table table place)) places)
    each [] all = refl
    each (place ∷ places) all =
        elim (cases_Bool (eqb place.table table)) [
          | inl t ↦ rw (all.0, t) (each places all.1)
          | inr f ↦ rw (all.0, f) (ap (λ slots. place.slot ∷ slots) (each places all.1))
        ]
