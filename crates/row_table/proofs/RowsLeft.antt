-- The rows of a table are taken out of the slots in which an index has them: which slots are left, and which places.
use Rattle.std.proofs.Common.{◌≡◌, ℕ, zero, suc, ◌+◌, ◌≤◌, ◌&&◌, ◌||◌, Bool, true, false, cond, not, eqb, List, [], ◌∷◌, ◌++◌, length, map, count_by, Option, Some, None, get_or, refl, sym, ap, ◌∙◌, inl, inr, arith, subst}
use Rattle.std.specs.List.{filter, list_any, cons_option, AllByRecursion}
use Rattle.std.specs.Option.{option_map_or}
use Rattle.std.specs.Prelude.{option_map}
use Rattle.std.proofs.Math.ListN.{set, get_or-map}
use Rattle.std.proofs.lemmas.Bool.{cases_Bool, eq-eqb, eqb-true, eqb-false, ne_eqb, and_right}
use Rattle.std.proofs.lemmas.List.{ext_get_or, get_or-set_other, length-set, length-map}
use Rattle.std.proofs.lemmas.List.Sums.{length-filter}
use Rattle.eeprom.specs.Slots.{has, in_order}
use Rattle.eeprom.specs.StoreOf.{Slots}
use Rattle.eeprom.proofs.InOrder.{count_by-cons, count_by-in_order, list_any-in_order}
use Rattle.scql_base.specs.declared.records.RowRecord.{RowRecord}
use Rattle.catalog_codec.specs.Catalog.{row_kind}
use Rattle.row_index.specs.Index.{HasRows}
use Rattle.row_index.specs.Places.{is_in_table, place_of, place_slot, place_key, row_places}
use Rattle.row_index.specs.declared.place.RowPlace.{RowPlace}
use Rattle.row_index.proofs.ChangedPlaces.{HasRows-left, kept-without_table}
use Rattle.row_index.proofs.Filtered.{filter-in_order_all}
use Rattle.row_index.specs.SideRows.{SideRows, without_table}
use Rattle.row_index.proofs.SlotPlaces.{list_any-map}
use Rattle.row_index.proofs.Scans.{lower_part, places_from, row_in_slot, slots_from}
use Rattle.row_table.specs.Found.{is_in}
use Rattle.record_table.specs.Swept.{all_without, has_passing, without_passing}

-- the slots of some numbers are emptied
abbrev pub without_slots : List ℕ → Slots → Slots
without_slots [] slots = slots
without_slots (number ∷ numbers) slots = without_slots numbers (set slots number None)

-- and one more
pub without_slots-more : (numbers : List ℕ) (number : ℕ) (slots : Slots) → without_slots (numbers ++ number ∷ []) slots ≡ set (without_slots numbers slots) number None
without_slots-more [] number slots = refl
without_slots-more (first ∷ numbers) number slots = without_slots-more numbers number (set slots first None)

length-without_slots : (numbers : List ℕ) (slots : Slots) → length (without_slots numbers slots) ≡ length slots
length-without_slots [] slots = refl
length-without_slots (number ∷ numbers) slots = length-without_slots numbers (set slots number None) ∙ length-set slots number None

pub set-none : (slots : Slots) (slot : ℕ) → get_or (set slots slot None) slot None ≡ None
set-none [] slot = refl
set-none (entry ∷ slots) zero = refl
set-none (entry ∷ slots) (suc slot) = set-none slots slot

none-either : {X : Type 0} (b : Bool) → ◌≡◌ {A = Option X} (cond b None None) None
none-either true = refl
none-either false = refl

-- whether a slot is of one of some numbers
abbrev pub is_numbered : ℕ → List ℕ → Bool
is_numbered slot numbers = list_any (λ number. eqb number slot) numbers

-- what a slot has then: nothing, if it is of one of the numbers, and else what it had
at-without_slots : (numbers : List ℕ) (slots : Slots) (slot : ℕ) → get_or (without_slots numbers slots) slot None ≡ cond (is_numbered slot numbers) None (get_or slots slot None)
at-without_slots [] slots slot = refl
at-without_slots (number ∷ numbers) slots slot =
    let rest = at-without_slots numbers (set slots number None) slot in
    elim (cases_Bool (eqb number slot)) [
      | inl t ↦ (let same = eqb-true number slot t in
          let none : get_or (set slots number None) slot None ≡ None = subst (λ n. get_or (set slots number None) n None ≡ None) same (set-none slots number) in
          rw t (rest ∙ ap (cond (is_numbered slot numbers) None) none ∙ none-either (is_numbered slot numbers)))
      | inr f ↦ (let other = eqb-false number slot f in
          rw f (rest ∙ ap (cond (is_numbered slot numbers) None) (get_or-set_other slots number slot None None (λ (same : slot ≡ number). other (sym same)))))
    ]

-- some element that passes one test passes another
any-filter : {X : Type 0} (p q : X → Bool) (xs : List X) → list_any p (filter q xs) ≡ list_any (λ x. q x && p x) xs
any-filter p q [] = refl
any-filter p q (x ∷ xs) =
    elim (cases_Bool (q x)) [
      | inl t ↦ rw t (ap (λ rest. p x || rest) (any-filter p q xs))
      | inr f ↦ rw f (any-filter p q xs)
    ]

-- no place of a greater slot is there
none-lower : (table first : ℕ) (xs : List RowPlace) → AllByRecursion (λ place. suc first ≤ place_slot place) xs → list_any (λ place. is_in_table table place && has place_slot first place) xs ≡ false
none-lower table first [] all = refl
none-lower table first (x ∷ xs) all = rw (and_right (is_in_table table x) (has place_slot first x) (ne_eqb (place_slot x) first (λ same. omega (arith, same, all.0)))) (none-lower table first xs all.1)

and-true : (b : Bool) → (b && true) || false ≡ b
and-true true = refl
and-true false = refl

-- a slot has a row of the table where a place of the table has the slot
any-in_table : (table slot first : ℕ) (slots : Slots)
    → list_any (λ place. is_in_table table place && has place_slot (first + slot) place) (places_from first slots) ≡ has_passing row_kind (is_in table) (get_or slots slot None)
any-in_table table slot first [] = refl
any-in_table table zero first (entry ∷ slots) =
    let same : first + 0 ≡ first = omega arith in
    rw same (one (row_in_slot entry) (none-lower table first (places_from (suc first) slots) (lower_part (suc first) (suc first + length slots) (places_from (suc first) slots) (slots_from (suc first) slots))))
  where
    one : (row : Option RowRecord) → list_any (λ place. is_in_table table place && has place_slot first place) (places_from (suc first) slots) ≡ false
        → list_any (λ place. is_in_table table place && has place_slot first place) (cons_option (option_map (place_of first) row) (places_from (suc first) slots)) ≡ option_map_or (is_in table) row false
    one None none = none
    one (Some row) none = rw (eq-eqb first first refl, none) (and-true (is_in table row))
any-in_table table (suc slot) first (entry ∷ slots) =
    let same : suc first + slot ≡ first + suc slot = omega arith in
    one (row_in_slot entry) (subst (λ n. list_any (λ place. is_in_table table place && has place_slot n place) (places_from (suc first) slots) ≡ has_passing row_kind (is_in table) (get_or slots slot None)) same (any-in_table table slot (suc first) slots))
  where
    one : (row : Option RowRecord) → list_any (λ place. is_in_table table place && has place_slot (first + suc slot) place) (places_from (suc first) slots) ≡ has_passing row_kind (is_in table) (get_or slots slot None)
        → list_any (λ place. is_in_table table place && has place_slot (first + suc slot) place) (cons_option (option_map (place_of first) row) (places_from (suc first) slots)) ≡ has_passing row_kind (is_in table) (get_or slots slot None)
    one None rest = rest
    one (Some row) rest = rw (and_right (is_in_table table (place_of first row)) (has place_slot (first + suc slot) (place_of first row)) (ne_eqb first (first + suc slot) (omega arith))) rest

-- the slots of the rows of a table
abbrev pub slots_in : ℕ → Slots → List ℕ
slots_in table slots = map place_slot (filter (is_in_table table) (row_places slots))

pub at-slots : (table slot : ℕ) (slots : Slots) → is_numbered slot (slots_in table slots) ≡ has_passing row_kind (is_in table) (get_or slots slot None)
at-slots table slot slots =
    list_any-map (λ number. eqb number slot) place_slot (filter (is_in_table table) (row_places slots))
    ∙ any-filter (has place_slot slot) (is_in_table table) (row_places slots)
    ∙ list_any-in_order place_key (λ place. is_in_table table place && has place_slot slot place) (places_from 0 slots)
    ∙ subst (λ n. list_any (λ place. is_in_table table place && has place_slot n place) (places_from 0 slots) ≡ has_passing row_kind (is_in table) (get_or slots slot None)) (less_zero slot) (any-in_table table slot 0 slots)
  where
    less_zero : (n : ℕ) → 0 + n ≡ n
    less_zero n = omega arith

-- The slots of a table's rows are emptied: these are gone, and all else stays.
pub slots-without_table : (table : ℕ) (slots : Slots) → without_slots (slots_in table slots) slots ≡ all_without row_kind (is_in table) slots
slots-without_table table slots =
    let numbers = slots_in table slots in
    ext_get_or None (without_slots numbers slots) (all_without row_kind (is_in table) slots) (length-without_slots numbers slots ∙ sym (length-map slots (without_passing row_kind (is_in table))))
    (λ slot within. at-without_slots numbers slots slot
    ∙ ap (λ (b : Bool). cond b None (get_or slots slot None)) (at-slots table slot slots)
    ∙ sym (get_or-map (without_passing row_kind (is_in table)) slots slot None))

-- of the places those are left that aren't of the table
places-left : (table first : ℕ) (slots : Slots) → places_from first (all_without row_kind (is_in table) slots) ≡ filter (λ place. not (is_in_table table place)) (places_from first slots)
places-left table first [] = refl
places-left table first (entry ∷ slots) = one (row_in_slot entry) refl (places-left table (suc first) slots)
  where
    one : (row : Option RowRecord) → row_in_slot entry ≡ row → places_from (suc first) (all_without row_kind (is_in table) slots) ≡ filter (λ place. not (is_in_table table place)) (places_from (suc first) slots)
        → places_from first (all_without row_kind (is_in table) (entry ∷ slots)) ≡ filter (λ place. not (is_in_table table place)) (places_from first (entry ∷ slots))
    one None is rest = rw is (rw is rest)
    one (Some row) is rest =
        elim (cases_Bool (is_in table row)) [
          | inl t ↦ rw (is, t) rest
          | inr f ↦ rw (is, f) (rw is (ap (λ rest. place_of first row ∷ rest) rest))
        ]

row_places-left : (table : ℕ) (slots : Slots) → row_places (all_without row_kind (is_in table) slots) ≡ filter (λ place. not (is_in_table table place)) (row_places slots)
row_places-left table slots = ap (in_order place_key) (places-left table 0 slots) ∙ sym (filter-in_order_all place_key (λ place. not (is_in_table table place)) (places_from 0 slots))

-- as many places are of the table as slots have its rows
count-places : (table first : ℕ) (slots : Slots) → count_by (is_in_table table) (places_from first slots) ≡ count_by (has_passing row_kind (is_in table)) slots
count-places table first [] = refl
count-places table first (entry ∷ slots) = one (row_in_slot entry) refl (count-places table (suc first) slots)
  where
    one : (row : Option RowRecord) → row_in_slot entry ≡ row → count_by (is_in_table table) (places_from (suc first) slots) ≡ count_by (has_passing row_kind (is_in table)) slots
        → count_by (is_in_table table) (cons_option (option_map (place_of first) (row_in_slot entry)) (places_from (suc first) slots)) ≡ count_by (has_passing row_kind (is_in table)) (entry ∷ slots)
    one None is rest =
        ap (λ row. count_by (is_in_table table) (cons_option (option_map (place_of first) row) (places_from (suc first) slots))) is ∙ rest
        ∙ sym (count_by-cons (has_passing row_kind (is_in table)) entry slots ∙ ap (λ row. cond {A = ℕ} (option_map_or (is_in table) row false) 1 0 + count_by (has_passing row_kind (is_in table)) slots) is ∙ omega arith)
    one (Some row) is rest =
        ap (λ row. count_by (is_in_table table) (cons_option (option_map (place_of first) row) (places_from (suc first) slots))) is
        ∙ count_by-cons (is_in_table table) (place_of first row) (places_from (suc first) slots)
        ∙ ap (λ n. cond {A = ℕ} (is_in table row) 1 0 + n) rest
        ∙ sym (count_by-cons (has_passing row_kind (is_in table)) entry slots ∙ ap (λ row. cond {A = ℕ} (option_map_or (is_in table) row false) 1 0 + count_by (has_passing row_kind (is_in table)) slots) is)

pub length-places : (table : ℕ) (slots : Slots) → length (filter (is_in_table table) (row_places slots)) ≡ count_by (has_passing row_kind (is_in table)) slots
length-places table slots =
    length-filter (is_in_table table) (row_places slots) ∙ count_by-in_order place_key (is_in_table table) (places_from 0 slots) ∙ count-places table 0 slots

-- the rows that are left are those of the slots without the table's
pub HasRows-without_table : (cells table : ℕ) (rows : SideRows) (slots : Slots) → HasRows cells rows slots → HasRows cells (without_table table rows) (all_without row_kind (is_in table) slots)
HasRows-without_table cells table rows slots has_rows =
    HasRows-left cells (λ place. not (is_in_table table place)) rows (without_table table rows) slots (all_without row_kind (is_in table) slots) has_rows (length-map slots (without_passing row_kind (is_in table)) ∙ has_rows.all)
    (row_places-left table slots) refl (kept-without_table table rows (row_places slots) has_rows.are)
