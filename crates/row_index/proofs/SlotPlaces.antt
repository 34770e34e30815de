-- Slots of rows, and the places that these have.
use Rattle.std.proofs.Common.{◌≡◌, ℕ, zero, suc, ◌+◌, ◌-◌, ◌<◌, ◌≤◌, Bool, true, false, cond, not, ◌||◌, ltb, leb, eqb, List, [], ◌∷◌, ◌++◌, length, map, Option, Some, None, take, drop, get_or, inl, inr, refl, sym, ap, ◌∙◌, arith, subst}
use Rattle.std.specs.Prelude.{option_map}
use Rattle.std.specs.Option.{option_map_or}
use Rattle.std.specs.List.{filter, insert, list_any, remove, slice_get, slice_range, count_by, AllByRecursion}
use Rattle.std.proofs.Math.ListN.{set}
use Rattle.std.proofs.lemmas.Bool.{cases_Bool, eqb-false, eqb-true, false≢true, ltb-true, ltb-false, ne_eqb, or_parts}
use Rattle.std.proofs.lemmas.List.{drop-map, get_or-set_other, get_or-set_same, set-get_or, take-map}
use Rattle.std.proofs.lemmas.List.Edits.{length-remove}
use Rattle.std.proofs.lemmas.Option.{none-some, same_Some}
use Rattle.eeprom.specs.Slots.{Rises, put_in_order}
use Rattle.eeprom.proofs.InOrder.{counts, counts_not, count_by-cons}
use Rattle.row_index.specs.Index.{IsOneMore}
use Rattle.row_index.specs.Places.{place_key, place_slot}
use Rattle.row_index.specs.SideRows.{AreRows, SideRows, place_at, places_at, places_of}
use Rattle.row_index.specs.declared.place.RowPlace.{RowPlace}
use Rattle.row_index.proofs.Searches.{count_by-before, none_below, put_in_order-insert}

-- what is counted, kept, looked for and put in among what a function makes of elements
pub count_by-map : {X Y : Type 0} (p : Y → Bool) (f : X → Y) (xs : List X) → count_by p (map f xs) ≡ count_by (λ x. p (f x)) xs
count_by-map p f [] = refl
count_by-map p f (x ∷ xs) = count_by-cons p (f x) (map f xs) ∙ ap (λ n. cond (p (f x)) 1 0 + n) (count_by-map p f xs) ∙ sym (count_by-cons (λ x. p (f x)) x xs)

pub filter-map : {X Y : Type 0} (p : Y → Bool) (f : X → Y) (xs : List X) → filter p (map f xs) ≡ map f (filter (λ x. p (f x)) xs)
filter-map p f [] = refl
filter-map p f (x ∷ xs) =
    elim (cases_Bool (p (f x))) [
      | inl t ↦ rw t (ap (λ ys. f x ∷ ys) (filter-map p f xs))
      | inr n ↦ rw n (filter-map p f xs)
    ]

pub list_any-map : {X Y : Type 0} (p : Y → Bool) (f : X → Y) (xs : List X) → list_any p (map f xs) ≡ list_any (λ x. p (f x)) xs
list_any-map p f [] = refl
list_any-map p f (x ∷ xs) = ap (λ (b : Bool). p (f x) || b) (list_any-map p f xs)

append-map : {X Y : Type 0} (f : X → Y) (xs ys : List X) → map f (xs ++ ys) ≡ map f xs ++ map f ys
append-map f [] ys = refl
append-map f (x ∷ xs) ys = ap (λ zs. f x ∷ zs) (append-map f xs ys)

pub insert-map : {X Y : Type 0} (f : X → Y) (xs : List X) (i : ℕ) (x : X) → map f (insert xs i x) ≡ insert (map f xs) i (f x)
insert-map f xs i x = append-map f (take i xs) (x ∷ drop i xs) ∙ ap (λ ys. ys ++ f x ∷ map f (drop i xs)) (sym (take-map f i xs)) ∙ ap (λ ys. take i (map f xs) ++ f x ∷ ys) (sym (drop-map f i xs))

pub all-map : {X Y : Type 0} (P : Y → Type 0) (f : X → Y) (xs : List X) → AllByRecursion P (map f xs) → AllByRecursion (λ x. P (f x)) xs
all-map P f [] all = tt
all-map P f (x ∷ xs) all = (all.0, all-map P f xs all.1)

pub map-all : {X Y : Type 0} (P : Y → Type 0) (f : X → Y) (xs : List X) → AllByRecursion (λ x. P (f x)) xs → AllByRecursion P (map f xs)
map-all P f [] all = tt
map-all P f (x ∷ xs) all = (all.0, map-all P f xs all.1)

pub Rises-map : {X Y : Type 0} (key : Y → ℕ) (f : X → Y) (xs : List X) → Rises key (map f xs) → Rises (λ x. key (f x)) xs
Rises-map key f [] rises = tt
Rises-map key f (x ∷ xs) rises = (all-map (λ y. key (f x) < key y) f xs rises.0, Rises-map key f xs rises.1)

-- among numbers of greater keys one isn't
absent : (f : ℕ → ℕ) (k m : ℕ) (xs : List ℕ) → f k ≤ m → AllByRecursion (λ x. m < f x) xs → list_any (λ x. eqb x k) xs ≡ false
absent f k m [] least all = refl
absent f k m (x ∷ xs) least all = rw (ne_eqb x k (λ same. omega (arith, ap f same, least, all.0))) (absent f k m xs least all.1)

-- A number that stands among others in rising order of a key stands behind those of lesser keys.
pub stands-any : (f : ℕ → ℕ) (k : ℕ) (xs : List ℕ) → Rises f xs → option_map_or (λ x. eqb x k) (slice_get xs (count_by (λ x. ltb (f x) (f k)) xs)) false ≡ list_any (λ x. eqb x k) xs
stands-any f k [] rises = refl
stands-any f k (x ∷ xs) rises =
    elim (cases_Bool (ltb (f x) (f k))) [
      | inl t ↦ (let less = ltb-true (f x) (f k) t in
          let one : count_by (λ x. ltb (f x) (f k)) (x ∷ xs) ≡ suc (count_by (λ x. ltb (f x) (f k)) xs) = (let c = counts (λ x. ltb (f x) (f k)) x xs t in omega arith) in
          rw (one, ne_eqb x k (λ same. omega (arith, ap f same, less))) (stands-any f k xs rises.1))
      | inr n ↦ (let most = ltb-false (f x) (f k) n in
          let none = counts_not (λ x. ltb (f x) (f k)) x xs n ∙ none_below f (f k) (f x) xs most rises.0 in
          rw (none, absent f k (f x) xs most rises.0) (either (eqb x k)))
    ]
  where
    either : (b : Bool) → b ≡ (b || false)
    either true = refl
    either false = refl

-- where a number isn't, none is taken out
pub filter-absent : (k : ℕ) (xs : List ℕ) → list_any (λ x. eqb x k) xs ≡ false → filter (λ x. not (eqb x k)) xs ≡ xs
filter-absent k [] none = refl
filter-absent k (x ∷ xs) none =
    let both = or_parts (eqb x k) (list_any (λ x. eqb x k) xs) none in
    rw both.0 (ap (λ ys. x ∷ ys) (filter-absent k xs both.1))

-- what is taken out where a number stands is that number alone
pub remove-stands : (f : ℕ → ℕ) (k : ℕ) (xs : List ℕ) → Rises f xs → list_any (λ x. eqb x k) xs ≡ true → remove xs (count_by (λ x. ltb (f x) (f k)) xs) ≡ filter (λ x. not (eqb x k)) xs
remove-stands f k [] rises any = absurd (cc)
remove-stands f k (x ∷ xs) rises any =
    elim (cases_Bool (ltb (f x) (f k))) [
      | inl t ↦ (let less = ltb-true (f x) (f k) t in
          let other = ne_eqb x k (λ same. omega (arith, ap f same, less)) in
          let one : count_by (λ x. ltb (f x) (f k)) (x ∷ xs) ≡ suc (count_by (λ x. ltb (f x) (f k)) xs) = (let c = counts (λ x. ltb (f x) (f k)) x xs t in omega arith) in
          rw (one, other) (ap (λ ys. x ∷ ys) (remove-stands f k xs rises.1 (rw other at any))))
      | inr n ↦ (let most = ltb-false (f x) (f k) n in
          let gone = absent f k (f x) xs most rises.0 in
          let none = counts_not (λ x. ltb (f x) (f k)) x xs n ∙ none_below f (f k) (f x) xs most rises.0 in
          elim (cases_Bool (eqb x k)) [
            | inl t ↦ rw (none, t) (sym (filter-absent k xs gone))
            | inr h ↦ absurd (let wrong : false ≡ true = rw (h, gone) at any in cc)
          ])
    ]

-- where a slot stands among others in order
behind : (stamps tables : List ℕ) (slot : ℕ) (slots : List ℕ) (at : ℕ) → at ≡ count_by (λ place. ltb (place_key place) (place_key (place_at stamps tables slot))) (places_at stamps tables slots)
    → at ≡ count_by (λ other. ltb (place_key (place_at stamps tables other)) (place_key (place_at stamps tables slot))) slots
behind stamps tables slot slots at count = count ∙ count_by-map (λ place. ltb (place_key place) (place_key (place_at stamps tables slot))) (place_at stamps tables) slots

-- whether it stands there says whether it is among them
stands-among : (stamps tables : List ℕ) (slot : ℕ) (slots : List ℕ) (at : ℕ) → Rises place_key (places_at stamps tables slots)
    → at ≡ count_by (λ place. ltb (place_key place) (place_key (place_at stamps tables slot))) (places_at stamps tables slots)
    → option_map_or (λ other. eqb other slot) (slice_get slots at) false ≡ list_any (λ other. eqb other slot) slots
stands-among stamps tables slot slots at rises count =
    ap (λ i. option_map_or (λ other. eqb other slot) (slice_get slots i) false) (behind stamps tables slot slots at count)
    ∙ stands-any (λ other. place_key (place_at stamps tables other)) slot slots (Rises-map place_key (place_at stamps tables) slots rises)

-- what is left when it is taken out there
pub taken-among : (stamps tables : List ℕ) (slot : ℕ) (slots : List ℕ) (at : ℕ) → Rises place_key (places_at stamps tables slots)
    → at ≡ count_by (λ place. ltb (place_key place) (place_key (place_at stamps tables slot))) (places_at stamps tables slots) → option_map_or (λ other. eqb other slot) (slice_get slots at) false ≡ true
    → remove slots at ≡ filter (λ other. not (eqb other slot)) slots
taken-among stamps tables slot slots at rises count stands =
    ap (remove slots) (behind stamps tables slot slots at count)
    ∙ remove-stands (λ other. place_key (place_at stamps tables other)) slot slots (Rises-map place_key (place_at stamps tables) slots rises) (sym (stands-among stamps tables slot slots at rises count) ∙ stands)

-- and where it doesn't stand there none is taken out
pub kept-among : (stamps tables : List ℕ) (slot : ℕ) (slots : List ℕ) (at : ℕ) → Rises place_key (places_at stamps tables slots)
    → at ≡ count_by (λ place. ltb (place_key place) (place_key (place_at stamps tables slot))) (places_at stamps tables slots) → option_map_or (λ other. eqb other slot) (slice_get slots at) false ≡ false
    → filter (λ other. not (eqb other slot)) slots ≡ slots
kept-among stamps tables slot slots at rises count none = filter-absent slot slots (sym (stands-among stamps tables slot slots at rises count) ∙ none)

-- a slot that stands somewhere stands behind those of lesser keys
pub there : (slot : ℕ) (o : Option ℕ) → option_map_or (λ other. eqb other slot) o false ≡ true → o ≡ Some slot
there slot None stands = absurd (false≢true stands)
there slot (Some other) stands = ap (λ (x : ℕ). Some x) (eqb-true other slot stands)

pub standing-before : (stamps tables : List ℕ) (slot : ℕ) (slots : List ℕ) (at : ℕ) → Rises place_key (places_at stamps tables slots)
    → option_map_or (λ other. eqb other slot) (slice_get slots at) false ≡ true
    → at ≡ count_by (λ place. ltb (place_key place) (place_key (place_at stamps tables slot))) (places_at stamps tables slots)
standing-before stamps tables slot slots at rises stands =
    count_by-before (λ other. place_key (place_at stamps tables other)) (place_key (place_at stamps tables slot)) slots at slot (Rises-map place_key (place_at stamps tables) slots rises) (there slot (slice_get slots at) stands) refl
    ∙ sym (count_by-map (λ place. ltb (place_key place) (place_key (place_at stamps tables slot))) (place_at stamps tables) slots)

-- a place's slot is its own
pub map-slots : (stamps tables slots : List ℕ) → map place_slot (places_at stamps tables slots) ≡ slots
map-slots stamps tables [] = refl
map-slots stamps tables (slot ∷ slots) = ap (λ others. slot ∷ others) (map-slots stamps tables slots)

-- the slots of the rows in a part
pub slots-range : (stamps tables slots : List ℕ) (from end : ℕ) → map place_slot (slice_range (places_at stamps tables slots) from end) ≡ slice_range slots from end
slots-range stamps tables slots from end =
    sym (take-map place_slot (end - from) (drop from (places_at stamps tables slots)))
    ∙ ap (take (end - from)) (sym (drop-map place_slot from (places_at stamps tables slots)) ∙ ap (drop from) (map-slots stamps tables slots))

-- the row of a slot stands where its table is set
pub place_at-set : (stamps tables : List ℕ) (slot table : ℕ) → slot < length tables → place_at stamps (set tables slot table) slot ≡ record { stamp = get_or stamps slot 0; table = table; slot = slot }
place_at-set stamps tables slot table there = ap (λ (table : ℕ). record { stamp = get_or stamps slot 0; table = table; slot = slot }) (get_or-set_same tables slot table 0 there)

-- and those of others stand where they stood
pub places_at-set : (stamps tables : List ℕ) (slot table : ℕ) (slots : List ℕ) → count_by (λ other. eqb other slot) slots ≡ 0 → places_at stamps (set tables slot table) slots ≡ places_at stamps tables slots
places_at-set stamps tables slot table [] none = refl
places_at-set stamps tables slot table (other ∷ slots) none =
    elim (cases_Bool (eqb other slot)) [
      | inl t ↦ absurd (let c = counts (λ other. eqb other slot) other slots t in omega arith)
      | inr n ↦ (let c = counts_not (λ other. eqb other slot) other slots n in
          let kept = get_or-set_other tables slot other table 0 (λ same. eqb-false other slot n same) in
          rw kept (ap (λ places. place_at stamps tables other ∷ places) (places_at-set stamps tables slot table slots (omega arith))))
    ]

-- a row whose table is set, and whose slot is put before the first of a greater key, stands where it is put in order
pub placed-among : (stamps tables : List ℕ) (slot table at : ℕ) (slots next : List ℕ) → slot < length tables → count_by (λ other. eqb other slot) slots ≡ 0 → Rises place_key (places_at stamps tables slots)
    → (Rises place_key (places_at stamps (set tables slot table) slots) → at ≡ count_by (λ y. leb (place_key y) (place_key (place_at stamps (set tables slot table) slot))) (places_at stamps (set tables slot table) slots)) → next ≡ insert slots at slot
    → places_at stamps (set tables slot table) next ≡ put_in_order place_key (record { stamp = get_or stamps slot 0; table = table; slot = slot }) (places_at stamps tables slots)
placed-among stamps tables slot table at slots next there none rises count put =
    let others = places_at-set stamps tables slot table slots none in
    let now = subst (Rises place_key) (sym others) rises in
    let place = place_at stamps (set tables slot table) in
    ap (places_at stamps (set tables slot table)) put
    ∙ insert-map place slots at slot
    ∙ ap (λ i. insert (places_at stamps (set tables slot table) slots) i (place slot)) (count now)
    ∙ put_in_order-insert place_key (place slot) (places_at stamps (set tables slot table) slots) now
    ∙ ap (put_in_order place_key (place slot)) others
    ∙ ap (λ (p : RowPlace). put_in_order place_key p (places_at stamps tables slots)) (place_at-set stamps tables slot table there)

-- rows stand where they are said to by their stamps and tables
pub rows-of_places : (stamps : List ℕ) (rows : SideRows) → AreRows rows (places_of stamps rows)
rows-of_places stamps rows = record { slots = sym (map-slots stamps rows.tables rows.slots); tables = own rows.slots }
  where
    own : (slots : List ℕ) → AllByRecursion (λ (place : RowPlace). get_or rows.tables place.slot 0 ≡ place.table) (places_at stamps rows.tables slots)
    own [] = tt
    own (slot ∷ slots) = (refl, own slots)

pub places-of_rows : (stamps : List ℕ) (rows : SideRows) (places : List RowPlace) → AreRows rows places → AllByRecursion (λ (place : RowPlace). get_or stamps place.slot 0 ≡ place.stamp) places → places_of stamps rows ≡ places
places-of_rows stamps rows places are stamped = ap (places_at stamps rows.tables) are.slots ∙ each places are.tables stamped
  where
    same : (a b c d e : ℕ) → a ≡ b → c ≡ d → ◌≡◌ {A = RowPlace} (record { stamp = a; table = c; slot = e }) (record { stamp = b; table = d; slot = e })
    same a b c d e p q = cc

    each : (places : List RowPlace) → AllByRecursion (λ (place : RowPlace). get_or rows.tables place.slot 0 ≡ place.table) places → AllByRecursion (λ (place : RowPlace). get_or stamps place.slot 0 ≡ place.stamp) places
        → places_at stamps rows.tables (map place_slot places) ≡ places
    each [] tables stamped = refl
    each (place ∷ places) tables stamped =
        ap (λ (first : RowPlace). first ∷ places_at stamps rows.tables (map place_slot places)) (same (get_or stamps place.slot 0) place.stamp (get_or rows.tables place.slot 0) place.table place.slot stamped.0 tables.0)
        ∙ ap (λ (rest : List RowPlace). place ∷ rest) (each places tables.1 stamped.1)

set-back : (xs : List ℕ) (i x : ℕ) → set (set xs i x) i (get_or xs i 0) ≡ xs
set-back [] i x = refl
set-back (y ∷ ys) zero x = refl
set-back (y ∷ ys) (suc i) x = ap (λ zs. y ∷ zs) (set-back ys i x)

insert-removed : (xs : List ℕ) (i x : ℕ) → slice_get xs i ≡ Some x → xs ≡ insert (remove xs i) i x
insert-removed [] i x got = absurd (none-some x got)
insert-removed (y ∷ ys) zero x got = ap (λ z. z ∷ ys) (same_Some y x got)
insert-removed (y ∷ ys) (suc i) x got = ap (λ zs. y ∷ zs) (insert-removed ys i x got)

pub got-within : (xs : List ℕ) (i x : ℕ) → slice_get xs i ≡ Some x → i < length xs
got-within [] i x got = absurd (none-some x got)
got-within (y ∷ ys) zero x got = omega arith
got-within (y ∷ ys) (suc i) x got = (let rest = got-within ys i x got in omega arith)

-- and where it is taken out
pub IsOneMore-taken : (tables slots : List ℕ) (at slot : ℕ) (left : List ℕ) → slice_get slots at ≡ Some slot → left ≡ remove slots at
    → IsOneMore at slot (record { tables = tables; slots = left }) (record { tables = tables; slots = slots })
IsOneMore-taken tables slots at slot left got taken = record {
  within = (let within = got-within slots at slot got in let fewer = length-remove slots at within in omega (arith, fewer, ap length taken));
  slots = insert-removed slots at slot got ∙ ap (λ (xs : List ℕ). insert xs at slot) (sym taken);
  tables = sym (set-get_or tables slot 0);
  back = sym (set-get_or tables slot 0);
}

pub remove-inserted : (xs : List ℕ) (i x : ℕ) → i ≤ length xs → remove (insert xs i x) i ≡ xs
remove-inserted xs zero x within = refl
remove-inserted [] (suc i) x within = absurd (omega arith)
remove-inserted (y ∷ ys) (suc i) x within = ap (λ zs. y ∷ zs) (remove-inserted ys i x (omega arith))

-- what holds of all holds of the one that was put
pub all-inserted : (P : ℕ → Type 0) (xs : List ℕ) (i x : ℕ) → AllByRecursion P (insert xs i x) → P x
all-inserted P xs zero x all = all.0
all-inserted P [] (suc i) x all = all.0
all-inserted P (y ∷ ys) (suc i) x all = all-inserted P ys i x all.1

pub all-range : (P : ℕ → Type 0) (xs : List ℕ) (from end : ℕ) → AllByRecursion P xs → AllByRecursion P (slice_range xs from end)
all-range P xs from end all = first (end - from) (drop from xs) (behind from xs all)
  where
    first : (n : ℕ) (xs : List ℕ) → AllByRecursion P xs → AllByRecursion P (take n xs)
    first zero [] all = tt
    first zero (x ∷ xs) all = tt
    first (suc n) [] all = tt
    first (suc n) (x ∷ xs) all = (all.0, first n xs all.1)

    behind : (n : ℕ) (xs : List ℕ) → AllByRecursion P xs → AllByRecursion P (drop n xs)
    behind zero [] all = tt
    behind zero (x ∷ xs) all = all
    behind (suc n) [] all = tt
    behind (suc n) (x ∷ xs) all = behind n xs all.1

-- where the row of a slot stands at a place in order, so does the slot
pub slot-got : (stamps tables slots : List ℕ) (at : ℕ) (place : RowPlace) → slice_get (places_at stamps tables slots) at ≡ Some place → slice_get slots at ≡ Some place.slot
slot-got stamps tables [] at place got = absurd cc
slot-got stamps tables (slot ∷ slots) zero place got = ap (option_map place_slot) got
slot-got stamps tables (slot ∷ slots) (suc at) place got = slot-got stamps tables slots at place got
