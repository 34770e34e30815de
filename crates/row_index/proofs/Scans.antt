-- The places of the rows of slots, against the list of the rows.
use Rattle.std.proofs.Common.{◌≡◌, ℕ, zero, suc, ◌+◌, ◌<◌, ◌≤◌, Bool, true, false, cond, ◌&&◌, ◌==◌, ltb, List, [], ◌∷◌, length, Option, Some, None, get_or, inl, inr, refl, sym, ap, ◌∙◌, arith, subst, map}
use Rattle.std.specs.Prelude.{option_map, option_and_then, IfSome, is_some}
use Rattle.std.specs.List.{find, filter_map, cons_option, count_by, AllByRecursion}
use Rattle.std.proofs.lemmas.Bool.{cases_Bool, ne_eqb}
use Rattle.eeprom.specs.Slots.{AreApart, has, in_order, in_slot, put_in_order}
use Rattle.eeprom.specs.StoreOf.{Slots}
use Rattle.eeprom.proofs.InOrder.{counts_not, count_by-cons, count_by-in_order}
use Rattle.scql_base.specs.declared.records.RowRecord.{RowRecord}
use Rattle.catalog_codec.specs.Catalog.{row_kind}
use Rattle.catalog_codec.specs.Kinds.{read_as}
use Rattle.record_table.specs.Listed.{at_slot, listed}
use Rattle.row_index.specs.Places.{is_in_table, numbered, place_in, place_key, place_of, place_slot, place_stamp, row_places}
use Rattle.row_index.specs.declared.place.RowPlace.{RowPlace}
use Rattle.row_index.proofs.Filtered.{all-in_order}
use Rattle.row_index.proofs.SlotPlaces.{count_by-map}
use Rattle.row_index.proofs.Tables.{found_alike}

-- the row in a slot
abbrev pub row_in_slot : Option (List ℕ) → Option RowRecord
row_in_slot = in_slot (read_as row_kind)

-- the places of the rows of slots from a number on, as the slots have them
abbrev pub places_from : ℕ → Slots → List RowPlace
places_from slot slots = filter_map place_in (numbered slot slots)

-- the rows with their slots
abbrev pub pairs_from : ℕ → Slots → List (ℕ × RowRecord)
pairs_from slot [] = []
pairs_from slot (entry ∷ slots) = cons_option (option_map (λ (row : RowRecord). (slot, row)) (row_in_slot entry)) (pairs_from (suc slot) slots)

abbrev pub pair_key : ℕ × RowRecord → ℕ
pair_key pair = pair.1.stamp

abbrev pub pair_place : ℕ × RowRecord → RowPlace
pair_place pair = place_of pair.0 pair.1

-- what is put in order and then seen otherwise, and the other way round
map-put_in_order : {X Y : Type 0} (f : X → Y) (key : Y → ℕ) (x : X) (xs : List X) → put_in_order key (f x) (map f xs) ≡ map f (put_in_order (λ x. key (f x)) x xs)
map-put_in_order f key x [] = refl
map-put_in_order f key x (y ∷ ys) =
    elim (cases_Bool (ltb (key (f x)) (key (f y)))) [
      | inl t ↦ rw t refl
      | inr g ↦ rw g (ap (λ rest. f y ∷ rest) (map-put_in_order f key x ys))
    ]

map-in_order : {X Y : Type 0} (f : X → Y) (key : Y → ℕ) (xs : List X) → in_order key (map f xs) ≡ map f (in_order (λ x. key (f x)) xs)
map-in_order f key [] = refl
map-in_order f key (x ∷ xs) = ap (put_in_order key (f x)) (map-in_order f key xs) ∙ map-put_in_order f key x (in_order (λ x. key (f x)) xs)

pub find-map : {X Y : Type 0} (f : X → Y) (p : Y → Bool) (xs : List X) → find p (map f xs) ≡ option_map f (find (λ x. p (f x)) xs)
find-map f p [] = refl
find-map f p (x ∷ xs) =
    elim (cases_Bool (p (f x))) [
      | inl t ↦ rw t refl
      | inr g ↦ rw g (find-map f p xs)
    ]

places-pairs : (slot : ℕ) (slots : Slots) → places_from slot slots ≡ map pair_place (pairs_from slot slots)
places-pairs slot [] = refl
places-pairs slot (entry ∷ slots) = one (row_in_slot entry) (places-pairs (suc slot) slots)
  where
    one : (row : Option RowRecord) → places_from (suc slot) slots ≡ map pair_place (pairs_from (suc slot) slots)
        → cons_option (option_map (place_of slot) row) (places_from (suc slot) slots) ≡ map pair_place (cons_option (option_map (λ (row : RowRecord). (slot, row)) row) (pairs_from (suc slot) slots))
    one None rest = rest
    one (Some row) rest = ap (λ places. place_of slot row ∷ places) rest

rows-pairs : (slot : ℕ) (slots : Slots) → filter_map row_in_slot slots ≡ map (λ (pair : ℕ × RowRecord). pair.1) (pairs_from slot slots)
rows-pairs slot [] = refl
rows-pairs slot (entry ∷ slots) = one (row_in_slot entry) (rows-pairs (suc slot) slots)
  where
    one : (row : Option RowRecord) → filter_map row_in_slot slots ≡ map (λ (pair : ℕ × RowRecord). pair.1) (pairs_from (suc slot) slots)
        → cons_option row (filter_map row_in_slot slots) ≡ map (λ (pair : ℕ × RowRecord). pair.1) (cons_option (option_map (λ (row : RowRecord). (slot, row)) row) (pairs_from (suc slot) slots))
    one None rest = rest
    one (Some row) rest = ap (λ rows. row ∷ rows) rest

-- the pairs in order, seen as places and as rows
abbrev pub pairs : Slots → List (ℕ × RowRecord)
pairs slots = in_order pair_key (pairs_from 0 slots)

-- the places in order of their stamps
abbrev pub stamp_places : Slots → List RowPlace
stamp_places slots = in_order place_stamp (places_from 0 slots)

stamp_places-pairs : (slots : Slots) → stamp_places slots ≡ map pair_place (pairs slots)
stamp_places-pairs slots = ap (in_order place_stamp) (places-pairs 0 slots) ∙ map-in_order pair_place place_stamp (pairs_from 0 slots)

listed-pairs : (slots : Slots) → listed row_kind slots ≡ map (λ (pair : ℕ × RowRecord). pair.1) (pairs slots)
listed-pairs slots = ap (in_order row_kind.key) (rows-pairs 0 slots) ∙ map-in_order (λ (pair : ℕ × RowRecord). pair.1) row_kind.key (pairs_from 0 slots)

-- each pair has a slot of these, with the row
abbrev pub IsThere : ℕ → Slots → ℕ × RowRecord → Type 0
IsThere first slots pair = (at : ℕ) × (pair.0 ≡ first + at) × (at < length slots) × (row_in_slot (get_or slots at None) ≡ Some pair.1)

are_there : (first : ℕ) (slots : Slots) → AllByRecursion (IsThere first slots) (pairs_from first slots)
are_there first [] = tt
are_there first (entry ∷ slots) =
    one (row_in_slot entry) refl (weaker (pairs_from (suc first) slots) (are_there (suc first) slots))
  where
    weaker : (xs : List (ℕ × RowRecord)) → AllByRecursion (IsThere (suc first) slots) xs → AllByRecursion (IsThere first (entry ∷ slots)) xs
    weaker [] all = tt
    weaker (x ∷ xs) all = ((suc all.0.0, omega (arith, all.0.1), omega (arith, all.0.2), all.0.3), weaker xs all.1)

    one : (row : Option RowRecord) → row_in_slot entry ≡ row → AllByRecursion (IsThere first (entry ∷ slots)) (pairs_from (suc first) slots)
        → AllByRecursion (IsThere first (entry ∷ slots)) (cons_option (option_map (λ (row : RowRecord). (first, row)) row) (pairs_from (suc first) slots))
    one None is rest = rest
    one (Some row) is rest = ((0, omega arith, omega arith, is), rest)

pub find-agree : {X : Type 0} (p q : X → Bool) (xs : List X) → ((x : X) → p x ≡ q x) → find p xs ≡ find q xs
find-agree p q [] same = refl
find-agree p q (x ∷ xs) same = rw (same x) (ap (λ rest. cond (q x) (Some x) rest) (find-agree p q xs same))

found_there : {X : Type 0} (P : X → Type 0) (p : X → Bool) (xs : List X) → AllByRecursion P xs → IfSome (find p xs) P
found_there P p [] all = tt
found_there P p (x ∷ xs) all =
    elim (cases_Bool (p x)) [
      | inl t ↦ rw t all.0
      | inr f ↦ rw f (found_there P p xs all.1)
    ]

-- the row of the place that a test finds is the row that the same test finds in the list
found_row : (slots : Slots) (p : RowPlace → Bool) (q : RowRecord → Bool) → ((slot : ℕ) (row : RowRecord) → p (place_of slot row) ≡ q row)
    → option_and_then (λ place. at_slot row_kind (place_slot place) slots) (find p (stamp_places slots)) ≡ find q (listed row_kind slots)
found_row slots p q same =
    let test : ℕ × RowRecord → Bool = (λ pair. q pair.1) in
    let place = ap (find p) (stamp_places-pairs slots) ∙ find-map pair_place p (pairs slots) ∙ ap (option_map pair_place) (find-agree (λ pair. p (pair_place pair)) test (pairs slots) (λ pair. same pair.0 pair.1)) in
    let row = ap (find q) (listed-pairs slots) ∙ find-map (λ (pair : ℕ × RowRecord). pair.1) q (pairs slots) in
    ap (option_and_then (λ place. at_slot row_kind (place_slot place) slots)) place
    ∙ one (find test (pairs slots)) (found_there (IsThere 0 slots) test (pairs slots) (all-in_order pair_key (IsThere 0 slots) (pairs_from 0 slots) (are_there 0 slots)))
    ∙ sym row
  where
    one : (o : Option (ℕ × RowRecord)) → IfSome o (IsThere 0 slots)
        → option_and_then (λ place. at_slot row_kind (place_slot place) slots) (option_map pair_place o) ≡ option_map (λ (pair : ℕ × RowRecord). pair.1) o
    one None there = refl
    one (Some pair) there = let at : pair.0 ≡ there.0 = omega (arith, there.1) in rw at there.3

-- and there is one exactly where the list has one
found_both : (slots : Slots) (p : RowPlace → Bool) (q : RowRecord → Bool) → ((slot : ℕ) (row : RowRecord) → p (place_of slot row) ≡ q row) → is_some (find p (stamp_places slots)) ≡ is_some (find q (listed row_kind slots))
found_both slots p q same =
    let test : ℕ × RowRecord → Bool = (λ pair. q pair.1) in
    let place = ap (find p) (stamp_places-pairs slots) ∙ find-map pair_place p (pairs slots) ∙ ap (option_map pair_place) (find-agree (λ pair. p (pair_place pair)) test (pairs slots) (λ pair. same pair.0 pair.1)) in
    let row = ap (find q) (listed-pairs slots) ∙ find-map (λ (pair : ℕ × RowRecord). pair.1) q (pairs slots) in
    ap is_some place ∙ one (find test (pairs slots)) ∙ sym (ap is_some row)
  where
    one : (o : Option (ℕ × RowRecord)) → is_some (option_map pair_place o) ≡ is_some (option_map (λ (pair : ℕ × RowRecord). pair.1) o)
    one None = refl
    one (Some pair) = refl

-- so of a search in one table among the places as they are kept
pub found_row_in : (slots : Slots) (table : ℕ) (p : RowPlace → Bool) (q : RowRecord → Bool) → ((slot : ℕ) (row : RowRecord) → (is_in_table table (place_of slot row) && p (place_of slot row)) ≡ q row)
    → option_and_then (λ place. at_slot row_kind (place_slot place) slots) (find (λ place. is_in_table table place && p place) (row_places slots)) ≡ find q (listed row_kind slots)
found_row_in slots table p q same =
    ap (option_and_then (λ place. at_slot row_kind (place_slot place) slots)) (found_alike table p (places_from 0 slots)) ∙ found_row slots (λ place. is_in_table table place && p place) q same

pub found_both_in : (slots : Slots) (table : ℕ) (p : RowPlace → Bool) (q : RowRecord → Bool) → ((slot : ℕ) (row : RowRecord) → (is_in_table table (place_of slot row) && p (place_of slot row)) ≡ q row)
    → is_some (find (λ place. is_in_table table place && p place) (row_places slots)) ≡ is_some (find q (listed row_kind slots))
found_both_in slots table p q same = ap is_some (found_alike table p (places_from 0 slots)) ∙ found_both slots (λ place. is_in_table table place && p place) q same

-- no two rows have one stamp where no two of their places have
pub rows-apart : (slots : Slots) → AreApart place_stamp (row_places slots) → AreApart row_kind.key (listed row_kind slots)
rows-apart slots apart = λ k.
    (let test : ℕ × RowRecord → Bool = (λ pair. pair.1.stamp == k) in
    let rows = ap (count_by (has row_kind.key k)) (listed-pairs slots) ∙ count_by-map (has row_kind.key k) (λ (pair : ℕ × RowRecord). pair.1) (pairs slots) in
    let places = ap (count_by (has place_stamp k)) (stamp_places-pairs slots) ∙ count_by-map (has place_stamp k) pair_place (pairs slots) in
    let both = count_by-in_order place_stamp (has place_stamp k) (places_from 0 slots) in
    let kept = count_by-in_order place_key (has place_stamp k) (places_from 0 slots) in
    let a = apart k in
    omega (arith, rows, places, both, kept))

all-map : {X Y : Type 0} (f : X → Y) (P : Y → Type 0) (xs : List X) → AllByRecursion (λ x. P (f x)) xs → AllByRecursion P (map f xs)
all-map f P [] all = tt
all-map f P (x ∷ xs) all = (all.0, all-map f P xs all.1)

all-unmap : {X Y : Type 0} (f : X → Y) (P : Y → Type 0) (xs : List X) → AllByRecursion P (map f xs) → AllByRecursion (λ x. P (f x)) xs
all-unmap f P [] all = tt
all-unmap f P (x ∷ xs) all = (all.0, all-unmap f P xs all.1)

-- what holds of the stamps of all rows holds of those of their places
pub places-below : (stamp : ℕ) (slots : Slots) → AllByRecursion (λ (row : RowRecord). row.stamp < stamp) (listed row_kind slots) → AllByRecursion (λ place. place_stamp place < stamp) (stamp_places slots)
places-below stamp slots below =
    subst (AllByRecursion (λ place. place_stamp place < stamp)) (sym (stamp_places-pairs slots))
    (all-map pair_place (λ place. place_stamp place < stamp) (pairs slots)
    (all-unmap (λ (pair : ℕ × RowRecord). pair.1) (λ (row : RowRecord). row.stamp < stamp) (pairs slots) (subst (AllByRecursion (λ (row : RowRecord). row.stamp < stamp)) (listed-pairs slots) below)))

-- the slots of places from a number on are no lesser numbers
pub slots_from : (first : ℕ) (slots : Slots) → AllByRecursion (λ place. (first ≤ place_slot place) × (place_slot place < first + length slots)) (places_from first slots)
slots_from first [] = tt
slots_from first (entry ∷ slots) = one (row_in_slot entry) (weaker (places_from (suc first) slots) (slots_from (suc first) slots))
  where
    weaker : (xs : List RowPlace) → AllByRecursion (λ place. (suc first ≤ place_slot place) × (place_slot place < suc first + length slots)) xs
        → AllByRecursion (λ place. (first ≤ place_slot place) × (place_slot place < first + suc (length slots))) xs
    weaker [] all = tt
    weaker (x ∷ xs) all = ((omega (arith, all.0.0), omega (arith, all.0.1)), weaker xs all.1)

    one : (row : Option RowRecord) → AllByRecursion (λ place. (first ≤ place_slot place) × (place_slot place < first + suc (length slots))) (places_from (suc first) slots)
        → AllByRecursion (λ place. (first ≤ place_slot place) × (place_slot place < first + suc (length slots))) (cons_option (option_map (place_of first) row) (places_from (suc first) slots))
    one None rest = rest
    one (Some row) rest = ((omega arith, omega arith), rest)

pub none_lower : (first slot : ℕ) (xs : List RowPlace) → slot < first → AllByRecursion (λ place. first ≤ place_slot place) xs → count_by (has place_slot slot) xs ≡ 0
none_lower first slot [] lower all = refl
none_lower first slot (x ∷ xs) lower all = counts_not (has place_slot slot) x xs (ne_eqb (place_slot x) slot (omega (arith, all.0))) ∙ none_lower first slot xs lower all.1

pub lower_part : (first most : ℕ) (xs : List RowPlace) → AllByRecursion (λ place. (first ≤ place_slot place) × (place_slot place < most)) xs → AllByRecursion (λ place. first ≤ place_slot place) xs
lower_part first most [] all = tt
lower_part first most (x ∷ xs) all = (all.0.0, lower_part first most xs all.1)

pub upper_part : (first most : ℕ) (xs : List RowPlace) → AllByRecursion (λ place. (first ≤ place_slot place) × (place_slot place < most)) xs → AllByRecursion (λ place. place_slot place < most) xs
upper_part first most [] all = tt
upper_part first most (x ∷ xs) all = (all.0.1, upper_part first most xs all.1)

cond_most : (b : Bool) → cond b 1 0 ≤ 1
cond_most true = omega arith
cond_most false = omega arith

add-zero : (n : ℕ) → n + 0 ≡ n
add-zero n = omega arith

-- how many places there are of a slot: one or none
pub slot_count : (first at : ℕ) (slots : Slots) → count_by (has place_slot (first + at)) (places_from first slots) ≤ 1
slot_count first at [] = omega arith
slot_count first zero (entry ∷ slots) =
    let none : count_by (has place_slot first) (places_from (suc first) slots) ≡ 0 =
    none_lower (suc first) first (places_from (suc first) slots) (omega arith) (lower_part (suc first) (suc first + length slots) (places_from (suc first) slots) (slots_from (suc first) slots)) in
    one (row_in_slot entry) none
  where
    one : (row : Option RowRecord) → count_by (has place_slot first) (places_from (suc first) slots) ≡ 0
        → count_by (has place_slot (first + 0)) (cons_option (option_map (place_of first) row) (places_from (suc first) slots)) ≤ 1
    one None none = rw (add-zero first) (omega arith)
    one (Some row) none = rw (add-zero first) (let c = count_by-cons (has place_slot first) (place_of first row) (places_from (suc first) slots) in let b = cond_most (has place_slot first (place_of first row)) in omega arith)
slot_count first (suc at) (entry ∷ slots) =
    let rest = slot_count (suc first) at slots in
    let same : suc first + at ≡ first + suc at = omega arith in
    one (row_in_slot entry) (subst (λ k. count_by (has place_slot k) (places_from (suc first) slots) ≤ 1) same rest)
  where
    one : (row : Option RowRecord) → count_by (has place_slot (first + suc at)) (places_from (suc first) slots) ≤ 1
        → count_by (has place_slot (first + suc at)) (cons_option (option_map (place_of first) row) (places_from (suc first) slots)) ≤ 1
    one None rest = rest
    one (Some row) rest =
        let c = counts_not (has place_slot (first + suc at)) (place_of first row) (places_from (suc first) slots) (ne_eqb first (first + suc at) (omega arith)) in omega arith
