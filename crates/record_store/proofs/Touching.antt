-- Slots that are touched, and what is done with each of them.
use Rattle.std.proofs.Common.{◌≡◌, ◌≢◌, inl, inr, ℕ, zero, suc, ◌+◌, ◌<◌, ◌≤◌, ◌==◌, ◌||◌, not, if◌then◌else◌, Bool, true, false, List, [], ◌∷◌, ◌++◌, length, take, drop, set, get_or, slice_index, replicate, sym, refl, ap, ◌∙◌, arith, true≢false, eqb-true, eq-eqb, length-append}
use Rattle.std.specs.Prelude.{IsPermutation}
use Rattle.std.proofs.lemmas.Bool.{and_parts, false_from_ne_true, or_cases, or_left, or_right}
use Rattle.std.proofs.lemmas.Bool.Decides.{nat_tests}
use Rattle.std.proofs.lemmas.Grind.{same_number_lists}
use Rattle.std.proofs.lemmas.List.{get_or_default, drop_all, drop_more, length-replicate, length-set, get_or-set_same, get_or-set_other, take-append-drop}
use Rattle.std.proofs.lemmas.List.Sorted.{length_permutation}
use Rattle.eeprom.specs.StoreOf.{is_distinct}
use Rattle.cell_store.specs.Chains.{is_among}
use Rattle.cell_store.specs.Marks.{is_marked, marked}
use Rattle.cell_store.proofs.Among.{among-append, distinct-parts, distinct-join}
use Rattle.cell_store.proofs.Marking.{marked-all, marked-inside, marked-set, unmarked-one, unmarked-set}
use Rattle.record_store.specs.Touched.{AreSlots, AreMarkedOnce, SameOutside, with_touched}
use Rattle.record_store.proofs.ClaimedSlots.{none-marked}
use Rattle.record_store.proofs.Putting.{count-marked}
use Rattle.record_store.proofs.Sorting.{among-sorted, distinct-sorted}
use Rattle.record_store.proofs.Sides.{among-all, not-among-all, same-or-other}

-- a slot is among those that it is one of
pub among-at : (xs : List ℕ) (i : ℕ) → i < length xs → is_among (get_or xs i 0) xs ≡ true
among-at [] i inside = absurd (omega arith)
among-at (x ∷ xs) zero inside = or_left (x == x) (is_among x xs) (eq-eqb x x refl)
among-at (x ∷ xs) (suc i) inside = or_right (get_or xs i 0 == x) (is_among (get_or xs i 0) xs) (among-at xs i (omega arith))

among-first : (x : ℕ) (xs : List ℕ) → is_among x (x ∷ xs) ≡ true
among-first x xs = or_left (x == x) (is_among x xs) (eq-eqb x x refl)

-- it isn't among those before it
pub not-before : (xs : List ℕ) (i : ℕ) → i < length xs → is_distinct xs ≡ true → is_among (get_or xs i 0) (take i xs) ≡ false
not-before xs i inside distinct =
    let slot : ℕ = get_or xs i 0 in
    let parts = distinct-parts (take i xs) (drop i xs) (ap is_distinct (take-append-drop i xs) ∙ distinct) in
    let behind : is_among slot (drop i xs) ≡ true = ap (is_among slot) (drop_more xs i 0 inside) ∙ among-first slot (drop (i + 1) xs) in
    false_from_ne_true (is_among slot (take i xs)) (λ here. true≢false (sym behind ∙ among-all (λ x. is_among x (drop i xs) ≡ false) (take i xs) parts.2 slot here))

-- a number among one more
pub among-last : (x slot : ℕ) (xs : List ℕ) → is_among x (xs ++ slot ∷ []) ≡ (is_among x xs || (x == slot))
among-last x slot xs = among-append x xs (slot ∷ []) ∙ ap (λ (b : Bool). is_among x xs || b) (or-false (x == slot))
  where
    or-false : (b : Bool) → (b || false) ≡ b
    or-false true = refl
    or-false false = refl

-- none among them, and not the one more
pub none-last : (x slot : ℕ) (xs : List ℕ) → is_among x (xs ++ slot ∷ []) ≡ false → (is_among x xs ≡ false) × (x ≢ slot)
none-last x slot xs none = neither (is_among x xs) (x == slot) (sym (among-last x slot xs) ∙ none) refl
  where
    neither : (a b : Bool) → (a || b) ≡ false → (x == slot) ≡ b → (a ≡ false) × (x ≢ slot)
    neither true b h e = absurd (true≢false h)
    neither false true h e = absurd (true≢false h)
    neither false false h e = (refl, λ same. true≢false (sym (eq-eqb x slot same) ∙ e))

pub none-touched : (x slot : ℕ) (xs : List ℕ) → is_among x (with_touched xs slot) ≡ false → (is_among x xs ≡ false) × (x ≢ slot)
none-touched x slot xs none = cases (is_among slot xs) refl none
  where
    cases : (b : Bool) → is_among slot xs ≡ b → is_among x (if b then xs else xs ++ slot ∷ []) ≡ false → (is_among x xs ≡ false) × (x ≢ slot)
    cases true is none = (none, λ same. true≢false (sym is ∙ (ap (λ (x : ℕ). is_among x xs) (sym same) ∙ none)))
    cases false is none = none-last x slot xs none

-- marks of slots
pub mark-read : (marks : List Bool) (slot : ℕ) (mark : Bool) → slot < length marks → mark ≡ get_or marks slot mark → is_marked marks slot ≡ mark
mark-read marks slot mark inside is = get_or_default marks slot false mark inside ∙ sym is

pub marked-slots : (slots : List ℕ) (marks : List Bool) (room : ℕ) → AreMarkedOnce slots marks room → AreSlots (length marks) slots
marked-slots slots marks room m = record {
  inside = λ slot here. marked-inside marks slot (m.marks_are slot ∙ here);
  distinct = m.distinct;
  few = omega (arith, m.count, marked-all marks);
}

pub marked-none : (size room : ℕ) → size ≤ room → size ≤ 2048 → AreMarkedOnce [] (replicate size false) room
marked-none size room fits many = record {
  marks_are = λ slot. none-marked size slot;
  distinct = refl;
  count = none-of (replicate size false) (λ slot. none-marked size slot);
  room_is = omega (arith, length-replicate size false);
  many = omega (arith, length-replicate size false);
}
  where
    none-of : (marks : List Bool) → ((slot : ℕ) → is_marked marks slot ≡ false) → 0 ≡ marked marks
    none-of marks none = (let few = count-marked [] marks (λ slot is. absurd (true≢false (sym is ∙ none slot))) in omega (arith, few))

pub marked-cleared : (slots : List ℕ) (marks now : List Bool) (room : ℕ) → AreMarkedOnce slots marks room → ((slot : ℕ) → is_marked now slot ≡ false) → length now ≡ length marks → AreMarkedOnce [] now room
marked-cleared slots marks now room m none size = record {
  marks_are = λ slot. none slot;
  distinct = refl;
  count = (let few = count-marked [] now (λ slot is. absurd (true≢false (sym is ∙ none slot))) in omega (arith, few));
  room_is = omega (arith, size, m.room_is);
  many = omega (arith, size, m.many);
}

pub marked-sorted : (slots now : List ℕ) (marks : List Bool) (room : ℕ) → IsPermutation slots now → AreMarkedOnce slots marks room → AreMarkedOnce now marks room
marked-sorted slots now marks room moved m = record {
  marks_are = λ slot. m.marks_are slot ∙ sym (among-sorted slot slots now moved);
  distinct = distinct-sorted slots now moved m.distinct;
  count = length_permutation slots now moved ∙ m.count;
  room_is = m.room_is;
  many = m.many;
}

pub touch-room : (slots : List ℕ) (marks : List Bool) (room slot : ℕ) → AreMarkedOnce slots marks room → slot < length marks → is_marked marks slot ≡ false → length slots < room
touch-room slots marks room slot m inside free = omega (arith, m.count, m.room_is, marked-all marks, unmarked-one marks slot inside free)

pub marked-more : (slots : List ℕ) (marks : List Bool) (room slot : ℕ) → AreMarkedOnce slots marks room → slot < length marks → is_marked marks slot ≡ false → AreMarkedOnce (slots ++ slot ∷ []) (set marks slot true) room
marked-more slots marks room slot m inside free = record {
  marks_are = λ x. marked-set marks slot x inside ∙ (ap (λ (b : Bool). b || (x == slot)) (m.marks_are x) ∙ sym (among-last x slot slots));
  distinct = distinct-join slots (slot ∷ []) m.distinct refl (not-among-all slots (slot ∷ []) apart);
  count = omega (arith, m.count, length-append slots (slot ∷ []), marked-all marks, marked-all (set marks slot true), length-set marks slot true, unmarked-one marks slot inside free);
  room_is = omega (arith, m.room_is, length-set marks slot true);
  many = omega (arith, m.many, length-set marks slot true);
}
  where
    apart : (x : ℕ) → is_among x slots ≡ true → is_among x (slot ∷ []) ≡ false
    apart x here = false_from_ne_true (is_among x (slot ∷ [])) (λ same. elim (or_cases (x == slot) false same) [
      | inl is ↦ true≢false (sym here ∙ (ap (λ (x : ℕ). is_among x slots) (eqb-true x slot is) ∙ (sym (m.marks_are slot) ∙ free)))
      | inr wrong ↦ true≢false (sym wrong)
    ])

pub touched-more : (slots : List ℕ) (marks : List Bool) (room slot : ℕ) → AreMarkedOnce slots marks room → is_marked marks slot ≡ false → slots ++ slot ∷ [] ≡ with_touched slots slot
touched-more slots marks room slot m free = let none : is_among slot slots ≡ false = sym (m.marks_are slot) ∙ free in rw none refl

pub touched-again : (slots : List ℕ) (marks : List Bool) (room slot : ℕ) → AreMarkedOnce slots marks room → is_marked marks slot ≡ true → slots ≡ with_touched slots slot
touched-again slots marks room slot m is = let there : is_among slot slots ≡ true = sym (m.marks_are slot) ∙ is in rw there refl

-- the marks that are left once the first so many are gone
pub unmark-more : (slots : List ℕ) (marks : List Bool) (i : ℕ) → i < length slots → ((x : ℕ) → is_marked marks x ≡ true → is_among x (drop i slots) ≡ true) → (x : ℕ) → is_marked (set marks (get_or slots i 0) false) x ≡ true → is_among x (drop (i + 1) slots) ≡ true
unmark-more slots marks i inside left x is =
    let slot : ℕ = get_or slots i 0 in
    let both = and_parts (is_marked marks x) (not (x == slot)) (sym (unmarked-set marks slot x) ∙ is) in
    elim (or_cases (x == slot) (is_among x (drop (i + 1) slots)) (sym (ap (is_among x) (drop_more slots i 0 inside)) ∙ left x both.0)) [
      | inl same ↦ absurd (true≢false (sym (rw same at both.1)))
      | inr later ↦ later
    ]

pub unmark-end : (slots : List ℕ) (marks : List Bool) (i : ℕ) → length slots ≤ i → ((x : ℕ) → is_marked marks x ≡ true → is_among x (drop i slots) ≡ true) → (x : ℕ) → is_marked marks x ≡ false
unmark-end slots marks i past left x = false_from_ne_true (is_marked marks x) (λ is. true≢false (sym (left x is) ∙ ap (is_among x) (drop_all i slots past)))

not-first : (x slot : ℕ) (xs : List ℕ) → x ≢ slot → is_among x xs ≡ false → is_among x (slot ∷ xs) ≡ false
not-first x slot xs other none = let test : (x == slot) ≡ false = grind (arith, nat_tests, other) in rw (test, none) refl

-- numbers that are copied in slot after slot
pub copy-more : (slots from to : List ℕ) (i : ℕ) → i < length slots → get_or slots i 0 < length to → SameOutside (drop i slots) to from → SameOutside (drop (i + 1) slots) (set to (get_or slots i 0) (slice_index from (get_or slots i 0))) from
copy-more slots from to i inside room others = λ at none. elim (same-or-other at (get_or slots i 0)) [
  | inl same ↦ rw same (get_or-set_same to (get_or slots i 0) (slice_index from (get_or slots i 0)) 0 room)
  | inr other ↦ get_or-set_other to (get_or slots i 0) at (slice_index from (get_or slots i 0)) 0 other
      ∙ others at (ap (is_among at) (drop_more slots i 0 inside) ∙ not-first at (get_or slots i 0) (drop (i + 1) slots) other none)
]

pub copy-end : (slots from to : List ℕ) (i : ℕ) → length slots ≤ i → length to ≡ length from → SameOutside (drop i slots) to from → to ≡ from
copy-end slots from to i past size others = same_number_lists to from size (λ at inside. others at (ap (is_among at) (drop_all i slots past)))
