-- Octets outside a region, which a write within it leaves, and octets that are alike.
use Rattle.std.proofs.Common.{◌≡◌, ℕ, zero, suc, ◌+◌, ◌*◌, ◌-◌, ◌<◌, ◌≤◌, ◌%◌, ◌==◌, ◌&&◌, nat_le, List, ◌∷◌, length, take, drop, get_or, slice_index, slice_range, sym, refl, ap, ap₂, ◌∙◌, subst, arith, drop-drop, get_or-take, get_or-drop}
use Rattle.std.proofs.lemmas.List.{take-take, drop-take}
use Rattle.std.specs.List.{list_all}
use Rattle.eeprom.specs.Image.{overwrite, IsTorn}
use Rattle.eeprom.specs.StoreOf.{number_at, entries_at, journal_place, journal, is_entry, is_in_range, is_gate_open, written_directory}
use Rattle.eeprom.specs.declared.entry.Entry.{Entry}
use Rattle.eeprom.proofs.Regions.{length-overwrite, take-overwrite, drop-overwrite, get-inside, numbers-agree}
use Rattle.journal.specs.Journal.{KeepsRest}
use Rattle.journal.specs.Run.{SameOutside}

pub torn-outside : (was left : List ℕ) (at count from to : ℕ) → from ≤ at → at + count ≤ to → at + count ≤ length was → IsTorn was at count left → SameOutside from to was left
torn-outside was left at count from to after before fits torn =
    let e = torn.count_is in
    let whole : at + length torn.octets ≤ length was = omega arith in
    let end : at + length torn.octets ≤ to = omega arith in
    subst (λ (image : List ℕ). SameOutside from to was image) (sym torn.is) (record {
      size = length-overwrite was at torn.octets whole;
      before = take-overwrite from at was torn.octets after (omega arith);
      behind = drop-overwrite to at was torn.octets end whole;
    })

-- nothing is written
pub outside-none : (from to : ℕ) (was : List ℕ) → SameOutside from to was was
outside-none from to was = record { size = refl; before = refl; behind = refl }

-- one write after another
pub outside-then : (from to : ℕ) (was mid left : List ℕ) → SameOutside from to was mid → SameOutside from to mid left → SameOutside from to was left
outside-then from to was mid left first second = record { size = second.size ∙ first.size; before = second.before ∙ first.before; behind = second.behind ∙ first.behind }

-- a write that was done is one that was cut short, too
pub torn-whole : (was : List ℕ) (at : ℕ) (octets : List ℕ) → IsTorn was at (length octets) (overwrite was at octets)
torn-whole was at octets = record { octets = octets; count_is = refl; is = refl }

pub take-less : (from to k : ℕ) (left was : List ℕ) → k ≤ from → SameOutside from to was left → take k left ≡ take k was
take-less from to k left was less same = sym (take-take k from left less) ∙ ap (λ (xs : List ℕ). take k xs) same.before ∙ take-take k from was less

pub drop-more : (from to k : ℕ) (left was : List ℕ) → to ≤ k → SameOutside from to was left → drop k left ≡ drop k was
drop-more from to k left was more same =
    let rest = k - to in
    let e : to + rest ≡ k = omega arith in
    ap (λ (k : ℕ). drop k left) (sym e) ∙ sym (drop-drop rest to left) ∙ ap (λ (xs : List ℕ). drop rest xs) same.behind ∙ drop-drop rest to was ∙ ap (λ (k : ℕ). drop k was) e

octet-before : (from to k : ℕ) (left was : List ℕ) → k < from → SameOutside from to was left → slice_index left k ≡ slice_index was k
octet-before from to k left was inside same =
    sym (get_or-take from left k 0 inside) ∙ ap (λ (xs : List ℕ). get_or xs k 0) same.before ∙ get_or-take from was k 0 inside

octet-behind : (from to k : ℕ) (left was : List ℕ) → to ≤ k → SameOutside from to was left → slice_index left k ≡ slice_index was k
octet-behind from to k left was more same =
    let rest = k - to in
    let e : to + rest ≡ k = omega arith in
    ap (λ (k : ℕ). slice_index left k) (sym e) ∙ sym (get_or-drop to left rest 0) ∙ ap (λ (xs : List ℕ). get_or xs rest 0) same.behind ∙ get_or-drop to was rest 0 ∙ ap (λ (k : ℕ). slice_index was k) e

-- so many octets from a place of one list on are those from a place of another on
abbrev pub Alike : List ℕ → ℕ → List ℕ → ℕ → ℕ → Type 0
Alike a p b q size = (k i j : ℕ) → k < size → i ≡ p + k → j ≡ q + k → slice_index a i ≡ slice_index b j

pub alike-before : (from to place size : ℕ) (left was : List ℕ) → place + size ≤ from → SameOutside from to was left → Alike left place was place size
alike-before from to place size left was inside same k i j below is js =
    let e : i ≡ j = omega arith in
    octet-before from to i left was (omega arith) same ∙ ap (λ (k : ℕ). slice_index was k) e

pub alike-behind : (from to place size : ℕ) (left was : List ℕ) → to ≤ place → SameOutside from to was left → Alike left place was place size
alike-behind from to place size left was more same k i j below is js =
    let e : i ≡ j = omega arith in
    octet-behind from to i left was (omega arith) same ∙ ap (λ (k : ℕ). slice_index was k) e

pub alike-written : (was octets : List ℕ) (at place start size : ℕ) → at ≤ length was → start + size ≤ length octets → place ≡ at + start → Alike (overwrite was at octets) place octets start size
alike-written was octets at place start size fits inside begins k i j below is js =
    let e : i ≡ at + j = omega arith in
    ap (λ (k : ℕ). slice_index (overwrite was at octets) k) e ∙ get-inside was at octets j (omega arith) fits

pub alike-read : (image octets : List ℕ) (place size : ℕ) → octets ≡ slice_range image place (place + size) → Alike octets 0 image place size
alike-read image octets place size read k i j below is js =
    let width : (place + size) - place ≡ size = omega arith in
    let e : i ≡ k = omega arith in
    ap₂ (λ (xs : List ℕ) (k : ℕ). get_or xs k 0) read e ∙ ap (λ (size : ℕ). get_or (take size (drop place image)) k 0) width
    ∙ get_or-take size (drop place image) k 0 below ∙ get_or-drop place image k 0 ∙ ap (λ (k : ℕ). slice_index image k) (sym js)

pub number-alike : (a b : List ℕ) (p q : ℕ) → Alike a p b q 2 → number_at a p ≡ number_at b q
number-alike a b p q same =
    ap₂ (λ (high low : ℕ). 256 * high + low) (same 0 p q (omega arith) (omega arith) (omega arith)) (same 1 (p + 1) (q + 1) (omega arith) refl refl)

pub entries-alike : (a b : List ℕ) (p q count : ℕ) → Alike a p b q (4 * count) → entries_at a p count ≡ entries_at b q count
entries-alike a b p q zero same = refl
entries-alike a b p q (suc count) same =
    let slot : number_at a p ≡ number_at b q = number-alike a b p q (λ k i j below is js. same k i j (omega arith) is js) in
    let first : number_at a (p + 2) ≡ number_at b (q + 2) = number-alike a b (p + 2) (q + 2) (λ k i j below is js. same (k + 2) i j (omega arith) (omega arith) (omega arith)) in
    let rest = entries-alike a b (p + 4) (q + 4) count (λ k i j below is js. same (k + 4) i j (omega arith) (omega arith) (omega arith)) in
    ap₂ (λ (entry : Entry) (entries : List Entry). entry ∷ entries) (ap₂ (λ (slot first : ℕ). record { slot = slot; first = first }) slot first) rest

-- what a write before the journal leaves of it
pub journal-stays : (from to n : ℕ) (left was : List ℕ) → to ≤ journal_place n → SameOutside from to was left → journal left n ≡ journal was n
journal-stays from to n left was before same =
    let number = number-alike left was (journal_place n) (journal_place n) (alike-behind from to (journal_place n) 2 left was before same) in
    ap (λ (count : ℕ). entries_at left (journal_place n + 2) count) number
    ∙ entries-alike left was (journal_place n + 2) (journal_place n + 2) (number_at was (journal_place n))
    (alike-behind from to (journal_place n + 2) (4 * number_at was (journal_place n)) left was (omega arith) same)

pub range-stays : (from to n : ℕ) (left was : List ℕ) → to ≤ journal_place n → SameOutside from to was left → is_in_range left n ≡ is_in_range was n
range-stays from to n left was before same =
    let number = number-alike left was (journal_place n) (journal_place n) (alike-behind from to (journal_place n) 2 left was before same) in
    ap₂ (λ (count : ℕ) (entries : List Entry). nat_le count n && list_all (is_entry n) entries) number (journal-stays from to n left was before same)

-- what a write behind the gate leaves of it
pub gate-stays : (from to : ℕ) (left was : List ℕ) → 8 < from → SameOutside from to was left → is_gate_open left ≡ is_gate_open was
gate-stays from to left was behind same = ap (λ (octet : ℕ). octet % 2 == 1) (octet-before from to 8 left was behind same)

-- what a write before the directory or behind it leaves of it
pub directory-behind : (from to n : ℕ) (left was : List ℕ) → to ≤ 32 → SameOutside from to was left → written_directory left n ≡ written_directory was n
directory-behind from to n left was before same = numbers-agree left was 32 n (λ k after below. octet-behind from to k left was (omega arith) same)

pub directory-before : (from to n : ℕ) (left was : List ℕ) → 32 + 2 * n ≤ from → SameOutside from to was left → written_directory left n ≡ written_directory was n
directory-before from to n left was behind same = numbers-agree left was 32 n (λ k after below. octet-before from to k left was (omega arith) same)

-- a write at the gate, or of the directory and the journal, keeps the rest
pub rest-gate : (n : ℕ) (left was : List ℕ) → SameOutside 8 9 was left → KeepsRest n was left
rest-gate n left was same = record {
  size = same.size;
  front = same.before;
  behind_gate = ap (λ (xs : List ℕ). take 23 xs) same.behind;
  cells = drop-more 8 9 (34 + 6 * n) left was (omega arith) same;
}

pub rest-body : (n from to : ℕ) (left was : List ℕ) → 32 ≤ from → to ≤ 34 + 6 * n → SameOutside from to was left → KeepsRest n was left
rest-body n from to left was after before same =
    let head : take 32 left ≡ take 32 was = take-less from to 32 left was after same in
    record {
      size = same.size;
      front = take-less from to 8 left was (omega arith) same;
      behind_gate = sym (drop-take 9 23 left) ∙ ap (λ (xs : List ℕ). drop 9 xs) head ∙ drop-take 9 23 was;
      cells = drop-more from to (34 + 6 * n) left was (omega arith) same;
    }

pub rest-then : (n : ℕ) (was mid left : List ℕ) → KeepsRest n was mid → KeepsRest n mid left → KeepsRest n was left
rest-then n was mid left first second = record {
  size = second.size ∙ first.size;
  front = second.front ∙ first.front;
  behind_gate = second.behind_gate ∙ first.behind_gate;
  cells = second.cells ∙ first.cells;
}
