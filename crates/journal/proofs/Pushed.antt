-- Entries pushed at the end of a journal's octets, and taken from them.
use Rattle.std.proofs.Common.{◌≡◌, ℕ, zero, suc, ◌+◌, ◌*◌, ◌/◌, ◌%◌, ◌≤◌, List, [], ◌∷◌, ◌++◌, length, get_or, sym, refl, ap, ap₂, ◌∙◌, arith, append_assoc, add-zero, suc-add, get_or-append-add, length-append, Option, Some, None, IfSome, slice_range}
use Rattle.std.proofs.lemmas.List.{get_or_append_left}
use Rattle.eeprom.specs.StoreOf.{number_at, entries_at, two_octets}
use Rattle.eeprom.specs.declared.entry.Entry.{Entry}
use Rattle.journal.proofs.Outside.{Alike, alike-read, number-alike, entries-alike}

alike-front : (xs ys : List ℕ) (place size : ℕ) → place + size ≤ length xs → Alike (xs ++ ys) place xs place size
alike-front xs ys place size inside k i j below is js =
    let e : i ≡ j = omega arith in
    get_or_append_left xs ys 0 i (omega arith) ∙ ap (λ (k : ℕ). get_or xs k 0) e

alike-end : (xs ys : List ℕ) (place start size : ℕ) → place ≡ length xs + start → Alike (xs ++ ys) place ys start size
alike-end xs ys place start size begins k i j below is js =
    let e : i ≡ length xs + j = omega arith in
    ap (λ (k : ℕ). get_or (xs ++ ys) k 0) e ∙ get_or-append-add xs ys j 0

pub number-front : (xs ys : List ℕ) (place : ℕ) → place + 2 ≤ length xs → number_at (xs ++ ys) place ≡ number_at xs place
number-front xs ys place inside = number-alike (xs ++ ys) xs place place (alike-front xs ys place 2 inside)

pub entries-more : (octets : List ℕ) (place count : ℕ)
    → entries_at octets place (count + 1) ≡ entries_at octets place count ++ record { slot = number_at octets (place + 4 * count); first = number_at octets (place + 4 * count + 2) } ∷ []
entries-more octets place zero = rw add-zero refl
entries-more octets place (suc count) =
    let next : (place + 4) + 4 * count ≡ place + 4 * suc count = omega arith in
    rw (suc-add) (ap (λ (rest : List Entry). record { slot = number_at octets place; first = number_at octets (place + 2) } ∷ rest) (entries-more octets (place + 4) count
    ∙ ap (λ (k : ℕ). entries_at octets (place + 4) count ++ record { slot = number_at octets k; first = number_at octets (k + 2) } ∷ []) next))

-- the two octets of a number at the end
number-pushed : (xs rest : List ℕ) (number place : ℕ) → place ≡ length xs → number_at (xs ++ (two_octets number ++ rest)) place ≡ number
number-pushed xs rest number place begins =
    let parts : 256 * (number / 256) + number % 256 ≡ number = omega arith in
    number-alike (xs ++ (two_octets number ++ rest)) (two_octets number ++ rest) place 0 (alike-end xs (two_octets number ++ rest) place 0 2 (omega arith)) ∙ parts

pub first-number : (number : ℕ) → number_at (two_octets number) 0 ≡ number
first-number number = omega arith

pub entries-pushed : (octets : List ℕ) (count slot first : ℕ) (entries : List Entry) → length octets ≡ 2 + 4 * count → entries_at octets 2 count ≡ entries
    → entries_at ((octets ++ two_octets slot) ++ two_octets first) 2 (count + 1) ≡ entries ++ record { slot = slot; first = first } ∷ []
entries-pushed octets count slot first entries size before =
    let all : List ℕ = octets ++ (two_octets slot ++ two_octets first) in
    let front : entries_at all 2 count ≡ entries =
    entries-alike all octets 2 2 count (alike-front octets (two_octets slot ++ two_octets first) 2 (4 * count) (omega arith)) ∙ before in
    let a : number_at all (2 + 4 * count) ≡ slot = number-pushed octets (two_octets first) slot (2 + 4 * count) (omega arith) in
    let b : number_at all (2 + 4 * count + 2) ≡ first =
    ap (λ (xs : List ℕ). number_at xs (2 + 4 * count + 2)) (sym (append_assoc octets (two_octets slot) (two_octets first)))
    ∙ number-pushed (octets ++ two_octets slot) [] first (2 + 4 * count + 2) (omega (arith, length-append octets (two_octets slot))) in
    ap (λ (xs : List ℕ). entries_at xs 2 (count + 1)) (append_assoc octets (two_octets slot) (two_octets first))
    ∙ entries-more all 2 count
    ∙ ap₂ (λ (es : List Entry) (entry : Entry). es ++ entry ∷ []) front (ap₂ (λ (slot first : ℕ). record { slot = slot; first = first }) a b)

-- one entry more is taken
pub taken-more : (octets : List ℕ) (old entries : List Entry) (i : ℕ) (entry : Entry) → entries ≡ old ++ entries_at octets 0 i → entry.slot ≡ number_at octets (4 * i) → entry.first ≡ number_at octets (4 * i + 2)
    → entries ++ entry ∷ [] ≡ old ++ entries_at octets 0 (i + 1)
taken-more octets old entries i entry before slot first =
    let place : 0 + 4 * i ≡ 4 * i = omega arith in
    ap₂ (λ (es : List Entry) (entry : Entry). es ++ entry ∷ []) before (ap₂ (λ (slot first : ℕ). record { slot = slot; first = first }) slot first)
    ∙ append_assoc old (entries_at octets 0 i) _
    ∙ ap (λ (es : List Entry). old ++ es) (ap (λ (place : ℕ). entries_at octets 0 i ++ record { slot = number_at octets place; first = number_at octets (place + 2) } ∷ []) (sym place) ∙ sym (entries-more octets 0 i))

-- the entries of octets that were read
pub more-read : (image : Option (List ℕ)) (octets : List ℕ) (old entries : List Entry) (at place count size : ℕ) → IfSome image (λ image. octets ≡ slice_range image at (at + size)) → at ≡ place → size ≡ 4 * count → entries ≡ old ++ entries_at octets 0 count
    → IfSome image (λ image. entries ≡ old ++ entries_at image place count)
more-read None octets old entries at place count size read begins is taken = tt
more-read (Some image) octets old entries at place count size read begins is taken =
    taken
    ∙ ap (λ (es : List Entry). old ++ es) (entries-alike octets image 0 at count (λ k i j below e e'. alike-read image octets at size read k i j (omega arith) e e'))
    ∙ ap (λ (place : ℕ). old ++ entries_at image place count) begins

entries-split : (octets : List ℕ) (place before behind : ℕ) → entries_at octets place (before + behind) ≡ entries_at octets place before ++ entries_at octets (place + 4 * before) behind
entries-split octets place zero behind = ap₂ (λ (place count : ℕ). entries_at octets place count) (omega arith) (omega arith)
entries-split octets place (suc before) behind =
    let next : (place + 4) + 4 * before ≡ place + 4 * suc before = omega arith in
    rw (suc-add) (ap (λ (rest : List Entry). record { slot = number_at octets place; first = number_at octets (place + 2) } ∷ rest) (entries-split octets (place + 4) before behind
    ∙ ap (λ (from : ℕ). entries_at octets (place + 4) before ++ entries_at octets from behind) next))

-- some more of them
pub read-on : (image : Option (List ℕ)) (place few : ℕ) (entries more : List Entry) → IfSome image (λ image. entries ≡ entries_at image place (length entries))
    → IfSome image (λ image. more ≡ entries ++ entries_at image (place + 4 * length entries) few) → length more ≡ length entries + few → IfSome image (λ image. more ≡ entries_at image place (length more))
read-on None place few entries more before read count = tt
read-on (Some image) place few entries more before read count =
    read ∙ ap (λ (es : List Entry). es ++ entries_at image (place + 4 * length entries) few) before ∙ sym (entries-split image place (length entries) few) ∙ ap (λ (count : ℕ). entries_at image place count) (sym count)
