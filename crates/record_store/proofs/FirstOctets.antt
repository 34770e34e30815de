-- The first octets of records, kept for the cells that their chains begin at.
use Rattle.std.proofs.Common.{◌≡◌, ◌≢◌, ◌⊎◌, inl, inr, ℕ, zero, suc, ◌+◌, ◌*◌, ◌<◌, ◌≤◌, ◌==◌, Bool, true, false, List, [], ◌∷◌, ◌++◌, length, set, get_or, slice_index, Option, Some, None, if◌then◌else◌, sym, refl, ap, ◌∙◌, arith, subst, true≢false, eq-eqb, length-append, get_or-append-add}
use Rattle.std.specs.List.{AllByRecursion}
use Rattle.std.proofs.lemmas.Bool.{or_left}
use Rattle.std.proofs.lemmas.Bool.Decides.{nat_tests}
use Rattle.std.proofs.lemmas.List.{length-map, length-set, get_or-set_same, get_or-set_other, get_or_append_left}
use Rattle.std.proofs.lemmas.Option.{same_Some}
use Rattle.eeprom.specs.StoreOf.{no_cell, Slots, chain_of, chains_of, slot_of, slots_at}
use Rattle.cell_store.specs.Cells.{link_in}
use Rattle.cell_store.specs.Chains.{AreLinked, AreFree, is_among}
use Rattle.cell_store.specs.Marks.{is_marked}
use Rattle.eeprom.proofs.Chains.{chains-parts}
use Rattle.record_store.specs.Held.{Held, StandsFor, firsts, contents, record_at, first_octet, kept_octet, AreKept}
use Rattle.record_store.specs.Opening.{slot_with, with_octet}
use Rattle.record_store.specs.Sound.{AreChains, IsSound, cells_in}
use Rattle.record_store.specs.declared.side.Side.{Side}
use Rattle.record_store.specs.declared.side.Side.TheVariants.{Committed, Working}
use Rattle.record_store.proofs.Sides.{same-or-other, among-all, in-chains, chain-at}
use Rattle.record_store.proofs.Weights.{side-chains, slots-chains}

-- an octet that is kept for another cell
pub kept-other : (octets : List ℕ) (cell x other : ℕ) → other ≢ cell → kept_octet (set octets cell x) other ≡ kept_octet octets other
kept-other octets cell x other apart = ap (λ (octet : ℕ). if other == no_cell then None else Some octet) (get_or-set_other octets cell other x 0 apart)

kept-here : (octets : List ℕ) (cell x : ℕ) → cell < length octets → cell < 65535 → kept_octet (set octets cell x) cell ≡ Some x
kept-here octets cell x inside some =
    let test : (cell == no_cell) ≡ false = grind (arith, nat_tests, some) in
    rw test (ap (λ (octet : ℕ). Some octet) (get_or-set_same octets cell x 0 inside))

-- the same octets for the same slots
pub both-sides : (octets old_firsts new_firsts : List ℕ) (old new : Option Slots) → new_firsts ≡ old_firsts → new ≡ old → AreKept octets old_firsts old → AreKept octets new_firsts new
both-sides octets old_firsts new_firsts old new first second kept = subst (λ (firsts : List ℕ). AreKept octets firsts new) (sym first) (subst (AreKept octets old_firsts) (sym second) kept)

-- the octet that is kept for a slot with a record is the first one of the record
pub kept-told : (held : Held) (side : Side) (slot first octet : ℕ) → first ≡ slice_index (firsts held side) slot → slot < length (firsts held side) → first ≢ 65535 → octet ≡ slice_index held.first_octets first
    → (image : List ℕ) → StandsFor held image → Some octet ≡ first_octet (record_at held side slot image)
kept-told held side slot first octet is inside some octet_is image stands =
    let test : (first == no_cell) ≡ false = grind (arith, nat_tests, some) in
    let here : kept_octet held.first_octets first ≡ Some octet = rw test (ap (λ (octet : ℕ). Some octet) (sym octet_is)) in
    sym (side-kept side slot inside ∙ (ap (kept_octet held.first_octets) (sym is) ∙ here))
  where
    side-kept : (side : Side) → AreKept held.first_octets (firsts held side) (contents held side image)
    side-kept Committed = stands.committed_octets
    side-kept Working = stands.working_octets

-- one side, whose slots begin at other cells
pub octets-same : (octets firsts : List ℕ) (old new : Option Slots) (cell x : ℕ) → ((slot : ℕ) → slot < length firsts → slice_index firsts slot ≢ cell) → new ≡ old → AreKept octets firsts old → AreKept (set octets cell x) firsts new
octets-same octets firsts old new cell x apart same kept = subst (AreKept (set octets cell x) firsts) (sym same) (λ slot inside. kept slot inside ∙ sym (kept-other octets cell x (slice_index firsts slot) (apart slot inside)))

-- a slot is emptied
pub octets-emptied : (octets firsts : List ℕ) (slots : Slots) (slot : ℕ) → slot < length firsts → length slots ≡ length firsts → AreKept octets firsts (Some slots) → AreKept octets (set firsts slot 65535) (Some (set slots slot None))
octets-emptied octets firsts slots slot here count kept = λ at inside. elim (same-or-other at slot) [
  | inl same ↦ rw same (ap first_octet (get_or-set_same slots slot None None (omega (arith, here, count))) ∙ ap (kept_octet octets) (sym (get_or-set_same firsts slot 65535 0 here)))
  | inr other ↦ ap first_octet (get_or-set_other slots slot at None None other)
      ∙ (kept at (omega (arith, inside, length-set firsts slot 65535)) ∙ ap (kept_octet octets) (sym (get_or-set_other firsts slot at 65535 0 other)))
]

-- a record is put into a slot, and its first octet is kept for a cell that no other slot begins at
pub octets-put : (octets firsts : List ℕ) (slots : Slots) (slot cell x : ℕ) (entry : List ℕ) → slot < length firsts → length slots ≡ length firsts → cell < length octets → cell < 65535 → x ≡ slice_index entry 0 → ((at : ℕ) → at < length firsts → slice_index firsts at ≢ cell)
    → AreKept octets firsts (Some slots) → AreKept (set octets cell x) (set firsts slot cell) (Some (set slots slot (Some entry)))
octets-put octets firsts slots slot cell x entry here count room some is apart kept = λ at inside. elim (same-or-other at slot) [
  | inl same ↦ rw same (ap first_octet (get_or-set_same slots slot (Some entry) None (omega (arith, here, count))) ∙ (ap (λ (octet : ℕ). Some octet) (sym is)
      ∙ (sym (kept-here octets cell x room some) ∙ ap (kept_octet (set octets cell x)) (sym (get_or-set_same firsts slot cell 0 here)))))
  | inr other ↦ (let before : at < length firsts = omega (arith, inside, length-set firsts slot cell) in
      ap first_octet (get_or-set_other slots slot at (Some entry) None other)
      ∙ (kept at before ∙ (sym (kept-other octets cell x (slice_index firsts at) (apart at before)) ∙ ap (kept_octet (set octets cell x)) (sym (get_or-set_other firsts slot at cell 0 other)))))
]

-- one slot more, with its record or empty
pub octets-more : (octets firsts : List ℕ) (slots : Slots) (first : ℕ) (entry : List ℕ) → length slots ≡ length firsts → (entry ≡ [] → first ≡ 65535) → (1 ≤ length entry → (first < length octets) × (first < 65535) × ((at : ℕ) → at < length firsts → slice_index firsts at ≢ first))
    → AreKept octets firsts (Some slots) → AreKept (with_octet octets first entry) (firsts ++ first ∷ []) (Some (slots ++ slot_with entry ∷ []))
octets-more octets firsts slots first entry count none some kept = λ at inside. elim (same-or-other at (length firsts)) [
  | inl same ↦ rw same (ap first_octet (last-slot count) ∙ (last entry none some ∙ ap (kept_octet (with_octet octets first entry)) (sym last-first)))
  | inr other ↦ (let before : at < length firsts = omega (arith, inside, length-append firsts (first ∷ []), other) in
      ap first_octet (get_or_append_left slots (slot_with entry ∷ []) None at (omega (arith, before, count)))
      ∙ (kept at before ∙ (sym (earlier entry some at before) ∙ ap (kept_octet (with_octet octets first entry)) (sym (get_or_append_left firsts (first ∷ []) 0 at before)))))
]
  where
    last-first : get_or (firsts ++ first ∷ []) (length firsts) 0 ≡ first
    last-first = ap (λ (at : ℕ). get_or (firsts ++ first ∷ []) at 0) (let e : length firsts ≡ length firsts + 0 = omega arith in e) ∙ get_or-append-add firsts (first ∷ []) 0 0

    last-slot : length slots ≡ length firsts → get_or (slots ++ slot_with entry ∷ []) (length firsts) None ≡ slot_with entry
    last-slot count = ap (λ (at : ℕ). get_or (slots ++ slot_with entry ∷ []) at None) (let e : length firsts ≡ length slots + 0 = omega (arith, count) in e) ∙ get_or-append-add slots (slot_with entry ∷ []) 0 None

    last : (entry : List ℕ) → (entry ≡ [] → first ≡ 65535) → (1 ≤ length entry → (first < length octets) × (first < 65535) × ((at : ℕ) → at < length firsts → slice_index firsts at ≢ first)) → first_octet (slot_with entry) ≡ kept_octet (with_octet octets first entry) first
    last [] none some = ap (kept_octet octets) (sym (none refl))
    last (octet ∷ entry) none some = let there = some (omega arith) in sym (kept-here octets first octet there.0 there.1)

    earlier : (entry : List ℕ) → (1 ≤ length entry → (first < length octets) × (first < 65535) × ((at : ℕ) → at < length firsts → slice_index firsts at ≢ first)) → (at : ℕ) → at < length firsts
        → kept_octet (with_octet octets first entry) (slice_index firsts at) ≡ kept_octet octets (slice_index firsts at)
    earlier [] some at inside = refl
    earlier (octet ∷ entry) some at inside = kept-other octets first octet (slice_index firsts at) ((some (omega arith)).2 at inside)

pub length-with_octet : (octets : List ℕ) (first : ℕ) (entry : List ℕ) → length (with_octet octets first entry) ≡ length octets
length-with_octet octets first [] = refl
length-with_octet octets first (octet ∷ entry) = length-set octets first octet

-- the first cell of a chain that is used, and of one that was free
first-among : (links firsts : List ℕ) (chains : List (List ℕ)) (slot : ℕ) → AreChains links firsts chains → slot < length firsts → (slice_index firsts slot ≡ 65535) ⊎ (is_among (slice_index firsts slot) (cells_in chains) ≡ true)
first-among links firsts chains slot are inside = elim (begins (slice_index firsts slot) (get_or chains slot []) (chain-at links firsts chains slot are inside).0) [
  | inl none ↦ inl none
  | inr here ↦ inr (in-chains (slice_index firsts slot) chains slot here)
]
  where
    begins : (first : ℕ) (chain : List ℕ) → AreLinked (link_in links) (length links) first chain → (first ≡ 65535) ⊎ (is_among first chain ≡ true)
    begins first [] linked = inl linked
    begins first (cell ∷ chain) linked = inr (or_left (first == cell) (is_among first chain) (eq-eqb first cell (sym linked.0)))

pub first-free : (links : List ℕ) (used : List Bool) (first : ℕ) (chain : List ℕ) → AreLinked (link_in links) (length links) first chain → AreFree used chain → 1 ≤ length chain → (is_marked used first ≡ false) × (first < length links)
first-free links used first [] linked free some = absurd (omega (arith, some))
first-free links used first (cell ∷ chain) linked free some = (ap (is_marked used) (sym linked.0) ∙ free.free.0, linked.1)

-- no slot of used chains begins at a free cell
pub first-apart : (links firsts : List ℕ) (chains : List (List ℕ)) (used : List Bool) (cell : ℕ) → AreChains links firsts chains → AllByRecursion (λ cell. is_marked used cell ≡ true) (cells_in chains) → is_marked used cell ≡ false → cell < 65535 → (slot : ℕ) → slot < length firsts → slice_index firsts slot ≢ cell
first-apart links firsts chains used cell are marked free some slot inside = λ same. elim (first-among links firsts chains slot are inside) [
  | inl none ↦ absurd (omega (arith, none, same, some))
  | inr here ↦ true≢false (sym (among-all (λ cell. is_marked used cell ≡ true) (cells_in chains) marked (slice_index firsts slot) here) ∙ (ap (is_marked used) same ∙ free))
]

pub side-apart : (held : Held) (side : Side) (cell : ℕ) → IsSound held → is_marked held.chains.used cell ≡ false → cell < 65535 → (slot : ℕ) → slot < length (firsts held side) → slice_index (firsts held side) slot ≢ cell
side-apart held side cell sound free some =
    let s = side-chains held side sound in
    first-apart held.chains.links (firsts held side) s.chains held.chains.used cell s.has.are s.marked free some

-- a slot begins at a cell or nowhere
pub first-inside : (held : Held) (side : Side) (slot first : ℕ) → IsSound held → slot < length (firsts held side) → first ≡ slice_index (firsts held side) slot → first ≢ 65535 → first < 2 * held.chains.cells
first-inside held side slot first sound inside is some =
    let s = side-chains held side sound in
    within (slice_index (firsts held side) slot) (get_or s.chains slot []) (chain-at held.chains.links (firsts held side) s.chains slot s.has.are inside).0 is
  where
    within : (at : ℕ) (chain : List ℕ) → AreLinked (link_in held.chains.links) (length held.chains.links) at chain → first ≡ at → first < 2 * held.chains.cells
    within at [] linked is = absurd (some (is ∙ linked))
    within at (cell ∷ chain) linked is = omega (arith, linked.1, linked.0, is, sound.range.links_count)

-- so an octet is kept for it
pub first-room : (view held : Held) (side : Side) (slot first : ℕ) → view ≡ held → IsSound view → slot < length (firsts held side) → first ≡ slice_index (firsts held side) slot → first ≢ 65535 → first < length view.first_octets
first-room view held side slot first same sound inside is some =
    let room : (held : Held) → IsSound held → slot < length (firsts held side) → first ≡ slice_index (firsts held side) slot → first < length held.first_octets =
    λ held sound inside is. (let there = first-inside held side slot first sound inside is some in omega (arith, there, sound.octets_count)) in
    subst (λ (other : Held). first < length other.first_octets) (sym same) (room held (subst IsSound same sound) inside is)

-- there are as many slots as first cells
pub slots-count : (image : List ℕ) (n : ℕ) (firsts : List ℕ) (slots : Slots) → slots_at image n firsts ≡ Some slots → length slots ≡ length firsts
slots-count image n firsts slots there =
    let c = slots-chains image n firsts slots there in
    ap (length {A = Option (List ℕ)}) c.is ∙ (length-map c.chains (slot_of image n) ∙ chains-count firsts c.chains c.of)
  where
    chains-count : (firsts : List ℕ) (chains : List (List ℕ)) → chains_of image n firsts ≡ Some chains → length chains ≡ length firsts
    chains-count [] chains of = ap (length {A = List ℕ}) (sym (same_Some _ _ of))
    chains-count (first ∷ firsts) chains of =
        let parts = chains-parts (chain_of image n (2 * n) first) (chains_of image n firsts) chains of in
        ap (length {A = List ℕ}) parts.4 ∙ ap suc (chains-count firsts parts.1 parts.3)

-- behind the last slot there is none
pub slot-past : (slots : Slots) (slot : ℕ) → length slots ≤ slot → get_or slots slot None ≡ None
slot-past [] slot past = refl
slot-past (entry ∷ slots) zero past = absurd (omega (arith, past))
slot-past (entry ∷ slots) (suc slot) past = slot-past slots slot (omega (arith, past))
