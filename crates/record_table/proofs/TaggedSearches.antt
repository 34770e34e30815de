-- A search passes over the slots whose records aren't of the kind, or not of the tag that all that are wanted have.
use Rattle.std.proofs.Common.{◌≡◌, ℕ, zero, suc, ◌<◌, ◌≤◌, Bool, true, false, List, [], ◌∷◌, Option, Some, None, drop, get_or, refl, sym, ap, ◌∙◌, inl, inr, arith}
use Rattle.std.specs.Prelude.{IfSome, option_and_then}
use Rattle.std.specs.List.{cons_option, find}
use Rattle.std.specs.Option.{option_map_or}
use Rattle.std.proofs.Math.Seq.{drop-nil}
use Rattle.std.proofs.lemmas.Bool.{and_cases, cases_Bool, true≢false}
use Rattle.std.proofs.lemmas.List.Sums.{sum_by-cons}
use Rattle.eeprom.specs.StoreOf.{Slots}
use Rattle.eeprom.specs.Slots.{in_slot}
use Rattle.record_store.specs.Held.{Held, contents, record_at, StandsFor}
use Rattle.record_store.specs.Tags.{is_tagged}
use Rattle.record_store.specs.declared.tags.Tag.{Tag}
use Rattle.record_store.specs.declared.side.Side.{Side}
use Rattle.catalog_codec.specs.Kinds.{Kind, IsKind, read_as}
use Rattle.record_table.specs.Listed.{in_slots, has_kind_mark, kind_cells, cells_marked}
use Rattle.record_table.specs.Swept.{has_passing}
use Rattle.record_table.specs.Tagged.{IsTagged, AreTagged, is_searched, tagged_cells, cells_tagged}
use Rattle.record_table.proofs.Scan.{IsOfLeft}
use Rattle.record_table.proofs.SlotReads.{unmarked}

-- from a slot to another none has a record that passes
abbrev pub AreUnwanted : {X : Type 0} → Kind X → (X → Bool) → ℕ → ℕ → Slots → Type 0
AreUnwanted {X} kind p from to slots = (slot : ℕ) → from ≤ slot → slot < to → has_passing kind p (get_or slots slot None) ≡ false

module _ {X : Type 0} (kind : Kind X) (p : X → Bool) where
  -- a record that isn't marked so is none of the kind
  unmarked-passing : (entry : Option (List ℕ)) → IsKind kind → has_kind_mark kind entry ≡ false → has_passing kind p entry ≡ false
  unmarked-passing entry is other = ap (λ x. option_map_or p x false) (unmarked kind entry is other)

  -- one that has another tag doesn't pass
  other-tag : (tag : Tag) (octets : List ℕ) (read : Option X) → ((x : X) → read ≡ Some x → p x ≡ true → is_tagged tag octets ≡ true) → is_tagged tag octets ≡ false → option_map_or p read false ≡ false
  other-tag tag octets None tagged other = refl
  other-tag tag octets (Some x) tagged other =
      elim (cases_Bool (p x)) [
        | inl passes ↦ absurd (true≢false (sym (tagged x refl passes) ∙ other))
        | inr fails ↦ fails
      ]

  pub unsearched : (tag : Option Tag) (entry : Option (List ℕ)) → IsKind kind → AreTagged kind p tag → is_searched kind tag entry ≡ false → has_passing kind p entry ≡ false
  unsearched None entry is tagged other = unmarked-passing entry is other
  unsearched (Some tag) None is tagged other = refl
  unsearched (Some tag) (Some octets) is tagged other =
      elim (and_cases (is_tagged tag octets) (has_kind_mark kind (Some octets)) other) [
        | inl untagged ↦ other-tag tag octets (read_as kind octets) (λ x read passes. tagged octets x read passes) untagged
        | inr unmarked ↦ unmarked-passing (Some octets) is unmarked
      ]

  -- slots of which none passes are passed over, by what says nothing of such records
  module _ {Y : Type 0} (f : List X → Y) (skips : (x : X) (rest : List X) → p x ≡ false → f (x ∷ rest) ≡ f rest) where
    passed-slot : (entry : Option X) → option_map_or p entry false ≡ false → (rest : List X) → f (cons_option entry rest) ≡ f rest
    passed-slot None fails rest = refl
    passed-slot (Some x) fails rest = skips x rest fails

    same-unwanted : (slots : Slots) (from to : ℕ) → from ≤ to → AreUnwanted kind p from to slots → f (in_slots kind (drop from slots)) ≡ f (in_slots kind (drop to slots))
    same-unwanted [] from to onward unwanted = ap (λ slots. f (in_slots kind slots)) (drop-nil from) ∙ sym (ap (λ slots. f (in_slots kind slots)) (drop-nil to))
    same-unwanted (entry ∷ slots) zero zero onward unwanted = refl
    same-unwanted (entry ∷ slots) zero (suc to) onward unwanted =
        passed-slot (in_slot (read_as kind) entry) (unwanted 0 (omega arith) (omega arith)) (in_slots kind slots)
        ∙ same-unwanted slots zero to (omega arith) (λ slot later earlier. unwanted (suc slot) (omega arith) (omega (arith, earlier)))
    same-unwanted (entry ∷ slots) (suc from) zero onward unwanted = absurd (omega (arith, onward))
    same-unwanted (entry ∷ slots) (suc from) (suc to) onward unwanted =
        same-unwanted slots from to (omega (arith, onward)) (λ slot later earlier. unwanted (suc slot) (omega (arith, later)) (omega (arith, earlier)))

    pub left-unwanted : (answer : Slots → Y) (slots : Option Slots) (from to : ℕ) → from ≤ to → IfSome slots (AreUnwanted kind p from to)
        → IfSome slots (IsOfLeft kind answer f from) → IfSome slots (IsOfLeft kind answer f to)
    left-unwanted answer None from to onward unwanted left = tt
    left-unwanted answer (Some slots) from to onward unwanted left = left ∙ same-unwanted slots from to onward unwanted

-- of a search for one that passes
pub find-skips : {X : Type 0} (p : X → Bool) (x : X) (rest : List X) → p x ≡ false → find p (x ∷ rest) ≡ find p rest
find-skips p x rest fails = rw fails refl

-- what is said of the records of some slots of a store, told of the slots
told : (P : ℕ → Option (List ℕ) → Type 0) (o : Option Slots) → ((slot : ℕ) → P slot (option_and_then (λ (slots : Slots). get_or slots slot None) o)) → IfSome o (λ slots. (slot : ℕ) → P slot (get_or slots slot None))
told P None says = tt
told P (Some slots) says = says

told-slots : (P : ℕ → Option (List ℕ) → Type 0) (store : Held) (side : Side) (image : Option (List ℕ)) → IfSome image (StandsFor store)
    → ((image : List ℕ) (slot : ℕ) → StandsFor store image → P slot (record_at store side slot image)) → IfSome (option_and_then (contents store side) image) (λ slots. (slot : ℕ) → P slot (get_or slots slot None))
told-slots P store side None stands says = tt
told-slots P store side (Some image) stands says = told P (contents store side image) (λ slot. says image slot stands)

pub unwanted-told : {X : Type 0} (kind : Kind X) (p : X → Bool) (tag : Option Tag) (store : Held) (side : Side) (from to : ℕ) (image : Option (List ℕ)) → IsKind kind → AreTagged kind p tag → IfSome image (StandsFor store)
    → ((image : List ℕ) (slot : ℕ) → StandsFor store image → from ≤ slot → slot < to → is_searched kind tag (record_at store side slot image) ≡ false) → IfSome (option_and_then (contents store side) image) (AreUnwanted kind p from to)
unwanted-told kind p tag store side from to image is tagged stands others =
    told-slots (λ slot entry. from ≤ slot → slot < to → has_passing kind p entry ≡ false) store side image stands
    (λ image slot over later earlier. unsearched kind p tag (record_at store side slot image) is tagged (others image slot over later earlier))

pub tagged-none : {X : Type 0} (kind : Kind X) (tag : Option Tag) → tagged_cells kind tag None ≡ 0
tagged-none kind None = refl
tagged-none kind (Some tag) = refl

-- all cells of a record of the tag count, if it is one of the kind
tagged-cells : {X : Type 0} (kind : Kind X) (tag : Option Tag) (entry : Option (List ℕ)) → ((octets : List ℕ) → entry ≡ Some octets → IsTagged tag octets) → kind_cells kind entry ≤ tagged_cells kind tag entry
tagged-cells kind None entry tagged = omega arith
tagged-cells kind (Some tag) None tagged = omega arith
tagged-cells kind (Some tag) (Some octets) tagged = let here : is_tagged tag octets ≡ true = tagged octets refl in rw here (omega arith)

abbrev pub IsTaggedAt : {X : Type 0} → Kind X → Option Tag → ℕ → Slots → Type 0
IsTaggedAt {X} kind tag slot slots = kind_cells kind (get_or slots slot None) ≤ tagged_cells kind tag (get_or slots slot None)

pub tagged-told : {X : Type 0} (kind : Kind X) (tag : Option Tag) (store : Held) (side : Side) (slot : ℕ) (image : Option (List ℕ)) → IfSome image (StandsFor store)
    → ((image : List ℕ) (octets : List ℕ) → StandsFor store image → record_at store side slot image ≡ Some octets → IsTagged tag octets) → IfSome (option_and_then (contents store side) image) (IsTaggedAt kind tag slot)
tagged-told kind tag store side slot image stands here =
    at (option_and_then (contents store side) image) (told-slots (λ other entry. other ≡ slot → kind_cells kind entry ≤ tagged_cells kind tag entry) store side image stands
    (λ image other over same. tagged-cells kind tag (record_at store side other image) (λ octets is. here image octets over (ap (λ slot. record_at store side slot image) (sym same) ∙ is))))
  where
    at : (o : Option Slots) → IfSome o (λ slots. (other : ℕ) → other ≡ slot → kind_cells kind (get_or slots other None) ≤ tagged_cells kind tag (get_or slots other None)) → IfSome o (IsTaggedAt kind tag slot)
    at None h = tt
    at (Some slots) h = h slot refl

-- the records of the tag have no more cells than all of the kind
fewer : {X : Type 0} (kind : Kind X) (tag : Option Tag) (entry : Option (List ℕ)) → tagged_cells kind tag entry ≤ kind_cells kind entry
fewer kind None entry = omega arith
fewer kind (Some tag) None = omega arith
fewer kind (Some tag) (Some octets) =
    elim (cases_Bool (is_tagged tag octets)) [
      | inl here ↦ rw here (omega arith)
      | inr other ↦ rw other (omega arith)
    ]

pub tagged-fewer : {X : Type 0} (kind : Kind X) (tag : Option Tag) (slots : Slots) → cells_tagged kind tag slots ≤ cells_marked kind slots
tagged-fewer kind tag [] = omega arith
tagged-fewer kind tag (entry ∷ slots) = omega (arith, fewer kind tag entry, tagged-fewer kind tag slots, sum_by-cons (tagged_cells kind tag) entry slots, sum_by-cons (kind_cells kind) entry slots)
