-- A change of one slot, and what becomes of the records of each kind.
use Rattle.std.proofs.Common.{◌≡◌, ◌≢◌, ℕ, ◌<◌, Bool, true, false, List, [], ◌∷◌, ◌++◌, length, Option, Some, None, get_or, take, drop, suc, ltb, eqb, inl, inr, refl, sym, ap, ◌∙◌, arith}
use Rattle.std.proofs.Math.ListN.{set}
use Rattle.std.proofs.lemmas.List.{get_or-set_other, get_or-set_same, get_or_past, length-set}
use Rattle.std.proofs.lemmas.Bool.{cases_Bool, ltb-true, ltb-false, eqb-true, eqb-false}
use Rattle.std.specs.List.{filter_map, cons_option, sum_by, AllByRecursion}
use Rattle.std.proofs.lemmas.List.Sums.{sum_by-cons}
use Rattle.eeprom.proofs.InOrder.{sum_by-in_order}
use Rattle.eeprom.specs.StoreOf.{Slots}
use Rattle.eeprom.specs.Slots.{in_slot, in_order, Rises, replaced, without}
use Rattle.eeprom.proofs.Kept.{kept-split, kept-set, kept-other, kept-new, kept-changed, kept-removed}
use Rattle.catalog_codec.specs.Kinds.{Kind, IsKind, HaveOtherMarks, read_as, starts}
use Rattle.record_table.specs.Listed.{listed, at_slot}
use Rattle.record_table.specs.Changed.{IsAdded, IsChanged, IsEmptied}

-- a slot is empty, or its record begins with a mark of the kind
abbrev pub is_of : {X : Type 0} → Kind X → Option (List ℕ) → Bool
is_of {X} kind None = true
is_of {X} kind (Some octets) = starts kind.marks octets

-- what is empty, or begins with a mark of a kind, is no record of a kind with other marks
pub no_other : {X Y : Type 0} (kind : Kind X) (other : Kind Y) (entry : Option (List ℕ)) → IsKind other → HaveOtherMarks kind other → is_of kind entry ≡ true
    → in_slot (read_as other) entry ≡ None
no_other kind other None is apart of_kind = refl
no_other kind other (Some []) is apart of_kind = is.others [] refl
no_other kind other (Some (octet ∷ octets)) is apart of_kind = is.others (octet ∷ octets) (apart octet of_kind)

-- a slot that has a record of a kind is one of the slots
pub within-at : {X : Type 0} (kind : Kind X) (slots : Slots) (slot : ℕ) (x : X) → at_slot kind slot slots ≡ Some x → slot < length slots
within-at kind slots slot x at =
    elim (cases_Bool (ltb slot (length slots))) [
      | inl t ↦ ltb-true slot (length slots) t
      | inr f ↦ (let none = ap (in_slot (read_as kind)) (get_or_past slots slot None (ltb-false slot (length slots) f)) in let wrong : None ≡ Some x = sym none ∙ at in absurd (cc))
    ]

-- a slot of one kind is given a record of it, or is emptied: no kind with other marks sees it
pub listed-other : {X Y : Type 0} (kind : Kind X) (other : Kind Y) (slots : Slots) (slot : ℕ) (entry : Option (List ℕ)) → IsKind other → HaveOtherMarks kind other → slot < length slots
    → is_of kind (get_or slots slot None) ≡ true → is_of kind entry ≡ true → listed other (set slots slot entry) ≡ listed other slots
listed-other kind other slots slot entry is apart within was now =
    kept-other other.key (in_slot (read_as other)) slots slot entry within (no_other kind other (get_or slots slot None) is apart was) (no_other kind other entry is apart now)

-- what is read as a record of a kind begins with a mark of it
pub is_of-read : {X : Type 0} (kind : Kind X) (entry : Option (List ℕ)) (x : X) → IsKind kind → in_slot (read_as kind) entry ≡ Some x → is_of kind entry ≡ true
is_of-read kind None x is read = refl
is_of-read kind (Some octets) x is read = marked (starts kind.marks octets) refl
  where
    marked : (b : Bool) → starts kind.marks octets ≡ b → starts kind.marks octets ≡ true
    marked true at = at
    marked false at = absurd (let none = is.others octets at in let wrong : None ≡ Some x = sym none ∙ read in cc)

-- a record is alone in whatever order it is listed
pub in_order-alone : {X : Type 0} (key : X → ℕ) (xs : List X) (x : X) → in_order key xs ≡ x ∷ [] → xs ≡ x ∷ []
in_order-alone key [] x one = absurd (cc)
in_order-alone key (y ∷ []) x one = one
in_order-alone key (y ∷ z ∷ zs) x one =
    let count = sum_by-in_order key (λ w. 1) (y ∷ z ∷ zs) in
    let counted = ap (sum_by (λ w. 1)) one in
    absurd (omega (arith, sum_by-cons (λ w. 1) y (z ∷ zs), sum_by-cons (λ w. 1) z zs, sum_by-cons (λ w. 1) x []))

-- and so is what takes its place
alone : {X : Type 0} (before behind : List X) (w x y : X) → before ++ w ∷ behind ≡ x ∷ [] → before ++ y ∷ behind ≡ y ∷ []
alone [] behind w x y one = let none : behind ≡ [] = cc in ap (λ rest. y ∷ rest) none
alone (b ∷ []) behind w x y one = absurd (let wrong : w ∷ behind ≡ [] = cc in cc)
alone (b ∷ c ∷ bs) behind w x y one = absurd (let wrong : c ∷ (bs ++ w ∷ behind) ≡ [] = cc in cc)

-- what stands in a slot is what is alone in the list
alone-is : {X : Type 0} (before behind : List X) (w x : X) → before ++ w ∷ behind ≡ x ∷ [] → w ≡ x
alone-is [] behind w x one = cc
alone-is (b ∷ []) behind w x one = absurd (let wrong : w ∷ behind ≡ [] = cc in cc)
alone-is (b ∷ c ∷ bs) behind w x one = absurd (let wrong : c ∷ (bs ++ w ∷ behind) ≡ [] = cc in cc)

pub alone-at : {X : Type 0} (kind : Kind X) (slots : Slots) (slot : ℕ) (w x : X) → at_slot kind slot slots ≡ Some w → listed kind slots ≡ x ∷ [] → w ≡ x
alone-at kind slots slot w x at one =
    let f = in_slot (read_as kind) in
    let before = filter_map f (take slot slots) in
    let behind = filter_map f (drop (suc slot) slots) in
    alone-is before behind w x
    (sym (kept-split f slots slot (within-at kind slots slot w at) ∙ ap (λ o. before ++ cons_option o behind) at) ∙ in_order-alone kind.key (filter_map f slots) x one)

-- a change of one slot leaves the records of all others
pub at_slot-other : {X : Type 0} (kind : Kind X) (slots : Slots) (slot other : ℕ) (entry : Option (List ℕ)) → other ≢ slot → at_slot kind other (set slots slot entry) ≡ at_slot kind other slots
at_slot-other kind slots slot other entry apart = ap (in_slot (read_as kind)) (get_or-set_other slots slot other entry None apart)

-- and where the slot has records of one kind, a kind with other marks has its records in the same slots
pub at_slot-kept : {X Y : Type 0} (kind : Kind X) (other : Kind Y) (slots : Slots) (slot : ℕ) (entry : Option (List ℕ)) (place : ℕ) → IsKind other → HaveOtherMarks kind other
    → is_of kind (get_or slots slot None) ≡ true → is_of kind entry ≡ true → at_slot other place (set slots slot entry) ≡ at_slot other place slots
at_slot-kept kind other slots slot entry place is apart was now =
    elim (cases_Bool (eqb place slot)) [
      | inl t ↦ let same : place ≡ slot = eqb-true place slot t in
          rw same (here (ltb slot (length slots)) refl)
      | inr f ↦ at_slot-other other slots slot place entry (eqb-false place slot f)
    ]
  where
    here : (within : Bool) → ltb slot (length slots) ≡ within → at_slot other slot (set slots slot entry) ≡ at_slot other slot slots
    here true t =
        ap (in_slot (read_as other)) (get_or-set_same slots slot entry None (ltb-true slot (length slots) t))
        ∙ (no_other kind other entry is apart now ∙ sym (no_other kind other (get_or slots slot None) is apart was))
    here false f =
        let past = ltb-false slot (length slots) f in
        ap (in_slot (read_as other)) (get_or_past (set slots slot entry) slot None (omega (arith, length-set slots slot entry, past)) ∙ sym (get_or_past slots slot None past))

module _ {X : Type 0} (kind : Kind X) (is : IsKind kind) where
  -- a record that is alone may take any key
  pub listed-alone : (w x y : X) (slot : ℕ) (old new : Slots) → IsChanged kind y slot old new → kind.form.fits y ≡ true → at_slot kind slot old ≡ Some w → listed kind old ≡ x ∷ []
      → listed kind new ≡ y ∷ []
  listed-alone w x y slot old new changed fits at one =
      let f = in_slot (read_as kind) in
      let before = filter_map f (take slot old) in
      let behind = filter_map f (drop (suc slot) old) in
      let split : before ++ w ∷ behind ≡ x ∷ [] =
      sym (kept-split f old slot (within-at kind old slot _ at) ∙ ap (λ o. before ++ cons_option o behind) at) ∙ in_order-alone kind.key (filter_map f old) x one in
      let given : filter_map f new ≡ y ∷ [] =
      ap (filter_map f) changed ∙ kept-set f old slot (Some (kind.form.spell y)) (within-at kind old slot _ at) ∙ ap (λ o. before ++ cons_option o behind) (is.again y fits) ∙ alone before behind w x y split in
      ap (in_order kind.key) given

  -- a record that is added stands last in the list of its kind, where its key is above all others
  pub listed-added : (x : X) (slot : ℕ) (old new : Slots) → slot < length old → IsAdded kind x slot old new → kind.form.fits x ≡ true → AllByRecursion (λ y. kind.key y < kind.key x) (listed kind old)
      → listed kind new ≡ listed kind old ++ x ∷ []
  listed-added x slot old new within added fits above =
      ap (listed kind) added.is
      ∙ kept-new kind.key (in_slot (read_as kind)) old slot (Some (kind.form.spell x)) x within (ap (in_slot (read_as kind)) added.empty) (is.again x fits) above

  -- a record that is changed stands in the place of the one with its key
  pub listed-changed : (x y : X) (slot : ℕ) (old new : Slots) → IsChanged kind y slot old new → kind.form.fits y ≡ true → at_slot kind slot old ≡ Some x → kind.key x ≡ kind.key y → Rises kind.key (listed kind old)
      → listed kind new ≡ replaced kind.key y (listed kind old)
  listed-changed x y slot old new changed fits at same rises =
      ap (listed kind) changed ∙ kept-changed kind.key (in_slot (read_as kind)) old slot (Some (kind.form.spell y)) x y (within-at kind old slot _ at) at (is.again y fits) same rises

  -- a record that is removed is missing, and all others stay
  pub listed-removed : (x : X) (slot : ℕ) (old new : Slots) → IsEmptied slot old new → at_slot kind slot old ≡ Some x → Rises kind.key (listed kind old)
      → listed kind new ≡ without kind.key (kind.key x) (listed kind old)
  listed-removed x slot old new removed at rises =
      ap (listed kind) removed ∙ kept-removed kind.key (in_slot (read_as kind)) old slot None x (within-at kind old slot _ at) at refl rises

  -- kinds with other marks don't see any of these
  pub other-added : {Y : Type 0} (other : Kind Y) (x : X) (slot : ℕ) (old new : Slots) → slot < length old → IsKind other → HaveOtherMarks kind other → IsAdded kind x slot old new → listed other new ≡ listed other old
  other-added other x slot old new within theirs apart added =
      ap (listed other) added.is
      ∙ listed-other kind other old slot (Some (kind.form.spell x)) theirs apart within (ap (is_of kind) added.empty) (is.begins x)

  pub other-changed : {Y : Type 0} (other : Kind Y) (x y : X) (slot : ℕ) (old new : Slots) → IsKind other → HaveOtherMarks kind other → IsChanged kind y slot old new → at_slot kind slot old ≡ Some x
      → listed other new ≡ listed other old
  other-changed other x y slot old new theirs apart changed at =
      ap (listed other) changed
      ∙ listed-other kind other old slot (Some (kind.form.spell y)) theirs apart (within-at kind old slot _ at) (is_of-read kind (get_or old slot None) x is at) (is.begins y)

  pub other-removed : {Y : Type 0} (other : Kind Y) (x : X) (slot : ℕ) (old new : Slots) → IsKind other → HaveOtherMarks kind other → IsEmptied slot old new → at_slot kind slot old ≡ Some x
      → listed other new ≡ listed other old
  other-removed other x slot old new theirs apart removed at =
      ap (listed other) removed ∙ listed-other kind other old slot None theirs apart (within-at kind old slot _ at) (is_of-read kind (get_or old slot None) x is at) refl
