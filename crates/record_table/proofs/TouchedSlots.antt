-- How a change of one slot, or of several, touches records.
use Rattle.std.proofs.Common.{◌≡◌, ◌⊎◌, ℕ, ◌<◌, ◌≤◌, ◌==◌, if◌then◌else◌, Bool, true, false, List, length, Option, Some, None, get_or, inl, inr, refl, sym, ap, subst, ◌∙◌}
use Rattle.std.specs.Option.{option_map_or}
use Rattle.std.proofs.Math.ListN.{get_or-map, set}
use Rattle.std.proofs.lemmas.Bool.{cases_Bool, eqb-false, eqb-true, false≢true}
use Rattle.std.proofs.lemmas.List.{get_or-set_other, get_or-set_same}
use Rattle.std.proofs.lemmas.Option.{none-some, same_Some}
use Rattle.cell_store.specs.Chains.{is_among}
use Rattle.eeprom.specs.Chip.{Chip}
use Rattle.eeprom.specs.Slots.{in_slot}
use Rattle.eeprom.specs.StoreOf.{Slots}
use Rattle.record_store.specs.Held.{Held}
use Rattle.record_store.specs.Transaction.{ChangesOnly, ChangesWhere}
use Rattle.record_store.specs.declared.side.Side.TheVariants.{Working}
use Rattle.catalog_codec.specs.Kinds.{Kind, IsKind, read_as}
use Rattle.record_table.specs.Changed.{IsAdded, IsChanged, IsEmptied}
use Rattle.record_table.specs.Listed.{at_slot, slots_of}
use Rattle.record_table.specs.Swept.{all_without, has_passing, without_passing}
use Rattle.record_table.specs.Touching.{Stands, Touches, stamp_in}
use Rattle.record_table.proofs.ListedChanges.{within-at}

-- Where the slots that may have another chain are known, and all others have what they had.
Touches-where : (may : ℕ → Bool) (stamps : List ℕ) (next : ℕ) (was now : Slots) (old new : Held) → ChangesWhere may old new → ((slot : ℕ) → may slot ≡ false → get_or now slot None ≡ get_or was slot None)
    → ((slot stamp : ℕ) → may slot ≡ true → Stands stamp slot was → is_among stamp stamps ≡ true)
    → ((slot stamp : ℕ) → may slot ≡ true → Stands stamp slot now → (is_among stamp stamps ≡ true) × (Stands stamp slot was ⊎ (next ≤ stamp))) → Touches stamps next was now old new
Touches-where may stamps next was now old new changes still before after = record {
  committed = changes.committed;
  others = λ slot. elim (cases_Bool (may slot)) [
    | inl t ↦ inr (λ stamp stands. elim stands [ inl first ↦ before slot stamp t first | inr last ↦ (after slot stamp t last).0 ])
    | inr f ↦ inl (changes.others slot f, still slot f)
  ];
  places = λ slot stamp stands. elim (cases_Bool (may slot)) [
    | inl t ↦ (after slot stamp t stands).1
    | inr f ↦ inl (ap (in_slot stamp_in) (sym (still slot f)) ∙ stands)
  ];
}

-- where such slots are empty then
pub Touches-emptied : (may : ℕ → Bool) (stamps : List ℕ) (next : ℕ) (was now : Slots) (old new : Held) → ChangesWhere may old new → ((slot : ℕ) → get_or now slot None ≡ (if may slot then None else get_or was slot None))
    → ((slot stamp : ℕ) → may slot ≡ true → Stands stamp slot was → is_among stamp stamps ≡ true) → Touches stamps next was now old new
Touches-emptied may stamps next was now old new changes left before =
    Touches-where may stamps next was now old new changes (λ slot stays. left slot ∙ ap (λ (b : Bool). if b then None else get_or was slot None) stays) before
    (λ slot stamp there stands. absurd (none-some stamp (ap (in_slot stamp_in) (sym (left slot ∙ ap (λ (b : Bool). if b then None else get_or was slot None) there)) ∙ stands)))

-- one touch after another
pub Touches-then : (first second stamps : List ℕ) (next : ℕ) (a b c : Slots) (old mid new : Held) → Touches first next a b old mid → Touches second next b c mid new
    → ((stamp : ℕ) → is_among stamp first ≡ true → is_among stamp stamps ≡ true) → ((stamp : ℕ) → is_among stamp second ≡ true → is_among stamp stamps ≡ true) → Touches stamps next a c old new
Touches-then first second stamps next a b c old mid new one two more_1 more_2 = record {
  committed = two.committed ∙ one.committed;
  others = λ slot. elim (one.others slot) [
    | inl kept ↦ elim (two.others slot) [
      | inl still ↦ inl (still.0 ∙ kept.0, still.1 ∙ kept.1)
      | inr touched ↦ inr (λ stamp stands. more_2 stamp (touched stamp (elim stands [ inl before ↦ inl (ap (in_slot stamp_in) kept.1 ∙ before) | inr after ↦ inr after ])))
    ]
    | inr changed ↦ inr (λ stamp stands. elim stands [
      | inl before ↦ more_1 stamp (changed stamp (inl before))
      | inr after ↦ elim (two.others slot) [
        | inl still ↦ more_1 stamp (changed stamp (inr (ap (in_slot stamp_in) (sym still.1) ∙ after)))
        | inr touched ↦ more_2 stamp (touched stamp (inr after))
      ]
    ])
  ];
  places = λ slot stamp stands. elim (two.places slot stamp stands) [
    | inl between ↦ one.places slot stamp between
    | inr later ↦ inr later
  ];
}

-- of slots that are told, whatever they are called
pub Touches-told : (stamps : List ℕ) (next : ℕ) (old new : Held) (before after : Chip) (slots end : Slots) → slots_of old Working before ≡ Some slots → slots_of new Working after ≡ Some end → Touches stamps next slots end old new
    → (was now : Slots) → slots_of old Working before ≡ Some was → slots_of new Working after ≡ Some now → Touches stamps next was now old new
Touches-told stamps next old new before after slots end told_1 told_2 touches was now is_1 is_2 =
    subst (λ was. Touches stamps next was now old new) (same_Some slots was (sym told_1 ∙ is_1)) (subst (λ now. Touches stamps next slots now old new) (same_Some end now (sym told_2 ∙ is_2)) touches)

-- a slot is given an entry
Touches-set : (stamps : List ℕ) (next slot : ℕ) (entry : Option (List ℕ)) (was : Slots) (old new : Held) → slot < length was → ChangesOnly slot old new
    → ((stamp : ℕ) → Stands stamp slot was → is_among stamp stamps ≡ true) → ((stamp : ℕ) → in_slot stamp_in entry ≡ Some stamp → (is_among stamp stamps ≡ true) × (Stands stamp slot was ⊎ (next ≤ stamp)))
    → Touches stamps next was (set was slot entry) old new
Touches-set stamps next slot entry was old new within only before after =
    Touches-where (λ other. other == slot) stamps next was (set was slot entry) old new only (λ other (apart : (other == slot) ≡ false). get_or-set_other was slot other entry None (eqb-false other slot apart))
    (λ other stamp (here : (other == slot) ≡ true) stands. before stamp (subst (λ n. Stands stamp n was) (eqb-true other slot here) stands))
    (λ other stamp (here : (other == slot) ≡ true) stands.
    let same = eqb-true other slot here in
    let given = ap (in_slot stamp_in) (sym (get_or-set_same was slot entry None within)) ∙ subst (λ n. Stands stamp n (set was slot entry)) same stands in
    let last = after stamp given in
    (last.0, subst (λ n. Stands stamp n was ⊎ (next ≤ stamp)) (sym same) last.1))

-- Records of a kind, of which each has its stamp.
module _ {X : Type 0} (kind : Kind X) (key : X → ℕ) (named : (octets : List ℕ) (x : X) → read_as kind octets ≡ Some x → stamp_in octets ≡ Some (key x)) where
  -- the record of a slot stands there
  pub stands-at : (slot : ℕ) (slots : Slots) (x : X) → at_slot kind slot slots ≡ Some x → Stands (key x) slot slots
  stands-at slot slots x at = go (get_or slots slot None) at
    where
      go : (v : Option (List ℕ)) → in_slot (read_as kind) v ≡ Some x → in_slot stamp_in v ≡ Some (key x)
      go None none = absurd (none-some x none)
      go (Some octets) read = named octets x read

  -- and no other does
  pub at-stands : (slot stamp : ℕ) (slots : Slots) (x : X) → at_slot kind slot slots ≡ Some x → Stands stamp slot slots → key x ≡ stamp
  at-stands slot stamp slots x at stands = same_Some (key x) stamp (sym (stands-at slot slots x at) ∙ stands)

  pub Touches-added : IsKind kind → (stamps : List ℕ) (next slot : ℕ) (x : X) (was now : Slots) (old new : Held) → slot < length was → IsAdded kind x slot was now → kind.form.fits x ≡ true → next ≤ key x
      → is_among (key x) stamps ≡ true → ChangesOnly slot old new → Touches stamps next was now old new
  Touches-added is stamps next slot x was now old new within added fits later among only =
      subst (λ now. Touches stamps next was now old new) (sym added.is)
      (Touches-set stamps next slot (Some (kind.form.spell x)) was old new within only (λ stamp stands. absurd (none-some stamp (ap (in_slot stamp_in) (sym added.empty) ∙ stands)))
      (λ stamp given.
      let same : key x ≡ stamp = same_Some (key x) stamp (sym (named (kind.form.spell x) x (is.again x fits)) ∙ given) in
      (subst (λ n. is_among n stamps ≡ true) same among, inr (subst (λ n. next ≤ n) same later))))

  pub Touches-changed : IsKind kind → (stamps : List ℕ) (next slot : ℕ) (x y : X) (was now : Slots) (old new : Held) → at_slot kind slot was ≡ Some x → key x ≡ key y → IsChanged kind y slot was now
      → kind.form.fits y ≡ true → is_among (key y) stamps ≡ true → ChangesOnly slot old new → Touches stamps next was now old new
  Touches-changed is stamps next slot x y was now old new at same changed fits among only =
      subst (λ now. Touches stamps next was now old new) (sym changed)
      (Touches-set stamps next slot (Some (kind.form.spell y)) was old new (within-at kind was slot x at) only
      (λ stamp stands. subst (λ n. is_among n stamps ≡ true) (sym same ∙ at-stands slot stamp was x at stands) among)
      (λ stamp given.
      let mine : key y ≡ stamp = same_Some (key y) stamp (sym (named (kind.form.spell y) y (is.again y fits)) ∙ given) in
      (subst (λ n. is_among n stamps ≡ true) mine among, inl (subst (λ n. Stands n slot was) (same ∙ mine) (stands-at slot was x at)))))

  pub Touches-removed : (stamps : List ℕ) (next slot : ℕ) (x : X) (was now : Slots) (old new : Held) → at_slot kind slot was ≡ Some x → IsEmptied slot was now → is_among (key x) stamps ≡ true
      → ChangesOnly slot old new → Touches stamps next was now old new
  Touches-removed stamps next slot x was now old new at emptied among only =
      subst (λ now. Touches stamps next was now old new) (sym emptied)
      (Touches-set stamps next slot None was old new (within-at kind was slot x at) only (λ stamp stands. subst (λ n. is_among n stamps ≡ true) (at-stands slot stamp was x at stands) among)
      (λ stamp none. absurd (none-some stamp none)))

  -- where a record goes that passes, its stamp is among those of the records that do
  pub swept-stands : (p : X → Bool) (slot stamp : ℕ) (stamps : List ℕ) (was : Slots) → ((x : X) → at_slot kind slot was ≡ Some x → p x ≡ true → is_among (key x) stamps ≡ true) → has_passing kind p (get_or was slot None) ≡ true
      → Stands stamp slot was → is_among stamp stamps ≡ true
  swept-stands p slot stamp stamps was among passes stands =
      let there = passing (in_slot (read_as kind) (get_or was slot None)) passes in
      subst (λ n. is_among n stamps ≡ true) (at-stands slot stamp was there.0 there.1 stands) (among there.0 there.1 there.2)
    where
      passing : (o : Option X) → option_map_or p o false ≡ true → (x : X) × (o ≡ Some x) × (p x ≡ true)
      passing None wrong = absurd (false≢true wrong)
      passing (Some x) is = (x, refl, is)

  -- all records that pass a test are taken out
  pub Touches-swept : (p : X → Bool) (stamps : List ℕ) (next : ℕ) (was : Slots) (old new : Held)
      → ((slot : ℕ) (x : X) → at_slot kind slot was ≡ Some x → p x ≡ true → is_among (key x) stamps ≡ true) → ChangesWhere (λ slot. has_passing kind p (get_or was slot None)) old new
      → Touches stamps next was (all_without kind p was) old new
  Touches-swept p stamps next was old new among changes =
      Touches-emptied (λ slot. has_passing kind p (get_or was slot None)) stamps next was (all_without kind p was) old new changes (λ slot. get_or-map (without_passing kind p) was slot None)
      (λ slot stamp (passes : has_passing kind p (get_or was slot None) ≡ true) stands. swept-stands p slot stamp stamps was (among slot) passes stands)
