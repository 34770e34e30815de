-- Edits in two parts, and all records of a kind that pass a test: which records they touch.
use Rattle.std.proofs.Common.{◌≡◌, ◌||◌, ℕ, ◌==◌, Bool, true, eqb, List, [], ◌∷◌, ◌++◌, map, Some, None, get_or, inl, inr, sym, ap, ◌∙◌}
use Rattle.std.specs.List.{filter, find}
use Rattle.std.proofs.lemmas.Bool.{cases_Bool, eq-eqb, or_left, or_right}
use Rattle.std.proofs.lemmas.List.{map-append}
use Rattle.std.proofs.lemmas.List.Folds.{list_any-append}
use Rattle.std.proofs.lemmas.Option.{none-some, same_Some}
use Rattle.cell_store.specs.Chains.{is_among}
use Rattle.eeprom.specs.Slots.{Rises, has}
use Rattle.eeprom.specs.StoreOf.{Slots}
use Rattle.record_store.specs.Held.{Held}
use Rattle.record_store.specs.Transaction.{ChangesWhere}
use Rattle.scql_model.specs.Edits.{Edit, removing, touched}
use Rattle.scql_model.specs.Records.{AnyRecord, record_stamp}
use Rattle.catalog_codec.specs.Kinds.{Kind}
use Rattle.record_table.specs.Editable.{IsEditable}
use Rattle.record_table.specs.Listed.{at_slot, listed}
use Rattle.record_table.specs.Swept.{all_without, has_passing}
use Rattle.record_table.specs.Touching.{Touches}
use Rattle.record_table.proofs.InPlace.{found-at}
use Rattle.record_table.proofs.TouchedSlots.{Touches-swept, Touches-then}

-- what either part touches, both touch
among-parts : (first then : List Edit) (stamp : ℕ) → is_among stamp (touched (first ++ then)) ≡ (is_among stamp (touched first) || is_among stamp (touched then))
among-parts first then stamp =
    ap (is_among stamp) (map-append (λ (e : Edit). record_stamp e.entry) first then) ∙ list_any-append (λ other. stamp == other) (touched first) (touched then)

pub among-first : (first then : List Edit) (stamp : ℕ) → is_among stamp (touched first) ≡ true → is_among stamp (touched (first ++ then)) ≡ true
among-first first then stamp among = among-parts first then stamp ∙ or_left (is_among stamp (touched first)) (is_among stamp (touched then)) among

pub among-then : (first then : List Edit) (stamp : ℕ) → is_among stamp (touched then) ≡ true → is_among stamp (touched (first ++ then)) ≡ true
among-then first then stamp among = among-parts first then stamp ∙ or_right (is_among stamp (touched first)) (is_among stamp (touched then)) among

-- edits in two parts, one after the other
pub Touches-parts : (first then : List Edit) (next : ℕ) (a b c : Slots) (old mid new : Held) → Touches (touched first) next a b old mid → Touches (touched then) next b c mid new → Touches (touched (first ++ then)) next a c old new
Touches-parts first then next a b c old mid new one two = Touches-then (touched first) (touched then) (touched (first ++ then)) next a b c old mid new one two (among-first first then) (among-then first then)

module _ {X : Type 0} (kind : Kind X) (any : X → AnyRecord) (edits : IsEditable kind any) where
  -- a record of a list that passes is among those that are removed
  among-removed : (p : X → Bool) (x : X) (xs : List X) → find (has kind.key (kind.key x)) xs ≡ Some x → p x ≡ true → is_among (kind.key x) (touched (map (λ y. removing (any y)) (filter p xs))) ≡ true
  among-removed p x [] found passes = absurd (none-some x found)
  among-removed p x (y ∷ ys) found passes =
      elim (cases_Bool (eqb (kind.key y) (kind.key x))) [
        | inl t ↦ (let same : y ≡ x = same_Some y x (rw t at found) in
            rw (same, passes) (ap (λ (b : Bool). b || is_among (kind.key x) (touched (map (λ y. removing (any y)) (filter p ys)))) (eq-eqb (kind.key x) (record_stamp (any x)) (sym (edits.stamps x)))))
        | inr f ↦ (let rest = among-removed p x ys (rw f at found) passes in
            elim (cases_Bool (p y)) [
              | inl kept ↦ rw kept (or_right (eqb (kind.key x) (record_stamp (any y))) (is_among (kind.key x) (touched (map (λ y. removing (any y)) (filter p ys)))) rest)
              | inr gone ↦ rw gone rest
            ])
      ]

  -- so is one that stands in a slot
  pub among-swept : (p : X → Bool) (slots : Slots) (slot : ℕ) (x : X) (xs : List X) → listed kind slots ≡ xs → Rises kind.key xs → at_slot kind slot slots ≡ Some x → p x ≡ true
      → is_among (kind.key x) (touched (map (λ y. removing (any y)) (filter p xs))) ≡ true
  among-swept p slots slot x xs list rises at passes =
      among-removed p x xs (ap (find (has kind.key (kind.key x))) (sym list) ∙ found-at kind slots slot x (rw list rises) at) passes

  -- All records that pass are removed.
  pub Touches-all_removed : (p : X → Bool) (next : ℕ) (slots : Slots) (xs : List X) (old new : Held) → listed kind slots ≡ xs → Rises kind.key xs → ChangesWhere (λ slot. has_passing kind p (get_or slots slot None)) old new
      → Touches (touched (map (λ y. removing (any y)) (filter p xs))) next slots (all_without kind p slots) old new
  Touches-all_removed p next slots xs old new list rises changes =
      Touches-swept kind kind.key edits.named p (touched (map (λ y. removing (any y)) (filter p xs))) next slots old new (λ slot x at passes. among-swept p slots slot x xs list rises at passes) changes
