-- What a store says of a record that is put or removed, as a change of one slot.
use Rattle.std.proofs.Common.{◌≡◌, ℕ, List, Option, Some, None, get_or, set, refl, sym, ap, subst, ◌∙◌}
use Rattle.std.specs.Prelude.{IfOk, OnOk, IfSome, Result, Ok, Err, option_map, option_and_then}
use Rattle.eeprom.specs.Chip.{Chip, Becomes}
use Rattle.eeprom.specs.StoreOf.{Slots}
use Rattle.record_store.specs.Held.{Held, StandsFor, IsOver, record_at}
use Rattle.record_store.specs.Put.{IsPut}
use Rattle.record_store.specs.Put as put
use Rattle.record_store.specs.declared.side.Side.TheVariants.{Working}
use Rattle.catalog_codec.specs.Kinds.{Kind}
use Rattle.record_table.specs.Changed.{IsAdded, IsChanged, IsEmptied, Rewrites}

-- a store is over an EEPROM of the same size, whose image it stands for
pub over-told : (old new : Held) (before after : Chip) → IsOver old before → new.chains.cells ≡ old.chains.cells → after.still ≡ before.still → IfSome after.image (StandsFor new) → IsOver new after
over-told old new before after over cells still stands = record { room = rw (cells, still) over.room; stands = stands }

-- it stands for what is told of it
pub stands-put : (old new : Held) (slot : ℕ) (octets : List ℕ) (a b : Option (List ℕ)) → Becomes (IsPut old new slot octets) a b → IfSome b (StandsFor new)
stands-put old new slot octets a None puts = tt
stands-put old new slot octets a (Some image) puts = (puts image refl).2.stands

pub stands-removed : (old new : Held) (slot : ℕ) (a : Option (List ℕ)) → ((image : List ℕ) → StandsFor old image → put.IsRemoved old new slot image) → IfSome a (StandsFor old) → IfSome a (StandsFor new)
stands-removed old new slot None removes stands = tt
stands-removed old new slot (Some image) removes stands = (removes image stands).stands

put-added : {X : Type 0} (kind : Kind X) (x : X) (old new : Held) (slot : ℕ) (octets was now : List ℕ) → octets ≡ kind.form.spell x → record_at old Working slot was ≡ None → IsPut old new slot octets was now
    → Rewrites (IsAdded kind x slot) old new was now
put-added kind x old new slot octets was now spelled none p = record {
  stands = p.stands;
  committed = p.committed;
  working = λ before told.
      let after : Slots = set before slot (Some octets) in
      let added : IsAdded kind x slot before after
      = record { empty = sym (ap (option_and_then (λ (slots : Slots). get_or slots slot None)) told) ∙ none; is = ap (λ octets. set before slot (Some octets)) spelled } in
      (after, p.working ∙ ap (option_map (λ (slots : Slots). set slots slot (Some octets))) told, added);
}

put-changed : {X : Type 0} (kind : Kind X) (x : X) (old new : Held) (slot : ℕ) (octets was now : List ℕ) → octets ≡ kind.form.spell x → IsPut old new slot octets was now → Rewrites (IsChanged kind x slot) old new was now
put-changed kind x old new slot octets was now spelled p = record {
  stands = p.stands;
  committed = p.committed;
  working = λ before told.
      (set before slot (Some octets), p.working ∙ ap (option_map (λ (slots : Slots). set slots slot (Some octets))) told, ap (λ octets. set before slot (Some octets)) spelled);
}

-- a record is taken out
pub removed : (old new : Held) (slot : ℕ) (image : List ℕ) → put.IsRemoved old new slot image → Rewrites (IsEmptied slot) old new image image
removed old new slot image r = record {
  stands = r.stands;
  committed = r.committed;
  working = λ before told. (set before slot None, r.working ∙ ap (option_map (λ (slots : Slots). set slots slot None)) told, refl);
}

-- a record is put where none was, and no slot is named
pub added-told : {X E : Type 0} (kind : Kind X) (x : X) (old new : Held) (octets : List ℕ) (a b : Option (List ℕ)) (result : Result ℕ E) → octets ≡ kind.form.spell x
    → IfOk result (λ slot. ◌≡◌ {A = Option ℕ} None None → IfSome a (λ image. record_at old Working slot image ≡ None)) → IfOk result (λ slot. Becomes (IsPut old new slot octets) a b)
    → IfOk result (λ slot. Becomes (Rewrites (IsAdded kind x slot) old new) a b)
added-told kind x old new octets a b (Ok slot) spelled none puts = λ after told.
    let p = puts after told in
    (p.0, p.1, put-added kind x old new slot octets p.0 after spelled (subst (λ a. IfSome a (λ image. record_at old Working slot image ≡ None)) p.1 (none refl)) p.2)
added-told kind x old new octets a b (Err e) spelled none puts = tt

-- a record is put into the slot that is named
pub changed-told : {X : Type 0} (kind : Kind X) (x : X) (old new : Held) (slot found : ℕ) (octets : List ℕ) (a b : Option (List ℕ)) → octets ≡ kind.form.spell x → found ≡ slot
    → Becomes (IsPut old new found octets) a b → Becomes (Rewrites (IsChanged kind x slot) old new) a b
changed-told kind x old new slot found octets a b spelled named puts = λ after told.
    let p = puts after told in
    (p.0, p.1, put-changed kind x old new slot octets p.0 after spelled (subst (λ slot. IsPut old new slot octets p.0 after) named p.2))

pub over-added : {E : Type 0} (old new : Held) (octets : List ℕ) (before after : Chip) (result : Result ℕ E) → IsOver old before → OnOk result (new.chains.cells ≡ old.chains.cells) → after.still ≡ before.still
    → IfOk result (λ slot. Becomes (IsPut old new slot octets) before.image after.image) → OnOk result (IsOver new after)
over-added old new octets before after (Ok slot) over cells still puts = over-told old new before after over cells still (stands-put old new slot octets before.image after.image puts)
over-added old new octets before after (Err e) over cells still puts = tt
