-- Records within their limits, where they are put in order.
use Rattle.std.proofs.Common.{◌≡◌, ℕ, Bool, true, List, [], ◌∷◌, Option, Some, None, nat_lt, refl, sym, ap, ◌∙◌, inl, inr}
use Rattle.std.proofs.lemmas.Bool.{cases_Bool, and_parts, and_from}
use Rattle.std.specs.List.{list_all}
use Rattle.std.specs.Option.{option_map_or}
use Rattle.eeprom.specs.StoreOf.{Slots}
use Rattle.eeprom.specs.Slots.{kept, put_in_order}
use Rattle.scql_base.specs.declared.records.Object.{Object}
use Rattle.scql_model.specs.Database.{Database, IsValid}
use Rattle.scql_model.specs.Opens.{Holds, is_spelled}
use Rattle.scql_model.specs.Records.{object_in}
use Rattle.scql_model.specs.Rules.{is_short}
use Rattle.scql_model.proofs.LongerLists.{all-weaker}
use Rattle.plain_image.specs.Found.{is_admitted, is_short_object, put_found}
use Rattle.plain_image.proofs.Filled.{kept-more}

-- what holds of all and of one holds of all with it
pub all-put : {X : Type 0} (p : X → Bool) (key : X → ℕ) (x : X) (xs : List X) → p x ≡ true → list_all p xs ≡ true → list_all p (put_in_order key x xs) ≡ true
all-put p key x [] one all = rw one refl
all-put p key x (y ∷ ys) one all =
    let parts = and_parts (p y) (list_all p ys) all in
    elim (cases_Bool (nat_lt (key x) (key y))) [
      | inl t ↦ rw (t, one, parts.0) parts.1
      | inr f ↦ rw (f, parts.0) (all-put p key x ys one parts.1)
    ]

-- and the other way round
pub put-all : {X : Type 0} (p : X → Bool) (key : X → ℕ) (x : X) (xs : List X) → list_all p (put_in_order key x xs) ≡ true → (p x ≡ true) × (list_all p xs ≡ true)
put-all p key x [] all = ((and_parts (p x) true all).0, refl)
put-all p key x (y ∷ ys) all =
    elim (cases_Bool (nat_lt (key x) (key y))) [
      | inl t ↦ and_parts (p x) (list_all p (y ∷ ys)) (rw t at all)
      | inr f ↦ (let parts = and_parts (p y) (list_all p (put_in_order key x ys)) (rw f at all) in
          let rest = put-all p key x ys parts.1 in
          (rest.0, and_from (p y) (list_all p ys) parts.0 rest.1))
    ]

pub admitted-spelled : (slots : Slots) → list_all is_admitted slots ≡ true → list_all is_spelled slots ≡ true
admitted-spelled slots all = all-weaker is_admitted is_spelled slots each all
  where
    each : (slot : Option (List ℕ)) → is_admitted slot ≡ true → is_spelled slot ≡ true
    each None is = refl
    each (Some octets) is = (and_parts (is_short_object octets) (is_spelled (Some octets)) is).1

-- so the objects in them are short
pub admitted-short : (slots : Slots) → list_all is_admitted slots ≡ true → list_all is_short (kept (λ (o : Object). o.stamp) object_in slots) ≡ true
admitted-short [] all = refl
admitted-short (None ∷ slots) all = admitted-short slots all
admitted-short (Some octets ∷ slots) all =
    let parts = and_parts (is_admitted (Some octets)) (list_all is_admitted slots) all in
    let own = and_parts (is_short_object octets) (is_spelled (Some octets)) parts.0 in
    ap (list_all is_short) (kept-more (λ (o : Object). o.stamp) object_in octets slots) ∙ put (object_in octets) (kept (λ (o : Object). o.stamp) object_in slots) own.0 (admitted-short slots parts.1)
  where
    put : (found : Option Object) (others : List Object) → option_map_or is_short found true ≡ true → list_all is_short others ≡ true → list_all is_short (put_found (λ (o : Object). o.stamp) found others) ≡ true
    put None others short all = all
    put (Some o) others short all = all-put is_short (λ (o : Object). o.stamp) o others short all

pub short-admitted : (slots : Slots) → list_all is_spelled slots ≡ true → list_all is_short (kept (λ (o : Object). o.stamp) object_in slots) ≡ true → list_all is_admitted slots ≡ true
short-admitted [] spelled short = refl
short-admitted (None ∷ slots) spelled short = short-admitted slots spelled short
short-admitted (Some octets ∷ slots) spelled short =
    let parts = and_parts (is_spelled (Some octets)) (list_all is_spelled slots) spelled in
    let own = take (object_in octets) (kept (λ (o : Object). o.stamp) object_in slots) (sym (ap (list_all is_short) (kept-more (λ (o : Object). o.stamp) object_in octets slots)) ∙ short) in
    and_from (is_admitted (Some octets)) (list_all is_admitted slots) (and_from (is_short_object octets) (is_spelled (Some octets)) own.0 parts.0) (short-admitted slots parts.1 own.1)
  where
    take : (found : Option Object) (others : List Object) → list_all is_short (put_found (λ (o : Object). o.stamp) found others) ≡ true → (option_map_or is_short found true ≡ true) × (list_all is_short others ≡ true)
    take None others all = (refl, all)
    take (Some o) others all = put-all is_short (λ (o : Object). o.stamp) o others all

-- the slots of a valid database are admitted
pub admitted-valid : (slots : Slots) (db : Database) → Holds slots db → IsValid db → list_all is_admitted slots ≡ true
admitted-valid slots db holds valid = short-admitted slots holds.spelled (ap (list_all is_short) holds.objects ∙ valid.objects.lengths)
