-- What a store tells of rights is what the database that it holds has.
use Rattle.std.proofs.Common.{◌≡◌, ℕ, ◌≤◌, ◌&&◌, Bool, true, false, not, List, [], ◌∷◌, map, count_by, Option, Some, None, refl, lit≤, sym, ap, subst, ◌∙◌, arith, inl, inr}
use Rattle.std.specs.Prelude.{IfSome}
use Rattle.std.specs.List.{list_any, find}
use Rattle.std.specs.Str.{bytes_eq}
use Rattle.std.proofs.lemmas.Bool.{cases_Bool, false≢true, and_parts, not-true}
use Rattle.std.proofs.lemmas.Map.Entries.{option_filter}
use Rattle.std.proofs.lemmas.Slice.Eq.{bytes_eq-Decides}
use Rattle.eeprom.specs.Chip.{Chip}
use Rattle.eeprom.specs.StoreOf.{Slots}
use Rattle.eeprom.proofs.InOrder.{count_by-cons, counts, counts_not}
use Rattle.record_store.specs.Held.{Held}
use Rattle.record_store.specs.declared.side.Side.{Side}
use Rattle.scql_base.specs.declared.words.Actor.{Actor}
use Rattle.scql_base.specs.declared.records.Grant.{Grant}
use Rattle.scql_base.specs.declared.records.Object.{Object}
use Rattle.scql_model.specs.Creating.{actor_stamp, is_owned_by}
use Rattle.scql_model.specs.Database.{Database, IsValid, are_different}
use Rattle.scql_model.specs.Rights.{all_privileges, appears, has_bit, holds, seen_named}
use Rattle.catalog_codec.specs.Catalog.{grant_kind, object_kind}
use Rattle.object_table.specs.Named.{has_name, object_named}
use Rattle.record_table.specs.Listed.{in_slots, listed, slots_of}
use Rattle.record_table.specs.Making.{IsHeld}
use Rattle.record_table.specs.Reading.{ReadsCells}
use Rattle.privilege_table.specs.Granted.{AreHeld, cells_granted, cells_granted_on, gives_bit}
use Rattle.privilege_table.specs.Rights.{AreRights, privilege_bit}
use Rattle.privilege_table.specs.declared.rights.Privilege.{Privilege}
use Rattle.privilege_table.specs.declared.rights.Privilege.TheVariants.{Select, Insert, Update, Delete}

-- what is said of the slots of a side, where they hold a database
pub told-held : (store : Held) (side : Side) (chip : Chip) (db : Database) (P : Slots → Type 0) (held : IsHeld store side chip db) → IfSome (slots_of store side chip) P → P held.slots
told-held store side chip db P held said = subst (λ (o : Option Slots). IfSome o P) held.told said

-- the bits that a user holds have each privilege that a grant gives
held-bit : (object grantee : ℕ) (grants : List Grant) (bits : ℕ) (privilege : Privilege) → AreHeld object grantee grants bits
    → has_bit (privilege_bit privilege) bits ≡ list_any (gives_bit object grantee (privilege_bit privilege)) grants
held-bit object grantee grants bits Select held = held 0
held-bit object grantee grants bits Insert held = held 1
held-bit object grantee grants bits Update held = held 2
held-bit object grantee grants bits Delete held = held 3

-- who owns an object holds each privilege on it, and it appears
pub holds-owned : (db : Database) (actor : Actor) (o : Object) (bit : ℕ) → is_owned_by actor o.owner ≡ true → true ≡ holds db actor o bit
unfolding holds
holds-owned db actor o bit owned = rw owned refl

pub appears-owned : (db : Database) (actor : Actor) (o : Object) → is_owned_by actor o.owner ≡ true → true ≡ appears db actor o
unfolding appears
appears-owned db actor o owned = rw owned refl

-- anybody else holds what grants give
pub holds-granted : (db : Database) (actor : Actor) (o : Object) (privilege : Privilege) (bits : ℕ) → is_owned_by actor o.owner ≡ false → AreHeld o.stamp (actor_stamp actor) db.grants bits
    → has_bit (privilege_bit privilege) bits ≡ holds db actor o (privilege_bit privilege)
unfolding holds
holds-granted db actor o privilege bits other held = rw other (held-bit o.stamp (actor_stamp actor) db.grants bits privilege held)

pub appears-granted : (db : Database) (actor : Actor) (o : Object) (bits : ℕ) → is_owned_by actor o.owner ≡ false → AreHeld o.stamp (actor_stamp actor) db.grants bits
    → list_any (λ bit. has_bit bit bits) all_privileges ≡ appears db actor o
unfolding appears
appears-granted db actor o bits other held =
    rw (other, holds-granted db actor o Select bits other held, holds-granted db actor o Insert bits other held, holds-granted db actor o Update bits other held, holds-granted db actor o Delete bits other held) refl

-- the rights of an object's owner, and those of anybody else
pub owned-rights : (db : Database) (actor : Actor) (o : Object) → is_owned_by actor o.owner ≡ true → AreRights db actor o (record { bits = 15 })
owned-rights db actor o owned = record {
  appears = sym (appears-owned db actor o owned);
  holds = λ privilege. sym (holds-owned db actor o (privilege_bit privilege) owned) ∙ among privilege;
}
  where
    among : (privilege : Privilege) → true ≡ has_bit (privilege_bit privilege) 15
    among Select = refl
    among Insert = refl
    among Update = refl
    among Delete = refl

pub granted-rights : (db : Database) (actor : Actor) (o : Object) (bits : ℕ) → is_owned_by actor o.owner ≡ false → AreHeld o.stamp (actor_stamp actor) db.grants bits → AreRights db actor o (record { bits = bits })
granted-rights db actor o bits other held = record {
  appears = sym (appears-granted db actor o bits other held);
  holds = λ privilege. sym (holds-granted db actor o privilege bits other held);
}

-- the bits that a user holds by the grants of a database
pub held-granted : (store : Held) (side : Side) (chip : Chip) (db : Database) (object grantee bits : ℕ) → IsHeld store side chip db
    → IfSome (slots_of store side chip) (λ slots. AreHeld object grantee (listed grant_kind slots) bits) → AreHeld object grantee db.grants bits
held-granted store side chip db object grantee bits held said =
    subst (λ (grants : List Grant). AreHeld object grantee grants bits) held.holds.grants (told-held store side chip db (λ slots. AreHeld object grantee (listed grant_kind slots) bits) held said)

none-both : {X : Type 0} (p q : X → Bool) (xs : List X) → count_by p xs ≡ 0 → find (λ x. p x && q x) xs ≡ None
none-both p q [] none = refl
none-both p q (x ∷ xs) none =
    elim (cases_Bool (p x)) [
      | inl t ↦ absurd (omega (arith, none, counts p x xs t))
      | inr f ↦ rw f (none-both p q xs (omega (arith, none, counts_not p x xs f)))
    ]

-- where at most one passes the first of two tests, it passes both if it passes the other
pub find-both : {X : Type 0} (p q : X → Bool) (xs : List X) → count_by p xs ≤ 1 → find (λ x. p x && q x) xs ≡ option_filter q (find p xs)
find-both p q [] one = refl
find-both p q (x ∷ xs) one =
    elim (cases_Bool (p x)) [
      | inl t ↦ (let none : count_by p xs ≡ 0 = omega (arith, one, counts p x xs t) in
          elim (cases_Bool (q x)) [ inl u ↦ rw (t, u) refl | inr f ↦ rw (t, f) (none-both p q xs none) ])
      | inr f ↦ rw f (find-both p q xs (omega (arith, one, counts_not p x xs f)))
    ]

abbrev names_of : List Object → List (List ℕ)
names_of objects = map (λ (o : Object). o.name) objects

none_named : (name : List ℕ) (objects : List Object) → list_any (bytes_eq name) (names_of objects) ≡ false → count_by (has_name name) objects ≡ 0
none_named name [] none = refl
none_named name (o ∷ objects) none =
    elim (cases_Bool (bytes_eq name o.name)) [
      | inl t ↦ absurd (false≢true (sym (rw t at none)))
      | inr e ↦ (let rest : count_by (has_name name) objects ≡ 0 = none_named name objects (rw e at none) in rw (count_by-cons, e) (omega (arith, rest)))
    ]

-- objects of different names
pub one_named : (name : List ℕ) (objects : List Object) → are_different (names_of objects) ≡ true → count_by (has_name name) objects ≤ 1
one_named name [] apart = lit≤ tt
one_named name (o ∷ objects) apart =
    let parts = and_parts (not (list_any (bytes_eq o.name) (names_of objects))) (are_different (names_of objects)) apart in
    elim (cases_Bool (bytes_eq name o.name)) [
      | inl t ↦ (let same : name ≡ o.name = (bytes_eq-Decides name o.name).0 t in
          let none : count_by (has_name o.name) objects ≡ 0 = none_named o.name objects (not-true (list_any (bytes_eq o.name) (names_of objects)) parts.0) in
          let none' : count_by (has_name name) objects ≡ 0 = subst (λ (n : List ℕ). count_by (has_name n) objects ≡ 0) (sym same) none in
          rw (count_by-cons, t) (omega (arith, none')))
      | inr e ↦ (let rest : count_by (has_name name) objects ≤ 1 = one_named name objects parts.1 in rw (count_by-cons, e) (omega (arith, rest)))
    ]

-- the object of a name is seen if it appears
pub seen-named : (db : Database) (actor : Actor) (name : List ℕ) → IsValid db → seen_named db actor name ≡ option_filter (appears db actor) (object_named db.objects name)
seen-named db actor name valid = find-both (has_name name) (appears db actor) db.objects (one_named name db.objects valid.objects.names)

-- the object that a search for a name finds
abbrev pub IsOfName : List ℕ → Option Object → Slots → Type 0
IsOfName name found slots = count_by (has_name name) (listed object_kind slots) ≤ 1 → found ≡ object_named (listed object_kind slots) name

pub named-held : (store : Held) (side : Side) (chip : Chip) (db : Database) (name : List ℕ) (found : Option Object) → IsHeld store side chip db → IfSome (slots_of store side chip) (IsOfName name found)
    → found ≡ object_named db.objects name
named-held store side chip db name found held said =
    let here = told-held store side chip db (IsOfName name found) held said in
    subst (λ (objects : List Object). count_by (has_name name) objects ≤ 1 → found ≡ object_named objects name) held.holds.objects here (one_named name db.objects held.valid.objects.names)

-- is seen if it appears
pub seen-held : (store : Held) (side : Side) (chip : Chip) (db : Database) (actor : Actor) (name : List ℕ) (found : Option Object) → IsHeld store side chip db
    → IfSome (slots_of store side chip) (IsOfName name found) → option_filter (appears db actor) found ≡ seen_named db actor name
seen-held store side chip db actor name found held said =
    ap (option_filter (appears db actor)) (named-held store side chip db name found held said) ∙ sym (seen-named db actor name held.valid)

-- what is read of the grants on the object that was found
pub found-granted : (actor : Actor) (name : List ℕ) (o : Object) (slots : Option Slots) (a b : Option ℕ) → IfSome slots (λ slots. Some o ≡ find (has_name name) (in_slots object_kind slots))
    → ReadsCells (cells_granted o.stamp (actor_stamp actor)) slots a b → ReadsCells (λ slots. cells_granted_on actor (find (has_name name) (in_slots object_kind slots)) slots) slots a b
found-granted actor name o None a b first read = tt
found-granted actor name o (Some slots) a b first read = rw (sym first) read
