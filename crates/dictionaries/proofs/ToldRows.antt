-- What searches among records say of the rows of a dictionary, and what they read.
use Rattle.std.proofs.Common.{◌≡◌, ℕ, Bool, List, [], ◌∷◌, map, filter, Option, Some, None, option_map, inl, inr, refl, sym, ap, ◌∙◌, subst}
use Rattle.std.specs.Prelude.{IfSome}
use Rattle.std.specs.List.{find}
use Rattle.std.specs.Option.{option_map_or}
use Rattle.std.proofs.lemmas.Bool.{cases_Bool}
use Rattle.eeprom.specs.Chip.{Chip}
use Rattle.eeprom.specs.Slots.{Rises, is_after}
use Rattle.eeprom.specs.StoreOf.{Slots}
use Rattle.record_store.specs.Held.{Held}
use Rattle.record_store.specs.declared.side.Side.{Side}
use Rattle.scql_base.specs.declared.records.User.{User}
use Rattle.scql_base.specs.declared.records.Object.{Object}
use Rattle.scql_model.specs.Database.{Database, user_stamped, object_stamped}
use Rattle.scql_model.specs.Dictionaries.{object_name, object_owner, user_name}
use Rattle.scql_model.specs.Matching.{Values}
use Rattle.scql_model.specs.Objects.{StampedRow}
use Rattle.catalog_codec.specs.Catalog.{object_kind, user_kind}
use Rattle.catalog_codec.specs.Kinds.{Kind}
use Rattle.record_table.specs.Listed.{listed, slots_of}
use Rattle.record_table.specs.Making.{IsHeld}
use Rattle.dictionaries.specs.Told.{IsNext, name_or_none, row_stamp}

-- what is said of the list of a kind, where the slots hold a database with these records of it
pub held-list : {X : Type 0} (kind : Kind X) (xs : List X) (P : List X → Type 0) (store : Held) (side : Side) (chip : Chip) (db : Database) (held : IsHeld store side chip db) → listed kind held.slots ≡ xs → Rises kind.key xs
    → IfSome (slots_of store side chip) (λ slots. Rises kind.key (listed kind slots) → P (listed kind slots)) → P xs
held-list kind xs P store side chip db held is rises said =
    subst P is (subst (λ (o : Option Slots). IfSome o (λ slots. Rises kind.key (listed kind slots) → P (listed kind slots))) held.told said (subst (Rises kind.key) (sym is) rises))

find-map : {X Y : Type 0} (f : X → Y) (p : Y → Bool) (q : X → Bool) (xs : List X) → ((x : X) → p (f x) ≡ q x) → find p (map f xs) ≡ option_map f (find q xs)
find-map f p q [] same = refl
find-map f p q (x ∷ xs) same =
    elim (cases_Bool (q x)) [
      | inl t ↦ rw (same x, t) refl
      | inr e ↦ rw (same x, e) (find-map f p q xs same)
    ]

-- the next of the records that are told is the next of their rows
pub told-next : {X : Type 0} (key : X → ℕ) (tell : X → StampedRow) (p : X → Bool) (xs : List X) (stamp : ℕ) (next : Option X) → ((x : X) → row_stamp (tell x) ≡ key x) → next ≡ find (is_after key stamp) (filter p xs)
    → find (is_after row_stamp stamp) (map tell (filter p xs)) ≡ option_map tell next
told-next key tell p xs stamp next same is = find-map tell (is_after row_stamp stamp) (is_after key stamp) (filter p xs) (λ x. rw (same x) refl) ∙ ap (option_map tell) (sym is)

-- a row with the values that were written
pub IsNext-written : (rows : List StampedRow) (stamp told : ℕ) (values out : Values) → find (is_after row_stamp stamp) rows ≡ Some (record { stamp = told; values = values }) → out ≡ values → IsNext rows stamp (Some told) out
IsNext-written rows stamp told values out is same = is ∙ ap (λ (values : Values). Some (record { stamp = told; values = values })) (sym same)

-- the names and the owner of what was found
pub user-named : (store : Held) (side : Side) (chip : Chip) (db : Database) (stamp : ℕ) (found : Option User) → IsHeld store side chip db
    → IfSome (slots_of store side chip) (λ slots. Rises user_kind.key (listed user_kind slots) → found ≡ user_stamped (listed user_kind slots) stamp) → name_or_none (option_map (λ (u : User). u.name) found) ≡ user_name db stamp
user-named store side chip db stamp found held says =
    ap (λ (o : Option User). name_or_none (option_map (λ (u : User). u.name) o)) (held-list user_kind db.users (λ users. found ≡ user_stamped users stamp) store side chip db held held.holds.users held.valid.users.rises says)
    ∙ go (user_stamped db.users stamp)
  where
    go : (o : Option User) → name_or_none (option_map (λ (u : User). u.name) o) ≡ option_map_or (λ (u : User). u.name) o []
    go None = refl
    go (Some u) = refl

pub object-named : (store : Held) (side : Side) (chip : Chip) (db : Database) (stamp : ℕ) (found : Option Object) → IsHeld store side chip db
    → IfSome (slots_of store side chip) (λ slots. Rises object_kind.key (listed object_kind slots) → found ≡ object_stamped (listed object_kind slots) stamp) → name_or_none (option_map (λ (o : Object). o.name) found) ≡ object_name db stamp
object-named store side chip db stamp found held says =
    ap (λ (o : Option Object). name_or_none (option_map (λ (o : Object). o.name) o)) (held-list object_kind db.objects (λ objects. found ≡ object_stamped objects stamp) store side chip db held held.holds.objects held.valid.objects.rises says)
    ∙ go (object_stamped db.objects stamp)
  where
    go : (o : Option Object) → name_or_none (option_map (λ (o : Object). o.name) o) ≡ option_map_or (λ (o : Object). o.name) o []
    go None = refl
    go (Some o) = refl

pub object-owned : (store : Held) (side : Side) (chip : Chip) (db : Database) (stamp : ℕ) (found : Option Object) → IsHeld store side chip db
    → IfSome (slots_of store side chip) (λ slots. Rises object_kind.key (listed object_kind slots) → found ≡ object_stamped (listed object_kind slots) stamp) → option_map_or (λ (o : Object). o.owner) found 0 ≡ object_owner db stamp
object-owned store side chip db stamp found held says =
    ap (λ (o : Option Object). option_map_or (λ (o : Object). o.owner) o 0) (held-list object_kind db.objects (λ objects. found ≡ object_stamped objects stamp) store side chip db held held.holds.objects held.valid.objects.rises says)
