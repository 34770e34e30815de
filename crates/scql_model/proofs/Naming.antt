-- A user is found by its name, in a list or among slots in no order.
use Rattle.std.proofs.Common.{◌≡◌, ℕ, ◌≤◌, Bool, true, false, List, [], ◌∷◌, map, count_by, not, refl, lit≤, sym, ap, subst, ◌∙◌, arith, inl, inr}
use Rattle.std.specs.List.{list_any, find, filter_map}
use Rattle.std.specs.Str.{bytes_eq}
use Rattle.std.proofs.lemmas.Bool.{cases_Bool, false≢true, and_parts}
use Rattle.std.proofs.lemmas.Slice.Eq.{bytes_eq-Decides}
use Rattle.eeprom.proofs.InOrder.{count_by-cons, count_by-in_order, find-in_order}
use Rattle.eeprom.specs.Slots.{in_slot, in_order}
use Rattle.eeprom.specs.StoreOf.{Slots}
use Rattle.scql_base.specs.declared.records.User.{User}
use Rattle.scql_model.specs.Records.{user_in}
use Rattle.scql_model.specs.Database.{Database, IsValid, are_different, is_named, user_named}
use Rattle.scql_model.specs.Opens.{Holds}

abbrev names_of : List User → List (List ℕ)
names_of users = map (λ (u : User). u.name) users

not-true : (b : Bool) → not b ≡ true → b ≡ false
not-true true h = absurd (false≢true h)
not-true false h = refl

none_named : (name : List ℕ) (users : List User) → list_any (bytes_eq name) (names_of users) ≡ false → count_by (is_named name) users ≡ 0
none_named name [] none = refl
none_named name (u ∷ users) none =
    elim (cases_Bool (bytes_eq name u.name)) [
      | inl t ↦ absurd (false≢true (sym (rw t at none)))
      | inr e ↦ (let rest : count_by (is_named name) users ≡ 0 = none_named name users (rw e at none) in rw (count_by-cons, e) (omega (arith, rest)))
    ]

one_named : (name : List ℕ) (users : List User) → are_different (names_of users) ≡ true → count_by (is_named name) users ≤ 1
one_named name [] apart = lit≤ tt
one_named name (u ∷ users) apart =
    let parts = and_parts (not (list_any (bytes_eq u.name) (names_of users))) (are_different (names_of users)) apart in
    elim (cases_Bool (bytes_eq name u.name)) [
      | inl t ↦ (let same : name ≡ u.name = (bytes_eq-Decides name u.name).0 t in
          let none : count_by (is_named u.name) users ≡ 0 = none_named u.name users (not-true (list_any (bytes_eq u.name) (names_of users)) parts.0) in
          let none' : count_by (is_named name) users ≡ 0 = subst (λ (n : List ℕ). count_by (is_named n) users ≡ 0) (sym same) none in
          rw (count_by-cons, t) (omega (arith, none')))
      | inr e ↦ (let rest : count_by (is_named name) users ≤ 1 = one_named name users parts.1 in rw (count_by-cons, e) (omega (arith, rest)))
    ]

abbrev stamp_of : User → ℕ
stamp_of u = u.stamp

-- of users of whom at most one passes, the one is found among slots that hold them
found-slots : (slots : Slots) (db : Database) (p : User → Bool) → Holds slots db → count_by p db.users ≤ 1 → find p db.users ≡ find p (filter_map (in_slot user_in) slots)
found-slots slots db p holds one =
    let found : List User = filter_map (in_slot user_in) slots in
    let sorted : count_by p (in_order stamp_of found) ≤ 1 = subst (λ (users : List User). count_by p users ≤ 1) (sym holds.users) one in
    let one' : count_by p found ≤ 1 = omega (arith, sorted, count_by-in_order stamp_of p found) in
    ap (λ (users : List User). find p users) (sym holds.users) ∙ find-in_order stamp_of p found one'

-- Among slots that hold a valid database, the user of a name is the database's.
pub user_named-slots : (slots : Slots) (db : Database) (name : List ℕ) → Holds slots db → IsValid db
    → user_named db.users name ≡ find (is_named name) (filter_map (in_slot user_in) slots)
user_named-slots slots db name holds valid = found-slots slots db (is_named name) holds (one_named name db.users valid.users.names)
