-- The user that CREATE USER makes may be added.
use Rattle.std.proofs.Common.{◌≡◌, ℕ, ◌≤◌, ◌+◌, ◌^◌, Bool, true, false, List, [], ◌∷◌, ◌++◌, length, filter, not, ◌&&◌, ◌||◌, Option, Some, None, refl, ap, subst, ◌∙◌, arith, inl, inr}
use Rattle.std.specs.Prelude.{nat_le, nat_lt, option_map, ◌==◌}
use Rattle.std.specs.List.{list_all, list_any}
use Rattle.std.specs.Option.{option_map_or}
use Rattle.std.specs.Char.{is_ascii_uppercase}
use Rattle.std.specs.Str.{bytes_eq}
use Rattle.std.proofs.lemmas.Bool.{cases_Bool, and_parts, and_from, or_parts, false≢true, ltb-true, lt-ltb, le-leb, leb-true, eqb-true, eqb-false}
use Rattle.std.proofs.lemmas.List.{length-append}
use Rattle.std.proofs.lemmas.Option.{none-some, same_Some}
use Rattle.scql_base.specs.declared.words.Actor.{Actor}
use Rattle.scql_base.specs.declared.words.Actor.TheVariants.{Public, User as a_user}
use Rattle.scql_base.specs.declared.words.Profile.{Profile}
use Rattle.scql_base.specs.declared.words.Profile.TheVariants.{DbO, Dboo, Dbbu}
use Rattle.scql_base.specs.Name.{is_name, is_name_octet}
use Rattle.scql_base.specs.declared.records.User.{User}
use Rattle.scql_model.specs.Records.{is_secret, is_tries, user_record}
use Rattle.scql_model.specs.Stored.{is_storable}
use Rattle.scql_model.specs.Rules.{owner, public_name, is_db_o, is_maker, user_stamped, is_made_by_maker, has_maker, has_all_tries, is_named}
use Rattle.scql_model.specs.Database.{Database, IsValid, stored_user}
use Rattle.scql_model.specs.Creating.{IsAsked, may_create, actor_stamp, IsActorOf, is_taken, new_user, stamps_end}
use Rattle.scql_model.proofs.LongerLists.{not_equal-sym, find-passes, find-all, all-filtered, any-map}
use Rattle.scql_model.proofs.AddedUser.{IsAddable, kept_maker}

-- the new user is within the limits
pub name-size : (name : List ℕ) → is_name name ≡ true → length name ≤ 8
name-size [] right = absurd (false≢true right)
name-size (first ∷ rest) right =
    let short = ltb-true (length rest) 8 (and_parts (is_ascii_uppercase first && list_all is_name_octet rest) (nat_lt (length rest) 8) right).1 in omega arith

secret-size : (secret : List ℕ) → is_secret secret ≡ true → length secret ≤ 8
secret-size secret right = go (length secret) right
  where
    go : (n : ℕ) → (n == 0) || nat_le 4 n && nat_le n 8 ≡ true → n ≤ 8
    go n right = elim (cases_Bool (n == 0)) [
      | inl t ↦ (let none = eqb-true n 0 t in omega arith)
      | inr f ↦ (let short = leb-true n 8 (and_parts (nat_le 4 n) (nat_le n 8) (rw f at right)).1 in omega arith)
    ]

pub user-size : (u : User) → length (user_record.spell u) ≡ 13 + (length u.name + length u.secret)
user-size u = let a = length-append {A = ℕ} u.name (length u.secret ∷ u.secret) in omega arith

pub user-short : (u : User) → is_name u.name ≡ true → is_secret u.secret ≡ true → is_storable (stored_user u) ≡ true
user-short u name secret =
    let a = name-size u.name name in
    let b = secret-size u.secret secret in
    let c = user-size u in
    and_from (nat_le 1 (length (user_record.spell u))) (nat_le (length (user_record.spell u)) 1029)
    (le-leb 1 (length (user_record.spell u)) (omega arith)) (le-leb (length (user_record.spell u)) 1029 (omega arith))

-- the stamp of who acts is a number
pub actor_fits : (db : Database) (stamp : ℕ) (profile : Profile) → IsValid db → IsActorOf db (a_user stamp profile) → nat_lt stamp (2 ^ 32) ≡ true
actor_fits db stamp profile valid acts = go (user_stamped db.users stamp) refl acts
  where
    go : (o : Option User) → user_stamped db.users stamp ≡ o → option_map (λ (u : User). u.profile) o ≡ Some profile → nat_lt stamp (2 ^ 32) ≡ true
    go None found acts = absurd (none-some profile acts)
    go (Some u) found acts =
        let same = eqb-true u.stamp stamp (find-passes (λ (u : User). u.stamp == stamp) db.users u found) in
        let fits = find-all user_record.fits (λ (u : User). u.stamp == stamp) db.users u valid.users.limits found in
        subst (λ n. nat_lt n (2 ^ 32) ≡ true) same (and_parts (nat_lt u.stamp (2 ^ 32)) _ fits).0

user-fits : (u : User) → nat_lt u.stamp (2 ^ 32) ≡ true → nat_lt u.owner (2 ^ 32) ≡ true → is_tries u.tries ≡ true → is_name u.name ≡ true → is_secret u.secret ≡ true → user_record.fits u ≡ true
user-fits u stamp owner tries name secret = rw (stamp, owner, tries, name, secret) refl

-- the new user's owner may own it
pub maker-profile : (users : List User) (stamp : ℕ) (profile : Profile) → is_maker profile ≡ true → option_map (λ (u : User). u.profile) (user_stamped users stamp) ≡ Some profile
    → is_made_by_maker users stamp ≡ true
maker-profile users stamp profile maker acts = go (user_stamped users stamp) acts
  where
    go : (o : Option User) → option_map (λ (u : User). u.profile) o ≡ Some profile → option_map_or (λ (u : User). is_maker u.profile) o false ≡ true
    go None acts = absurd (none-some profile acts)
    go (Some u) acts = ap is_maker (same_Some u.profile profile acts) ∙ maker

-- OWNER alone has profile 01
db_o-stamp : (users : List User) (stamp : ℕ) → filter is_db_o users ≡ owner ∷ [] → option_map (λ (u : User). u.profile) (user_stamped users stamp) ≡ Some DbO → (stamp == 1) ≡ true
db_o-stamp users stamp one acts = go (user_stamped users stamp) refl acts
  where
    first : list_all (λ (u : User). not (is_db_o u) || (u.stamp == 1)) users ≡ true
    first = all-filtered is_db_o (λ (u : User). u.stamp == 1) users (rw one refl)

    first_of : (u : User) → u.profile ≡ DbO → not (is_db_o u) || (u.stamp == 1) ≡ true → (u.stamp == 1) ≡ true
    first_of u e h = rw e at h

    go : (o : Option User) → user_stamped users stamp ≡ o → option_map (λ (u : User). u.profile) o ≡ Some DbO → (stamp == 1) ≡ true
    go None found acts = absurd (none-some DbO acts)
    go (Some u) found acts =
        let same = eqb-true u.stamp stamp (find-passes (λ (u : User). u.stamp == stamp) users u found) in
        let h = find-all (λ (u : User). not (is_db_o u) || (u.stamp == 1)) (λ (u : User). u.stamp == stamp) users u first found in
        subst (λ n. (n == 1) ≡ true) same (first_of u (same_Some u.profile DbO acts) h)

new_maker : (db : Database) (actor : Actor) (name : List ℕ) (profile : Profile) (secret : List ℕ) (more : List User) → IsValid db → IsActorOf db actor → may_create actor profile ≡ true
    → has_maker (db.users ++ more) (new_user db actor name profile secret) ≡ true
new_maker db Public name profile secret more valid acts may = absurd (false≢true may)
new_maker db (a_user stamp DbO) name DbO secret more valid acts may = refl
new_maker db (a_user stamp DbO) name Dboo secret more valid acts may = db_o-stamp db.users stamp valid.users.owner acts
new_maker db (a_user stamp DbO) name Dbbu secret more valid acts may = kept_maker db.users more stamp (maker-profile db.users stamp DbO refl acts)
new_maker db (a_user stamp Dboo) name DbO secret more valid acts may = refl
new_maker db (a_user stamp Dboo) name Dboo secret more valid acts may = absurd (false≢true may)
new_maker db (a_user stamp Dboo) name Dbbu secret more valid acts may = kept_maker db.users more stamp (maker-profile db.users stamp Dboo refl acts)
new_maker db (a_user stamp Dbbu) name profile secret more valid acts may = absurd (false≢true may)

owner_fits : (db : Database) (actor : Actor) (profile : Profile) → IsValid db → IsActorOf db actor → may_create actor profile ≡ true → nat_lt (actor_stamp actor) (2 ^ 32) ≡ true
owner_fits db Public profile valid acts may = refl
owner_fits db (a_user stamp own) profile valid acts may = actor_fits db stamp own valid acts

not-db_o : (u : User) → (u.profile ≡ DbO → ⊥) → is_db_o u ≡ false
not-db_o u not_owner = go u.profile refl not_owner
  where
    go : (p : Profile) → u.profile ≡ p → (p ≡ DbO → ⊥) → is_db_o u ≡ false
    go DbO e not_owner = absurd (not_owner refl)
    go Dboo e not_owner = rw e refl
    go Dbbu e not_owner = rw e refl

tries_left : (u : User) → u.tries ≡ 3 → has_all_tries u ≡ true
tries_left u three = rw three (either_way (not (length u.secret == 0)))
  where
    either_way : (b : Bool) → b || true ≡ true
    either_way true = refl
    either_way false = refl

pub next_fits : (next : ℕ) → nat_lt next (2 ^ 32) ≡ true → (next == stamps_end) ≡ false → nat_lt (next + 1) (2 ^ 32) ≡ true
next_fits next low left =
    let a = ltb-true next (2 ^ 32) low in
    let b = eqb-false next stamps_end left in
    lt-ltb (next + 1) (2 ^ 32) (omega (arith, b))

-- the new user may be added
pub IsAddable-new_user : (db : Database) (actor : Actor) (name : List ℕ) (profile : Profile) (secret : List ℕ) → IsValid db → IsAsked db actor name profile secret
    → may_create actor profile ≡ true → is_taken db name ≡ false → IsAddable db (new_user db actor name profile secret)
IsAddable-new_user db actor name profile secret valid asked may free =
    let parts = or_parts (list_any (is_named name) db.users) (bytes_eq name public_name) free in
    let u : User = new_user db actor name profile secret in
    record {
      stamp = refl;
      fits = user-fits u valid.counter (owner_fits db actor profile valid asked.acts may) refl asked.named asked.secret_fits;
      size = user-short u asked.named asked.secret_fits;
      name = any-map (bytes_eq name) (λ (u : User). u.name) db.users ∙ parts.0;
      not_public = not_equal-sym name public_name parts.1;
      not_owner = not-db_o u asked.not_owner;
      maker = new_maker db actor name profile secret (u ∷ []) valid asked.acts may;
      tries = tries_left u refl;
    }
