-- A valid database stays valid without a user who owns nothing and to whom nothing is granted, but OWNER.
use Rattle.std.proofs.Common.{◌≡◌, ℕ, Bool, true, false, List, [], ◌∷◌, filter, not, ◌||◌, Option, refl, sym, ap, ◌∙◌, inl, inr}
use Rattle.std.specs.Prelude.{◌==◌}
use Rattle.std.specs.List.{list_all}
use Rattle.std.specs.Option.{option_map_or}
use Rattle.std.specs.Str.{bytes_eq}
use Rattle.std.proofs.lemmas.Bool.{cases_Bool, and_parts, not-true}
use Rattle.eeprom.specs.Slots.{without}
use Rattle.scql_base.specs.declared.words.Profile.{Profile}
use Rattle.scql_base.specs.declared.words.Profile.TheVariants.{DbO, Dboo, Dbbu}
use Rattle.scql_base.specs.declared.records.User.{User}
use Rattle.scql_base.specs.declared.records.Object.{Object}
use Rattle.scql_base.specs.declared.records.Grant.{Grant}
use Rattle.scql_model.specs.Records.{user_record}
use Rattle.scql_model.specs.Rules.{AreUsers, AreObjects, AreGrants, owner, public_name, is_db_o, is_maker, is_made_by_maker, has_maker, has_all_tries, has_object_and_grantee}
use Rattle.scql_model.specs.Database.{Database, IsValid, stored_user}
use Rattle.scql_model.proofs.LongerLists.{all-by_both, all-filtered}
use Rattle.scql_model.proofs.ChangedLists.{Rises-filter, list_all-filter, find-without, any-without}
use Rattle.scql_model.proofs.Apart.{apart_by-filter, apart_by-map, list_any-filter}
use Rattle.scql_model.proofs.RecordsOf.{behind_users, records_of-users}
use Rattle.scql_model.proofs.Stored.{IsStored-removed}

abbrev stamp_of : User → ℕ
stamp_of u = u.stamp

-- all users but one
abbrev left : ℕ → List User → List User
left gone users = without stamp_of gone users

-- who was made by a maker that stays is still
made_by_maker-without : (gone : ℕ) (users : List User) (stamp : ℕ) → not (stamp == gone) ≡ true → is_made_by_maker (left gone users) stamp ≡ is_made_by_maker users stamp
made_by_maker-without gone users stamp other =
    ap (λ (o : Option User). option_map_or (λ (u : User). is_maker u.profile) o false)
    (find-without stamp_of gone stamp users (not-true (stamp == gone) other))

has_maker-without : (gone : ℕ) (users : List User) (u : User) → not (u.owner == gone) ≡ true → has_maker users u ≡ true → has_maker (left gone users) u ≡ true
has_maker-without gone users u other right = go u.profile refl right
  where
    go : (p : Profile) → u.profile ≡ p → has_maker users u ≡ true → has_maker (left gone users) u ≡ true
    go DbO e right = rw e refl
    go Dboo e right = rw e (rw e at right)
    go Dbbu e right = rw e (made_by_maker-without gone users u.owner other ∙ rw e at right)

-- a test that implies another finds all that it did
filter-filter : {X : Type 0} (p stays : X → Bool) (xs : List X) → list_all (λ x. not (p x) || stays x) xs ≡ true → filter p (filter stays xs) ≡ filter p xs
filter-filter p stays [] all = refl
filter-filter p stays (x ∷ xs) all =
    let parts = and_parts (not (p x) || stays x) (list_all (λ x. not (p x) || stays x) xs) all in
    let rest = filter-filter p stays xs parts.1 in
    elim (cases_Bool (p x)) [
      | inl t ↦ (let there : stays x ≡ true = rw t at parts.0 in rw (there, t) (ap (λ (ys : List _). x ∷ ys) rest))
      | inr f ↦ elim (cases_Bool (stays x)) [ inl t ↦ rw (t, f) rest | inr e ↦ rw (e, f) rest ]
    ]

-- OWNER has stamp 1, so it stays where another goes
owner_stays : (gone : ℕ) (users : List User) → (1 == gone) ≡ false → filter is_db_o users ≡ owner ∷ [] → filter is_db_o (left gone users) ≡ owner ∷ []
owner_stays gone users other one =
    filter-filter is_db_o (λ (u : User). not (u.stamp == gone)) users (all-filtered is_db_o (λ (u : User). not (u.stamp == gone)) users (rw (one, other) refl)) ∙ one

-- a user who may go: it isn't OWNER, owns nothing, and nothing is granted to it
pub record MayGo (db : Database) (gone : ℕ) : Type 0 where
  pub not_owner : (1 == gone) ≡ false
  pub no_user : list_all (λ (u : User). not (u.owner == gone)) db.users ≡ true
  pub no_object : list_all (λ (o : Object). not (o.owner == gone)) db.objects ≡ true
  pub no_grant : list_all (λ (g : Grant). not (g.grantee == gone)) db.grants ≡ true

-- the users' own rules, and those of objects and grants that name others
AreUsers-without : (gone : ℕ) (users : List User) → (1 == gone) ≡ false → list_all (λ (u : User). not (u.owner == gone)) users ≡ true → AreUsers users → AreUsers (left gone users)
AreUsers-without gone users other owned are =
    let stays = λ (u : User). not (u.stamp == gone) in
    let name = λ (u : User). u.name in
    record {
      rises = Rises-filter stays stamp_of users are.rises;
      limits = list_all-filter stays user_record.fits users are.limits;
      owner = owner_stays gone users other are.owner;
      names = apart_by-map bytes_eq name (filter stays users) ∙ apart_by-filter (λ u v. bytes_eq (name u) (name v)) stays users (sym (apart_by-map bytes_eq name users) ∙ are.names);
      none_public = list_any-filter stays (λ (u : User). bytes_eq public_name u.name) users are.none_public;
      makers = list_all-filter stays (has_maker (left gone users)) users
          (all-by_both (λ (u : User). not (u.owner == gone)) (has_maker users) (has_maker (left gone users)) users (has_maker-without gone users) owned are.makers);
      tries = list_all-filter stays has_all_tries users are.tries;
    }

AreObjects-without_user : (gone : ℕ) (users : List User) (objects : List Object) → list_all (λ (o : Object). not (o.owner == gone)) objects ≡ true → AreObjects users objects → AreObjects (left gone users) objects
AreObjects-without_user gone users objects owned are = record {
  rises = are.rises;
  limits = are.limits;
  lengths = are.lengths;
  names = are.names;
  makers = all-by_both (λ (o : Object). not (o.owner == gone)) (λ (o : Object). is_made_by_maker users o.owner) (λ (o : Object). is_made_by_maker (left gone users) o.owner) objects
      (λ o other made. made_by_maker-without gone users o.owner other ∙ made) owned are.makers;
  founded = are.founded;
}

AreGrants-without_user : (gone : ℕ) (users : List User) (objects : List Object) (grants : List Grant) → list_all (λ (g : Grant). not (g.grantee == gone)) grants ≡ true → AreGrants users objects grants
    → AreGrants (left gone users) objects grants
AreGrants-without_user gone users objects grants others are = record {
  rises = are.rises;
  limits = are.limits;
  parties = all-by_both (λ (g : Grant). not (g.grantee == gone)) (has_object_and_grantee users objects) (has_object_and_grantee (left gone users) objects) grants (one gone users objects) others are.parties;
  pairs = are.pairs;
}
  where
    one : (gone : ℕ) (users : List User) (objects : List Object) (g : Grant) → not (g.grantee == gone) ≡ true → has_object_and_grantee users objects g ≡ true → has_object_and_grantee (left gone users) objects g ≡ true
    one gone users objects g other has =
        rw (any-without stamp_of gone g.grantee users (not-true (g.grantee == gone) other)) has

-- the database without the user of a stamp
abbrev pub without_user : Database → ℕ → Database
without_user db gone = record db { users = without stamp_of gone db.users }

pub IsValid-without_user : (db : Database) (gone : ℕ) → IsValid db → MayGo db gone → IsValid (without_user db gone)
IsValid-without_user db gone valid may = record {
  cells = valid.cells;
  limit = valid.limit;
  next = valid.next;
  counter = valid.counter;
  stored = IsStored-removed stored_user [] (behind_users db) db.users (λ (u : User). not (u.stamp == gone)) (records_of-users db) (records_of-users (without_user db gone)) valid.stored;
  users = AreUsers-without gone db.users may.not_owner may.no_user valid.users;
  objects = AreObjects-without_user gone db.users db.objects may.no_object valid.objects;
  grants = AreGrants-without_user gone db.users db.objects db.grants may.no_grant valid.grants;
  rows = valid.rows;
}
