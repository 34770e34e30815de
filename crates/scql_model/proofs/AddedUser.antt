-- A user is added to a valid database, which stays valid.
use Rattle.std.proofs.Common.{◌≡◌, ℕ, ◌<◌, ◌≤◌, ◌+◌, Bool, true, false, List, [], ◌∷◌, ◌++◌, map, filter, ◌||◌, eqb, refl, sym, subst, arith}
use Rattle.std.specs.List.{list_all, list_any, AllByRecursion}
use Rattle.std.specs.Str.{bytes_eq}
use Rattle.std.proofs.lemmas.Bool.{and_parts, and_from}
use Rattle.std.proofs.lemmas.List.{map-append}
use Rattle.std.proofs.lemmas.List.Folds.{list_any-append}
use Rattle.std.proofs.lemmas.List.Elements.{filter-append}
use Rattle.scql_base.specs.declared.words.Profile.{Profile}
use Rattle.scql_base.specs.declared.words.Profile.TheVariants.{DbO, Dboo, Dbbu}
use Rattle.scql_base.specs.declared.records.User.{User}
use Rattle.scql_base.specs.declared.records.Object.{Object}
use Rattle.scql_base.specs.declared.records.Grant.{Grant}
use Rattle.scql_model.specs.Records.{counter_record, user_record}
use Rattle.scql_model.specs.Stored.{is_storable}
use Rattle.scql_model.specs.Rules.{AreUsers, AreObjects, AreGrants, owner, public_name, are_different, is_db_o, is_maker, is_made_by_maker, has_maker, has_all_tries, has_object_and_grantee}
use Rattle.scql_model.specs.Database.{Database, IsValid, weight, stored_user}
use Rattle.scql_model.specs.Creating.{with_user}
use Rattle.scql_model.proofs.LongerLists.{all-weaker, all-added, any-more, found-more, rises-added, not_equal-sym}
use Rattle.scql_model.proofs.Apart.{apart_by-added}
use Rattle.scql_model.proofs.RecordsOf.{behind_users, records_of-users}
use Rattle.scql_model.proofs.Stored.{IsStored-added, below-of_kind}

-- who was a maker among some users is one among more
pub kept_maker : (users more : List User) (stamp : ℕ) → is_made_by_maker users stamp ≡ true → is_made_by_maker (users ++ more) stamp ≡ true
kept_maker users more stamp made = found-more (λ (u : User). is_maker u.profile) (λ (u : User). eqb u.stamp stamp) users more made

has_maker-more : (users more : List User) (u : User) → has_maker users u ≡ true → has_maker (users ++ more) u ≡ true
has_maker-more users more u right = go u.profile refl right
  where
    go : (p : Profile) → u.profile ≡ p → has_maker users u ≡ true → has_maker (users ++ more) u ≡ true
    go DbO e right = rw e refl
    go Dboo e right = rw e (rw e at right)
    go Dbbu e right = rw e (kept_maker users more u.owner (rw e at right))

-- a user that may be added to a database
pub record IsAddable (db : Database) (u : User) : Type 0 where
  pub stamp : u.stamp ≡ db.next
  pub fits : user_record.fits u ≡ true
  pub size : is_storable (stored_user u) ≡ true
  pub name : list_any (bytes_eq u.name) (map (λ (v : User). v.name) db.users) ≡ false
  pub not_public : bytes_eq public_name u.name ≡ false
  pub not_owner : is_db_o u ≡ false
  pub maker : has_maker (db.users ++ u ∷ []) u ≡ true
  pub tries : has_all_tries u ≡ true

-- in a valid database the next stamp is above those of all users
pub users_below : (db : Database) → IsValid db → AllByRecursion (λ (u : User). u.stamp < db.next) db.users
users_below db valid = below-of_kind stored_user [] (behind_users db) db.users (records_of-users db) valid.stored

-- the users' own rules, with one user more
AreUsers-added : (db : Database) (u : User) → AreUsers db.users → IsAddable db u → AllByRecursion (λ (v : User). v.stamp < db.next) db.users → AreUsers (db.users ++ u ∷ [])
AreUsers-added db u are addable below = record {
  rises = rises-added (λ (v : User). v.stamp) db.users u are.rises (subst (λ n. AllByRecursion (λ (v : User). v.stamp < n) db.users) (sym addable.stamp) below);
  limits = all-added user_record.fits db.users u are.limits addable.fits;
  owner = one_owner db.users u are.owner addable.not_owner;
  names = names-added db.users u are.names addable.name;
  none_public = none_public-added db.users u are.none_public addable.not_public;
  makers = makers-added db.users u are.makers addable.maker;
  tries = all-added has_all_tries db.users u are.tries addable.tries;
}
  where
    one_owner : (users : List User) (u : User) → filter is_db_o users ≡ owner ∷ [] → is_db_o u ≡ false → filter is_db_o (users ++ u ∷ []) ≡ owner ∷ []
    one_owner users u one not_one = rw (filter-append is_db_o users (u ∷ []), one, not_one) refl

    names-added : (users : List User) (u : User) → are_different (map (λ (v : User). v.name) users) ≡ true → list_any (bytes_eq u.name) (map (λ (v : User). v.name) users) ≡ false
        → are_different (map (λ (v : User). v.name) (users ++ u ∷ [])) ≡ true
    names-added users u apart none =
        rw (map-append (λ (v : User). v.name) users (u ∷ [])) (apart_by-added bytes_eq (map (λ (v : User). v.name) users) u.name not_equal-sym apart none)

    none_public-added : (users : List User) (u : User) → list_any (λ (v : User). bytes_eq public_name v.name) users ≡ false → bytes_eq public_name u.name ≡ false
        → list_any (λ (v : User). bytes_eq public_name v.name) (users ++ u ∷ []) ≡ false
    none_public-added users u none one = rw (list_any-append, none, one) refl

    makers-added : (users : List User) (u : User) → list_all (has_maker users) users ≡ true → has_maker (users ++ u ∷ []) u ≡ true
        → list_all (has_maker (users ++ u ∷ [])) (users ++ u ∷ []) ≡ true
    makers-added users u all one =
        all-added (has_maker (users ++ u ∷ [])) users u (all-weaker (has_maker users) (has_maker (users ++ u ∷ [])) users (λ v h. has_maker-more users (u ∷ []) v h) all) one

-- objects and grants meet their rules among more users too
AreObjects-more_users : (users more : List User) (objects : List Object) → AreObjects users objects → AreObjects (users ++ more) objects
AreObjects-more_users users more objects are = record {
  rises = are.rises;
  limits = are.limits;
  lengths = are.lengths;
  names = are.names;
  makers = all-weaker (λ (o : Object). is_made_by_maker users o.owner) (λ (o : Object). is_made_by_maker (users ++ more) o.owner) objects (λ o h. kept_maker users more o.owner h) are.makers;
  founded = are.founded;
}

AreGrants-more_users : (users more : List User) (objects : List Object) (grants : List Grant) → AreGrants users objects grants → AreGrants (users ++ more) objects grants
AreGrants-more_users users more objects grants are = record {
  rises = are.rises;
  limits = are.limits;
  parties = all-weaker (has_object_and_grantee users objects) (has_object_and_grantee (users ++ more) objects) grants (kept_grant users more objects) are.parties;
  pairs = are.pairs;
}
  where
    or-weaker : (a b c : Bool) → (b ≡ true → c ≡ true) → a || b ≡ true → a || c ≡ true
    or-weaker true b c more either = refl
    or-weaker false b c more either = more either

    kept_grant : (users more : List User) (objects : List Object) (g : Grant) → has_object_and_grantee users objects g ≡ true → has_object_and_grantee (users ++ more) objects g ≡ true
    kept_grant users more objects g has =
        let has_object = list_any (λ (o : Object). eqb o.stamp g.object) objects in
        let is_grantee = λ (v : User). eqb v.stamp g.grantee in
        let parts = and_parts has_object (eqb g.grantee 0 || list_any is_grantee users) has in
        and_from has_object (eqb g.grantee 0 || list_any is_grantee (users ++ more)) parts.0
        (or-weaker (eqb g.grantee 0) (list_any is_grantee users) (list_any is_grantee (users ++ more)) (any-more is_grantee users more) parts.1)

-- a valid database with one user more is valid, where there is room and the next stamp is a number
pub IsValid-with_user : (db : Database) (u : User) → IsValid db → IsAddable db u → weight (with_user db u) ≤ db.cells → counter_record.fits (db.next + 1) ≡ true
    → IsValid (with_user db u)
IsValid-with_user db u valid addable room next =
    let low : 2 ≤ db.next = valid.next in
    record {
      cells = valid.cells;
      limit = valid.limit;
      next = omega arith;
      counter = next;
      stored = IsStored-added stored_user [] (behind_users db) db.users u (records_of-users db) (records_of-users (with_user db u)) valid.stored addable.stamp (omega arith) addable.size room;
      users = AreUsers-added db u valid.users addable (users_below db valid);
      objects = AreObjects-more_users db.users (u ∷ []) db.objects valid.objects;
      grants = AreGrants-more_users db.users (u ∷ []) db.objects db.grants valid.grants;
      rows = valid.rows;
    }
