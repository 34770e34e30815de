-- A valid database stays valid where a user with a secret has other tries.
use Rattle.std.proofs.Common.{◌≡◌, ℕ, ◌^◌, Bool, true, false, List, [], ◌∷◌, filter, not, ◌&&◌, ◌||◌, Some, refl, sym, ap, ◌∙◌, arith}
use Rattle.std.specs.Prelude.{◌==◌, nat_lt, sum, length}
use Rattle.std.specs.List.{list_any, find, sum_by, AllByRecursion}
use Rattle.std.specs.Str.{bytes_eq}
use Rattle.std.proofs.lemmas.Bool.{and_parts, false≢true}
use Rattle.std.proofs.lemmas.List.Sums.{sum-map}
use Rattle.eeprom.specs.Slots.{replaced}
use Rattle.scql_base.specs.Name.{is_name}
use Rattle.scql_base.specs.declared.words.Profile.{Profile}
use Rattle.scql_base.specs.declared.words.Profile.TheVariants.{DbO, Dboo, Dbbu}
use Rattle.scql_base.specs.declared.records.User.{User}
use Rattle.scql_base.specs.declared.records.Object.{Object}
use Rattle.scql_base.specs.declared.records.Grant.{Grant}
use Rattle.scql_model.specs.Records.{is_tries, is_secret, user_record}
use Rattle.scql_model.specs.Stored.{cells_for_octets}
use Rattle.scql_model.specs.Rules.{AreUsers, AreObjects, AreGrants, owner, public_name, are_different, is_db_o, is_maker, is_made_by_maker, has_maker, has_all_tries, has_object_and_grantee}
use Rattle.scql_model.specs.Database.{Database, IsValid, weight, stored_user}
use Rattle.scql_model.proofs.LongerLists.{all-weaker, all-filtered, any-map, find-all}
use Rattle.scql_model.proofs.ChangedLists.{Rises-replaced, list_all-replaced, any_keys-replaced, map-replaced, filter-replaced, found-replaced, found-only}
use Rattle.scql_model.proofs.RecordsOf.{behind_users, records_of-users}
use Rattle.scql_model.proofs.Stored.{IsStored-changed, cells_of_records-around}
use Rattle.scql_model.proofs.RecordLengths.{storable-user}

abbrev stamp_of : User → ℕ
stamp_of u = u.stamp

-- the user with so many tries
abbrev pub with_tries : User → ℕ → User
with_tries u tries = record u { tries = tries }

-- the database with the user in the place of that of its stamp
abbrev pub with_user_changed : Database → User → Database
with_user_changed db u = record db { users = replaced stamp_of u db.users }

-- what doesn't look at tries sees the user of a stamp as it was
same-but_tries : {Y : Type 0} (h : User → Y) (u : User) (tries : ℕ) (users : List User) → h (with_tries u tries) ≡ h u → AllByRecursion (λ v. stamp_of v ≡ stamp_of u → v ≡ u) users
    → AllByRecursion (λ v. stamp_of v ≡ stamp_of u → h v ≡ h (with_tries u tries)) users
same-but_tries h u tries [] same only = tt
same-but_tries h u tries (v ∷ users) same only = (λ e. ap h (only.0 e) ∙ sym same, same-but_tries h u tries users same only.1)

-- a user with a secret isn't OWNER
not_owner : (users : List User) (q : User → Bool) (u : User) → filter is_db_o users ≡ owner ∷ [] → find q users ≡ Some u → (length u.secret == 0) ≡ false → is_db_o u ≡ false
not_owner users q u one found some =
    either (is_db_o u) (length u.secret == 0) (find-all (λ (v : User). not (is_db_o v) || (length v.secret == 0)) q users u
    (all-filtered is_db_o (λ (v : User). length v.secret == 0) users (rw one refl)) found) some
  where
    either : (a b : Bool) → not a || b ≡ true → b ≡ false → a ≡ false
    either true b h some = absurd (false≢true (sym some ∙ h))
    either false b h some = refl

fits-tries : (u : User) (tries : ℕ) → user_record.fits u ≡ true → is_tries tries ≡ true → user_record.fits (with_tries u tries) ≡ true
fits-tries u tries fits few =
    let a = and_parts (nat_lt u.stamp (2 ^ 32)) (nat_lt u.owner (2 ^ 32) && (is_tries u.tries && (is_name u.name && is_secret u.secret))) fits in
    let b = and_parts (nat_lt u.owner (2 ^ 32)) (is_tries u.tries && (is_name u.name && is_secret u.secret)) a.1 in
    let c = and_parts (is_tries u.tries) (is_name u.name && is_secret u.secret) b.1 in
    rw (a.0, b.0, few) c.1

-- who made a user is a maker still
made_by_maker-tries : (users : List User) (u : User) (tries stamp : ℕ) → AllByRecursion (λ v. stamp_of v ≡ stamp_of u → v ≡ u) users
    → is_made_by_maker (replaced stamp_of (with_tries u tries) users) stamp ≡ is_made_by_maker users stamp
made_by_maker-tries users u tries stamp only =
    found-replaced (λ (v : User). is_maker v.profile) stamp_of (with_tries u tries) stamp users (same-but_tries (λ (v : User). is_maker v.profile) u tries users refl only)

has_maker-tries : (users : List User) (u : User) (tries : ℕ) → AllByRecursion (λ v. stamp_of v ≡ stamp_of u → v ≡ u) users → (v : User) → has_maker users v ≡ true
    → has_maker (replaced stamp_of (with_tries u tries) users) v ≡ true
has_maker-tries users u tries only v right = go v.profile refl right
  where
    go : (p : Profile) → v.profile ≡ p → has_maker users v ≡ true → has_maker (replaced stamp_of (with_tries u tries) users) v ≡ true
    go DbO e right = rw e refl
    go Dboo e right = rw e (rw e at right)
    go Dbbu e right = rw e (made_by_maker-tries users u tries v.owner only ∙ rw e at right)

AreUsers-tries : (users : List User) (q : User → Bool) (u : User) (tries : ℕ) → AreUsers users → find q users ≡ Some u → is_tries tries ≡ true → (length u.secret == 0) ≡ false
    → AreUsers (replaced stamp_of (with_tries u tries) users)
AreUsers-tries users q u tries are found few some =
    let new : User = with_tries u tries in
    let only = found-only stamp_of q users u are.rises found in
    let no_owner = not_owner users q u are.owner found some in
    let name = λ (v : User). v.name in
    let names = map-replaced name stamp_of new users (same-but_tries name u tries users refl only) in
    record {
      rises = Rises-replaced stamp_of new users are.rises;
      limits = list_all-replaced user_record.fits stamp_of new users (fits-tries u tries (find-all user_record.fits q users u are.limits found) few) are.limits;
      owner = filter-replaced is_db_o stamp_of new users no_owner (none u users no_owner only) ∙ are.owner;
      names = ap are_different names ∙ are.names;
      none_public = sym (any-map (bytes_eq public_name) name (replaced stamp_of new users)) ∙ ap (list_any (bytes_eq public_name)) names ∙ any-map (bytes_eq public_name) name users ∙ are.none_public;
      makers = list_all-replaced (has_maker (replaced stamp_of new users)) stamp_of new users
          (has_maker-tries users u tries only new (find-all (has_maker users) q users u are.makers found))
          (all-weaker (has_maker users) (has_maker (replaced stamp_of new users)) users (has_maker-tries users u tries only) are.makers);
      tries = list_all-replaced has_all_tries stamp_of new users (rw some refl) are.tries;
    }
  where
    none : (u : User) (users : List User) → is_db_o u ≡ false → AllByRecursion (λ v. stamp_of v ≡ stamp_of u → v ≡ u) users → AllByRecursion (λ v. stamp_of v ≡ stamp_of u → is_db_o v ≡ false) users
    none u [] other only = tt
    none u (v ∷ users) other only = (λ e. ap is_db_o (only.0 e) ∙ other, none u users other only.1)

AreObjects-tries : (users : List User) (u : User) (tries : ℕ) (objects : List Object) → AllByRecursion (λ v. stamp_of v ≡ stamp_of u → v ≡ u) users → AreObjects users objects
    → AreObjects (replaced stamp_of (with_tries u tries) users) objects
AreObjects-tries users u tries objects only are = record {
  rises = are.rises;
  limits = are.limits;
  lengths = are.lengths;
  names = are.names;
  makers = all-weaker (λ (o : Object). is_made_by_maker users o.owner) (λ (o : Object). is_made_by_maker (replaced stamp_of (with_tries u tries) users) o.owner) objects
      (λ o made. made_by_maker-tries users u tries o.owner only ∙ made) are.makers;
  founded = are.founded;
}

AreGrants-tries : (users : List User) (u : User) (tries : ℕ) (objects : List Object) (grants : List Grant) → AreGrants users objects grants
    → AreGrants (replaced stamp_of (with_tries u tries) users) objects grants
AreGrants-tries users u tries objects grants are = record {
  rises = are.rises;
  limits = are.limits;
  parties = all-weaker (has_object_and_grantee users objects) (has_object_and_grantee (replaced stamp_of (with_tries u tries) users) objects) grants
      (λ g has. rw (any_keys-replaced (λ stamp. stamp == g.grantee) stamp_of (with_tries u tries) users) has) are.parties;
  pairs = are.pairs;
}

-- a user's record is as long as it was
cells-tries : (db : Database) (u : User) (tries : ℕ) → AllByRecursion (λ v. stamp_of v ≡ stamp_of u → v ≡ u) db.users → weight (with_user_changed db (with_tries u tries)) ≡ weight db
cells-tries db u tries only =
    let cells = λ (v : User). cells_for_octets (user_record.spell v) in
    let new = replaced stamp_of (with_tries u tries) db.users in
    let a = cells_of_records-around stored_user [] (behind_users db) db.users in
    let b = cells_of_records-around stored_user [] (behind_users db) new in
    let same : sum_by cells new ≡ sum_by cells db.users =
    sym (sum-map cells new) ∙ ap sum (map-replaced cells stamp_of (with_tries u tries) db.users (same-but_tries cells u tries db.users refl only)) ∙ sum-map cells db.users in
    omega arith

-- a user with a secret may have any number of tries
pub IsValid-with_tries : (db : Database) (q : User → Bool) (u : User) (tries : ℕ) → IsValid db → find q db.users ≡ Some u → is_tries tries ≡ true → (length u.secret == 0) ≡ false
    → IsValid (with_user_changed db (with_tries u tries))
IsValid-with_tries db q u tries valid found few some =
    let new : User = with_tries u tries in
    let only = found-only stamp_of q db.users u valid.users.rises found in
    let room = valid.stored.room in
    let same = cells-tries db u tries only in
    let fits = fits-tries u tries (find-all user_record.fits q db.users u valid.users.limits found) few in
    record {
      cells = valid.cells;
      limit = valid.limit;
      next = valid.next;
      counter = valid.counter;
      stored = IsStored-changed stored_user [] (behind_users db) db.users new (records_of-users db) (records_of-users (with_user_changed db new)) valid.stored (storable-user new fits) (omega arith);
      users = AreUsers-tries db.users q u tries valid.users found few some;
      objects = AreObjects-tries db.users u tries db.objects only valid.objects;
      grants = AreGrants-tries db.users u tries db.objects db.grants valid.grants;
      rows = valid.rows;
    }
