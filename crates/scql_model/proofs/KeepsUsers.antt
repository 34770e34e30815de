-- CREATE USER and DELETE USER end by proper edits or a refusal, and keep a database valid.
use Rattle.std.proofs.Common.{◌≡◌, ℕ, map, refl, ◌==◌, ◌||◌, Bool, false, not, List, [], ◌∷◌, filter, Some, ap, sym, subst, ◌∙◌, inl, inr}
use Rattle.std.specs.List.{find, list_any}
use Rattle.std.proofs.lemmas.Bool.{cases_Bool, or_parts, false≢true, not-true, eqb-true}
use Rattle.std.proofs.lemmas.Option.{same_Some}
use Rattle.scql_base.specs.Words.{not_found, security_not_satisfied, already_exists, conditions_not_satisfied}
use Rattle.scql_base.specs.declared.words.Actor.{Actor}
use Rattle.scql_base.specs.declared.words.Profile.{Profile}
use Rattle.scql_base.specs.declared.records.User.{User}
use Rattle.scql_base.specs.declared.records.Object.{Object}
use Rattle.scql_base.specs.declared.records.Grant.{Grant}
use Rattle.scql_model.specs.Records.{of_user, of_grant}
use Rattle.scql_model.specs.Refusals.{or_refused, provided}
use Rattle.scql_model.specs.Rules.{owner, is_db_o, is_named, user_named, user_stamped}
use Rattle.scql_model.specs.Database.{Database, IsValid}
use Rattle.scql_model.specs.Creating.{IsAsked, may_create, is_taken, new_user, user_added}
use Rattle.scql_model.specs.Users.{owns_user, is_needed, removing_user, user_deleted}
use Rattle.scql_model.specs.Edits.{to_remove, edited, making, removing}
use Rattle.scql_model.proofs.Creating.{IsAddable-new_user}
use Rattle.scql_model.proofs.AddedUser.{IsValid-with_user}
use Rattle.scql_model.proofs.ChangedGrants.{with_grants_left, IsValid-with_grants_left}
use Rattle.scql_model.proofs.FewerUsers.{MayGo, IsValid-without_user}
use Rattle.scql_model.proofs.Removing.{applied-removing_user}
use Rattle.scql_model.proofs.RightEdits.{Yields, bound-yields, done-yields, has_record-user, found-there, right-making, right-grants}
use Rattle.scql_model.proofs.FormedCommands.{not_unless, not_refused}
use Rattle.scql_model.proofs.UsersFollow.{making_one, taking_one, applied-users}
use Rattle.scql_model.proofs.Outcomes.{AreProper, proper-kept, proper-leaving, sparing-grants, IsOutcome, outcome-done, outcome-asked, outcome-there}
use Rattle.scql_model.proofs.Keeping.{HasRoomFor, Keeps, next-making, key-found}
use Rattle.scql_model.proofs.KeepsObjects.{all-left, all-none_of}

pub user_added-outcome : (db : Database) (actor : Actor) (name : List ℕ) (profile : Profile) (secret : List ℕ) → IsOutcome (AreProper db) (user_added db actor name profile secret)
user_added-outcome db actor name profile secret =
    outcome-asked (may_create actor profile) security_not_satisfied _ refl λ _.
    outcome-asked (not (is_taken db name)) already_exists _ refl λ _.
    let u = new_user db actor name profile secret in
    outcome-done (making db (of_user u)) (record { right = right-making db (of_user u) refl refl; kept = refl; users = making_one u refl refl refl refl })

pub user_deleted-outcome : (db : Database) (actor : Actor) (name : List ℕ) → IsOutcome (AreProper db) (user_deleted db actor name)
unfolding user_deleted
user_deleted-outcome db actor name =
    outcome-there (user_named db.users name) not_found _ refl λ u is.
    outcome-asked (owns_user actor u) security_not_satisfied _ refl λ _.
    outcome-asked (not (is_needed db u)) conditions_not_satisfied _ refl λ _.
    outcome-done (removing_user db u) (removed u is)
  where
    removed : (u : User) → user_named db.users name ≡ Some u → AreProper db (removing_user db u)
    removed u is =
        let grants = filter (λ (g : Grant). g.grantee == u.stamp) db.grants in
        let there = has_record-user db u.stamp (found-there (λ (v : User). v.stamp) (is_named name) db.users u is) in
        record {
          right = rw there (right-grants db (λ (g : Grant). g.grantee == u.stamp));
          kept = proper-kept (map (λ (g : Grant). removing (of_grant g)) grants) (sparing-grants grants);
          users = taking_one u.stamp (applied-users (edited to_remove (of_user u) db) (map (λ (g : Grant). removing (of_grant g)) grants) (proper-leaving (map (λ (g : Grant). removing (of_grant g)) grants) (sparing-grants grants)));
        }

-- CREATE USER
pub user_added-keeps : (db : Database) (actor : Actor) (name : List ℕ) (profile : Profile) (secret : List ℕ) → IsValid db → IsAsked db actor name profile secret
    → Yields (Keeps db) (user_added db actor name profile secret)
user_added-keeps db actor name profile secret valid asked =
    bound-yields (Keeps db) (provided (may_create actor profile) security_not_satisfied) _ λ x may.
    bound-yields (Keeps db) (provided (not (is_taken db name)) already_exists) _ λ y free.
    let u : User = new_user db actor name profile secret in
    done-yields (Keeps db) (making db (of_user u)) (λ (room : HasRoomFor db (making db (of_user u))).
    IsValid-with_user db u valid
    (IsAddable-new_user db actor name profile secret valid asked (not_unless (may_create actor profile) security_not_satisfied x may)
    (not-true (is_taken db name) (not_unless (not (is_taken db name)) already_exists y free)))
    room.room (next-making db (of_user u) valid room))

-- OWNER alone has its stamp
first-filter : {X : Type 0} (p : X → Bool) (xs : List X) (x : X) (ys : List X) → filter p xs ≡ x ∷ ys → find p xs ≡ Some x
first-filter p [] x ys is = absurd cc
first-filter p (z ∷ zs) x ys is =
    elim (cases_Bool (p z)) [
      | inl t ↦ rw t (let both : z ∷ filter p zs ≡ x ∷ ys = rw t at is in cc)
      | inr f ↦ rw f (first-filter p zs x ys (rw f at is))
    ]

other-stamp : (db : Database) (q : User → Bool) (u : User) → IsValid db → find q db.users ≡ Some u → is_db_o u ≡ false → (1 == u.stamp) ≡ false
other-stamp db q u valid found other =
    elim (cases_Bool (1 == u.stamp)) [
      | inl t ↦ (let same = eqb-true 1 u.stamp t in
          let first : user_stamped db.users 1 ≡ Some owner = key-found (λ (v : User). v.stamp) is_db_o db.users owner valid.users.rises (first-filter is_db_o db.users owner [] valid.users.owner) in
          let its : user_stamped db.users u.stamp ≡ Some u = key-found (λ (v : User). v.stamp) q db.users u valid.users.rises found in
          let is : owner ≡ u = same_Some owner u (sym first ∙ ap (user_stamped db.users) same ∙ its) in
          absurd (false≢true (sym other ∙ ap is_db_o (sym is))))
      | inr f ↦ f
    ]

-- DELETE USER: the grants to the user go, and then nothing names the user
pub user_deleted-keeps : (db : Database) (actor : Actor) (name : List ℕ) → IsValid db → Yields (Keeps db) (user_deleted db actor name)
unfolding user_deleted
user_deleted-keeps db actor name valid =
    bound-yields (Keeps db) (or_refused (user_named db.users name) not_found) _ λ u is.
    bound-yields (Keeps db) (provided (owns_user actor u) security_not_satisfied) _ λ _ _.
    bound-yields (Keeps db) (provided (not (is_needed db u)) conditions_not_satisfied) _ λ x free.
    done-yields (Keeps db) (removing_user db u) (λ room.
    subst IsValid (sym (applied-removing_user db u valid.grants.rises))
    (IsValid-without_user (with_grants_left db (λ (g : Grant). not (g.grantee == u.stamp))) u.stamp (IsValid-with_grants_left db (λ (g : Grant). not (g.grantee == u.stamp)) valid)
    (may_go u (not_refused (user_named db.users name) not_found u is) (not-true (is_needed db u) (not_unless (not (is_needed db u)) conditions_not_satisfied x free)))))
  where
    may_go : (u : User) → user_named db.users name ≡ Some u → is_needed db u ≡ false → MayGo (with_grants_left db (λ (g : Grant). not (g.grantee == u.stamp))) u.stamp
    may_go u found free =
        let owns_users = λ (v : User). v.owner == u.stamp in
        let owns_objects = λ (o : Object). o.owner == u.stamp in
        let a = or_parts (is_db_o u || list_any owns_users db.users) (list_any owns_objects db.objects) free in
        let b = or_parts (is_db_o u) (list_any owns_users db.users) a.0 in
        record {
          not_owner = other-stamp db (is_named name) u valid found b.0;
          no_user = all-none_of owns_users (λ (v : User). not (v.owner == u.stamp)) db.users (λ v other. ap not other) b.1;
          no_object = all-none_of owns_objects (λ (o : Object). not (o.owner == u.stamp)) db.objects (λ o other. ap not other) a.1;
          no_grant = all-left (λ (g : Grant). not (g.grantee == u.stamp)) db.grants;
        }
