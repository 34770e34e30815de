-- A user who was found may have other tries.
use Rattle.std.proofs.Common.{◌≡◌, ℕ, ◌^◌, ◌-◌, ◌==◌, ◌&&◌, true, Some, arith}
use Rattle.std.specs.Prelude.{nat_lt}
use Rattle.std.proofs.lemmas.Bool.{and_parts, leb-true, le-leb}
use Rattle.scql_base.specs.Name.{is_name}
use Rattle.scql_base.specs.declared.records.User.{User}
use Rattle.scql_model.specs.Database.{Database, IsValid, user_stamped}
use Rattle.scql_model.specs.Records.{is_secret, is_tries, user_record}
use Rattle.scql_model.specs.Step.{with_tries}
use Rattle.scql_model.specs.ValidMachine.{HasSecret}
use Rattle.scql_model.proofs.ChangedUsers.{IsValid-with_tries}
use Rattle.scql_model.proofs.LongerLists.{find-all}

module _ (db : Database) (stamp : ℕ) (u : User) (valid : IsValid db) (found : user_stamped db.users stamp ≡ Some u) where
  -- one less is within the limits,
  fits-found : user_record.fits u ≡ true
  fits-found = find-all user_record.fits (λ (v : User). v.stamp == stamp) db.users u valid.users.limits found

  pub fewer_tries : is_tries (u.tries - 1) ≡ true
  fewer_tries =
      let a = and_parts (nat_lt u.stamp (2 ^ 32)) (nat_lt u.owner (2 ^ 32) && (is_tries u.tries && (is_name u.name && is_secret u.secret))) fits-found in
      let b = and_parts (nat_lt u.owner (2 ^ 32)) (is_tries u.tries && (is_name u.name && is_secret u.secret)) a.1 in
      let c = and_parts (is_tries u.tries) (is_name u.name && is_secret u.secret) b.1 in
      let most = leb-true u.tries 3 c.0 in
      le-leb (u.tries - 1) 3 (omega arith)

  -- and so is the user with tries that are,
  pub fits-tries : (tries : ℕ) → is_tries tries ≡ true → user_record.fits (record u { tries = tries }) ≡ true
  fits-tries tries few =
      let a = and_parts (nat_lt u.stamp (2 ^ 32)) (nat_lt u.owner (2 ^ 32) && (is_tries u.tries && (is_name u.name && is_secret u.secret))) fits-found in
      let b = and_parts (nat_lt u.owner (2 ^ 32)) (is_tries u.tries && (is_name u.name && is_secret u.secret)) a.1 in
      let c = and_parts (is_tries u.tries) (is_name u.name && is_secret u.secret) b.1 in
      rw (a.0, b.0, few) c.1

  -- and the database with that user, who has a secret
  pub valid-tries : HasSecret u → (tries : ℕ) → is_tries tries ≡ true → IsValid (with_tries db u tries)
  valid-tries secret tries few =
      IsValid-with_tries db (λ (v : User). v.stamp == stamp) u tries valid found few secret
