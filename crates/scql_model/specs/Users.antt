-- DELETE USER (ISO/IEC 7816-7): the edits that it makes, or the first refusal that applies.
use Rattle.std.specs.Prelude.{ℕ, ◌==◌, not, ◌||◌, Bool, List, ◌∷◌, map, filter, Result, Ok}
use Rattle.std.specs.List.{list_any}
use Rattle.scql_base.specs.declared.words.Actor.{Actor}
use Rattle.scql_base.specs.declared.words.StatusWord.{StatusWord}
use Rattle.scql_base.specs.declared.records.User.{User}
use Rattle.scql_base.specs.declared.records.Object.{Object}
use Rattle.scql_base.specs.declared.records.Grant.{Grant}
use Rattle.scql_base.specs.Words.{security_not_satisfied, conditions_not_satisfied, not_found}
use Rattle.scql_model.specs.Database.{Database, is_db_o, user_named}
use Rattle.scql_model.specs.Creating.{is_owned_by}
use Rattle.scql_model.specs.Refusals.{◌>>=◌, or_refused, provided}
use Rattle.scql_model.specs.Edits.{Edit, of_user, of_grant, removing}

-- a user's owner is the user who made it
abbrev pub owns_user : Actor → User → Bool
owns_user actor u = is_owned_by actor u.owner

-- OWNER is needed, and so is who owns a user or an object
abbrev pub is_needed : Database → User → Bool
is_needed db u = is_db_o u || list_any (λ (v : User). v.owner == u.stamp) db.users || list_any (λ (o : Object). o.owner == u.stamp) db.objects

-- a user goes, and the grants to it
abbrev pub removing_user : Database → User → List Edit
removing_user db u = removing (of_user u) ∷ map (λ (g : Grant). removing (of_grant g)) (filter (λ (g : Grant). g.grantee == u.stamp) db.grants)

-- DELETE USER
unfoldable pub user_deleted : Database → Actor → List ℕ → Result (List Edit) StatusWord
user_deleted db actor name = do
  u ← or_refused (user_named db.users name) not_found
  _ ← provided (owns_user actor u) security_not_satisfied
  _ ← provided (not (is_needed db u)) conditions_not_satisfied
  Ok (removing_user db u)
