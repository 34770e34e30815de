-- Worked rows of CREATE USER: the definition computes each answer.
use Rattle.std.proofs.Common.{◌≡◌, ℕ, true, List, [], ◌∷◌, Result, refl, Ok, Err}
use Rattle.std.specs.Prelude.{codes, is_ok}
use Rattle.scql_base.specs.declared.words.Actor.{Actor}
use Rattle.scql_base.specs.declared.words.Actor.TheVariants.{Public, User as a_user}
use Rattle.scql_base.specs.declared.words.Profile.{Profile}
use Rattle.scql_base.specs.declared.words.Profile.TheVariants.{DbO, Dboo, Dbbu}
use Rattle.scql_base.specs.declared.words.StatusWord.{StatusWord}
use Rattle.scql_base.specs.Words.{security_not_satisfied, no_space, already_exists}
use Rattle.scql_base.specs.declared.records.User.{User}
use Rattle.scql_model.specs.Database.{Database, fresh, owner}
use Rattle.scql_model.specs.Refusals.{◌>>=◌}
use Rattle.scql_model.specs.Edits.{with_edits}
use Rattle.scql_model.specs.Creating.{user_added}

abbrev created : Database → Actor → List ℕ → Profile → List ℕ → Result Database StatusWord
created db actor name profile secret = user_added db actor name profile secret >>= with_edits db

abbrev ann : User
ann = record { stamp = 2; name = codes "ANN"; profile = Dbbu; owner = 1; secret = []; tries = 3 }

abbrev with_ann : Database
with_ann = record { cells = 64; limit = 240; next = 3; users = owner ∷ ann ∷ []; objects = []; grants = []; rows = [] }

abbrev the_owner : Actor
the_owner = a_user 1 DbO

ann_made : created (fresh 64) the_owner (codes "ANN") Dbbu [] ≡ Ok with_ann
ann_made = refl

made_again : created with_ann the_owner (codes "ANN") Dbbu [] ≡ Err already_exists
made_again = refl

made_by_public : created (fresh 64) Public (codes "ANN") Dbbu [] ≡ Err security_not_satisfied
made_by_public = refl

named_public : created (fresh 64) the_owner (codes "PUBLIC") Dbbu [] ≡ Err already_exists
named_public = refl

-- the right comes before the name
taken_by_ann : created with_ann (a_user 2 Dbbu) (codes "ANN") Dbbu [] ≡ Err security_not_satisfied
taken_by_ann = refl

-- a database owner may make object owners, and an object owner may not
object_owner_made_by_object_owner : created (fresh 64) (a_user 2 Dboo) (codes "ANN") Dboo [] ≡ Err security_not_satisfied
object_owner_made_by_object_owner = refl

-- no cell is left
made_on_a_full_card : created (record with_ann { cells = 3 }) the_owner (codes "BOB") Dbbu [] ≡ Err no_space
made_on_a_full_card = refl

-- the last cell is filled
made_in_the_last_cell : is_ok (created (record with_ann { cells = 4 }) the_owner (codes "BOB") Dbbu []) ≡ true
made_in_the_last_cell = refl

-- the longest name with the longest secret takes two cells where one is left
longest_made : created (record with_ann { cells = 4 }) the_owner (codes "ABCDEFGH") Dbbu (codes "12345678") ≡ Err no_space
longest_made = refl

-- the last stamp is taken
made_with_the_last_stamp : is_ok (created (record with_ann { next = 4294967294 }) the_owner (codes "BOB") Dbbu []) ≡ true
made_with_the_last_stamp = refl

-- no stamp is left
made_without_a_stamp : created (record with_ann { next = 4294967295 }) the_owner (codes "BOB") Dbbu [] ≡ Err no_space
made_without_a_stamp = refl
