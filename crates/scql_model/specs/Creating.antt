-- CREATE USER (ISO/IEC 7816-7): the edits that it makes and the database with them, or the first refusal that applies.
use Rattle.std.specs.Prelude.{◌≡◌, ℕ, ◌==◌, not, ◌||◌, Bool, true, false, List, Some, option_map, Result, Ok}
use Rattle.std.specs.List.{list_any}
use Rattle.std.specs.Str.{bytes_eq}
use Rattle.scql_base.specs.declared.records.TheConstants.User.{ALL_TRIES}
use Rattle.scql_base.specs.declared.words.Actor.{Actor}
use Rattle.scql_base.specs.declared.words.Actor.TheVariants.{Public, User as a_user}
use Rattle.scql_base.specs.declared.words.Profile.{Profile}
use Rattle.scql_base.specs.declared.words.Profile.TheVariants.{DbO, Dboo, Dbbu}
use Rattle.scql_base.specs.declared.words.StatusWord.{StatusWord}
use Rattle.scql_base.specs.Words.{security_not_satisfied, already_exists}
use Rattle.scql_base.specs.Name.{is_name}
use Rattle.scql_base.specs.declared.records.User.{User}
use Rattle.scql_model.specs.Records.{is_secret}
use Rattle.scql_model.specs.Refusals.{◌>>=◌, provided}
use Rattle.scql_model.specs.Edits.{Edit, of_user, making, applied}
pub use Rattle.scql_model.specs.Edits.{stamps_end, is_overfull}
use Rattle.scql_model.specs.Database.{Database, public_name, user_stamped, is_named}

-- DB_O makes users, and DBOO makes users of profile DBBU
abbrev pub may_create : Actor → Profile → Bool
may_create Public profile = false
may_create (a_user stamp DbO) profile = true
may_create (a_user stamp Dboo) DbO = false
may_create (a_user stamp Dboo) Dboo = false
may_create (a_user stamp Dboo) Dbbu = true
may_create (a_user stamp Dbbu) profile = false

-- the stamp of the user who acts, and 0 for PUBLIC
abbrev pub actor_stamp : Actor → ℕ
actor_stamp Public = 0
actor_stamp (a_user stamp profile) = stamp

-- the owner of this stamp is who acts; PUBLIC owns nothing
abbrev pub is_owned_by : Actor → ℕ → Bool
is_owned_by Public owner = false
is_owned_by (a_user stamp profile) owner = owner == stamp

-- PUBLIC acts, or a user of the database, with the profile that the user has there
abbrev pub IsActorOf : Database → Actor → Type 0
IsActorOf db Public = Unit {0}
IsActorOf db (a_user stamp profile) = option_map (λ (u : User). u.profile) (user_stamped db.users stamp) ≡ Some profile

-- what a command of the right form asks, and for whom
pub record IsAsked (db : Database) (actor : Actor) (name : List ℕ) (profile : Profile) (secret : List ℕ) : Type 0 where
  pub acts : IsActorOf db actor
  pub named : is_name name ≡ true
  pub secret_fits : is_secret secret ≡ true
  pub not_owner : profile ≡ DbO → ⊥

-- a user has the name, or it is PUBLIC
abbrev pub is_taken : Database → List ℕ → Bool
is_taken db name = list_any (is_named name) db.users || bytes_eq name public_name

-- the user takes the next stamp, is owned by who makes it, and has three tries
abbrev pub new_user : Database → Actor → List ℕ → Profile → List ℕ → User
new_user db actor name profile secret =
    record { stamp = db.next; name = name; profile = profile; owner = actor_stamp actor; secret = secret; tries = ALL_TRIES }

-- the edits of CREATE USER, or the first refusal that applies
abbrev pub user_added : Database → Actor → List ℕ → Profile → List ℕ → Result (List Edit) StatusWord
user_added db actor name profile secret = do
  _ ← provided (may_create actor profile) security_not_satisfied
  _ ← provided (not (is_taken db name)) already_exists
  Ok (making db (of_user (new_user db actor name profile secret)))

-- the user stands behind all others, and its stamp is taken
abbrev pub with_user : Database → User → Database
with_user db u = applied db (making db (of_user u))
