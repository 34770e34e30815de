-- The tries that a user has left, over the databases that are committed in turn: which commits lower them and which restore them, and the
-- languages whose lines lower no user more often than the user has tries.
use Rattle.std.specs.Prelude.{◌≡◌, ◌⊎◌, ℕ, ◌+◌, ◌<◌, ◌≤◌, ◌==◌, nat_lt, ◌&&◌, Bool, true, false, List, [], ◌∷◌, Option, Some, None, option_map, IfSome, if◌then◌else◌}
use Rattle.scql_base.specs.declared.cursor.PresentedUser.{PresentedUser}
use Rattle.scql_base.specs.declared.records.TheConstants.User.{ALL_TRIES}
use Rattle.scql_base.specs.declared.records.User.{User}
use Rattle.scql_model.specs.Database.{Database, user_stamped}
use Rattle.scql_model.specs.Machine.{Machine, Transaction}
use Rattle.scql_model.specs.Sessions.{user_of}
use Rattle.scql_model.specs.Lines.{Language}
use Rattle.scql_model.specs.Heard.{committed_in}

-- how many tries the user of a stamp has left, or none where no user has the stamp
abbrev pub tries_of : Database → ℕ → Option ℕ
tries_of db stamp = option_map (λ (u : User). u.tries) (user_stamped db.users stamp)

-- fewer tries than others; nobody's are neither fewer nor more
abbrev pub are_fewer : Option ℕ → Option ℕ → Bool
are_fewer (Some few) (Some many) = nat_lt few many
are_fewer few many = false

-- all tries
abbrev pub are_all : Option ℕ → Bool
are_all (Some tries) = tries == ALL_TRIES
are_all None = false

-- a commit leaves the user of a stamp fewer tries than before
abbrev pub lowers : ℕ → Database → Database → Bool
lowers stamp before after = are_fewer (tries_of after stamp) (tries_of before stamp)

-- a commit gives the user of a stamp, who had fewer, all tries back
abbrev pub restores : ℕ → Database → Database → Bool
restores stamp before after = are_fewer (tries_of before stamp) (tries_of after stamp) && are_all (tries_of after stamp)

-- how many of the commits from a database on do something, each to the one before it
abbrev pub how_many : (Database → Database → Bool) → Database → List Database → ℕ
how_many does db [] = 0
how_many does db (next ∷ commits) = (if does db next then 1 else 0) + how_many does next commits

-- where four of a stretch of commits lower a user's tries, one of them restores these
abbrev pub IsRestoredBetween : ℕ → Database → List Database → Type 0
IsRestoredBetween stamp db stretch = 4 ≤ how_many (lowers stamp) db stretch → 1 ≤ how_many (restores stamp) db stretch

-- How many tries the user of a stamp may yet lose with none restored: those left; all of them where the stamp isn't given out yet, as the
-- next stamp says; and none where the user is gone.
abbrev pub to_lose : ℕ → Option ℕ → ℕ → ℕ
to_lose stamp (Some tries) next = tries
to_lose stamp None next = if nat_lt stamp next then 0 else ALL_TRIES

abbrev pub may_lose : ℕ → Database → ℕ
may_lose stamp db = to_lose stamp (tries_of db stamp) db.next

-- if a user has the stamp, it was given out, and the user has no more than all tries
abbrev pub IsGuarded : ℕ → Database → Type 0
IsGuarded stamp db = IfSome (tries_of db stamp) (λ tries. (stamp < db.next) × (tries ≤ ALL_TRIES))

-- a commit restores the tries, or leaves no more to lose than before
abbrev pub IsSpared : ℕ → Database → Database → Type 0
IsSpared stamp before after = (restores stamp before after ≡ true) ⊎ (may_lose stamp after ≤ may_lose stamp before)

-- so does each commit from a database on, and is guarded
abbrev pub AreSpared : ℕ → Database → List Database → Type 0
AreSpared stamp db [] = Unit {0}
AreSpared stamp db (next ∷ commits) = (IsGuarded stamp next × IsSpared stamp db next) × AreSpared stamp next commits

-- a transaction works on a guarded database, with no more to lose than in the committed one
pub record IsGuardedWork (stamp : ℕ) (committed : Database) (t : Transaction) : Type 0 where
  pub working : IsGuarded stamp t.working
  pub spared : may_lose stamp t.working ≤ may_lose stamp committed

-- the committed database is guarded, and so is the work of a transaction
pub record IsGuardedMachine (stamp : ℕ) (m : Machine) : Type 0 where
  pub committed : IsGuarded stamp m.committed
  pub transaction : IfSome m.transaction (IsGuardedWork stamp m.committed)

-- In a language each line leaves a guarded machine guarded, and each of its commits restores the tries of a user or leaves no more to lose.
pub record SparesTries {S : Type 0} (language : Language S) : Type 0 where
  pub machine : (stamp : ℕ) (state : S) (line : Option (List ℕ)) → IsGuardedMachine stamp (language.machine state) → IsGuardedMachine stamp (language.machine (language.effect state line).next)
  pub commits : (stamp : ℕ) (state : S) (line : Option (List ℕ)) → IsGuardedMachine stamp (language.machine state) → AreSpared stamp (committed_in language state) (language.effect state line).commits

-- There is one commit, and it leaves the user who is presented on a channel fewer tries than before.
pub record LowersPresented (m : Machine) (channel : ℕ) (commits : List Database) : Type 0 where
  pub who : PresentedUser
  pub presented : user_of m channel ≡ Some who
  pub after : Database
  pub commit : commits ≡ after ∷ []
  pub fewer : lowers who.stamp m.committed after ≡ true
