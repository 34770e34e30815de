-- Where each commit restores a user's tries or leaves no more to lose, four that lower them have one between them that restores.
use Rattle.std.proofs.Common.{◌≡◌, inl, inr, ℕ, zero, suc, ◌+◌, ◌<◌, ◌≤◌, Bool, true, false, List, [], ◌∷◌, ◌++◌, take, Option, Some, None, if◌then◌else◌, refl, arith}
use Rattle.std.proofs.lemmas.Bool.{ltb-true}
use Rattle.std.proofs.lemmas.Bool.Decides.{leb_tells}
use Rattle.std.specs.Prelude.{IfSome}
use Rattle.scql_base.specs.declared.records.TheConstants.User.{ALL_TRIES}
use Rattle.scql_model.specs.Database.{Database}
use Rattle.scql_model.specs.Lives.{after_all}
use Rattle.scql_model.specs.Tries.{AreSpared, IsGuarded, IsRestoredBetween, IsSpared, are_fewer, how_many, lowers, may_lose, restores, to_lose, tries_of}

-- a lowered number leaves less to lose
to_lose-fewer : (stamp : ℕ) (few many : Option ℕ) (next after : ℕ) → are_fewer few many ≡ true → suc (to_lose stamp few next) ≤ to_lose stamp many after
to_lose-fewer stamp (Some few) (Some many) next after less = omega (arith, ltb-true few many less)
to_lose-fewer stamp (Some few) None next after less = absurd cc
to_lose-fewer stamp None many next after less = absurd cc

-- no user has more to lose than all tries
to_lose-most : (stamp : ℕ) (tries : Option ℕ) (next : ℕ) → IfSome tries (λ n. (stamp < next) × (n ≤ ALL_TRIES)) → to_lose stamp tries next ≤ 3
to_lose-most stamp (Some tries) next guarded = omega (arith, guarded.1)
to_lose-most stamp None next guarded = elim (leb_tells (suc stamp) next) [
  | inl t ↦ rw (t.0) (omega arith)
  | inr f ↦ rw (f.0) (omega arith)
]

-- a commit that doesn't restore takes one of what may be lost where it lowers the tries
one-taken : (b : Bool) (before after : ℕ) → (b ≡ true → suc after ≤ before) → after ≤ before → (if b then 1 else 0) + after ≤ before
one-taken true before after fewer most = omega (arith, fewer refl)
one-taken false before after fewer most = omega (arith, most)

commit-taken : (stamp : ℕ) (db next : Database) → IsSpared stamp db next → restores stamp db next ≡ false → (if lowers stamp db next then 1 else 0) + may_lose stamp next ≤ may_lose stamp db
commit-taken stamp db next (inl does) none = absurd cc
commit-taken stamp db next (inr spared) none =
    one-taken (lowers stamp db next) (may_lose stamp db) (may_lose stamp next) (to_lose-fewer stamp (tries_of next stamp) (tries_of db stamp) next.next db.next) spared

-- so many of the commits are none that restore: the first isn't, and none of the others
none-first : (b : Bool) (n : ℕ) → (if b then 1 else 0) + n ≡ 0 → (b ≡ false) × (n ≡ 0)
none-first true n none = absurd (omega (arith, none))
none-first false n none = (refl, omega (arith, none))

-- as often as commits lower the tries with none restored, less may be lost behind them
commits-taken : (stamp : ℕ) (db : Database) (commits : List Database) → AreSpared stamp db commits → how_many (restores stamp) db commits ≡ 0
    → how_many (lowers stamp) db commits + may_lose stamp (after_all db commits) ≤ may_lose stamp db
commits-taken stamp db [] spared none = omega arith
commits-taken stamp db (next ∷ commits) spared none =
    let apart = none-first (restores stamp db next) (how_many (restores stamp) next commits) none in
    omega (arith, commit-taken stamp db next spared.0.1 apart.0, commits-taken stamp next commits spared.1 apart.1)

-- four that lower have one between them that restores
pub four-restored : (stamp : ℕ) (db : Database) (commits : List Database) → IsGuarded stamp db → AreSpared stamp db commits → IsRestoredBetween stamp db commits
four-restored stamp db commits guarded spared four = elim (leb_tells 1 (how_many (restores stamp) db commits)) [
  | inl t ↦ t.1
  | inr f ↦ absurd (omega (arith, four, to_lose-most stamp (tries_of db stamp) db.next guarded, commits-taken stamp db commits spared (omega (arith, f.1))))
]

-- Stretches of commits: those behind others, and the first of them.
pub spared-append : (stamp : ℕ) (db : Database) (xs ys : List Database) → AreSpared stamp db xs → AreSpared stamp (after_all db xs) ys → AreSpared stamp db (xs ++ ys)
spared-append stamp db [] ys first second = second
spared-append stamp db (x ∷ xs) ys first second = (first.0, spared-append stamp x xs ys first.1 second)

pub spared-first : (stamp : ℕ) (db : Database) (xs ys : List Database) → AreSpared stamp db (xs ++ ys) → AreSpared stamp db xs
spared-first stamp db [] ys spared = tt
spared-first stamp db (x ∷ xs) ys spared = (spared.0, spared-first stamp x xs ys spared.1)

pub spared-behind : (stamp : ℕ) (db : Database) (xs ys : List Database) → AreSpared stamp db (xs ++ ys) → AreSpared stamp (after_all db xs) ys
spared-behind stamp db [] ys spared = spared
spared-behind stamp db (x ∷ xs) ys spared = spared-behind stamp x xs ys spared.1

pub spared-take : (stamp : ℕ) (db : Database) (commits : List Database) (k : ℕ) → AreSpared stamp db commits → AreSpared stamp db (take k commits)
spared-take stamp db commits zero spared = tt
spared-take stamp db [] (suc k) spared = tt
spared-take stamp db (next ∷ commits) (suc k) spared = (spared.0, spared-take stamp next commits k spared.1)

-- each database that is committed is guarded
pub guarded-after : (stamp : ℕ) (db : Database) (commits : List Database) → IsGuarded stamp db → AreSpared stamp db commits → IsGuarded stamp (after_all db commits)
guarded-after stamp db [] guarded spared = guarded
guarded-after stamp db (next ∷ commits) guarded spared = guarded-after stamp next commits spared.0.0 spared.1
