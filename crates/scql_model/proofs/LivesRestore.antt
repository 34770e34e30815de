-- In a life no four commits lower a user's tries without one between them that restores these.
use Rattle.std.proofs.Common.{◌≡◌, inl, inr, ℕ, ◌<◌, ◌≤◌, ◌==◌, ◌&&◌, true, nat_lt, List, [], ◌∷◌, ◌++◌, take, option_map, sym, ap, subst, ◌∙◌, arith}
use Rattle.std.proofs.lemmas.Bool.{and_parts, cases_Bool, eqb-true, leb-true}
use Rattle.std.specs.Prelude.{IfSome, ◌^◌}
use Rattle.std.specs.List.{AllByRecursion, list_all}
use Rattle.scql_base.specs.declared.records.TheConstants.User.{ALL_TRIES}
use Rattle.scql_base.specs.declared.records.User.{User}
use Rattle.scql_model.specs.Records.{is_secret, is_tries, user_record}
use Rattle.scql_base.specs.Name.{is_name}
use Rattle.scql_model.specs.Database.{Database, IsValid, user_stamped}
use Rattle.scql_model.specs.Heard.{IsLawful, after_commits, commits_of, committed_in}
use Rattle.scql_model.specs.Lines.{Language, line_effect, line_step, state_after, taken_line}
use Rattle.scql_model.specs.Lives.{AreRuns, Run, after_all, left_by, life_commits}
use Rattle.scql_model.specs.Machine.{Machine, start}
use Rattle.scql_model.specs.Tries.{AreSpared, IsGuarded, IsGuardedMachine, IsRestoredBetween, SparesTries}
use Rattle.scql_model.proofs.AddedUser.{users_below}
use Rattle.scql_model.proofs.Folding.{after_commits-taken}
use Rattle.scql_model.proofs.FourCommits.{four-restored, guarded-after, spared-append, spared-behind, spared-first, spared-take}

-- a user has at most all tries
fits-few : (u : User) → user_record.fits u ≡ true → u.tries ≤ ALL_TRIES
fits-few u fits =
    let a = and_parts (nat_lt u.stamp (2 ^ 32)) (nat_lt u.owner (2 ^ 32) && (is_tries u.tries && (is_name u.name && is_secret u.secret))) fits in
    let b = and_parts (nat_lt u.owner (2 ^ 32)) (is_tries u.tries && (is_name u.name && is_secret u.secret)) a.1 in
    let c = and_parts (is_tries u.tries) (is_name u.name && is_secret u.secret) b.1 in
    leb-true u.tries ALL_TRIES c.0

found-guarded : (stamp next : ℕ) (users : List User) → AllByRecursion (λ (u : User). u.stamp < next) users → list_all user_record.fits users ≡ true
    → IfSome (option_map (λ (u : User). u.tries) (user_stamped users stamp)) (λ tries. (stamp < next) × (tries ≤ ALL_TRIES))
found-guarded stamp next [] below fit = tt
found-guarded stamp next (u ∷ users) below fit =
    let parts = and_parts (user_record.fits u) (list_all user_record.fits users) fit in
    elim (cases_Bool (u.stamp == stamp)) [
      | inl t ↦ (let same : u.stamp ≡ stamp = eqb-true u.stamp stamp t in rw t (omega (arith, same, below.0), fits-few u parts.0))
      | inr f ↦ rw f (found-guarded stamp next users below.1 parts.1)
    ]

-- a valid database is guarded, and so is a card that begins with it
pub valid-guarded : (stamp : ℕ) (db : Database) → IsValid db → IsGuarded stamp db
valid-guarded stamp db valid = found-guarded stamp db.next db.users (users_below db valid) valid.users.limits

start-guarded : (stamp : ℕ) (db : Database) → IsGuarded stamp db → IsGuardedMachine stamp (start db)
start-guarded stamp db guarded = record { committed = guarded; transaction = tt }

-- the commits of lines from a state on are spared, and their machine stays guarded
pub lines-guarded : {S : Type 0} (L : Language S) (spares : SparesTries L) (stamp : ℕ) (state : S) (lines : List (List ℕ)) → IsGuardedMachine stamp (L.machine state) → IsGuardedMachine stamp (L.machine (state_after L state lines))
unfolding line_step
lines-guarded L spares stamp state [] guarded = guarded
lines-guarded L spares stamp state (line ∷ lines) guarded = lines-guarded L spares stamp (line_step L state line) lines (spares.machine stamp state (taken_line line) guarded)

pub lines-spared : {S : Type 0} (L : Language S) (lawful : IsLawful L) (spares : SparesTries L) (stamp : ℕ) (state : S) (lines : List (List ℕ)) → IsGuardedMachine stamp (L.machine state)
    → AreSpared stamp (committed_in L state) (commits_of L state lines)
unfolding line_step
lines-spared L lawful spares stamp state [] guarded = tt
lines-spared L lawful spares stamp state (line ∷ lines) guarded =
    spared-append stamp (committed_in L state) (line_effect L state line).commits (commits_of L (line_step L state line) lines)
    (spares.commits stamp state (taken_line line) guarded)
    (subst (λ (db : Database). AreSpared stamp db (commits_of L (line_step L state line) lines)) (sym (lawful.last state (taken_line line)))
    (lines-spared L lawful spares stamp (line_step L state line) lines (spares.machine stamp state (taken_line line) guarded)))

-- and so are those of a life
life-spared : {S : Type 0} (L : Language S) (lawful : IsLawful L) (spares : SparesTries L) (stamp : ℕ) (db : Database) (runs : List (Run S)) → IsGuarded stamp db → AreRuns L db runs
    → AreSpared stamp db (life_commits L runs)
life-spared L lawful spares stamp db [] guarded are = tt
life-spared L lawful spares stamp db (run ∷ runs) guarded are =
    let all : List Database = commits_of L run.first run.lines in
    let own : List Database = take run.kept all in
    let here : committed_in L run.first ≡ db = ap (λ (m : Machine). m.committed) are.0 in
    let machine : IsGuardedMachine stamp (L.machine run.first) = subst (IsGuardedMachine stamp) (sym are.0) (start-guarded stamp db guarded) in
    let first : AreSpared stamp db own = spared-take stamp db all run.kept (subst (λ (from : Database). AreSpared stamp from all) here (lines-spared L lawful spares stamp run.first run.lines machine)) in
    let left : left_by L run ≡ after_all db own = ap (λ (from : Database). after_commits from all run.kept) here ∙ after_commits-taken db all run.kept in
    let next : IsGuarded stamp (left_by L run) = subst (IsGuarded stamp) (sym left) (guarded-after stamp db own guarded first) in
    spared-append stamp db own (life_commits L runs) first
    (subst (λ (from : Database). AreSpared stamp from (life_commits L runs)) left (life-spared L lawful spares stamp (left_by L run) runs next are.1))

-- A stretch of the commits of a life that lowers a user's tries four times restores them between.
pub life-restored : {S : Type 0} (L : Language S) (db : Database) (runs : List (Run S)) (stamp : ℕ) (before stretch after : List Database)
    → IsLawful L → SparesTries L → IsValid db → AreRuns L db runs → life_commits L runs ≡ before ++ (stretch ++ after) → IsRestoredBetween stamp (after_all db before) stretch
life-restored L db runs stamp before stretch after lawful spares valid are split =
    let guarded : IsGuarded stamp db = valid-guarded stamp db valid in
    let all : AreSpared stamp db (before ++ (stretch ++ after)) = subst (AreSpared stamp db) split (life-spared L lawful spares stamp db runs guarded are) in
    four-restored stamp (after_all db before) stretch (guarded-after stamp db before guarded (spared-first stamp db before (stretch ++ after) all))
    (spared-first stamp (after_all db before) stretch after (spared-behind stamp db before (stretch ++ after) all))
