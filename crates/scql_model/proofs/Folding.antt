-- The state at each opening of a life is the fold of one prefix of commits for each power cycle before it.
use Rattle.std.proofs.Common.{◌≡◌, ℕ, zero, suc, List, [], ◌∷◌, ◌++◌, take, Some, refl, sym, ap, subst, ◌∙◌, append_assoc}
use Rattle.eeprom.specs.StoreOf.{Slots, Stored, store_of}
use Rattle.scql_base.specs.declared.records.User.{User}
use Rattle.scql_base.specs.declared.records.Object.{Object}
use Rattle.scql_base.specs.declared.records.Grant.{Grant}
use Rattle.scql_base.specs.declared.records.RowRecord.{RowRecord}
use Rattle.scql_model.specs.Database.{Database}
use Rattle.scql_model.specs.Heard.{IsLawful, after_commits, commits_of, committed_in, database_after}
use Rattle.scql_model.specs.Lines.{Language, line_effect, line_step, state_after, taken_line}
use Rattle.scql_model.specs.Lives.{AreRuns, IsFolded, IsLife, IsPowerCycle, PowerCycle, Run, after_all, last_image, left_by, life_commits}
use Rattle.scql_model.specs.Machine.{Machine, start}
use Rattle.scql_model.specs.Opens.{Holds, Opens}

-- databases are equal where their parts are
unfoldable of_parts : ℕ → ℕ → ℕ → List User → List Object → List Grant → List RowRecord → Database
of_parts cells limit next users objects grants rows = record { cells = cells; limit = limit; next = next; users = users; objects = objects; grants = grants; rows = rows }

of_parts-same : (cells others limit other next after : ℕ) (users more_users : List User) (objects more_objects : List Object) (grants more_grants : List Grant) (rows more_rows : List RowRecord)
    → cells ≡ others → limit ≡ other → next ≡ after → users ≡ more_users → objects ≡ more_objects → grants ≡ more_grants → rows ≡ more_rows
    → of_parts cells limit next users objects grants rows ≡ of_parts others other after more_users more_objects more_grants more_rows
of_parts-same c d l m n o us vs os ps gs hs rs ss a b e f g h i = cc

pub same-parts : (a b : Database) → a.cells ≡ b.cells → a.limit ≡ b.limit → a.next ≡ b.next → a.users ≡ b.users → a.objects ≡ b.objects → a.grants ≡ b.grants → a.rows ≡ b.rows → a ≡ b
unfolding of_parts
same-parts a b cells limit next users objects grants rows =
    of_parts-same a.cells b.cells a.limit b.limit a.next b.next a.users b.users a.objects b.objects a.grants b.grants a.rows b.rows cells limit next users objects grants rows

same-first : (m n : ℕ) → m ∷ [] ≡ n ∷ [] → m ≡ n
same-first m n same = cc

-- An image opens to one database alone.
held-one : (slots : Slots) (a b : Database) → a.limit ≡ b.limit → Holds slots a → Holds slots b → a ≡ b
held-one slots a b limit x y =
    same-parts a b (sym x.cells ∙ y.cells) limit (same-first a.next b.next (sym x.counter ∙ y.counter))
    (sym x.users ∙ y.users) (sym x.objects ∙ y.objects) (sym x.grants ∙ y.grants) (sym x.rows ∙ y.rows)

same-store : (image : List ℕ) (a b : Stored) → store_of image ≡ Some a → store_of image ≡ Some b → a ≡ b
same-store image a b x y =
    let same : Some a ≡ Some b = sym x ∙ y in
    cc

pub Opens-one : (image : List ℕ) (a b : Database) → Opens image a → Opens image b → a ≡ b
Opens-one image a b x y =
    let same : x.store ≡ y.store = same-store image x.store y.store x.stored y.stored in
    held-one y.store.slots a b
    (x.limit ∙ (ap (λ (store : Stored). store.row_limit) same ∙ sym y.limit))
    (subst (λ (store : Stored). Holds store.slots a) same x.holds)
    y.holds

-- the database after the first so many commits is that after all of these
pub after_commits-taken : (db : Database) (commits : List Database) (k : ℕ) → after_commits db commits k ≡ after_all db (take k commits)
after_commits-taken db commits zero = refl
after_commits-taken db [] (suc k) = refl
after_commits-taken db (next ∷ commits) (suc k) = after_commits-taken next commits k

-- the database after all commits of a life is that after those of its later runs, from the one that its first run leaves on
after_all-append : (db : Database) (xs ys : List Database) → after_all db (xs ++ ys) ≡ after_all (after_all db xs) ys
after_all-append db [] ys = refl
after_all-append db (x ∷ xs) ys = after_all-append x xs ys

-- lines end at the last database that they commit
pub lines-last : {S : Type 0} (L : Language S) → IsLawful L → (state : S) (lines : List (List ℕ)) → after_all (committed_in L state) (commits_of L state lines) ≡ committed_in L (state_after L state lines)
unfolding line_step
lines-last L lawful state [] = refl
lines-last L lawful state (line ∷ lines) =
    after_all-append (committed_in L state) (line_effect L state line).commits (commits_of L (line_step L state line) lines)
    ∙ ap (λ (db : Database). after_all db (commits_of L (line_step L state line) lines)) (lawful.last state (taken_line line)) ∙ lines-last L lawful (line_step L state line) lines

pub left-all : {S : Type 0} (L : Language S) (db : Database) (run : Run S) (runs : List (Run S)) → L.machine run.first ≡ start db
    → after_all db (life_commits L (run ∷ runs)) ≡ after_all (left_by L run) (life_commits L runs)
left-all L db run runs starts =
    let own : List Database = take run.kept (commits_of L run.first run.lines) in
    let here : committed_in L run.first ≡ db = ap (λ (m : Machine). m.committed) starts in
    after_all-append db own (life_commits L runs)
    ∙ ap (λ (from : Database). after_all from (life_commits L runs))
    (sym (after_commits-taken db (commits_of L run.first run.lines) run.kept) ∙ ap (λ (from : Database). after_commits from (commits_of L run.first run.lines) run.kept) (sym here))

-- the first run behind others
life-first : {S : Type 0} (L : Language S) (before : List (Run S)) (runs : List (Run S)) → life_commits L (before ++ runs) ≡ life_commits L before ++ life_commits L runs
life-first L [] runs = refl
life-first L (run ∷ before) runs = ap (λ (xs : List Database). take run.kept (commits_of L run.first run.lines) ++ xs) (life-first L before runs)
    ∙ sym (append_assoc (take run.kept (commits_of L run.first run.lines)) (life_commits L before) (life_commits L runs))

-- each run begins at the fold of those before it
pub opened-fold : {S : Type 0} (L : Language S) (db : Database) (before : List (Run S)) (run : Run S) (after : List (Run S)) → AreRuns L db (before ++ run ∷ after)
    → L.machine run.first ≡ start (after_all db (life_commits L before))
opened-fold L db [] run after are = are.0
opened-fold L db (first ∷ before) run after are =
    opened-fold L (left_by L first) before run after are.1 ∙ ap start (sym (left-all L db first before are.0))

-- A life is folded.
pub folded : {S : Type 0} (L : Language S) (db : Database) (image : List ℕ) (cycles : List (PowerCycle S)) → Opens image db → IsLife L image cycles → IsFolded L db image cycles
folded {S} L db image [] opens life = record { runs = []; of = tt; are = tt; left = opens }
folded {S} L db image (cycle ∷ cycles) opens life =
    let went : IsPowerCycle L image cycle = life.0 in
    let run : Run S = record { first = cycle.first; lines = cycle.lines; kept = went.kept.commits } in
    let same : committed_in L cycle.first ≡ db = Opens-one image (committed_in L cycle.first) db went.opens opens in
    let starts : L.machine cycle.first ≡ start db = went.starts ∙ ap start same in
    let rest = folded L (database_after L cycle.first cycle.lines went.kept.commits) cycle.left cycles went.kept.opens life.1 in
    record {
      runs = run ∷ rest.runs;
      of = (record { first = refl; lines = refl; least = went.kept.least; most = went.kept.most }, rest.of);
      are = (starts, rest.are);
      left = subst (Opens (last_image cycle.left cycles)) (sym (left-all L db run rest.runs starts)) rest.left;
    }
