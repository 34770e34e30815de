-- A card's whole life: power cycles over one image, each of which may have ended because power was lost.
use Rattle.std.specs.Prelude.{◌≡◌, ◌≤◌, ◌+◌, ℕ, List, [], ◌∷◌, ◌++◌, length, take}
use Rattle.scql_model.specs.Database.{Database}
use Rattle.scql_model.specs.Heard.{IsKept, after_commits, commits_of, commits_to, committed_in, database_after, heard}
use Rattle.scql_model.specs.Lines.{Language}
use Rattle.scql_model.specs.Machine.{start}
use Rattle.scql_model.specs.Opens.{Opens}

-- As the model has it.

-- a run of lines from a state on, of which so many commits were kept
pub record Run (S : Type 0) : Type 0 where
  pub first : S
  pub lines : List (List ℕ)
  pub kept : ℕ

-- the database that a run leaves
abbrev pub left_by : {S : Type 0} → Language S → Run S → Database
left_by language run = database_after language run.first run.lines run.kept

-- runs from a database on: each begins as a card does that is opened with the database which the one before it left
abbrev pub AreRuns : {S : Type 0} → Language S → Database → List (Run S) → Type 0
AreRuns language db [] = Unit {0}
AreRuns language db (run ∷ runs) = (language.machine run.first ≡ start db) × AreRuns language (left_by language run) runs

-- the commits of a life: of each run those that were kept
abbrev pub life_commits : {S : Type 0} → Language S → List (Run S) → List Database
life_commits language [] = []
life_commits language (run ∷ runs) = take run.kept (commits_of language run.first run.lines) ++ life_commits language runs

-- the database after all of these commits
abbrev pub after_all : Database → List Database → Database
after_all db commits = after_commits db commits (length commits)

-- As it went over an image.

-- A power cycle: a card was opened in a state, and took lines. When it ended, so many octets had gone out, and it left this image. The first so many lines were carried out without a fault of the EEPROM.
pub record PowerCycle (S : Type 0) : Type 0 where
  pub first : S
  pub lines : List (List ℕ)
  pub clean : ℕ
  pub given : ℕ
  pub left : List ℕ

-- Over this image it went so: it began as a card does that is opened with the database to which the image opens, and what it left keeps each commit of the lines heard by then, and has none but those and commits of the line after them.
pub record IsPowerCycle {S : Type 0} (language : Language S) (image : List ℕ) (cycle : PowerCycle S) : Type 0 where
  pub opens : Opens image (committed_in language cycle.first)
  pub starts : language.machine cycle.first ≡ start (committed_in language cycle.first)
  pub kept : IsKept language cycle.first cycle.lines cycle.clean cycle.given cycle.left

-- a life from an image on: each power cycle goes over the image that the one before it left
abbrev pub IsLife : {S : Type 0} → Language S → List ℕ → List (PowerCycle S) → Type 0
IsLife language image [] = Unit {0}
IsLife language image (cycle ∷ cycles) = IsPowerCycle language image cycle × IsLife language cycle.left cycles

abbrev pub last_image : {S : Type 0} → List ℕ → List (PowerCycle S) → List ℕ
last_image image [] = image
last_image image (cycle ∷ cycles) = last_image cycle.left cycles

-- How the two hang together.

-- how many lines of a power cycle were heard
abbrev pub lines_heard : {S : Type 0} → Language S → PowerCycle S → ℕ
lines_heard language cycle = heard language cycle.first (take cycle.clean cycle.lines) cycle.given

-- The run is that of the power cycle. It kept each commit of the lines that were heard, and none but those and commits of the line after them.
pub record IsRunOf {S : Type 0} (language : Language S) (cycle : PowerCycle S) (run : Run S) : Type 0 where
  pub first : run.first ≡ cycle.first
  pub lines : run.lines ≡ cycle.lines
  pub least : commits_to language cycle.first cycle.lines (lines_heard language cycle) ≤ run.kept
  pub most : run.kept ≤ commits_to language cycle.first cycle.lines (lines_heard language cycle + 1)

-- one run for each power cycle, in their order
abbrev pub AreRunsOf : {S : Type 0} → Language S → List (PowerCycle S) → List (Run S) → Type 0
AreRunsOf language [] [] = Unit {0}
AreRunsOf language [] (run ∷ runs) = ⊥
AreRunsOf language (cycle ∷ cycles) [] = ⊥
AreRunsOf language (cycle ∷ cycles) (run ∷ runs) = IsRunOf language cycle run × AreRunsOf language cycles runs

-- A life is the fold of one prefix of commits for each of its power cycles, from the database to which its first image opens; and to the database after all of these its last image opens.
pub record IsFolded {S : Type 0} (language : Language S) (db : Database) (image : List ℕ) (cycles : List (PowerCycle S)) : Type 0 where
  pub runs : List (Run S)
  pub of : AreRunsOf language cycles runs
  pub are : AreRuns language db runs
  pub left : Opens (last_image image cycles) (after_all db (life_commits language runs))
