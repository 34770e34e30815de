-- What a power loss leaves of a run of lines: how many lines were heard, and to which database the image opens.
use Rattle.std.specs.Prelude.{◌≡◌, ℕ, zero, suc, ◌≤◌, ◌+◌, ◌-◌, nat_le, List, [], ◌∷◌, ◌++◌, length, take, Option, if◌then◌else◌}
use Rattle.scql_model.specs.Database.{Database}
use Rattle.scql_model.specs.Lines.{Language, line_effect, line_text, line_step}
use Rattle.scql_model.specs.Opens.{Opens}

-- the database of a state that is committed
abbrev pub committed_in : {S : Type 0} → Language S → S → Database
committed_in language state = (language.machine state).committed

-- the databases that lines commit in turn
abbrev pub commits_of : {S : Type 0} → Language S → S → List (List ℕ) → List Database
commits_of language state [] = []
commits_of language state (line ∷ lines) = (line_effect language state line).commits ++ commits_of language (line_step language state line) lines

-- how many databases the first i lines commit
abbrev pub commits_to : {S : Type 0} → Language S → S → List (List ℕ) → ℕ → ℕ
commits_to language state lines i = length (commits_of language state (take i lines))

-- the database after the first k commits from one on, or after all where there are fewer
abbrev pub after_commits : Database → List Database → ℕ → Database
after_commits db commits zero = db
after_commits db [] (suc k) = db
after_commits db (next ∷ commits) (suc k) = after_commits next commits k

-- the database after the first k commits of a run
abbrev pub database_after : {S : Type 0} → Language S → S → List (List ℕ) → ℕ → Database
database_after language state lines k = after_commits (committed_in language state) (commits_of language state lines) k

-- how many of the first lines were heard where g octets had gone out: as many as have together at most so long a text
abbrev pub heard : {S : Type 0} → Language S → S → List (List ℕ) → ℕ → ℕ
heard language state [] g = 0
heard language state (line ∷ lines) g =
    let size = length (line_text language state line) in
    if nat_le size g then suc (heard language (line_step language state line) lines (g - size)) else 0

-- Of these lines the first so many were answered without a fault of the EEPROM. Where g octets had gone out, the image opens to a database that keeps each commit of the lines heard by then, and has none but those and commits of the line after them.
pub record IsKept {S : Type 0} (language : Language S) (state : S) (lines : List (List ℕ)) (counted g : ℕ) (left : List ℕ) : Type 0 where
  pub commits : ℕ
  pub least : commits_to language state lines (heard language state (take counted lines) g) ≤ commits
  pub most : commits ≤ commits_to language state lines (heard language state (take counted lines) g + 1)
  pub opens : Opens left (database_after language state lines commits)

-- In a language a line ends at the last database that it commits, and a line without a text commits nothing.
pub record IsLawful {S : Type 0} (language : Language S) : Type 0 where
  pub last : (state : S) (line : Option (List ℕ)) → (let does = language.effect state line in after_commits (committed_in language state) does.commits (length does.commits) ≡ committed_in language does.next)
  pub silent : (state : S) (line : Option (List ℕ)) → (let does = language.effect state line in length does.text ≡ 0 → length does.commits ≡ 0)
