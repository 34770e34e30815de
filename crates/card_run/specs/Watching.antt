-- What the program counts of a load and shows of it, line after line.
use Rattle.std.specs.Prelude.{◌≡◌, ℕ, ◌+◌, ◌%◌, ◌==◌, ◌≤◌, nat_le, Bool, List, [], length, Option, Some, None, IsSome, if◌then◌else◌, codes}
use Rattle.planner.specs.StatementLines.{TerminalState}
use Rattle.card_run.specs.declared.progress.Progress.{Progress}
use Rattle.person.specs.Showing.{Shows}
use Rattle.card_run.specs.Progress.{IsReachedFrom, Reached, inserted_among, progress_line, reached_text, refusals_in}

-- nothing is counted yet
abbrev pub none_yet : Progress
none_yet = record { passed = 0; inserted = 0; changed = 0; deleted = 0 }

-- a row more
abbrev pub with_row : Bool → Progress → Progress
with_row refused progress = record progress { passed = progress.passed + 1; inserted = progress.inserted + (if refused then 0 else 1) }

-- what is shown of a row that was passed
abbrev pub passed_text : Progress → List ℕ
passed_text progress = if progress.passed % 16 == 0 then progress_line progress.inserted progress.changed progress.deleted else []

-- the line, where it stands there
abbrev pub standing_text : Progress → List ℕ
standing_text progress = if nat_le 16 progress.passed then progress_line progress.inserted progress.changed progress.deleted else []

-- It became this, and the line was written anew where it stands there.
pub record Rewrites {P : Type 0} (lost : P → Bool) (shown : P → Option (List ℕ)) (next now : Progress) (person after : P) : Type 0 where
  pub rows : now ≡ next
  pub shows : Shows lost shown (standing_text now) person after

abbrev pub ended_text : Progress → List ℕ
ended_text progress = if nat_le 16 progress.passed then codes "\n" else []

-- how far a load came, as it counts it
abbrev pub or_none : Option ℕ → ℕ
or_none None = 0
or_none (Some rows) = rows

abbrev pub counted_of : Reached → Progress
counted_of reached = record { passed = length reached.refusals; inserted = inserted_among reached.refusals; changed = or_none reached.changed; deleted = or_none reached.deleted }

-- It counts how far a load came, and showed that.
pub record HasShown {P : Type 0} (lost : P → Bool) (shown : P → Option (List ℕ)) (reached : Reached) (progress : Progress) (person after : P) : Type 0 where
  pub counts : progress ≡ counted_of reached
  pub shows : Shows lost shown (reached_text reached) person after

-- It showed so many rows, of a load that begins in one of these states.
pub record PassesRows {P : Type 0} (lost : P → Bool) (shown : P → Option (List ℕ)) (seed count : ℕ) (begins : TerminalState → Type 0) (progress : Progress) (person after : P) : Type 0 where
  pub refusals : List Bool
  pub so_many : length refusals ≡ count
  pub shows : HasShown lost shown (record { refusals = refusals; changed = None; deleted = None }) progress person after
  pub refused : (state : TerminalState) → begins state → refusals ≡ refusals_in state seed (length refusals)

-- at most so many
abbrev pub PassesSome : {P : Type 0} → (P → Bool) → (P → Option (List ℕ)) → ℕ → ℕ → (TerminalState → Type 0) → Progress → P → P → Type 0
PassesSome lost shown seed k begins progress person after = (count : ℕ) × (count ≤ k) × PassesRows lost shown seed count begins progress person after

-- It showed how far a load of so many rows came that begins in one of these states.
pub record PassesLoad {P : Type 0} (lost : P → Bool) (shown : P → Option (List ℕ)) (k seed : ℕ) (begins : TerminalState → Type 0) (progress : Progress) (person after : P) (reached : Reached) : Type 0 where
  pub few : length reached.refusals ≤ k
  pub in_turn : IsSome reached.changed → length reached.refusals ≡ k
  pub shows : HasShown lost shown reached progress person after
  pub counts : (state : TerminalState) → begins state → IsReachedFrom state k seed reached

-- to its end
abbrev pub IsWhole : ℕ → Reached → Type 0
IsWhole k reached = (length reached.refusals ≡ k) × IsSome reached.changed × IsSome reached.deleted
