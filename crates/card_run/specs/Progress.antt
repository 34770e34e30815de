-- What a person is shown who watches a load.
use Rattle.std.specs.Prelude.{◌≡◌, ℕ, ◌+◌, ◌%◌, ◌==◌, ◌≤◌, nat_le, not, Bool, true, List, [], ◌∷◌, ◌++◌, length, map, Option, Some, None, IsSome, IfSome, if◌then◌else◌, codes}
use Rattle.std.specs.List.{count_by}
use Rattle.std.specs.Fmt.{decimal}
use Rattle.scql_model.specs.Database.{Database}
use Rattle.scql_model.specs.Lines.{state_after}
use Rattle.scql_model.specs.Machine.{start}
use Rattle.planner.specs.StatementLines.{TerminalState, statement_lines}
use Rattle.terminal.specs.Holding.{terminal_at}
use Rattle.terminal.specs.Load.{closings, filling_lines, insert_lines, is_refused, load_counts}
use Rattle.program.specs.declared.status.Status.{Status}
use Rattle.person.specs.Showing.{IsShown}
use Rattle.card_run.specs.Ends.{has_opened}

-- The text.

-- How many rows were inserted, changed and deleted so far. The carriage return lets it stand in place of the one before.
abbrev pub progress_line : ℕ → ℕ → ℕ → List ℕ
progress_line inserted changed deleted = 0x0D ∷ (codes "inserted " ++ (decimal inserted ++ (codes " changed " ++ (decimal changed ++ (codes " deleted " ++ decimal deleted)))))

-- How far a load came: of each row that was passed, in turn, whether it was refused; and then how many rows were changed, and how many deleted, where it came so far.
pub record Reached : Type 0 where
  pub refusals : List Bool
  pub changed : Option ℕ
  pub deleted : Option ℕ

-- how many rows were inserted among those
abbrev pub inserted_among : List Bool → ℕ
inserted_among refusals = count_by not refusals

-- the line is written anew each 16 rows, behind so many that were passed and so many that were inserted
abbrev pub rows_text : ℕ → ℕ → List Bool → List ℕ
rows_text passed inserted [] = []
rows_text passed inserted (refused ∷ refusals) =
    (if (passed + 1) % 16 == 0 then progress_line (inserted + (if refused then 0 else 1)) 0 0 else []) ++ rows_text (passed + 1) (inserted + (if refused then 0 else 1)) refusals

-- it stands there from 16 rows on, and only then is it written anew for what follows
abbrev pub has_line : Reached → Bool
has_line reached = nat_le 16 (length reached.refusals)

abbrev pub changes_text : ℕ → Option ℕ → Option ℕ → List ℕ
changes_text inserted None deleted = []
changes_text inserted (Some changed) None = progress_line inserted changed 0
changes_text inserted (Some changed) (Some deleted) = progress_line inserted changed 0 ++ progress_line inserted changed deleted

abbrev pub reached_text : Reached → List ℕ
reached_text reached = rows_text 0 0 reached.refusals ++ (if has_line reached then changes_text (inserted_among reached.refusals) reached.changed reached.deleted else [])

-- at last it is ended
abbrev pub progress_text : Reached → List ℕ
progress_text reached = reached_text reached ++ (if has_line reached then codes "\n" else [])

-- The counts.

-- which of so many rows are refused, in a load that begins in this state
abbrev pub refusals_in : TerminalState → ℕ → ℕ → List Bool
refusals_in state seed count = map is_refused (closings (state_after statement_lines state (filling_lines 0 seed)) (insert_lines count 1 seed))

-- A load that begins in this state comes so far.
pub record IsReachedFrom (state : TerminalState) (k seed : ℕ) (reached : Reached) : Type 0 where
  pub refusals : reached.refusals ≡ refusals_in state seed (length reached.refusals)
  pub changed : IfSome reached.changed (λ rows. rows ≡ (load_counts state k seed).changed)
  pub deleted : IfSome reached.deleted (λ rows. rows ≡ (load_counts state k seed).deleted)

-- What a load of so many rows showed a person until it ended so: how far it came. Where it began with a database, it came so far from there.
pub record ShowsLoad {P : Type 0} (lost : P → Bool) (shown : P → Option (List ℕ)) (k seed : ℕ) (status : Status) (begins : Database → Type 0) (person after : P) : Type 0 where
  pub reached : Reached
  pub few : length reached.refusals ≤ k
  pub in_turn : IsSome reached.changed → length reached.refusals ≡ k
  pub follows : IsShown (lost after) (progress_text reached) (shown person) (shown after)
  pub counts : (db : Database) → begins db → IsReachedFrom (terminal_at (start db) 0) k seed reached
  -- Where it came to its text, it came to its end.
  pub whole : has_opened status ≡ true → (length reached.refusals ≡ k) × IsSome reached.changed × IsSome reached.deleted
