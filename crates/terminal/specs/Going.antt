-- A statement under way on a desk: what was printed of it so far, and what of it is left.
use Rattle.std.specs.Prelude.{◌≡◌, ℕ, ◌≤◌, List, [], ◌∷◌, ◌++◌, map, Option, Result, IfErr, IfOk, OnOk}
use Rattle.std.specs.List.{concat}
use Rattle.std.specs.Option.{option_map_or}
use Rattle.scql_base.specs.Row.{row_from}
use Rattle.scql_model.specs.Database.{Database}
use Rattle.scql_model.specs.Machine.{Machine}
use Rattle.eeprom.specs.Chip.{Chip}
use Rattle.eeprom.specs.Output.{Prints}
use Rattle.planner.specs.declared.closing.Closing.{Closing}
use Rattle.planner.specs.declared.step.Step.{Step}
use Rattle.planner.specs.Held.{transaction_channel}
use Rattle.planner.specs.Planned.{Planned}
use Rattle.planner.specs.Readings.{IsReadingAt}
use Rattle.planner.specs.Running.{Ran}
use Rattle.planner.specs.Text.{row_text, closing_text}
use Rattle.card_link.specs.Link.{IsOneOf, LeavesOpen}
use Rattle.scql_model.specs.Lives.{after_all}
use Rattle.card_asking.specs.Following.{Follows, run_from}
use Rattle.terminal.specs.declared.failure.Failure.{Failure}
use Rattle.terminal.specs.declared.failure.Failure.TheVariants.{Card, Outlet}

-- a row is printed from its octets
abbrev pub printed_row : List ℕ → List ℕ
printed_row octets = option_map_or row_text (row_from octets) []

abbrev pub rows_text : List (List ℕ) → List ℕ
rows_text rows = concat (map printed_row rows)

abbrev pub ran_text : Ran → List ℕ
ran_text ran = rows_text ran.rows ++ closing_text ran.closing

-- From a mark on a database is one of these; the mark is a later one only where rows were given.
pub record IsWithin (from : ℕ) (rows : List (List ℕ)) (dbs : List Database) (g : ℕ) (left : Database) : Type 0 where
  pub above : from ≤ g
  pub still : rows ≡ [] → g ≡ from
  pub among : IsOneOf g dbs g left

-- so at each moment of a run from a machine on
abbrev pub IsInRun : ℕ → Machine → Ran → ℕ → Database → Type 0
IsInRun from m ran g left = IsWithin from ran.rows (m.committed ∷ ran.commits) g left

-- A desk went from a machine and a step of a plan to another machine and step, and printed the rows that were given until then.
pub record WentOn {L : Type 0} (is_at : L → Machine → Type 0) (given : L → Option (List ℕ)) (mark : L → ℕ) (m : Machine) (p : Planned) (step : Step) (old new : L) (q : Planned) (next : Step) : Type 0 where
  pub rows : List (List ℕ)
  pub follows : Follows is_at m p step rows q next new
  pub printed : Prints (rows_text rows) (given old) (given new)
  pub later : mark old ≤ mark new
  pub still : rows ≡ [] → mark new ≡ mark old

-- a card that goes mute: some first rows of what was left were printed
pub record IsMute {L : Type 0} (given : L → Option (List ℕ)) (ran : Ran) (old new : L) : Type 0 where
  pub first : List (List ℕ)
  pub rest : List (List ℕ)
  pub split : ran.rows ≡ first ++ rest
  pub printed : Prints (rows_text first) (given old) (given new)

-- an outlet that fails in a row: the start of what was left was printed, and the card is where it was before; where the run only reads the open transaction is kept
pub record IsCut {L : Type 0} (is_at : L → Machine → Type 0) (given : L → Option (List ℕ)) (m : Machine) (reads : Type 0) (ran : Ran) (old new : L) : Type 0 where
  pub said : List ℕ
  pub rest : List ℕ
  pub start : ran_text ran ≡ said ++ rest
  pub printed : Prints said (given old) (given new)
  pub machine : Machine
  pub at : is_at new machine
  pub committed : (commits : List Database) × (more : List Database) × (ran.commits ≡ commits ++ more) × (machine.committed ≡ after_all m.committed commits)
  pub in_row : ran.rows ≡ [] → ⊥
  pub kept : reads → transaction_channel machine ≡ transaction_channel m

abbrev pub FailsSo : {L : Type 0} → (L → Machine → Type 0) → (L → Option (List ℕ)) → Machine → Type 0 → Ran → Failure → L → L → Type 0
FailsSo is_at given m reads ran Card old new = IsMute given ran old new
FailsSo is_at given m reads ran Outlet old new = IsCut is_at given m reads ran old new

-- a run that is over, but for its closing line
pub record HasRun {L : Type 0} (is_at : L → Machine → Type 0) (given : L → Option (List ℕ)) (mark : L → ℕ) (m : Machine) (ran : Ran) (closing : Closing) (old new : L) : Type 0 where
  pub at : is_at new ran.machine
  pub closes : closing ≡ ran.closing
  pub printed : Prints (rows_text ran.rows) (given old) (given new)
  pub committed : ran.machine.committed ≡ after_all m.committed ran.commits
  pub later : mark old ≤ mark new
  pub still : ran.rows ≡ [] → mark new ≡ mark old

-- A step of a plan is followed on a desk, over one machine at which the desk's card was.
pub record StepRuns {L T : Type 0} (is_at : L → Machine → Type 0) (given : L → Option (List ℕ)) (mark : L → ℕ) (chip : L → Chip) (m : Machine) (p : Planned) (step : Step) (result : Result T Failure) (old new : L) (q : Planned) (next : Step) : Type 0 where
  -- It goes on, and the row that it has is printed,
  pub goes : OnOk result (WentOn is_at given mark m p step old new q next)
  -- or a device fails in what is left.
  pub fails : IfErr result (λ failure. FailsSo is_at given m (IsReadingAt p step) (run_from m p step) failure old new)
  -- A power loss leaves a moment of the run from there.
  pub moments : LeavesOpen (IsInRun (mark old) m (run_from m p step)) (chip old) (chip new)

-- A plan whose run is this is carried out on a desk, but for its closing line, over one machine at which the desk's card was.
pub record PlanRuns {L : Type 0} (is_at : L → Machine → Type 0) (given : L → Option (List ℕ)) (mark : L → ℕ) (chip : L → Chip) (m : Machine) (reads : Type 0) (ran : Ran) (result : Result Closing Failure) (old new : L) : Type 0 where
  -- The run is over, and its rows are printed,
  pub over : IfOk result (λ closing. HasRun is_at given mark m ran closing old new)
  -- or a device fails in it.
  pub fails : IfErr result (λ failure. FailsSo is_at given m reads ran failure old new)
  -- A power loss leaves a moment of the run.
  pub moments : LeavesOpen (IsInRun (mark old) m ran) (chip old) (chip new)
