-- The rows that a plan of a SELECT is still to give.
use Rattle.std.specs.Prelude.{◌≡◌, ℕ, true, List, [], ◌∷◌, map, drop}
use Rattle.std.specs.List.{AllByRecursion}
use Rattle.scql_base.specs.declared.condition.Condition.{Condition}
use Rattle.scql_model.specs.Machine.{Machine}
use Rattle.scql_model.specs.Matching.{Columns, Values}
use Rattle.scql_model.specs.ReadingCommands.{row_octets}
use Rattle.scql_model.specs.Records.{is_row}
use Rattle.scql_model.specs.Shown.{shown_on}
use Rattle.script.specs.declared.statement.Statement.{Statement}
use Rattle.script.specs.declared.statement.Statement.TheVariants.{Select}
use Rattle.planner.specs.declared.closing.Closing.{Closing}
use Rattle.planner.specs.declared.step.Step.{Step}
use Rattle.planner.specs.declared.step.Step.TheVariants.{Row}
use Rattle.planner.specs.Held.{transaction_channel}
use Rattle.planner.specs.Meaning.{meaning}
use Rattle.planner.specs.Planned.{Planned}
use Rattle.planner.specs.Readings.{IsReadingAt}
use Rattle.planner.specs.Selecting.{closing_given, rows_given, select_shown}
use Rattle.card_asking.specs.Following.{run_from}

-- two machines have the same committed database, and the open transaction is the same channel's
pub record IsLike (m now : Machine) : Type 0 where
  pub committed : now.committed ≡ m.committed
  pub transaction : transaction_channel now ≡ transaction_channel m

-- On a link that was at this machine a plan at a step is still going to give these rows, and then closes so and leaves the link at this last machine. It only reads.
pub record GivesRows {L : Type 0} (is_at : L → Machine → Type 0) (m : Machine) (closing : Closing) (last : Machine) (rows : List Values) (p : Planned) (step : Step) (now : L) : Type 0 where
  pub machine : Machine
  pub at : is_at now machine
  pub like : IsLike m machine
  pub reads : IsReadingAt p step
  pub rows_left : (run_from machine p step).rows ≡ map row_octets rows
  pub formed : AllByRecursion (λ (values : Values). is_row values ≡ true) rows
  pub closes : (run_from machine p step).closing ≡ closing
  pub ends : (run_from machine p step).machine ≡ last
  pub silent : (run_from machine p step).commits ≡ []

-- what is left behind a step: a step with a row gives the first one
abbrev pub behind_step : Step → List Values → List Values
behind_step (Row command) rows = drop 1 rows
behind_step step rows = rows

-- octets are those of the first row
pub record IsNextRow (rows : List Values) (row : List ℕ) : Type 0 where
  pub values : Values
  pub rest : List Values
  pub split : rows ≡ values ∷ rest
  pub octets : row ≡ row_octets values
  pub formed : is_row values ≡ true

-- no row is left, it closes as it was to, and the link is at that machine
pub record AreAllGiven {L : Type 0} (is_at : L → Machine → Type 0) (closing : Closing) (last : Machine) (rows : List Values) (closed : Closing) (now : L) : Type 0 where
  pub none : rows ≡ []
  pub closes : closed ≡ closing
  pub at : is_at now last

-- a plan is to give the rows of its statement's meaning, to close as that does, and to leave the link at its machine
abbrev pub GivesMeaning : {L : Type 0} → (L → Machine → Type 0) → Machine → ℕ → Statement → Planned → Step → L → Type 0
GivesMeaning is_at m channel s p step now = GivesRows is_at m (meaning m channel s).closing (meaning m channel s).machine (meaning m channel s).rows p step now

-- a plan is to give the rows that are shown to a channel, and to close as follows from that
abbrev pub GivesShown : {L : Type 0} → (L → Machine → Type 0) → Machine → ℕ → List ℕ → Columns → List Condition → Planned → Step → L → Type 0
GivesShown is_at m channel object columns conditions p step now =
    let given = select_shown (shown_on m channel) object columns conditions in
    GivesRows is_at m (closing_given given) (meaning m channel (Select object columns conditions)).machine (rows_given given) p step now
