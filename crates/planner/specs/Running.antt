-- A plan over a machine: each command is answered by the steps of its parts in turn, and the plan goes on by that answer.
use Rattle.std.specs.Prelude.{◌≡◌, ℕ, zero, suc, ◌<◌, ◌≤◌, true, List, [], ◌∷◌, ◌++◌, length, map, Option, Some, None, is_some}
use Rattle.std.specs.List.{AllByRecursion}
use Rattle.scql_model.specs.Replies.{Reply}
use Rattle.scql_model.specs.Database.{Database}
use Rattle.scql_model.specs.Machine.{Machine, reset}
use Rattle.scql_model.specs.Records.{is_row}
use Rattle.scql_model.specs.Matching.{Values}
use Rattle.scql_model.specs.ReadingCommands.{row_octets}
use Rattle.scql_model.specs.Step.{Answer}
use Rattle.scql_model.specs.Transactions.{own_transaction}
use Rattle.script.specs.declared.statement.Statement.{Statement}
use Rattle.script.specs.declared.statement.Statement.TheVariants.{Blank, Single, Select, UpdateRows, DeleteRows, OpenNumber, CloseNumber, UseNumber, Reset}
use Rattle.planner.specs.declared.closing.Closing.{Closing}
use Rattle.planner.specs.declared.closing.Closing.TheVariants.{Nothing}
use Rattle.planner.specs.declared.step.Step.{Step}
use Rattle.planner.specs.declared.step.Step.TheVariants.{Send, Row, ResetCard, Done}
use Rattle.planner.specs.Meaning.{Meaning, answer_to, meaning}
use Rattle.planner.specs.Planned.{Planned, next_of, started}
use Rattle.planner.specs.Turns.{turns_left}

-- the octets of the rows that were given, how it ended, the machine after it, and the databases that were committed in turn
pub record Ran : Type 0 where
  pub rows : List (List ℕ)
  pub closing : Closing
  pub machine : Machine
  pub commits : List Database

abbrev pub giving : List ℕ → Ran → Ran
giving row ran = record ran { rows = row ∷ ran.rows }

abbrev pub committing : List Database → Ran → Ran
committing commits ran = record ran { commits = commits ++ ran.commits }

-- what is left to run, from a machine on and with the answer to the last command
abbrev pub Rest : Type 0
Rest = Machine → Option Reply → Planned → Ran

abbrev pub answered_by : Rest → Planned → Answer → Ran
answered_by rest p answer = committing answer.commits (rest answer.machine (Some answer.reply) p)

abbrev pub taken : Rest → Machine → Planned → Step → Ran
taken rest m p (Send command) = answered_by rest p (answer_to m command)
taken rest m p (Row command) = giving p.row (answered_by rest p (answer_to m command))
taken rest m p ResetCard = rest (reset m) None p
taken rest m p (Done closing) = record { rows = []; closing = closing; machine = m; commits = [] }

abbrev pub unfinished : Rest
unfinished m last p = record { rows = []; closing = Nothing; machine = m; commits = [] }

-- so many steps of a plan
abbrev pub run : ℕ → Rest
run zero m last p = unfinished m last p
run (suc n) m last p =
    let turn = next_of last p in
    taken (λ next reply q. run n next reply q) m turn.plan turn.step

-- a meaning as a run shows it
abbrev pub shown : Meaning → Ran
shown x = record { rows = map row_octets x.rows; closing = x.closing; machine = x.machine; commits = x.commits }

-- a statement of one command, or of none
abbrev pub IsBrief : Statement → Type 0
IsBrief Blank = Unit {0}
IsBrief (Single operation) = Unit {0}
IsBrief (OpenNumber number) = Unit {0}
IsBrief (CloseNumber number) = Unit {0}
IsBrief (UseNumber number) = Unit {0}
IsBrief Reset = Unit {0}
IsBrief statement = ⊥

-- at most so many rows as a plan gives, each of which is a row
pub record AreRows (rows : List Values) : Type 0 where
  pub few : length rows ≤ 2048
  pub formed : AllByRecursion (λ (values : Values). is_row values ≡ true) rows

-- a plan that was started on a machine runs so, in as many steps as it may take
pub record RunsTo (m : Machine) (p : Planned) (ran : Ran) : Type 0 where
  pub runs : (turns : ℕ) → turns_left p < turns → run turns m None p ≡ ran

-- a statement's plan, which knows whether its channel has the open transaction, runs to the statement's meaning
abbrev pub RunsToMeaning : Machine → ℕ → Statement → Type 0
RunsToMeaning m channel s = RunsTo m (started s channel (is_some (own_transaction m.transaction channel))) (shown (meaning m channel s))

-- a statement of rows
abbrev pub IsOfRows : Statement → Type 0
IsOfRows (Select object columns conditions) = Unit {0}
IsOfRows (UpdateRows object changes conditions) = Unit {0}
IsOfRows (DeleteRows object conditions) = Unit {0}
IsOfRows statement = ⊥
