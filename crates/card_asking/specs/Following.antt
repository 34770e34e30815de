-- A plan under way on a link: what is left of its run, and how the link goes on with it.
use Rattle.std.specs.Prelude.{◌≡◌, ℕ, ◌<◌, suc, List, [], ◌∷◌, ◌++◌, Option, Some, None, Result, IfOk}
use Rattle.eeprom.specs.Chip.{Chip}
use Rattle.scql_model.specs.Database.{Database}
use Rattle.scql_model.specs.Lives.{after_all}
use Rattle.scql_model.specs.Machine.{Machine}
use Rattle.scql_model.specs.Replies.{Reply}
use Rattle.script.specs.Commands.{IsSendable}
use Rattle.card_link.specs.Link.{IsOneOf, LeavesOpen}
use Rattle.planner.specs.declared.closing.Closing.{Closing}
use Rattle.planner.specs.declared.step.Step.{Step}
use Rattle.planner.specs.declared.step.Step.TheVariants.{Send, Row, ResetCard, Done}
use Rattle.planner.specs.Held.{transaction_channel}
use Rattle.planner.specs.Meaning.{answer_to}
use Rattle.planner.specs.Planned.{IfSent, Planned, Turn, next_of}
use Rattle.planner.specs.Readings.{IsReadingAt}
use Rattle.planner.specs.Turns.{IfGoesOn, turns_left}
use Rattle.planner.specs.Running.{Ran, run, taken}
use Rattle.card_asking.specs.declared.mute.Mute.{Mute}

-- a plan's run to its end, and what is left of it at a step
abbrev pub whole_run : Machine → Option Reply → Planned → Ran
whole_run m last p = run (suc (turns_left p)) m last p

abbrev pub run_from : Machine → Planned → Step → Ran
run_from m p step = taken whole_run m p step

-- the run of a plan that takes its first step
abbrev pub run_of : Machine → Planned → Ran
run_of m p = run_from m (next_of None p).plan (next_of None p).step

-- the run of a plan that takes its first step only reads
abbrev pub OnlyReads : Planned → Type 0
OnlyReads p = IsReadingAt (next_of None p).plan (next_of None p).step

-- a run behind rows that were given before it, and databases that were committed
abbrev pub behind : List (List ℕ) → List Database → Ran → Ran
behind rows commits ran = record ran { rows = rows ++ ran.rows; commits = commits ++ ran.commits }

-- how many steps are left
abbrev pub to_go : Planned → Step → ℕ
to_go p (Done closing) = 0
to_go p step = suc (turns_left p)

-- a plan comes from a step to one that can be sent, and has fewer left
pub record ComesOn (p : Planned) (step : Step) (q : Planned) (next : Step) : Type 0 where
  pub next_sendable : IfSent next IsSendable
  pub less : IfGoesOn step (to_go q next < to_go p step)

-- the row that a step has, if it has one
abbrev pub given_by : Planned → Step → List (List ℕ)
given_by p (Row command) = p.row ∷ []
given_by p step = []

-- the reply to the command that a step sends; where it sends none the reply stays
abbrev pub heard_at : Machine → Step → Reply → Reply
heard_at m (Send command) before = (answer_to m command).reply
heard_at m (Row command) before = (answer_to m command).reply
heard_at m step before = before

-- how a plan goes on behind a step: by the reply to the command that it sent, if it sent one
abbrev pub turn_by : Planned → Step → Reply → Turn
turn_by p (Send command) reply = next_of (Some reply) p
turn_by p (Row command) reply = next_of (Some reply) p
turn_by p ResetCard reply = next_of None p
turn_by p (Done closing) reply = record { plan = p; step = Done closing }

-- A link that was at a machine and a step of a plan is at another machine and step: the run from there on follows these rows, and what was committed until then. A plan that
-- reads reads on, and keeps the open transaction.
pub record Follows {L : Type 0} (is_at : L → Machine → Type 0) (m : Machine) (p : Planned) (step : Step) (rows : List (List ℕ)) (q : Planned) (next : Step) (now : L) : Type 0 where
  pub machine : Machine
  pub commits : List Database
  pub at : is_at now machine
  pub left : run_from m p step ≡ behind rows commits (run_from machine q next)
  pub committed : machine.committed ≡ after_all m.committed commits
  pub reads : IsReadingAt p step → IsReadingAt q next × (transaction_channel machine ≡ transaction_channel m)

-- a link is at the machine after a run, which closed so
pub record IsEnded {L : Type 0} (is_at : L → Machine → Type 0) (ran : Ran) (closing : Closing) (now : L) : Type 0 where
  pub at : is_at now ran.machine
  pub closes : closing ≡ ran.closing

-- A plan was carried out on a card that was at a machine, where this is its run.
pub record RunsOver {L : Type 0} (is_at : L → Machine → Type 0) (mark : L → ℕ) (chip : L → Chip) (m : Machine) (ran : Ran) (result : Result Closing Mute) (old new : L) : Type 0 where
  -- The card is behind the run, unless it is mute.
  pub over : IfOk result (λ closing. IsEnded is_at ran closing new)
  -- A power loss leaves the database as it was, or one that the run commits.
  pub moments : LeavesOpen (IsOneOf (mark old) (m.committed ∷ ran.commits)) (chip old) (chip new)
