-- A plan of a SELECT: it sends reading commands alone.
use Rattle.std.specs.Prelude.{◌≡◌, false, IsSome}
use Rattle.scql_base.specs.declared.operation.Command.{Command}
use Rattle.scql_model.specs.ReadingCommands.{reading_command}
use Rattle.script.specs.declared.statement.Statement.{Statement}
use Rattle.script.specs.declared.statement.Statement.TheVariants.{Select}
use Rattle.planner.specs.declared.step.Step.{Step}
use Rattle.planner.specs.declared.step.Step.TheVariants.{Send, Row, ResetCard, Done}
use Rattle.planner.specs.Planned.{Planned}

abbrev pub IsSelect : Statement → Type 0
IsSelect (Select object columns conditions) = Unit {0}
IsSelect statement = ⊥

abbrev pub IsReading : Command → Type 0
IsReading c = IsSome (reading_command c.operation c.le)

-- a step sends a reading command, or it is the last
abbrev pub IsReadingStep : Step → Type 0
IsReadingStep (Send command) = IsReading command
IsReadingStep (Row command) = IsReading command
IsReadingStep ResetCard = ⊥
IsReadingStep (Done closing) = Unit {0}

-- a plan of a SELECT, which is in no transaction of its own, at such a step
pub record IsReadingAt (p : Planned) (step : Step) : Type 0 where
  pub select : IsSelect p.statement
  pub own : p.own ≡ false
  pub reads : IsReadingStep step
