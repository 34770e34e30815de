-- How many steps a plan may still take, whatever it is answered.
use Rattle.std.specs.Prelude.{ℕ, ◌+◌, ◌-◌, ◌*◌}
use Rattle.planner.specs.declared.stage.Stage.{Stage}
use Rattle.planner.specs.declared.stage.Stage.TheVariants.{Start, Alone, Beginning, Declaring, Opening, Fetching, Changing, Moving, Committing, RollingBack, Ended}
use Rattle.planner.specs.declared.step.Step.{Step}
use Rattle.planner.specs.declared.step.Step.TheVariants.{Done}
use Rattle.planner.specs.Planned.{Planned, most_rows, most_responses}

-- for each row that may still come at most five: a fetch, three times the rest of the row, and what may follow
abbrev pub for_rows : Planned → ℕ
for_rows p = 5 * (most_rows - p.rows)

abbrev pub turns_at : Stage → Planned → ℕ
turns_at Start p = for_rows p + 10
turns_at Beginning p = for_rows p + 9
turns_at Declaring p = for_rows p + 8
turns_at Opening p = for_rows p + 7
turns_at Fetching p = for_rows p + 3 + (most_responses - p.responses)
turns_at Changing p = for_rows p + 8
turns_at Moving p = for_rows p + 7
turns_at Committing p = 2
turns_at Alone p = 1
turns_at (RollingBack word) p = 1
turns_at (Ended closing) p = 0

abbrev pub turns_left : Planned → ℕ
turns_left p = turns_at p.stage p

-- a step is the last one, or else this holds
abbrev pub IfGoesOn : Step → Type 0 → Type 0
IfGoesOn (Done closing) P = Unit {0}
IfGoesOn step P = P
