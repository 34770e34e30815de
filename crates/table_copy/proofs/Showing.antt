-- How many rows a copy has passed, turn after turn.
use Rattle.std.proofs.Common.{◌≡◌, ◌⊎◌, ℕ, suc, ◌+◌, ◌≤◌, ◌<◌, arith, Bool, true, false, refl, inl, inr}
use Rattle.std.specs.Int.{from_bool}
use Rattle.planner.specs.declared.stage.Stage.{Stage}
use Rattle.planner.specs.declared.step.Step.{Step}
use Rattle.planner.specs.declared.step.Step.TheVariants.{Send, Row, ResetCard, Done}
use Rattle.planner.specs.Planned.{Planned}
use Rattle.planner.specs.Turns.{IfGoesOn, turns_at}
use Rattle.planner.specs.declared.closing.Closing.{Closing}
use Rattle.planner.specs.declared.stage.Stage.TheVariants.{Start, Alone, Beginning, Declaring, Opening, Fetching, Changing, Moving, Committing, RollingBack, Ended}
use Rattle.card_asking.specs.Following.{to_go}
use Rattle.table_copy.specs.Filling.{with_row}

-- A step has one row or none.
pub step-rows : (had_row : Bool) (rows one : ℕ) → one ≡ from_bool had_row → rows + one ≡ with_row had_row rows
step-rows true rows one is = omega (arith, is)
step-rows false rows one is = omega (arith, is)

pub one-or-none : (had_row : Bool) (rows one : ℕ) → one ≡ from_bool had_row → (rows + one ≡ rows) ⊎ (rows + one ≡ suc rows)
one-or-none true rows one is = inr (omega (arith, is))
one-or-none false rows one is = inl (omega (arith, is))

pub one-at-most : (had_row : Bool) (one : ℕ) → one ≡ from_bool had_row → one ≤ 1
one-at-most true one is = omega (arith, is)
one-at-most false one is = omega (arith, is)

-- A plan has few steps.
turns-few : (stage : Stage) (p : Planned) → turns_at stage p ≤ 10250
turns-few Start p = omega arith
turns-few Beginning p = omega arith
turns-few Declaring p = omega arith
turns-few Opening p = omega arith
turns-few Fetching p = omega arith
turns-few Changing p = omega arith
turns-few Moving p = omega arith
turns-few Committing p = omega arith
turns-few Alone p = omega arith
turns-few (RollingBack word) p = omega arith
turns-few (Ended closing) p = omega arith

pub to_go-few : (p : Planned) (step : Step) → to_go p step ≤ 10251
to_go-few p (Send command) = let few = turns-few p.stage p in omega arith
to_go-few p (Row command) = let few = turns-few p.stage p in omega arith
to_go-few p ResetCard = let few = turns-few p.stage p in omega arith
to_go-few p (Done closing) = omega arith

-- Each step that isn't the last one is one less, and has at most one row.
goes-on : (step : Step) (P : Type 0) → ((closing : Closing) → step ≡ Done closing → ⊥) → IfGoesOn step P → P
goes-on (Send command) P going less = less
goes-on (Row command) P going less = less
goes-on ResetCard P going less = less
goes-on (Done closing) P going less = absurd (going closing refl)

one-more : (had_row : Bool) (rows : ℕ) → with_row had_row rows ≤ rows + 1
one-more true rows = omega arith
one-more false rows = omega arith

pub few-left : (step : Step) (had_row : Bool) (before after left next all : ℕ) → ((closing : Closing) → step ≡ Done closing → ⊥) → after ≡ with_row had_row before → before + left ≤ all → IfGoesOn step (next < left) → after + next ≤ all
few-left step had_row before after left next all going is few less = let fewer : next < left = goes-on step (next < left) going less in let more = one-more had_row before in omega arith
