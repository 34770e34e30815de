-- The rows that a plan of a SELECT is still to give: at its first step, behind each step, and at its last.
use Rattle.std.proofs.Common.{◌≡◌, ℕ, Bool, true, List, [], ◌∷◌, ◌++◌, map, is_some, None, refl, sym, ◌∙◌, ap, subst, inl, inr}
use Rattle.std.specs.List.{AllByRecursion}
use Rattle.scql_base.specs.declared.operation.Command.{Command}
use Rattle.scql_model.specs.Database.{Database}
use Rattle.scql_base.specs.declared.condition.Condition.{Condition}
use Rattle.scql_model.specs.Machine.{Machine, base}
use Rattle.scql_model.specs.Matching.{Columns, Values}
use Rattle.scql_model.specs.ReadingCommands.{row_octets}
use Rattle.scql_model.specs.Records.{is_row}
use Rattle.scql_model.specs.Sessions.{is_channel_open}
use Rattle.scql_model.specs.Shown.{shown_on}
use Rattle.scql_model.proofs.ReadingIsShown.{IsReadable-valid}
use Rattle.scql_model.specs.Transactions.{own_transaction}
use Rattle.card_link.specs.Link.{Holds, IsOneOf, HasValidData}
use Rattle.script.specs.declared.statement.Statement.{Statement}
use Rattle.script.specs.declared.statement.Statement.TheVariants.{Select}
use Rattle.script.specs.Commands.{CanBeSent}
use Rattle.planner.specs.declared.closing.Closing.{Closing}
use Rattle.planner.specs.declared.step.Step.{Step}
use Rattle.planner.specs.declared.step.Step.TheVariants.{Send, Row, ResetCard, Done}
use Rattle.planner.specs.Meaning.{meaning}
use Rattle.planner.specs.Planned.{Planned, next_of, started}
use Rattle.planner.specs.Readings.{IsSelect}
use Rattle.planner.specs.Running.{Ran, shown}
use Rattle.planner.specs.Selecting.{closing_given, select_shown}
use Rattle.planner.proofs.Readings.{started-reads}
use Rattle.planner.proofs.SelectsShown.{select-reads}
use Rattle.scql_model.specs.Lives.{after_all}
use Rattle.card_asking.specs.Following.{Follows, run_from, run_of, given_by}
use Rattle.card_asking.specs.Giving.{GivesShown, GivesRows, behind_step, IsNextRow, AreAllGiven, GivesMeaning}
use Rattle.card_asking.proofs.Followed.{none-before, none-behind}
use Rattle.card_asking.proofs.Meant.{base-valid, run-meant}
use Rattle.card_asking.proofs.Sound.{sound, select-commits}

-- What is left of the rows behind a step.
record LeavesRows (step : Step) (rows : List Values) (left : List (List ℕ)) : Type 0 where
  same : left ≡ map row_octets (behind_step step rows)
  formed : AllByRecursion (λ (values : Values). is_row values ≡ true) (behind_step step rows)

behind-row : (c : Command) (octets : List ℕ) (rows : List Values) (left : List (List ℕ)) → octets ∷ left ≡ map row_octets rows → AllByRecursion (λ (values : Values). is_row values ≡ true) rows → LeavesRows (Row c) rows left
behind-row c octets [] left is formed = absurd cc
behind-row c octets (values ∷ rest) left is formed = record { same = let tails : left ≡ map row_octets rest = cc in tails; formed = formed.1 }

rows-behind : (p : Planned) (step : Step) (rows : List Values) (left : List (List ℕ)) → given_by p step ++ left ≡ map row_octets rows → AllByRecursion (λ (values : Values). is_row values ≡ true) rows → LeavesRows step rows left
rows-behind p (Send c) rows left is formed = record { same = is; formed = formed }
rows-behind p (Row c) rows left is formed = behind-row c p.row rows left is formed
rows-behind p ResetCard rows left is formed = record { same = is; formed = formed }
rows-behind p (Done closing) rows left is formed = record { same = is; formed = formed }

-- what is left behind a step that was followed
pub gives-on : {L : Type 0} (is_at : L → Machine → Type 0) (m : Machine) (closing : Closing) (last : Machine) (rows : List Values) (p q : Planned) (step next : Step) (old new : L)
    → (gives : GivesRows is_at m closing last rows p step old) → Follows is_at gives.machine p step (given_by p step) q next new → GivesRows is_at m closing last (behind_step step rows) q next new
gives-on is_at m closing last rows p q step next old new gives e =
    let reads = e.reads gives.reads in
    let left = rows-behind p step rows (run_from e.machine q next).rows (sym (ap (λ (ran : Ran). ran.rows) e.left) ∙ gives.rows_left) gives.formed in
    let silent : e.commits ++ (run_from e.machine q next).commits ≡ [] = sym (ap (λ (ran : Ran). ran.commits) e.left) ∙ gives.silent in
    record {
      machine = e.machine;
      at = e.at;
      like = record {
        committed = e.committed ∙ (ap (after_all gives.machine.committed) (none-before e.commits (run_from e.machine q next).commits silent) ∙ gives.like.committed);
        transaction = reads.1 ∙ gives.like.transaction;
      };
      reads = reads.0;
      rows_left = left.same;
      formed = left.formed;
      closes = sym (ap (λ (ran : Ran). ran.closing) e.left) ∙ gives.closes;
      ends = sym (ap (λ (ran : Ran). ran.machine) e.left) ∙ gives.ends;
      silent = none-behind e.commits (run_from e.machine q next).commits silent;
    }

-- a step with a row has the first of those that are left
pub next-row : {L : Type 0} (is_at : L → Machine → Type 0) (m : Machine) (closing : Closing) (last : Machine) (rows : List Values) (p : Planned) (c : Command) (now : L) → GivesRows is_at m closing last rows p (Row c) now → IsNextRow rows p.row
next-row is_at m closing last [] p c now gives = absurd (let none : p.row ∷ (run_from gives.machine p (Send c)).rows ≡ [] = gives.rows_left in cc)
next-row is_at m closing last (values ∷ rest) p c now gives = record {
  values = values;
  rest = rest;
  split = refl;
  octets = let heads : p.row ∷ (run_from gives.machine p (Send c)).rows ≡ row_octets values ∷ map row_octets rest = gives.rows_left in cc;
  formed = gives.formed.0;
}

-- at the last step none are left
pub all-given : {L : Type 0} (is_at : L → Machine → Type 0) (m : Machine) (closing : Closing) (last : Machine) (rows : List Values) (p : Planned) (closed : Closing) (now : L) → GivesRows is_at m closing last rows p (Done closed) now
    → AreAllGiven is_at closing last rows closed now
all-given is_at m closing last [] p closed now gives = record { none = refl; closes = gives.closes; at = subst (is_at now) gives.ends gives.at }
all-given is_at m closing last (values ∷ rest) p closed now gives = absurd (let none : [] ≡ row_octets values ∷ map row_octets rest = gives.rows_left in cc)

-- a SELECT in and outside of its channel's transaction
either-inside : (s : Statement) (channel : ℕ) (one other : Bool) → IsSelect s → started s channel one ≡ started s channel other
either-inside (Select object columns conditions) channel one other is = refl
either-inside s channel one other is = absurd is

select-silent : (m : Machine) (channel : ℕ) (s : Statement) → HasValidData m → CanBeSent channel s → IsSelect s → (meaning m channel s).commits ≡ []
select-silent m channel (Select object columns conditions) over can is = select-commits m channel object columns conditions
select-silent m channel s over can is = absurd is

-- at its first step a SELECT is to give the rows of its meaning
pub gives-first : {L : Type 0} (is_at : L → Machine → Type 0) (m : Machine) (channel : ℕ) (s : Statement) (inside : Bool) (now : L) → IsSelect s → HasValidData m → CanBeSent channel s → is_at now m
    → GivesMeaning is_at m channel s (next_of None (started s channel inside)).plan (next_of None (started s channel inside)).step now
gives-first is_at m channel s inside now is over can at =
    let own : Bool = is_some (own_transaction m.transaction channel) in
    let p : Planned = started s channel inside in
    let ran : run_of m p ≡ shown (meaning m channel s) = ap (run_of m) (either-inside s channel inside own is) ∙ run-meant m channel s own over can refl in
    record {
      machine = m;
      at = at;
      like = record { committed = refl; transaction = refl };
      reads = started-reads s channel inside is;
      rows_left = ap (λ (ran : Ran). ran.rows) ran;
      formed = (sound m channel s over can).formed;
      closes = ap (λ (ran : Ran). ran.closing) ran;
      ends = ap (λ (ran : Ran). ran.machine) ran;
      silent = ap (λ (ran : Ran). ran.commits) ran ∙ select-silent m channel s over can is;
    }

-- so, on an open channel, the rows that are shown there
pub gives-shown : {L : Type 0} (is_at : L → Machine → Type 0) (m : Machine) (channel : ℕ) (object : List ℕ) (columns : Columns) (conditions : List Condition) (inside : Bool) (now : L) → is_channel_open m channel ≡ true
    → HasValidData m → CanBeSent channel (Select object columns conditions) → is_at now m
    → GivesShown is_at m channel object columns conditions (next_of None (started (Select object columns conditions) channel inside)).plan (next_of None (started (Select object columns conditions) channel inside)).step now
gives-shown is_at m channel object columns conditions inside now opened over can at =
    let s : Statement = Select object columns conditions in
    let reads = select-reads m channel object columns conditions opened (IsReadable-valid (base m channel) (base-valid m channel over)) in
    let turn = next_of None (started s channel inside) in
    subst (λ (rows : List Values). GivesRows is_at m (closing_given (select_shown (shown_on m channel) object columns conditions)) (meaning m channel s).machine rows turn.plan turn.step now) reads.rows
    (subst (λ (closing : Closing). GivesRows is_at m closing (meaning m channel s).machine (meaning m channel s).rows turn.plan turn.step now) reads.closing (gives-first is_at m channel s inside now tt over can at))

-- a moment of a step of such a plan
pub gives-still : {L : Type 0} (is_at : L → Machine → Type 0) (mark : ℕ) (m : Machine) (closing : Closing) (last : Machine) (rows : List Values) (p : Planned) (step : Step) (old : L) (g : ℕ) (left : Database)
    → (gives : GivesRows is_at m closing last rows p step old) → IsOneOf mark (gives.machine.committed ∷ (run_from gives.machine p step).commits) g left → Holds mark m.committed g left
gives-still is_at mark m closing last rows p step old g left gives is = go (subst (λ (commits : List Database). IsOneOf mark (gives.machine.committed ∷ commits) g left) gives.silent is)
  where
    go : IsOneOf mark (gives.machine.committed ∷ []) g left → Holds mark m.committed g left
    go (inl here) = (here.0, here.1 ∙ gives.like.committed)
    go (inr none) = absurd none
