-- A statement's run is its meaning, for a link's machine.
use Rattle.std.proofs.Common.{◌≡◌, ℕ, suc, ◌==◌, Bool, true, false, Option, Some, None, is_some, if◌then◌else◌, sym, ◌∙◌, subst, arith}
use Rattle.std.specs.Prelude.{IfSome}
use Rattle.scql_model.specs.Database.{IsValid}
use Rattle.scql_model.specs.Machine.{Machine, Transaction, base, base_of}
use Rattle.scql_model.specs.Transactions.{own_transaction}
use Rattle.card_link.specs.Link.{HasValidData}
use Rattle.script.specs.declared.statement.Statement.{Statement}
use Rattle.script.specs.Commands.{CanBeSent}
use Rattle.planner.specs.Meaning.{meaning}
use Rattle.planner.specs.Planned.{Planned, started}
use Rattle.planner.specs.Turns.{turns_left}
use Rattle.planner.specs.Running.{shown, RunsTo}
use Rattle.planner.proofs.Statements.{statement-runs}
use Rattle.card_asking.specs.Following.{run_of}
use Rattle.card_asking.proofs.Followed.{whole-step}

pub base-valid : (m : Machine) (channel : ℕ) → HasValidData m → IsValid (base m channel)
base-valid m channel over = go m.transaction over.transaction
  where
    mine : (t : Transaction) (b : Bool) → IsValid t.working → IsValid (if b then t.working else m.committed)
    mine t true valid = valid
    mine t false valid = over.committed

    go : (t : Option Transaction) → IfSome t (λ (t : Transaction). IsValid t.working) → IsValid (base_of t m.committed channel)
    go None valid = over.committed
    go (Some t) valid = mine t (t.channel == channel) valid

pub run-meant : (m : Machine) (channel : ℕ) (s : Statement) (inside : Bool) → HasValidData m → CanBeSent channel s → inside ≡ is_some (own_transaction m.transaction channel)
    → run_of m (started s channel inside) ≡ shown (meaning m channel s)
run-meant m channel s inside over can is =
    let p : Planned = started s channel inside in
    let runs : RunsTo m p (shown (meaning m channel s)) =
    subst (λ (inside : Bool). RunsTo m (started s channel inside) (shown (meaning m channel s))) (sym is) (statement-runs m channel (base-valid m channel over) s can) in
    sym (whole-step m None p) ∙ runs.runs (suc (turns_left p)) (omega arith)
