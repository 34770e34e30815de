-- The runs of statements of one command, or of none.
use Rattle.std.proofs.Common.{◌≡◌, ℕ, suc, Bool, List, None, refl, ap}
use Rattle.std.proofs.lemmas.List.{append-nil}
use Rattle.scql_base.specs.declared.operation.Operation.TheVariants.{OpenChannel, CloseChannel}
use Rattle.scql_model.specs.Machine.{Machine}
use Rattle.scql_model.specs.Database.{Database}
use Rattle.script.specs.declared.statement.Statement.{Statement}
use Rattle.script.specs.declared.statement.Statement.TheVariants.{Blank, Single, OpenNumber, CloseNumber, UseNumber, Reset}
use Rattle.script.specs.Commands.{asking}
use Rattle.planner.specs.Meaning.{meaning, single, answer_to}
use Rattle.planner.specs.Planned.{started}
use Rattle.planner.specs.Running.{run, shown, IsBrief}

pub brief-runs : (n : ℕ) (m : Machine) (channel : ℕ) (inside : Bool) (s : Statement) → IsBrief s
    → run (suc (suc n)) m None (started s channel inside) ≡ shown (meaning m channel s)
unfolding meaning
brief-runs n m channel inside Blank brief = refl
brief-runs n m channel inside (Single operation) brief = ap (λ (commits : List Database). record (shown (single m channel (asking channel operation))) { commits = commits }) (append-nil (answer_to m (asking channel operation)).commits)
brief-runs n m channel inside (OpenNumber number) brief = ap (λ (commits : List Database). record (shown (single m channel (asking 0 (OpenChannel number)))) { commits = commits }) (append-nil (answer_to m (asking 0 (OpenChannel number))).commits)
brief-runs n m channel inside (CloseNumber number) brief = ap (λ (commits : List Database). record (shown (single m channel (asking 0 (CloseChannel number)))) { commits = commits }) (append-nil (answer_to m (asking 0 (CloseChannel number))).commits)
brief-runs n m channel inside (UseNumber number) brief = refl
brief-runs n m channel inside Reset brief = refl
brief-runs n m channel inside s brief = absurd brief
