use Rattle.std.proofs.Common.{◌≡◌, ℕ, ◌+◌}
use Rattle.card.specs.KeptRecords.{objects_in}
use Rattle.card.proofs.Founding.{reaches}
use Rattle.card.proofs.founded.may_have_view.Given as goal

abbrev pub invariant-loop-step : goal.invariant-loop-step
invariant-loop-step l = record {
  reached : (n : ℕ) → n + l._step ≡ 4 → reaches 4 (objects_in l.records.items) l.fn.stamp ≡ reaches n (objects_in l.records.items) l.stamp;
}
