use Rattle.std.proofs.Common.{◌≡◌, length}
use Rattle.cell_store.proofs.Freeing.{Freeing}
use Rattle.cell_store.proofs.marks.unmark_chain.Given as goal

abbrev pub invariant-loop-step : goal.invariant-loop-step
invariant-loop-step l = record {
  freeing : Freeing l.links l.fn.marks l.marks l.first l._step l.cell;
  count : length l.marks ≡ length l.fn.marks;
}
