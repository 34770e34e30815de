use Rattle.std.proofs.Common.{◌≡◌}
use Rattle.row_index.proofs.Filling.{IsFilled}
use Rattle.row_index.proofs.side_rows.SideRows.fill.Given as goal

abbrev pub invariant-loop-place : goal.invariant-loop-place
invariant-loop-place l = record {
  cells : l.self.cells ≡ l.fn.self.cells;
  filled : IsFilled l.fn.self.cells l.stamps l.places l.self.rows l.place-index;
}
