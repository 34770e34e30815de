use Rattle.std.proofs.Common.{◌≡◌, ◌≤◌, ◌+◌, ◌*◌, length, take}
use Rattle.scql_base.specs.Row.{row_size}
use Rattle.planner.specs.Text.{values_text}
use Rattle.terminal.proofs.printing.put_row.Given as goal

abbrev pub invariant-loop-place : goal.invariant-loop-place
invariant-loop-place l = record {
  text : l.text.items ≡ values_text (take l.place l.row);
  size : length l.text.items ≤ 2 * row_size (take l.place l.row) + 3 * l.place;
}
