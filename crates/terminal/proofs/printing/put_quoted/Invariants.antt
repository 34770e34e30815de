use Rattle.std.proofs.Common.{◌≡◌, ◌++◌, ◌≤◌, ◌+◌, ◌*◌, length, take}
use Rattle.std.specs.Prelude.{codes}
use Rattle.std.specs.List.{flat_map}
use Rattle.planner.specs.Text.{quoted}
use Rattle.terminal.proofs.printing.put_quoted.Given as goal

abbrev pub invariant-loop-octet : goal.invariant-loop-octet
invariant-loop-octet l = record {
  text : l.text.items ≡ l.fn.text.items ++ (codes "'" ++ flat_map quoted (take l.octet-index l.value));
  size : length l.text.items ≤ length l.fn.text.items + 1 + 2 * l.octet-index;
}
