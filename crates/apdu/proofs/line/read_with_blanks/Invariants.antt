use Rattle.std.proofs.Common.{◌≡◌, ◌≤◌, ◌++◌, length, drop}
use Rattle.scql_model.specs.Lines as model
use Rattle.apdu.proofs.line.read_with_blanks.Given as goal

abbrev pub invariant-loop-octet : goal.invariant-loop-octet
invariant-loop-octet l = record {
  left : l.kept.items ++ model.without_blanks (drop l.octet-index l.line) ≡ model.without_blanks l.line;
  few : length l.kept.items ≤ l.octet-index;
  short : length l.line ≤ 1000;
}
