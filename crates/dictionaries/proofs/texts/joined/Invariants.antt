use Rattle.std.proofs.Common.{◌≡◌, ◌*◌, ◌≤◌, [], length, drop}
use Rattle.dictionaries.proofs.Joining.{joined_onto}
use Rattle.dictionaries.proofs.texts.joined.Given as goal

abbrev pub invariant-loop-name : goal.invariant-loop-name
invariant-loop-name l = record {
  text : joined_onto [] l.names ≡ joined_onto l.text.items (drop l.name-index l.names);
  short : length l.text.items ≤ 9 * l.name-index;
}
