-- The text so far, and the names that are left with a comma before each, make the whole.
use Rattle.std.proofs.Common.{◌≡◌, ◌+◌, ◌*◌, ◌≤◌, ◌∷◌, ◌++◌, length, drop}
use Rattle.std.specs.List.{join_with_byte}
use Rattle.plain_reading.proofs.JoinedNames.{commas}
use Rattle.plain_reading.proofs.texts.joined_to.Given as goal

abbrev pub invariant-loop-name : goal.invariant-loop-name
invariant-loop-name l = record {
  text : join_with_byte 0x2C (l.fn.first ∷ l.others) ≡ l.text.items ++ commas (drop l.name-index l.others);
  short : length l.text.items ≤ 8 + 9 * l.name-index;
}
