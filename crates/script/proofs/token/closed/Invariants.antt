-- What the octets from here on make of the literal, with the last end so far where they make nothing of it.
use Rattle.std.proofs.Common.{◌≡◌, ◌+◌, true, false}
use Rattle.script.proofs.Closing.{literal_end}
use Rattle.script.proofs.token.closed.Given as goal

abbrev pub invariant-loop-i : goal.invariant-loop-i
invariant-loop-i l = record {
  ends : literal_end l.behind l.i l.len l.rest ≡ literal_end false 0 0 l.rest;
  behind : l.behind ≡ true → l.len ≡ l.i + 1;
}
