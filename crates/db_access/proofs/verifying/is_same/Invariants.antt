-- What was compared so far and what is left are all octets, and only secrets of one length are still the same.
use Rattle.std.proofs.Common.{◌≡◌, ◌&&◌, true, length, drop}
use Rattle.std.specs.Str.{bytes_eq}
use Rattle.db_access.proofs.verifying.is_same.Given as goal

abbrev pub invariant-loop-place : goal.invariant-loop-place
invariant-loop-place l = record {
  left : (l.same && bytes_eq (drop l.place l.given) (drop l.place l.kept)) ≡ bytes_eq l.given l.kept;
  long : l.same ≡ true → length l.given ≡ length l.kept;
}
