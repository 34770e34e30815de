-- The octets so far, and one more.
use Rattle.std.proofs.Common.{arith}
use Rattle.std.proofs.lemmas.Bool.{and_parts}
use Rattle.db_access.proofs.Comparing.{compared-all, compared-more}
use Rattle.db_access.proofs.verifying.is_same.Goals as goal

pub loop-place-preserved : goal.loop-place-preserved
loop-place-preserved c =
    let within = c.loop-place-test.true in
    record {
      left = compared-more c.loop-place.same c.args.given.now c.args.kept.now c.loop-place.place _ (omega arith) (omega (arith, within, c.min-place-end.ensures)) (omega (arith, within, c.min-place-end.ensures)) c.loop-place.invariant.left;
      long = λ same. c.loop-place.invariant.long (and_parts c.loop-place.same _ same).0;
    }

pub returns : goal.returns
returns c = compared-all c.loop-place.same c.args.given.now c.args.kept.now c.loop-place.place (omega (arith, c.loop-place-test.false, c.min-place-end.ensures)) c.loop-place.invariant.long c.loop-place.invariant.left
