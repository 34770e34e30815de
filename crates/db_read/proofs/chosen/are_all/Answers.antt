-- Each place is the next.
use Rattle.std.proofs.Common.{◌≡◌, ℕ, get_or, sym, ◌∙◌, List, arith}
use Rattle.std.proofs.lemmas.Bool.{eqb-true}
use Rattle.std.proofs.lemmas.List.{get_or_default}
use Rattle.db_read.proofs.CutRows.{first-all, first-more}
use Rattle.db_read.proofs.chosen.are_all.Goals as goal

pub loop-place-preserved : goal.loop-place-preserved
loop-place-preserved c =
    let places : List ℕ = c.args.places.now in
    let i : ℕ = c.loop-place.place-index in
    let is : c.from.result ≡ get_or places i c.from.result = c.from.ensures ∙ get_or_default places i 0 c.from.result c.loop-place-test.true in
    record {
      counted = omega (arith, c.loop-place.invariant.counted);
      first = first-more places i c.from.result c.loop-place-test.true is (c.if-from-next.false ∙ c.loop-place.invariant.counted) c.loop-place.invariant.first;
    }

pub returns : goal.returns
returns c = λ same values count.
    first-all c.args.places.now c.loop-place.place-index values c.loop-place-test.false (count ∙ (sym (eqb-true c.loop-place.next c.args.count same) ∙ c.loop-place.invariant.counted)) c.loop-place.invariant.first
