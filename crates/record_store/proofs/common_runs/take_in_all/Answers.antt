use Rattle.std.proofs.Common.{◌∙◌}
use Rattle.record_store.proofs.RunsOfCommon.{has-none, has-common, common-more}
use Rattle.record_store.proofs.common_runs.take_in_all.Goals.{then-first, else-first}
use Rattle.record_store.proofs.common_runs.take_in_all.Goals as goal

pub loop-slot-preserved : goal.loop-slot-preserved
loop-slot-preserved c = elim c.if-first.branch [
  | then-first w ↦ record {
    size = rw w.runs-is (w.take_in.ensures.size ∙ c.loop-slot.invariant.size);
    common = rw w.runs-is (common-more c.args.first_octets.now c.args.firsts.now c.loop-slot.runs w.take_in.new.self c.loop-slot.slot w.take_in.ensures.fewer c.loop-slot.invariant.common (λ from p. has-common c.args.first_octets.now _ (w.take_in.ensures.common from p)));
  }
  | else-first w ↦ record {
    size = rw w.runs-is c.loop-slot.invariant.size;
    common = rw w.runs-is (common-more c.args.first_octets.now c.args.firsts.now c.loop-slot.runs c.loop-slot.runs c.loop-slot.slot (λ from passed p. p) c.loop-slot.invariant.common (λ from p. has-none c.args.first_octets.now _ w.if-first.false));
  }
]
