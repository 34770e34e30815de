use Rattle.std.proofs.Common.{◌∙◌, sym}
use Rattle.record_store.proofs.Tagging.{passed-together}
use Rattle.record_store.proofs.tags.next_with.Goals as goal

pub loop-slot-preserved : goal.loop-slot-preserved
loop-slot-preserved g c = passed-together g.T.PartialEq.eq c.args.tags.now c.args.tag c.args.from c.loop-slot.slot 16 c.requires.few c.loop-slot-test.true (sym c.is_among.ensures ∙ c.if-not-is_among.true) c.loop-slot.invariant
