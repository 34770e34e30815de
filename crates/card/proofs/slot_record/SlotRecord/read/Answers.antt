-- The octets of which a stamp was read are a record of that stamp.
use Rattle.card.proofs.Pooled.{spelled}
use Rattle.card.proofs.slot_record.SlotRecord.read.Goals as goal

pub invariant_of-result : goal.invariant_of-result
invariant_of-result c = spelled c.args.slot c.args.octets.now c.in_ok-stamp.stamp (c.in_ok-stamp.ensures.stamp c.args.slot)

pub returns-clause-other : goal.returns-clause-other
returns-clause-other c = (spelled c.args.slot c.args.octets.now c.in_ok-stamp.stamp (c.in_ok-stamp.ensures.stamp c.args.slot)).0
