-- Its octets are read as an object.
use Rattle.std.proofs.Common.{◌∙◌}
use Rattle.card.proofs.SpelledKinds.{object-spelled}
use Rattle.card.proofs.spelled_record.SpelledRecord.object_into.Goals as goal

pub returns : goal.returns
returns c = c.read_into.ensures ∙ object-spelled c.self.inside.slot c.self.inside.octets.now c.args.self.now c.self.invariant.0 c.self.view_is
