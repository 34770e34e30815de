-- Its octets are read as one of the kind.
use Rattle.std.proofs.Common.{◌∙◌}
use Rattle.card.proofs.SpelledKinds.{grant-spelled}
use Rattle.card.proofs.spelled_record.SpelledRecord.grant.Goals as goal

pub returns : goal.returns
returns c = c.decode.ensures.value ∙ grant-spelled c.self.inside.slot c.self.inside.octets.now c.args.self.now c.self.invariant.0 c.self.view_is
