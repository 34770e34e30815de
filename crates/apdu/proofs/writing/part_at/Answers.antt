use Rattle.apdu.proofs.PartsWritten.{part-taken}
use Rattle.apdu.proofs.writing.part_at.Goals as goal

pub returns-clause-part : goal.returns-clause-part
returns-clause-part c = part-taken c.min.result c.from.result c.args.place c.args.field.now c.from.ensures c.min.ensures
