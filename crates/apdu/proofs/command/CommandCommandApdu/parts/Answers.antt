use Rattle.std.proofs.Common.{ap, ◌∙◌}
use Rattle.scql_model.specs.Spelling.{parts_for}
use Rattle.apdu.proofs.PartsWritten.{field-short, size-there, one-part}
use Rattle.apdu.proofs.command.CommandCommandApdu.parts.Goals as goal

pub parts_for-requires : goal.parts_for-requires
parts_for-requires c = rw (size-there c.args.self.now c.in-Some.size c.in-Some.ensures) (field-short c.args.self.now c.requires)

pub returns-in-Some : goal.returns-in-Some
returns-in-Some c = c.parts_for.ensures ∙ ap parts_for (size-there c.args.self.now c.in-Some.size c.in-Some.ensures)

pub returns-in-None : goal.returns-in-None
returns-in-None c = one-part c.args.self.now c.requires c.in-None.ensures
