-- The field that is put together is the command's.
use Rattle.std.proofs.Common.{ap, ◌∙◌}
use Rattle.apdu.specs.Writing.{with_more}
use Rattle.scql_model.specs.Spelling.{field_of}
use Rattle.apdu.proofs.PartsWritten.{the_field, part-own}
use Rattle.apdu.proofs.command.write_field.Goals as goal

pub returns : goal.returns
returns c =
    let command = c.args.part.now.command.now in
    let field = the_field command c.written.result.now c.put_operation.new.self c.args.part.now.fits (c.put_operation.ensures ∙ ap (with_more (field_of command.operation)) c.new-field.ensures) c.written.ensures in
    part-own command c.args.part.now.place _ _ field.same c.put_part.ensures
