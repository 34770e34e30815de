-- The line of a command is found in the table, or it isn't.
use Rattle.std.proofs.Common.{rules, ◌≡◌, sym, ◌∙◌}
use Rattle.scql_model.specs.Spelling.{part_by}
use Rattle.apdu.proofs.PartsWritten.{part-found, part-not_found}
use Rattle.apdu.proofs.writing.put_part.Goals as goal

pub returns-in_default : goal.returns-in_default
returns-in_default c = part-not_found c.args.command.now c.args.part c.kind_of.result c.args.field.now c.clear.new.self.items c.kind_of.ensures (sym c.in_default.is ∙ c.line_for.ensures) c.clear.ensures

pub returns : goal.returns
returns c =
    let written : c.put_apdu.new.out.items ≡ part_by c.in-Some.line c.args.command.now.channel c.args.command.now.le c.args.field.now c.args.part = search rules in
    part-found c.args.command.now c.args.part c.kind_of.result c.in-Some.line c.args.field.now c.put_apdu.new.out.items c.kind_of.ensures c.in-Some.ensures written
