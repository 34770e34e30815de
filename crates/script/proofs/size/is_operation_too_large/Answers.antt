use Rattle.std.proofs.Common.{◌≡◌, false, None, refl, sym, ◌∙◌}
use Rattle.scql_base.specs.declared.operation.Command.{Command}
use Rattle.script.specs.Sizes as sizes
use Rattle.script.proofs.size.is_operation_too_large.Goals as goal

pub returns-else-has_long_row : goal.returns-else-has_long_row
returns-else-has_long_row c =
    let command : Command = record { channel = 0; operation = c.args.operation.now; le = None } in
    let short : sizes.has_long_row c.args.operation.now ≡ false = sym c.has_long_row.ensures ∙ c.if-has_long_row.false in
    rw (short, c.field_fits.ensures command refl) refl
