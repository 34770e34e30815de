use Rattle.std.proofs.Common.{Some, subst, sym, ◌≡◌}
use Rattle.scql_base.specs.declared.operation.Operation.{Operation}
use Rattle.apdu.specs.Writing.{size_in_parts}
use Rattle.apdu.proofs.PartsWritten.{size-fits}
use Rattle.apdu.proofs.command.field_fits.Goals as goal

pub returns-in-Some : goal.returns-in-Some
returns-in-Some c = λ command is. size-fits command c.in-Some.size (subst (λ (operation : Operation). Some c.in-Some.size ≡ size_in_parts operation) (sym is) c.in-Some.ensures)
