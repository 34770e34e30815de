use Rattle.std.proofs.Common.{Some, None, ap, ◌∙◌}
use Rattle.std.specs.Prelude.{option_map}
use Rattle.scql_base.specs.Strings.{params_of}
use Rattle.apdu.specs.Fields.{choice_of}
use Rattle.apdu.proofs.FieldsRead.{choice-read}
use Rattle.apdu.proofs.fields.choice_in.Goals as goal

pub returns-in_err-conditions : goal.returns-in_err-conditions
returns-in_err-conditions c =
    ap (option_map choice_of) c.from_residual-in_err-conditions.ensures
    ∙ choice-read c.in_ok-string.string.now (params_of c.args.octets.now) (params_of c.in_ok-string.rest.now) c.in_ok-count.count c.in_ok-columns.columns (params_of c.in_ok-columns.rest.now) None
    c.in_ok-string.ensures.some c.in_ok-count.ensures (rw c.from.ensures at c.in_ok-columns.ensures) c.in_err-conditions.ensures

pub returns : goal.returns
returns c =
    choice-read c.in_ok-string.string.now (params_of c.args.octets.now) (params_of c.in_ok-string.rest.now) c.in_ok-count.count c.in_ok-columns.columns (params_of c.in_ok-columns.rest.now) (Some c.in_ok-conditions.conditions)
    c.in_ok-string.ensures.some c.in_ok-count.ensures (rw c.from.ensures at c.in_ok-columns.ensures) c.in_ok-conditions.ensures
