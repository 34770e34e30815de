use Rattle.std.proofs.Common.{◌∙◌}
use Rattle.scql_base.specs.Strings.{params_of}
use Rattle.apdu.proofs.FieldsRead.{three, granted-read, granted-unnamed, granted-nothing}
use Rattle.apdu.proofs.fields.granted_in.Goals as goal

pub returns-in_err-object-2 : goal.returns-in_err-object-2
returns-in_err-object-2 c =
    let whole = three (params_of c.args.octets.now) (params_of c.in_ok-privileges.rest.now) c.in_ok-privileges.privileges.now c.in_ok-object.object.now c.in_ok-grantee.grantee.now (params_of c.in_ok-object.rest.now)
    c.in_ok-privileges.ensures.some c.in_ok-object.ensures.some c.in_ok-grantee.ensures.some in
    c.from_residual-in_err-object-2.ensures
    ∙ granted-nothing (params_of c.args.octets.now) c.in_ok-privileges.privileges.now c.in_ok-object.object.now c.in_ok-grantee.grantee.now c.in_ok-privileges-2.privileges whole
    c.in_ok-privileges-2.ensures c.in_err-object-2.ensures.value

pub returns-in_err-grantee-2 : goal.returns-in_err-grantee-2
returns-in_err-grantee-2 c =
    let whole = three (params_of c.args.octets.now) (params_of c.in_ok-privileges.rest.now) c.in_ok-privileges.privileges.now c.in_ok-object.object.now c.in_ok-grantee.grantee.now (params_of c.in_ok-object.rest.now)
    c.in_ok-privileges.ensures.some c.in_ok-object.ensures.some c.in_ok-grantee.ensures.some in
    c.from_residual-in_err-grantee-2.ensures
    ∙ granted-unnamed (params_of c.args.octets.now) c.in_ok-privileges.privileges.now c.in_ok-object.object.now c.in_ok-grantee.grantee.now c.in_ok-privileges-2.privileges c.in_ok-object-2.object whole
    c.in_ok-privileges-2.ensures c.in_ok-object-2.ensures.value c.in_err-grantee-2.ensures.value

pub returns : goal.returns
returns c =
    let whole = three (params_of c.args.octets.now) (params_of c.in_ok-privileges.rest.now) c.in_ok-privileges.privileges.now c.in_ok-object.object.now c.in_ok-grantee.grantee.now (params_of c.in_ok-object.rest.now)
    c.in_ok-privileges.ensures.some c.in_ok-object.ensures.some c.in_ok-grantee.ensures.some in
    granted-read (params_of c.args.octets.now) c.in_ok-privileges.privileges.now c.in_ok-object.object.now c.in_ok-grantee.grantee.now c.in_ok-privileges-2.privileges c.in_ok-object-2.object c.in_ok-grantee-2.grantee whole
    c.in_ok-privileges-2.ensures c.in_ok-object-2.ensures.value c.in_ok-grantee-2.ensures.value
