use Rattle.std.proofs.Common.{Some, None}
use Rattle.scql_base.specs.Strings.{params_of}
use Rattle.apdu.proofs.FieldsRead.{three, created-read, created-unnamed}
use Rattle.apdu.proofs.fields.read_create_user.Goals as goal

pub returns-in_err-name-2 : goal.returns-in_err-name-2
returns-in_err-name-2 c =
    let whole = three (params_of c.args.octets.now) (params_of c.in_ok-name.rest.now) c.in_ok-name.name.now c.in_ok-profile.profile.now c.in_ok-secret.secret.now (params_of c.in_ok-profile.rest.now)
    c.in_ok-name.ensures.some c.in_ok-profile.ensures.some c.in_ok-secret.ensures.some in
    rw c.from_residual-in_err-name-2.ensures
    (created-unnamed (params_of c.args.octets.now) c.args.secrets c.in_ok-name.name.now c.in_ok-profile.profile.now c.in_ok-secret.secret.now c.in_ok-profile-2.profile whole
    c.in_ok-profile-2.ensures c.in_err-name-2.ensures.value)

pub returns-in_err-secret-2 : goal.returns-in_err-secret-2
returns-in_err-secret-2 c =
    let whole = three (params_of c.args.octets.now) (params_of c.in_ok-name.rest.now) c.in_ok-name.name.now c.in_ok-profile.profile.now c.in_ok-secret.secret.now (params_of c.in_ok-profile.rest.now)
    c.in_ok-name.ensures.some c.in_ok-profile.ensures.some c.in_ok-secret.ensures.some in
    rw c.from_residual-in_err-secret-2.ensures
    (created-read (params_of c.args.octets.now) c.args.secrets c.in_ok-name.name.now c.in_ok-profile.profile.now c.in_ok-secret.secret.now c.in_ok-profile-2.profile (Some c.in_ok-name-2.name) None whole
    c.in_ok-profile-2.ensures c.in_ok-name-2.ensures.value c.in_err-secret-2.ensures)

pub returns : goal.returns
returns c =
    let whole = three (params_of c.args.octets.now) (params_of c.in_ok-name.rest.now) c.in_ok-name.name.now c.in_ok-profile.profile.now c.in_ok-secret.secret.now (params_of c.in_ok-profile.rest.now)
    c.in_ok-name.ensures.some c.in_ok-profile.ensures.some c.in_ok-secret.ensures.some in
    created-read (params_of c.args.octets.now) c.args.secrets c.in_ok-name.name.now c.in_ok-profile.profile.now c.in_ok-secret.secret.now c.in_ok-profile-2.profile (Some c.in_ok-name-2.name) (Some c.in_ok-secret-2.secret) whole
    c.in_ok-profile-2.ensures c.in_ok-name-2.ensures.value c.in_ok-secret-2.ensures
