use Rattle.std.proofs.Common.{◌≡◌, false, ◌∙◌, ap, arith, option_map}
use Rattle.scql_base.specs.Strings.{params_of}
use Rattle.scql_base.specs.Name.{is_name}
use Rattle.apdu.specs.Fields as fields
use Rattle.apdu.proofs.ListsRead.{name-none}
use Rattle.apdu.proofs.NamesRead.{names-unnamed}
use Rattle.apdu.proofs.lists.names_in.Goals as goal

pub returns-in_err-read : goal.returns-in_err-read
returns-in_err-read c =
    let unnamed : is_name c.in_ok-string.string.now ≡ false = name-none c.in_ok-string.string.now c.in_err-read.ensures.value in
    ap (λ r. fields.read_before (option_map (λ x. (x.0, x.1.now)) r)) c.from_residual-in_err-read.ensures
    ∙ names-unnamed c.args.count c.loop.names c.in_ok-string.string.now (params_of c.loop.rest.now) (params_of c.in_ok-string.after.now) (params_of c.args.octets.now)
    c.loop.invariant.split c.in_ok-string.ensures.some (omega (arith, c.loop.invariant.size, c.loop-test.true)) unnamed
