use Rattle.std.proofs.Common.{◌≡◌, [], Some, None, length, option_map, unwrap_or, ap}
use Rattle.scql_base.specs.Strings.{params_of}
use Rattle.scql_base.proofs.Splitting.{AreParams-from_params_of, params_of-from_AreParams, splits_counted}
use Rattle.scql_base.proofs.params.Params.read.Goals as goal

pub returns-in_err-count-clause-only : goal.returns-in_err-count-clause-only
returns-in_err-count-clause-only c = λ strings are.
    let none : None ≡ option_map length (params_of c.args.octets.now) = c.in_err-count.ensures in
    absurd (let no : None ≡ Some (length strings) = rw (params_of-from_AreParams c.args.octets.now strings are) at none in cc)

pub returns-clause-found : goal.returns-clause-found
returns-clause-found c = AreParams-from_params_of _ c.args.octets.now (splits_counted (params_of c.args.octets.now) c.in_ok-count.count c.in_ok-count.ensures)

pub returns-clause-only : goal.returns-clause-only
returns-clause-only c = λ strings are. ap (λ found. Some (unwrap_or found [])) (params_of-from_AreParams c.args.octets.now strings are)
