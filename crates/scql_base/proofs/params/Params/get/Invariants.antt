-- So many strings are behind as rounds were made.
use Rattle.std.proofs.Common.{◌≡◌, Some, drop}
use Rattle.scql_base.specs.Strings.{params_of}
use Rattle.scql_base.proofs.params.Params.get.Given as goal

abbrev pub invariant-loop : goal.invariant-loop
invariant-loop l = params_of l.rest ≡ Some (drop l.counter l.self)
