use Rattle.std.proofs.Common.{sym, ◌∙◌}
use Rattle.scql_base.proofs.Splitting.{params_of-last, params_of-not_last}
use Rattle.scql_base.proofs.params.Params.only_in.Goals as goal

pub returns-then-is_empty-clause-some : goal.returns-then-is_empty-clause-some
returns-then-is_empty-clause-some c = params_of-last c.args.octets.now c.in_ok-string.string.now c.in_ok-string.after.now c.in_ok-string.ensures.some (sym c.is_empty.ensures ∙ c.if-is_empty.true)

pub returns-else-is_empty-clause-none : goal.returns-else-is_empty-clause-none
returns-else-is_empty-clause-none c = λ string.
    params_of-not_last c.args.octets.now c.in_ok-string.string.now c.in_ok-string.after.now string c.in_ok-string.ensures.some (sym c.is_empty.ensures ∙ c.if-is_empty.false)
