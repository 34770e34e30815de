use Rattle.scql_base.proofs.Splitting.{params_of-none, params_of-split, params_of-cut}
use Rattle.scql_base.proofs.params.Params.first_in.Goals as goal

pub returns-in_default-clause-none : goal.returns-in_default-clause-none
returns-in_default-clause-none c = params_of-none c.args.octets.now c.in_default.len_below

pub returns-clause-some : goal.returns-clause-some
returns-clause-some c = params_of-split _ _ _ _ c.in-len1-up.len_at_least c.from-len.ensures c.if-after-len.false c.split_at.ensures.front c.split_at.ensures.back

pub returns-then-after-len-clause-none : goal.returns-then-after-len-clause-none
returns-then-after-len-clause-none c = params_of-cut _ _ c.in-len1-up.len_at_least c.from-len.ensures c.if-after-len.true
