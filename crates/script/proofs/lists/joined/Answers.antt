use Rattle.std.proofs.Common.{arith}
use Rattle.std.proofs.lemmas.Nat.{or_lt, le_or_r}
use Rattle.script.proofs.lists.joined.Goals as goal

pub returns-clause-some : goal.returns-clause-some
returns-clause-some c = omega (arith, le_or_r c.args.bits c.args.bit)

pub returns-clause-within : goal.returns-clause-within
returns-clause-within c = omega (arith, or_lt 4 c.args.bits c.args.bit (omega arith) (omega arith))
