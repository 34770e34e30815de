-- Privileges together are no fewer than one, and no more than all four.
use Rattle.std.proofs.Common.{arith}
use Rattle.std.proofs.lemmas.Nat.{or_lt, le_or_l}
use Rattle.plain_database.proofs.granting.both.Goals as goal

pub invariant_of-result : goal.invariant_of-result
invariant_of-result c =
    let least = le_or_l c.held.inside.bits c.more.inside.bits in
    let most = or_lt 4 c.held.inside.bits c.more.inside.bits (omega (arith, c.held.invariant.1)) (omega (arith, c.more.invariant.1)) in
    (omega (arith, least, c.held.invariant.0), omega (arith, most))
