-- Numbers in another order are different alike.
use Rattle.std.proofs.Common.{◌∙◌}
use Rattle.card.proofs.Neighbours.{different-in_order}
use Rattle.card.proofs.apart.are_different.Goals as goal

pub returns-in-len1-up : goal.returns-in-len1-up
returns-in-len1-up c =
    c.differs_from_next.ensures ∙ different-in_order c.args.numbers.now c.sort_unstable.new.self _ c.sort_unstable.ensures.permutation c.sort_unstable.ensures.sorted c.in-len1-up.len_at_least
