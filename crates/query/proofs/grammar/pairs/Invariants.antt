use Rattle.std.proofs.Common.{◌-◌, length, codes}
use Rattle.script.proofs.Listing.{IsReading}
use Rattle.query.specs.Grammar as grammar
use Rattle.query.proofs.grammar.pairs.Given as goal

abbrev pub invariant-loop-tokens : goal.invariant-loop-tokens
invariant-loop-tokens l = IsReading (8 - length l.pairs.items) (codes "AND") grammar.with_pair (grammar.pairs l.fn.tokens) l.pairs.items l.tokens

abbrev pub decreases-loop-tokens : goal.decreases-loop-tokens
decreases-loop-tokens l = 8 - length l.pairs.items
