use Rattle.std.proofs.Common.{◌-◌, length, codes}
use Rattle.script.specs.Grammar as grammar
use Rattle.script.proofs.Listing.{IsReading}
use Rattle.script.proofs.tokens.Tokens.conditions.Given as goal

abbrev pub invariant-loop-self : goal.invariant-loop-self
invariant-loop-self l = IsReading (8 - length l.conditions) (codes "AND") grammar.with_condition (grammar.conditions l.fn.self) l.conditions l.self

abbrev pub decreases-loop-self : goal.decreases-loop-self
decreases-loop-self l = 8 - length l.conditions
