use Rattle.std.proofs.Common.{◌-◌, length, codes}
use Rattle.script.specs.Grammar as grammar
use Rattle.script.proofs.Listing.{IsReading}
use Rattle.script.proofs.tokens.Tokens.names.Given as goal

abbrev pub invariant-loop-self : goal.invariant-loop-self
invariant-loop-self l = IsReading (15 - length l.names) (codes ",") grammar.with_name (grammar.names l.fn.self) l.names l.self

abbrev pub decreases-loop-self : goal.decreases-loop-self
decreases-loop-self l = 15 - length l.names
