use Rattle.std.proofs.Common.{◌-◌, length, codes}
use Rattle.script.proofs.Listing.{IsReading}
use Rattle.query.specs.Grammar as grammar
use Rattle.query.proofs.grammar.columns.Given as goal

abbrev pub invariant-loop-tokens : goal.invariant-loop-tokens
invariant-loop-tokens l = IsReading (15 - length l.columns.items) (codes ",") grammar.with_named (grammar.columns l.fn.tokens) l.columns.items l.tokens

abbrev pub decreases-loop-tokens : goal.decreases-loop-tokens
decreases-loop-tokens l = 15 - length l.columns.items
