use Rattle.std.proofs.Common.{◌≤◌, ◌-◌, codes}
use Rattle.script.specs.Grammar as grammar
use Rattle.script.proofs.Listing.{IsReading}
use Rattle.script.proofs.tokens.Tokens.privileges.Given as goal

abbrev pub invariant-loop-count : goal.invariant-loop-count
invariant-loop-count l = record {
  whole : IsReading (500 - l.count) (codes ",") grammar.with_privilege (grammar.privileges l.fn.self) l.bits l.self;
  some : 1 ≤ l.bits;
  within : l.bits ≤ 15;
}

abbrev pub decreases-loop-count : goal.decreases-loop-count
decreases-loop-count l = 500 - l.count
