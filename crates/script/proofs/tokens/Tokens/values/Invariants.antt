-- So many values were read into the row.
use Rattle.std.proofs.Common.{◌≤◌, ◌-◌}
use Rattle.script.specs.Grammar.{literals}
use Rattle.script.proofs.ReadingRows.{IsReadingRow}
use Rattle.script.proofs.tokens.Tokens.values.Given as goal

abbrev pub invariant-loop-count : goal.invariant-loop-count
invariant-loop-count l = record {
  reading : IsReadingRow l.count (literals l.fn.self) l.row l.self;
  few : l.count ≤ 15;
}

abbrev pub decreases-loop-count : goal.decreases-loop-count
decreases-loop-count l = 15 - l.count
