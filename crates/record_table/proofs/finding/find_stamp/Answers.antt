-- At most one record has a stamp where the list rises.
use Rattle.std.proofs.Common.{◌∙◌}
use Rattle.record_table.specs.Asking.{slots_asked}
use Rattle.record_table.proofs.ListedSearches.{stamped-listed}
use Rattle.record_table.proofs.Scan.{stronger}
use Rattle.record_table.proofs.finding.find_stamp.Goals as goal

pub returns : goal.returns
returns g c = record {
  there = c.find_by.ensures.there;
  at = c.find_by.ensures.at;
  found = stronger c.find_by.result (slots_asked c.args.reader.now) _ _
      (λ found slots first rises. first ∙ stamped-listed g.R.Record.kind c.args.stamp slots rises) c.find_by.ensures.first;
  octets_read = c.find_by.ensures.octets_read;
  rises = c.find_by.ensures.rises;
  goes_on = c.find_by.ensures.goes_on;
  frame = c.find_by.ensures.frame;
}
