-- Each record is wanted.
use Rattle.std.proofs.Common.{ap, ◌∙◌}
use Rattle.std.specs.List.{find}
use Rattle.eeprom.specs.Slots.{is_after}
use Rattle.record_table.specs.Asking.{slots_asked}
use Rattle.record_table.specs.Listed.{listed}
use Rattle.record_table.proofs.ListedSearches.{filter-any}
use Rattle.record_table.proofs.Scan.{stronger}
use Rattle.record_table.proofs.after.next_after.Goals as goal

pub returns : goal.returns
returns g c = record {
  there = c.next_by.ensures.there;
  at = c.next_by.ensures.at;
  next = stronger c.next_by.result (slots_asked c.args.reader.now) _ _
      (λ next slots nearest rises. nearest rises ∙ ap (find (is_after g.R.Record.kind.key c.args.stamp)) (filter-any (listed g.R.Record.kind slots))) c.next_by.ensures.next;
  octets_read = c.next_by.ensures.octets_read;
  rises = c.next_by.ensures.rises;
  goes_on = c.next_by.ensures.goes_on;
  frame = c.next_by.ensures.frame;
}
