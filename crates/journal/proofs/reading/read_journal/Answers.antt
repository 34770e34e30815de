use Rattle.std.proofs.Common.{◌≡◌, ◌+◌, false, subst, IfSome, OnOk, rules}
use Rattle.std.specs.List.{list_all}
use Rattle.eeprom.specs.Chip.{Chip}
use Rattle.eeprom.specs.StoreOf.{entries_at, is_entry, journal_place}
use Rattle.journal.proofs.Replaying.{bad-read, journal-when, many-read}
use Rattle.journal.proofs.reading.read_journal.Goals as goal

pub returns-in_err-count : goal.returns-in_err-count
returns-in_err-count g c = record {
  journal = search rules;
  few = search rules;
  range = search rules;
  bad_journal = λ is. many-read c.args.bench.now.cells (g.B.Eeprom.chip c.args.bench.now.bench.now).image (c.in_err-count.ensures.bad_journal (search rules));
  reads = search rules;
}

pub returns : goal.returns
returns g c = record {
  journal =
      journal-when c.read_entries.result c.args.bench.now.cells c.in_ok-count.count c.read_entries.new.entries.items (g.B.Eeprom.chip c.args.bench.now.bench.now).image c.in_ok-count.ensures.few c.in_ok-count.ensures.count
      (subst (λ (chip : Chip). OnOk c.read_entries.result (IfSome chip.image (λ image. c.read_entries.new.entries.items ≡ entries_at image (journal_place c.args.bench.now.cells + 2) c.in_ok-count.count))) c.read_count.ensures.reads.frame.same
      (rw (c.read_count.ensures.reads.stays.cells) at c.read_entries.ensures.entries))
      (rw (c.read_count.ensures.reads.stays.cells) at c.read_entries.ensures.range);
  few = search rules;
  range = search rules;
  bad_journal = λ is.
      bad-read c.args.bench.now.cells c.in_ok-count.count (g.B.Eeprom.chip c.args.bench.now.bench.now).image c.in_ok-count.ensures.count
      (subst (λ (chip : Chip). IfSome chip.image (λ image. list_all (is_entry c.args.bench.now.cells) (entries_at image (journal_place c.args.bench.now.cells + 2) c.in_ok-count.count) ≡ false)) c.read_count.ensures.reads.frame.same
      (rw (c.read_count.ensures.reads.stays.cells) at c.read_entries.ensures.bad_journal is));
  reads = search rules;
}
