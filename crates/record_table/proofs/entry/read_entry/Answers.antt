-- What isn't read is no record of the kind, and what is read costs its cells at most.
use Rattle.std.proofs.Common.{rules}
use Rattle.record_table.proofs.ReadingCosts.{ReadsSide-none}
use Rattle.record_table.proofs.SlotReads.{none-unmarked, reads-marked, reads-rise}
use Rattle.record_table.proofs.entry.read_entry.Goals as goal

pub returns-then-not-is_marked-clause-value : goal.returns-then-not-is_marked-clause-value
returns-then-not-is_marked-clause-value g c =
    none-unmarked g.R.Record.kind c.args.reader.now.store.now c.args.reader.now.side c.args.slot (g.B.Eeprom.chip c.args.reader.now.bench.now).image c.is_marked.result g.met.R.Record.lawful c.args.reader.now.over.stands c.is_marked.ensures c.if-not-is_marked.true

pub returns-then-not-is_marked-clause-reads : goal.returns-then-not-is_marked-clause-reads
returns-then-not-is_marked-clause-reads g c = ReadsSide-none

pub returns-then-branch-clause-reads : goal.returns-then-branch-clause-reads
returns-then-branch-clause-reads g c = record {
  octets_read = reads-marked g.R.Record.kind c.args.reader.now.store.now c.args.reader.now.side c.args.slot (g.B.Eeprom.chip c.args.reader.now.bench.now).image c.is_marked.result _ _ _ c.args.reader.now.over.stands c.is_marked.ensures c.if-not-is_marked.false
      c.in_ok-get.ensures.found c.in_ok-get.ensures.octets_read;
  rises = reads-rise c.args.reader.now.store.now c.args.reader.now.side (g.B.Eeprom.chip c.args.reader.now.bench.now).image _ _ _ c.in_ok-get.ensures.octets_read;
  goes_on = search rules;
  frame = search rules;
}

pub returns-else-branch-clause-reads : goal.returns-else-branch-clause-reads
returns-else-branch-clause-reads g c = record {
  octets_read = reads-marked g.R.Record.kind c.args.reader.now.store.now c.args.reader.now.side c.args.slot (g.B.Eeprom.chip c.args.reader.now.bench.now).image c.is_marked.result _ _ _ c.args.reader.now.over.stands c.is_marked.ensures c.if-not-is_marked.false
      c.in_ok-get.ensures.found c.in_ok-get.ensures.octets_read;
  rises = reads-rise c.args.reader.now.store.now c.args.reader.now.side (g.B.Eeprom.chip c.args.reader.now.bench.now).image _ _ _ c.in_ok-get.ensures.octets_read;
  goes_on = search rules;
  frame = search rules;
}
