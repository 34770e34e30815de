use Rattle.std.proofs.Common.{ap, rules}
use Rattle.record_store.specs.Held.{Held}
use Rattle.record_store.proofs.Records.{record-found, record-read, record-nowhere}
use Rattle.record_store.proofs.store.Store.get.Goals as goal

pub returns-then-first : goal.returns-then-first
returns-then-first g c = record {
  found =
      record-nowhere c.args.self.now c.args.side c.args.slot c.first_cell-first.result (g.B.Eeprom.chip c.args.bench.now).image c.first_cell-first.ensures.first c.first_cell-first.ensures.there c.if-first.true c.requires.over.stands;
  octets_read = search rules;
  frame = search rules;
}

pub returns : goal.returns
returns g c = record {
  found =
      record-found c.args.self.now c.args.side c.args.slot c.self.inside.chains.cells c.first_cell-first.result (g.B.Eeprom.chip c.args.bench.now).image c.read_chain.new.out.items (ap (λ (held : Held). held.chains.cells) c.self.view_is)
      c.first_cell-first.ensures.first c.first_cell-first.ensures.there c.if-first.false c.requires.over.stands c.in_ok-read_chain.ensures.«record»;
  octets_read =
      record-read c.args.self.now c.args.side c.args.slot c.self.inside.chains.cells c.first_cell-first.result (g.B.Eeprom.chip c.args.bench.now).image c.read_chain.new.out.items (g.B.Eeprom.octets_read c.args.bench.now)
      (g.B.Eeprom.octets_read c.read_chain.new.bench) (ap (λ (held : Held). held.chains.cells) c.self.view_is) c.first_cell-first.ensures.first c.first_cell-first.ensures.there c.if-first.false c.requires.over.stands c.in_ok-read_chain.ensures.octets_read;
  frame = search rules;
}
