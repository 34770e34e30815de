use Rattle.std.proofs.Common.{is_ok, sym, ap, ◌∙◌, rules}
use Rattle.record_store.proofs.HeaderRead.{header-read, header-missing}
use Rattle.record_store.proofs.header.read_header.Goals as goal

pub returns : goal.returns
returns g c = record {
  range = search rules;
  header =
      rw (c.ok_or.ensures.value) (header-read c.header_of.result c.read.new.into _ c.size-size.result (g.B.Eeprom.chip c.args.bench.now).image
      (record { there = c.header_of.ensures.there; cells = c.header_of.ensures.cells; limit = c.header_of.ensures.limit; gate = c.header_of.ensures.gate })
      c.in_ok-read.ensures.octets (rw c.size-size.ensures (g.met.B.Eeprom.sized c.args.bench.now)));
  not_a_card = λ refused.
      header-missing c.header_of.result c.read.new.into c.size-size.result (g.B.Eeprom.chip c.args.bench.now).image
      (record { there = c.header_of.ensures.there; cells = c.header_of.ensures.cells; limit = c.header_of.ensures.limit; gate = c.header_of.ensures.gate })
      (sym c.ok_or.ensures.variant ∙ ap is_ok refused)
      c.in_ok-read.ensures.octets (rw c.size-size.ensures (g.met.B.Eeprom.sized c.args.bench.now));
  octets_read = search rules;
  no_memory_taken = search rules;
  reads = search rules;
}
