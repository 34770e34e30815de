use Rattle.std.proofs.Common.{length, rules}
use Rattle.eeprom.proofs.Telling.{counted-more}
use Rattle.eeprom.proofs.mem_bench.MemBenchEeprom.read.Goals as goal

pub returns : goal.returns
returns c = record {
  fails = search rules;
  reads = record {
    octets = search rules;
    frame = search rules;
    read = counted-more c.args.self.now.octets_read (length c.args.into.now) c.saturating_add-self.result c.saturating_add-self.ensures;
  };
  plan = search rules;
  room = search rules;
}
