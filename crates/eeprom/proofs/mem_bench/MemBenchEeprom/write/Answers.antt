use Rattle.std.proofs.Common.{refl, rules}
use Rattle.std.proofs.lemmas.List.{length-replicate}
use Rattle.eeprom.specs.Recording.{told}
use Rattle.eeprom.proofs.Telling.{writes-chip}
use Rattle.eeprom.proofs.mem_bench.MemBenchEeprom.write.Goals as goal

pub returns-then-is_err : goal.returns-then-is_err
returns-then-is_err c = record {
  fails = search rules;
  beside_the_plan = search rules;
  done = search rules;
  failed = search rules;
  writes = record {
    written = search rules;
    writes =
        writes-chip c.fill.result c.args.at c.args.from.now _ (told c.args.self.now.recording) (told c.fill.new.self) c.args.self.now.octets_written c.saturating_add-self.result c.args.self.now.sink_faults
        c.fill.ensures.ok c.fill.ensures.err (length-replicate _ _) c.requires c.saturating_add-self.ensures;
    read = search rules;
    cause = search rules;
  };
  plan = search rules;
  room = search rules;
  lacks = search rules;
}

pub returns-else-is_err : goal.returns-else-is_err
returns-else-is_err c = record {
  fails = search rules;
  beside_the_plan = search rules;
  done = search rules;
  failed = search rules;
  writes = record {
    written = search rules;
    writes =
        writes-chip c.fill.result c.args.at c.args.from.now _ (told c.args.self.now.recording) (told c.fill.new.self) c.args.self.now.octets_written c.saturating_add-self.result c.args.self.now.sink_faults
        c.fill.ensures.ok c.fill.ensures.err (length-replicate _ _) c.requires c.saturating_add-self.ensures;
    read = search rules;
    cause = search rules;
  };
  plan = search rules;
  room = search rules;
  lacks = search rules;
}

pub returns-then-is_err-2 : goal.returns-then-is_err-2
returns-then-is_err-2 c = record {
  fails = search rules;
  beside_the_plan = search rules;
  done = search rules;
  failed = search rules;
  writes = record {
    written = search rules;
    writes =
        writes-chip c.write.result c.args.at c.args.from.now _ (told c.args.self.now.recording) (told c.write.new.self) c.args.self.now.octets_written c.saturating_add-self.result c.args.self.now.sink_faults
        c.write.ensures.ok c.write.ensures.err refl c.requires c.saturating_add-self.ensures;
    read = search rules;
    cause = search rules;
  };
  plan = search rules;
  room = search rules;
  lacks = search rules;
}

pub returns : goal.returns
returns c = record {
  fails = search rules;
  beside_the_plan = search rules;
  done = search rules;
  failed = search rules;
  writes = record {
    written = search rules;
    writes =
        writes-chip c.write.result c.args.at c.args.from.now _ (told c.args.self.now.recording) (told c.write.new.self) c.args.self.now.octets_written c.saturating_add-self.result c.args.self.now.sink_faults
        c.write.ensures.ok c.write.ensures.err refl c.requires c.saturating_add-self.ensures;
    read = search rules;
    cause = search rules;
  };
  plan = search rules;
  room = search rules;
  lacks = search rules;
}
