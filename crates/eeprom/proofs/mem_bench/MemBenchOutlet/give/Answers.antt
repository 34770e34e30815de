use Rattle.std.proofs.Common.{length, ◌/◌, refl, rules, arith}
use Rattle.std.proofs.lemmas.Grind.{common_steps}
use Rattle.eeprom.specs.Recording.{told}
use Rattle.eeprom.proofs.Telling.{follows-half}
use Rattle.eeprom.proofs.mem_bench.MemBenchOutlet.give.Goals as goal

pub returns-then-is_err : goal.returns-then-is_err
returns-then-is_err c = record {
  fails = search rules;
  beside_the_plan = search rules;
  done = search rules;
  failed = search rules;
  ok = search rules;
  err =
      follows-half c.give.result (told c.args.self.now.recording) (told c.give.new.self) _ c.args.octets.now (length c.args.octets.now / 2) c.give.ensures.ok c.give.ensures.err refl;
  rest = grind (arith, common_steps);
  cause = search rules;
  plan = search rules;
  room = search rules;
  lacks = search rules;
}

pub returns-else-is_err : goal.returns-else-is_err
returns-else-is_err c = record {
  fails = search rules;
  beside_the_plan = search rules;
  done = search rules;
  failed = search rules;
  ok = search rules;
  err =
      follows-half c.give.result (told c.args.self.now.recording) (told c.give.new.self) _ c.args.octets.now (length c.args.octets.now / 2) c.give.ensures.ok c.give.ensures.err refl;
  rest = grind (arith, common_steps);
  cause = search rules;
  plan = search rules;
  room = search rules;
  lacks = search rules;
}
