use Rattle.std.proofs.Common.{◌≡◌, arith, option_map, rules}
use Rattle.std.specs.Prelude.{OnOk}
use Rattle.std.proofs.lemmas.Result.{on_ok_weaker}
use Rattle.journal.proofs.Running.{run-leaves, whole-written}
use Rattle.journal.specs.Run.{end_of, place_of, promised}
use Rattle.journal.proofs.run.Run.write.Goals as goal

pub returns : goal.returns
returns g c = record {
  done =
      let written : OnOk c.write.result ((g.B.Eeprom.chip c.write.new.self).image ≡ option_map (promised c.args.self.now) (g.B.Eeprom.chip c.args.bench.now).image) = search rules in
      on_ok_weaker c.write.result (λ written. whole-written c.args.self.now (g.B.Eeprom.chip c.args.bench.now).image (g.B.Eeprom.chip c.write.new.self).image written) written;
  told = search rules;
  still = search rules;
  moments =
      run-leaves c.args.self.now c.as_slice.result.now (place_of c.args.self.now) (end_of c.args.self.now) (g.B.Eeprom.chip c.args.bench.now) (g.B.Eeprom.chip c.write.new.self) (search rules)
      (g.met.B.Eeprom.clocked c.args.bench.now) (g.met.B.Eeprom.sized c.args.bench.now) (search rules) c.requires.room (omega arith) (omega arith);
  octets_written = search rules;
  octets_read = search rules;
  cause = search rules;
}
