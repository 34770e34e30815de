use Rattle.std.proofs.Common.{◌∷◌, [], refl, rules}
use Rattle.std.proofs.lemmas.Result.{on_ok_weaker}
use Rattle.eeprom.specs.Chip.{LeavesOf}
use Rattle.migrate.specs.Migration.{IsBetweenVersions}
use Rattle.migrate.proofs.Writing.{limit-leaves, limit-there, version-leaves, version-there}
use Rattle.migrate.proofs.version.write_version.Goals.{After-write}
use Rattle.migrate.proofs.version.write_version.Goals as goal

first : (g : _) (c : After-write g) → LeavesOf IsBetweenVersions (g.B.Eeprom.chip c.args.bench.now) (g.B.Eeprom.chip c.write.new.self)
first g c =
    limit-leaves (g.B.Eeprom.chip c.args.bench.now) (g.B.Eeprom.chip c.write.new.self) c.to_be_bytes.result c.to_be_bytes.ensures c.requires.room (g.met.B.Eeprom.sized c.args.bench.now) c.requires.even
    (g.met.B.Eeprom.clocked c.args.bench.now) c.write.ensures.writes

pub returns-in_err-write : goal.returns-in_err-write
returns-in_err-write g c = record {
  done = search rules;
  told = search rules;
  still = search rules;
  moments = first g (goal.at.returns-in_err-write g c).After-write;
  octets_written = search rules;
  octets_read = search rules;
  cause = search rules;
}

pub returns : goal.returns
returns g c =
    let there =
    limit-there (g.B.Eeprom.chip c.args.bench.now) (g.B.Eeprom.chip c.write.new.self) c.to_be_bytes.result c.to_be_bytes.ensures c.requires.room (g.met.B.Eeprom.sized c.args.bench.now) c.requires.even c.in_ok-write.ensures.written in
    record {
      done = on_ok_weaker c.write-2.result (λ last. version-there (g.B.Eeprom.chip c.args.bench.now).image (g.B.Eeprom.chip c.write.new.self).image (g.B.Eeprom.chip c.write-2.new.self).image (1 ∷ []) refl there last) c.write-2.ensures.written;
      told = search rules;
      still = search rules;
      moments = version-leaves (g.B.Eeprom.chip c.args.bench.now) (g.B.Eeprom.chip c.write.new.self) (g.B.Eeprom.chip c.write-2.new.self) (1 ∷ []) refl c.write.ensures.writes.still there
          (first g (goal.at.returns g c).After-write) (g.met.B.Eeprom.clocked c.write.new.self) c.write-2.ensures.writes;
      octets_written = search rules;
      octets_read = search rules;
      cause = search rules;
    }
