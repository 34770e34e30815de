use Rattle.std.proofs.Common.{ℕ, ◌≤◌, take, drop, rules}
use Rattle.eeprom.specs.Chip.{Keeps}
use Rattle.record_store.specs.Appends.{end_of}
use Rattle.record_store.proofs.Fronts.{Keeps-write}
use Rattle.record_store.proofs.Keeping.{behind-write}
use Rattle.record_store.proofs.writer.Writer.flush.Goals.{After-write}
use Rattle.record_store.proofs.writer.Writer.flush.Goals as goal

front : (g : _) (c : After-write g) → Keeps (take 4) (g.B.Eeprom.chip c.args.bench.now) (g.B.Eeprom.chip c.write.new.self)
front g c = Keeps-write _ _ (g.B.Eeprom.chip c.args.bench.now) (g.B.Eeprom.chip c.write.new.self) c.requires.ready.behind (rw c.as_slice.ensures.value c.requires.ready.room) (g.met.B.Eeprom.sized c.args.bench.now) (g.met.B.Eeprom.clocked c.args.bench.now) c.write.ensures.writes

after : (g : _) (c : After-write g) (limit : ℕ) → end_of c.args.self.now ≤ limit → Keeps (drop limit) (g.B.Eeprom.chip c.args.bench.now) (g.B.Eeprom.chip c.write.new.self)
after g c limit inside =
    behind-write _ limit _ (g.B.Eeprom.chip c.args.bench.now) (g.B.Eeprom.chip c.write.new.self) (rw c.as_slice.ensures.value inside) (rw c.as_slice.ensures.value c.requires.ready.room) (g.met.B.Eeprom.sized c.args.bench.now) (g.met.B.Eeprom.clocked c.args.bench.now) c.write.ensures.writes

pub returns-in_err-write : goal.returns-in_err-write
returns-in_err-write g c = record {
  written = search rules;
  place = search rules;
  empty = search rules;
  behind = search rules;
  front = front g (goal.at.returns-in_err-write g c).After-write;
  after = λ limit inside. after g (goal.at.returns-in_err-write g c).After-write limit inside;
  cause = search rules;
}

pub returns : goal.returns
returns g c = record {
  written = search rules;
  place = search rules;
  empty = search rules;
  behind = search rules;
  front = front g (goal.at.returns g c).After-write;
  after = λ limit inside. after g (goal.at.returns g c).After-write limit inside;
  cause = search rules;
}
