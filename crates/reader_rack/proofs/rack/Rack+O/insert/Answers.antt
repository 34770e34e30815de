use Rattle.std.proofs.Common.{◌-◌, ◌∙◌, arith}
use Rattle.reader_rack.proofs.Placed.{insert-count, insert-link, insert-rack}
use Rattle.reader_rack.proofs.rack.Rack+O.insert.Goals as goal

pub returns-clause-inserts : goal.returns-clause-inserts
returns-clause-inserts g c = record {
  inserts = λ state m rack at.
      insert-rack _ _ c.args.self.now.readers c.args.self.now.current.number c.args.reader (c.from-place.result - 1) c.insert.new.self c.new.result (omega (arith, c.from-place.ensures, c.requires.reader.0)) (omega arith) c.insert.ensures
      (c.new.ensures.live ∙ c.requires.live) state m rack (c.new.ensures.at m at) (c.requires.closed m at);
  count = insert-count _ c.args.self.now.readers c.args.reader (c.from-place.result - 1) c.insert.new.self c.new.result (omega (arith, c.from-place.ensures, c.requires.reader.0)) (omega arith) c.insert.ensures ∙ c.new.ensures.faults;
  chip = insert-link _ c.args.self.now.readers c.args.reader (c.from-place.result - 1) c.insert.new.self c.new.result (omega (arith, c.from-place.ensures, c.requires.reader.0)) (omega arith) c.insert.ensures c.new.ensures.chip;
  machine = insert-link _ c.args.self.now.readers c.args.reader (c.from-place.result - 1) c.insert.new.self c.new.result (omega (arith, c.from-place.ensures, c.requires.reader.0)) (omega arith) c.insert.ensures c.new.ensures.at;
}
