use Rattle.std.proofs.Common.{◌-◌, arith, refl}
use Rattle.reader_rack.specs.Readers.{with_link}
use Rattle.reader_rack.proofs.Placed.{becomes-set, others-set}
use Rattle.reader_rack.proofs.rack.Rack.put_back.Goals as goal

pub returns : goal.returns
returns g c = record {
  holds = becomes-set (with_link c.args.link) c.args.self.now.readers c.args.reader (c.from.result - 1) c.index-self-from.result c.put_back.new.self (omega (arith, c.from.ensures, c.requires.reader.0)) (omega arith) c.put_back.ensures;
  leaves = (record {
    others = others-set c.args.self.now.readers c.args.reader (c.from.result - 1) c.put_back.new.self (omega (arith, c.from.ensures, c.requires.reader.0));
    current = refl;
    outlet = refl;
  });
}
