use Rattle.std.proofs.Common.{◌-◌, ◌∙◌, None, arith, refl}
use Rattle.reader_rack.specs.Readers.{lending}
use Rattle.reader_rack.proofs.Placed.{becomes-set, of-place, others-set}
use Rattle.reader_rack.proofs.rack.Rack.take.Goals as goal

pub returns : goal.returns
returns g c = record {
  link = of-place (λ r. r.link) None c.args.self.now.readers c.args.reader (c.from.result - 1) c.index-self-from.result (omega (arith, c.from.ensures, c.requires.reader.0)) (omega arith) ∙ c.take.ensures.link;
  lent = becomes-set lending c.args.self.now.readers c.args.reader (c.from.result - 1) c.index-self-from.result c.take.new.self (omega (arith, c.from.ensures, c.requires.reader.0)) (omega arith) c.take.ensures.lent;
  leaves = (record {
    others = others-set c.args.self.now.readers c.args.reader (c.from.result - 1) c.take.new.self (omega (arith, c.from.ensures, c.requires.reader.0));
    current = refl;
    outlet = refl;
  });
}
