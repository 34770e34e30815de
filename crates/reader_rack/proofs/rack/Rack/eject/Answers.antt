use Rattle.std.proofs.Common.{◌-◌, arith, refl}
use Rattle.reader_rack.proofs.Placed.{eject-aside, eject-counts, eject-ends, eject-held, others-set}
use Rattle.reader_rack.proofs.rack.Rack.eject.Goals as goal

pub returns : goal.returns
returns g c = record {
  held = eject-held c.args.self.now.readers c.args.reader (c.from.result - 1) c.index-self-from.result c.eject.result (omega (arith, c.from.ensures, c.requires.reader.0)) (omega arith) c.eject.ensures.held;
  aside = eject-aside c.args.self.now.readers c.args.reader (c.from.result - 1) c.index-self-from.result c.eject.new.self (omega (arith, c.from.ensures, c.requires.reader.0)) (omega arith) c.eject.ensures.aside;
  ejects = (eject-ends _ _ c.args.self.now.readers c.args.self.now.current.number c.args.reader (c.from.result - 1) c.index-self-from.result c.eject.new.self c.eject.result c.requires.reader
      (omega (arith, c.from.ensures, c.requires.reader.0)) (omega arith) c.eject.ensures.aside c.eject.ensures.held);
  counts = eject-counts _ c.args.self.now.readers (c.from.result - 1) c.index-self-from.result c.eject.new.self (omega arith) c.eject.ensures.aside;
  leaves = (record {
    others = others-set c.args.self.now.readers c.args.reader (c.from.result - 1) c.eject.new.self (omega (arith, c.from.ensures, c.requires.reader.0));
    current = refl;
    outlet = refl;
  });
}
