use Rattle.std.proofs.Common.{◌≡◌, ℕ, ◌-◌, ◌∙◌, arith, refl}
use Rattle.reader_rack.specs.RackText.{sits}
use Rattle.reader_rack.proofs.Placed.{answers-set, counts-set, links-set, others-set, rack-holds, rack-set}
use Rattle.reader_rack.proofs.rack.Rack.reset.Goals as goal

pub returns : goal.returns
returns g c = record {
  step = (λ state at rack is. rack-set _ _ c.args.self.now.readers c.args.self.now.current.number c.args.reader (c.from.result - 1) c.reset.new.self state (sits _) (omega (arith, c.from.ensures, c.requires.reader.0)) (omega arith) rack
      (c.reset.ensures.step at (rack-holds _ _ c.args.self.now.readers c.args.self.now.current.number c.args.reader (c.from.result - 1) c.index-self-from.result state (sits at) c.requires.reader (omega (arith, c.from.ensures, c.requires.reader.0)) (omega arith) rack is)));
  live = (record {
    live = answers-set _ c.args.self.now.readers c.args.reader (c.from.result - 1) c.reset.new.self (omega (arith, c.from.ensures, c.requires.reader.0)) (omega arith) ∙ c.reset.ensures.live.live;
    count = counts-set (λ (was becomes : ℕ). becomes ≡ was) _ c.args.self.now.readers c.args.reader (c.from.result - 1) c.index-self-from.result c.reset.new.self (omega (arith, c.from.ensures, c.requires.reader.0)) (omega arith) c.reset.ensures.live.count;
  });
  moments = links-set c.args.self.now.readers c.args.reader (c.from.result - 1) c.index-self-from.result c.reset.new.self _ (omega (arith, c.from.ensures, c.requires.reader.0)) (omega arith) c.reset.ensures.moments;
  leaves = (record {
    others = others-set c.args.self.now.readers c.args.reader (c.from.result - 1) c.reset.new.self (omega (arith, c.from.ensures, c.requires.reader.0));
    current = refl;
    outlet = refl;
  });
}
