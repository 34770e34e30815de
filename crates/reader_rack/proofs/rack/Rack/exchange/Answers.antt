use Rattle.std.proofs.Common.{◌≡◌, ℕ, ◌-◌, ◌≤◌, ◌∙◌, arith, refl}
use Rattle.eeprom.specs.Fault.{Rose}
use Rattle.reader_rack.specs.RackText.{mute, sits}
use Rattle.reader_rack.proofs.Placed.{answers-set, counts-set, links-set, others-set, rack-holds, rack-set}
use Rattle.reader_rack.proofs.rack.Rack.exchange.Goals as goal

pub returns : goal.returns
returns g c = record {
  replies = (λ state at rack is replied.
      let held = c.exchange.ensures.step at (rack-holds _ _ c.args.self.now.readers c.args.self.now.current.number c.args.reader (c.from.result - 1) c.index-self-from.result state (sits at) c.requires.reader (omega (arith, c.from.ensures, c.requires.reader.0)) (omega arith) rack is) replied in
      record {
        reply = held.0;
        step = rack-set _ _ c.args.self.now.readers c.args.self.now.current.number c.args.reader (c.from.result - 1) c.exchange.new.self state (sits _) (omega (arith, c.from.ensures, c.requires.reader.0)) (omega arith) rack held.1;
      });
  replied = (λ replied. record {
    live = answers-set _ c.args.self.now.readers c.args.reader (c.from.result - 1) c.exchange.new.self (omega (arith, c.from.ensures, c.requires.reader.0)) (omega arith) ∙ (c.exchange.ensures.replied replied).live;
    count = counts-set (λ (was becomes : ℕ). becomes ≡ was) _ c.args.self.now.readers c.args.reader (c.from.result - 1) c.index-self-from.result c.exchange.new.self (omega (arith, c.from.ensures, c.requires.reader.0)) (omega arith) (c.exchange.ensures.replied replied).count;
  });
  mute = (λ muted.
      let mute = (c.exchange.ensures.mute muted).0 in
      record {
        says = mute.says;
        gone = answers-set _ c.args.self.now.readers c.args.reader (c.from.result - 1) c.exchange.new.self (omega (arith, c.from.ensures, c.requires.reader.0)) (omega arith) ∙ mute.gone;
        cause = counts-set Rose _ c.args.self.now.readers c.args.reader (c.from.result - 1) c.index-self-from.result c.exchange.new.self (omega (arith, c.from.ensures, c.requires.reader.0)) (omega arith) mute.cause;
      });
  mutes = λ state rack muted. rack-set _ _ c.args.self.now.readers c.args.self.now.current.number c.args.reader (c.from.result - 1) c.exchange.new.self state mute (omega (arith, c.from.ensures, c.requires.reader.0)) (omega arith) rack (c.exchange.ensures.mute muted).1;
  never_falls = counts-set (λ (was becomes : ℕ). was ≤ becomes) _ c.args.self.now.readers c.args.reader (c.from.result - 1) c.index-self-from.result c.exchange.new.self (omega (arith, c.from.ensures, c.requires.reader.0)) (omega arith) c.exchange.ensures.never_falls;
  moments = links-set c.args.self.now.readers c.args.reader (c.from.result - 1) c.index-self-from.result c.exchange.new.self _ (omega (arith, c.from.ensures, c.requires.reader.0)) (omega arith) c.exchange.ensures.moments;
  leaves = (record {
    others = others-set c.args.self.now.readers c.args.reader (c.from.result - 1) c.exchange.new.self (omega (arith, c.from.ensures, c.requires.reader.0));
    current = refl;
    outlet = refl;
  });
}
