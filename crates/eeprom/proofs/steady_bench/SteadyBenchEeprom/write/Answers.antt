use Rattle.std.proofs.Common.{length, nat_le, refl, ap, rules}
use Rattle.eeprom.proofs.PutBack.{past-write, longer-if, goes_on, written_over}
use Rattle.eeprom.proofs.Replayed.{length-overwrite}
use Rattle.eeprom.proofs.Telling.{counted-more, becomes_told}
use Rattle.eeprom.proofs.steady_bench.SteadyBenchEeprom.write.Goals as goal

pub returns : goal.returns
returns c =
    let old = c.args.self.now in
    let kept = c.keep.new.self in
    let octets = c.args.from.now in
    let now =
    written_over old.image kept.image c.args.at octets c.deref_mut.result.now c.write_over.new.image c.keep.ensures.image c.deref_mut.ensures.value c.write_over.ensures c.requires in
    let told =
    past-write old.output.overrun kept.output.overrun old.replaced.overrun kept.replaced.overrun (nat_le (length octets) old.replaced.left) old.steps.items kept.steps.items old.replaced.octets.items kept.replaced.octets.items
    old.image.items _ octets c.args.at _ old.whole c.requires now
    (ap (λ output. output.overrun) c.keep.ensures.output) c.keep.ensures.steps c.keep.ensures.replaced c.keep.ensures.overrun in
    record {
      succeeds = search rules;
      writes = record {
        written = search rules;
        writes = record {
          within = c.requires;
          still = rw (now, length-overwrite old.image.items c.args.at octets c.requires, c.keep.ensures.output) refl;
          written = rw (c.keep.ensures.counts.1) (counted-more old.octets_written (length octets) c.saturating_add-self.result c.saturating_add-self.ensures);
          image = becomes_told _ old.image.items _ (record { octets = octets; count_is = refl; is = now });
          later = longer-if (nat_le (length octets) old.replaced.left) old.steps.items c.keep.new.self.steps.items _ c.keep.ensures.steps;
          past = goes_on _ _ _ _ _ _ _ told;
        };
        read = search rules;
        cause = search rules;
      };
      moment = λ some. told;
      told = search rules;
      room = search rules;
    }
