use Rattle.std.proofs.Common.{refl, rules, arith}
use Rattle.std.proofs.lemmas.Grind.{common_steps}
use Rattle.eeprom.proofs.PutBack.{whole-give, past-give, longer, goes_on}
use Rattle.eeprom.proofs.steady_bench.SteadyBenchOutlet.give.Goals as goal

pub invariant_of-self-clause-whole : goal.invariant_of-self-clause-whole
invariant_of-self-clause-whole c =
    whole-give c.args.self.now.steps.items c.push_reserved.new.self.items c.args.self.now.replaced.octets.items _ _ c.args.self.now.whole c.push_reserved.ensures.items

pub returns-then-add : goal.returns-then-add
returns-then-add c =
    let told =
    past-give c.args.self.now.output.overrun c.add.new.self.overrun c.args.self.now.replaced.overrun c.args.self.now.steps.items c.push_reserved.new.self.items c.args.self.now.replaced.octets.items
    c.args.self.now.image.items c.args.self.now.output.octets.items c.add.new.self.octets.items c.octets-from.result.now c.octets.result.now c.args.self.now.whole c.octets-from.ensures c.octets.ensures
    c.push_reserved.ensures.items c.if-add.ensures.overrun in
    record {
      succeeds = search rules;
      ok = grind (arith, common_steps);
      err = search rules;
      rest = (
        record {
          size = refl;
          image = refl;
          written = refl;
          mark = longer c.args.self.now.output.octets.items c.add.new.self.octets.items _ c.if-add.ensures.octets;
          later = longer c.args.self.now.steps.items c.push_reserved.new.self.items _ c.push_reserved.ensures.items;
          past = goes_on _ _ _ _ _ _ _ told;
        },
        refl,
      );
      cause = search rules;
      moment = λ some. told;
      output_told = search rules;
      past_told = search rules;
      room = search rules;
    }
