use Rattle.eeprom.proofs.PutBack.{whole-write}
use Rattle.eeprom.proofs.steady_bench.SteadyBench.keep.Goals as goal

pub invariant_of-self-clause-whole : goal.invariant_of-self-clause-whole
invariant_of-self-clause-whole c =
    whole-write c.args.self.now.steps.items c.push_reserved.new.self.items c.args.self.now.replaced.octets.items c.add.new.self.octets.items c.args.self.now.image.items c.deref.result.now
    c.args.at c.args.count _ c.args.self.now.whole c.requires.within c.deref.ensures.value c.push_reserved.ensures.items c.if-add.ensures.octets
