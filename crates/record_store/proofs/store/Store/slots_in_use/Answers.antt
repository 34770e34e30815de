use Rattle.std.proofs.Common.{subst, rules}
use Rattle.record_store.specs.Held.{Held}
use Rattle.record_store.specs.Kept.{AreInUse}
use Rattle.record_store.specs.Sound.{IsSound}
use Rattle.record_store.proofs.InUse.{in_use-empty}
use Rattle.record_store.proofs.store.Store.slots_in_use.Goals as goal

pub returns : goal.returns
returns c = record {
  most = search rules;
  empty =
      in_use-empty c.args.self.now c.self.inside.slots_in_use (subst IsSound c.self.view_is c.self.invariant.weighed.sound) (subst (λ (held : Held). AreInUse held c.self.inside.slots_in_use) c.self.view_is c.self.invariant.in_use);
}
