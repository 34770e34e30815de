-- The number that is kept for a side is that of its records' cells.
use Rattle.std.proofs.Common.{◌≡◌, Some, subst, rules}
use Rattle.record_store.specs.Held.{Held, contents}
use Rattle.record_store.specs.Weighed.{IsWeighed}
use Rattle.record_store.specs.declared.side.Side.{Side}
use Rattle.record_store.specs.declared.side.Side.TheVariants.{Committed, Working}
use Rattle.record_store.specs.declared.store.Store.TheInside.{Inside}
use Rattle.record_store.proofs.Weighing.{weighed-is, weighed-most}
use Rattle.record_store.proofs.store.Store.weight.Goals as goal

abbrev weighed : Inside → Held → Type 0
weighed inside held = IsWeighed held inside.committed_weight inside.working_weight

pub returns-in-Committed : goal.returns-in-Committed
returns-in-Committed c = record {
  weight = λ image slots stands there.
      let is : c.args.side ≡ Committed = cc in
      weighed-is c.args.self.now c.self.inside.committed_weight c.self.inside.working_weight Committed (subst (weighed c.self.inside) c.self.view_is c.self.invariant.weighed) image slots stands
      (subst (λ (side : Side). contents c.args.self.now side image ≡ Some slots) is there);
  most = weighed-most c.args.self.now c.self.inside.committed_weight c.self.inside.working_weight Committed (subst (weighed c.self.inside) c.self.view_is c.self.invariant.weighed);
}

pub returns-in-Working : goal.returns-in-Working
returns-in-Working c = record {
  weight = λ image slots stands there.
      let is : c.args.side ≡ Working = cc in
      weighed-is c.args.self.now c.self.inside.committed_weight c.self.inside.working_weight Working (subst (weighed c.self.inside) c.self.view_is c.self.invariant.weighed) image slots stands
      (subst (λ (side : Side). contents c.args.self.now side image ≡ Some slots) is there);
  most = weighed-most c.args.self.now c.self.inside.committed_weight c.self.inside.working_weight Working (subst (weighed c.self.inside) c.self.view_is c.self.invariant.weighed);
}
