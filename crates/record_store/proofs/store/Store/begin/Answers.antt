-- Nothing is copied: where no transaction is begun the working side is the committed one.
use Rattle.std.proofs.Common.{ap, sym, subst, ◌∙◌}
use Rattle.record_store.specs.Held.{Held, StandsFor, contents}
use Rattle.record_store.specs.Transaction.{entries}
use Rattle.record_store.specs.declared.side.Side.TheVariants.{Committed, Working}
use Rattle.record_store.proofs.ChangedSlots.{entries-begun}
use Rattle.record_store.proofs.Transacting.{begun-view, begun-kept, begun-stands}
use Rattle.record_store.proofs.store.Store.begin.Goals as goal

pub invariant_of-self : goal.invariant_of-self
invariant_of-self c = begun-kept _ _ _ _ _ _ _ c.self.invariant (ap (λ (held : Held). held.begun) c.self.view_is ∙ c.requires.idle)

pub returns : goal.returns
returns c =
    let begun = begun-view _ c.args.self.now _ _ c.self.view_is c.self.invariant.weighed.sound c.self.invariant.transaction c.requires.idle in
    record {
      begun = begun;
      stands = λ image stands. subst (λ (held : Held). StandsFor held image) (sym begun) (begun-stands c.args.self.now image stands);
      starts = λ image. ap (λ (held : Held). contents held Working image) begun;
      committed = λ image. ap (λ (held : Held). contents held Committed image) begun;
      no_entries = ap entries begun ∙ entries-begun c.args.self.now;
    }
