use Rattle.std.proofs.Common.{ℕ, List, Bool, length, refl, ap, ◌∙◌, sym, subst, rules}
use Rattle.std.specs.Vec.{vec_capacity}
use Rattle.cell_store.specs.Marks.{StaysMarked}
use Rattle.record_store.specs.Held.{Held, StandsFor}
use Rattle.record_store.specs.Tags.{both_sides}
use Rattle.record_store.proofs.Filling.{rollback-sound}
use Rattle.record_store.proofs.InUse.{in_use-rolled_back}
use Rattle.record_store.proofs.RunsOfCommon.{passed-rolled_back}
use Rattle.record_store.proofs.Transacting.{touched-slots, working-others, touched-rolled_back, sound-restored, restored-stands, restored-view}
use Rattle.record_store.proofs.Weighing.{weighed-rolled_back}
use Rattle.record_store.proofs.store.Store.rollback.Goals as goal

pub invariant_of-self : goal.invariant_of-self
invariant_of-self c =
    let whole : Held = record { chains = c.self.inside.chains; row_limit = c.self.inside.row_limit; committed = c.self.inside.committed.items; working = c.self.inside.working.items; begun = c.self.inside.begun; first_octets = c.self.inside.first_octets.items; tags = c.self.inside.tags } in
    let same = c.copy_slots.ensures ∙ c.as_slice-committed.ensures.value in
    record {
      in_use = in_use-rolled_back whole c.free_replaced.new.cells c.rollback.new.self _ c.self.inside.slots_in_use c.free_replaced.ensures.cells same c.self.invariant.in_use;
      passed = passed-rolled_back whole c.free_replaced.new.cells c.rollback.new.self _ c.self.inside.common_runs c.free_replaced.ensures.cells same c.self.invariant.passed;
      weighed = weighed-rolled_back whole c.free_replaced.new.cells c.rollback.new.self _ c.self.inside.committed_weight c.self.inside.working_weight c.self.invariant.weighed c.free_replaced.ensures.links
          (sound-restored whole c.free_replaced.new.cells c.rollback.new.self _ same (rollback-sound whole c.free_replaced.new.cells c.as_slice.result.now c.as_slice-committed.result.now c.self.invariant.weighed.sound (ap (λ (held : Held). held.begun) c.self.view_is ∙ c.requires.begun) c.as_slice.ensures.value c.as_slice-committed.ensures.value
          c.free_replaced.ensures.cells c.free_replaced.ensures.links c.free_replaced.ensures.freed c.free_replaced.ensures.others c.free_replaced.ensures.fewer c.free_replaced.ensures.count));
      transaction = touched-rolled_back whole c.free_replaced.new.cells c.rollback.new.self _ c.self.inside.touched c.clear.new.self (vec_capacity c.self.inside.entries) c.free_replaced.ensures.cells same c.clear.ensures.slots c.clear.ensures.size c.rollback.ensures c.self.invariant.transaction;
    }

pub free_replaced-requires-clause-slots : goal.free_replaced-requires-clause-slots
free_replaced-requires-clause-slots c =
    touched-slots _ c.self.inside.touched _ c.as_slice.result.now c.slots-slots.result.now c.self.invariant.transaction c.slots-slots.ensures.are c.slots-slots.ensures.slots (ap (length {A = ℕ}) c.as_slice.ensures.value ∙ c.self.invariant.weighed.sound.working_count)

pub free_replaced-requires-clause-others : goal.free_replaced-requires-clause-others
free_replaced-requires-clause-others c =
    working-others _ c.self.inside.touched _ c.slots-slots.result.now c.as_slice.result.now c.as_slice-committed.result.now c.self.invariant.transaction c.slots-slots.ensures.slots c.as_slice.ensures.value c.as_slice-committed.ensures.value

pub copy_slots-requires-clause-slots : goal.copy_slots-requires-clause-slots
copy_slots-requires-clause-slots c =
    touched-slots _ c.self.inside.touched _ c.as_slice-committed.result.now c.slots-slots.result.now c.self.invariant.transaction c.slots-slots.ensures.are c.slots-slots.ensures.slots (ap (length {A = ℕ}) c.as_slice-committed.ensures.value ∙ c.self.invariant.weighed.sound.committed_count)

pub copy_slots-requires-clause-others : goal.copy_slots-requires-clause-others
copy_slots-requires-clause-others c =
    working-others _ c.self.inside.touched _ c.slots-slots.result.now c.self.inside.working.items c.as_slice-committed.result.now c.self.invariant.transaction c.slots-slots.ensures.slots refl c.as_slice-committed.ensures.value

pub returns : goal.returns
returns c = record {
  ended = search rules;
  cells = search rules;
  rows = search rules;
  stands = λ image stands.
      let held = c.args.self.now in
      let cells = c.free_replaced.ensures.cells ∙ ap (λ (held : Held). held.chains.cells) c.self.view_is in
      let links = c.free_replaced.ensures.links ∙ ap (λ (held : Held). held.chains.links) c.self.view_is in
      subst (λ (held : Held). StandsFor held image) (sym (restored-view held c.free_replaced.new.cells _ _ _ _ _ cells links (ap (λ (held : Held). held.row_limit) c.self.view_is) (ap (λ (held : Held). held.committed) c.self.view_is)
      (ap (λ (held : Held). held.first_octets) c.self.view_is) (c.rollback.ensures ∙ ap (λ (held : Held). both_sides held.tags.committed) c.self.view_is)))
      (restored-stands held c.free_replaced.new.cells.used _ image (subst (λ (used : List Bool). StaysMarked c.free_replaced.new.cells.used used) (ap (λ (held : Held). held.chains.used) c.self.view_is) c.free_replaced.ensures.fewer) stands);
  committed = search rules;
}
