-- Once all slots were claimed, the chains in memory are those of a store.
use Rattle.std.proofs.Common.{◌≡◌, ◌∙◌, ℕ, length, refl, ap, sym, subst, rules, arith}
use Rattle.std.proofs.lemmas.Grind.{common_steps}
use Rattle.std.specs.Vec.{vec_capacity}
use Rattle.eeprom.specs.StoreOf.{weight_of}
use Rattle.record_store.specs.Opening.{HeldSoFar, StandsSoFar}
use Rattle.record_store.proofs.Transacting.{touched-finished}
use Rattle.record_store.proofs.InUse.{in_use-finished}
use Rattle.record_store.proofs.OpeningSlots.{held_of, sound-finished, stands-finished, weight-finished}
use Rattle.record_store.proofs.RunsOfCommon.{passed-finished, firsts-kept}
use Rattle.record_store.proofs.Weighing.{weighed-finished}
use Rattle.record_store.proofs.opening.Opening.finish.Goals as goal

pub invariant_of-result : goal.invariant_of-result
invariant_of-result c =
    let mine = c.self.inside in
    let all : mine.claimed ≡ mine.chains.cells = subst (λ (held : HeldSoFar). held.claimed ≡ held.chains.cells) (sym c.self.view_is) c.requires.all in
    let whole = held_of mine.chains mine.row_limit mine.committed.items mine.claimed mine.weight mine.first_octets.items mine.tags.committed in
    record {
      weighed = weighed-finished whole mine.working.items mine.tags c.self.invariant.3 all (ap (length {A = ℕ}) c.self.invariant.0 ∙ c.self.invariant.3.count);
      in_use = in_use-finished whole mine.working.items mine.tags c.slots_in_use-slots_in_use.result c.self.invariant.0 c.self.invariant.3.count (rw c.as_slice-firsts.ensures.value at c.slots_in_use-slots_in_use.ensures.most) (rw c.as_slice-firsts.ensures.value at c.slots_in_use-slots_in_use.ensures.empty);
      passed = passed-finished whole mine.working.items mine.tags c.take_in_all.new.runs c.self.invariant.0 (c.take_in_all.ensures.size ∙ c.self.invariant.2.searched) (rw (c.as_slice-firsts.ensures.value, c.as_slice.ensures.value) at c.take_in_all.ensures.common);
      transaction = touched-finished whole mine.working.items mine.tags mine.touched (vec_capacity mine.entries) c.self.invariant.0 c.self.invariant.1 c.self.invariant.3.tags_count mine.common_runs c.self.invariant.2;
    }

pub take_in_all-requires-clause-kept : goal.take_in_all-requires-clause-kept
take_in_all-requires-clause-kept c =
    let mine = c.self.inside in
    let all : mine.claimed ≡ mine.chains.cells = subst (λ (held : HeldSoFar). held.claimed ≡ held.chains.cells) (sym c.self.view_is) c.requires.all in
    let whole = held_of mine.chains mine.row_limit mine.committed.items mine.claimed mine.weight mine.first_octets.items mine.tags.committed in
    rw (c.as_slice-firsts.ensures.value, c.as_slice.ensures.value) (firsts-kept whole mine.working.items mine.tags (sound-finished whole mine.working.items mine.tags c.self.invariant.3 all (ap (length {A = ℕ}) c.self.invariant.0 ∙ c.self.invariant.3.count)))

pub returns : goal.returns
returns c = record {
  stands = λ image stands.
      let mine = c.self.inside in
      stands-finished (held_of mine.chains mine.row_limit mine.committed.items mine.claimed mine.weight mine.first_octets.items mine.tags.committed) mine.working.items mine.tags image refl c.self.invariant.3.count
      (subst (λ (held : HeldSoFar). held.claimed ≡ held.chains.cells) (sym c.self.view_is) c.requires.all) (subst (λ (held : HeldSoFar). StandsSoFar held image) (sym c.self.view_is) stands);
  opened = search rules;
  slots = λ image stands. grind (arith, common_steps);
  weight = λ image slots stands there.
      let mine = c.self.inside in
      subst (λ (held : HeldSoFar). held.weight ≡ weight_of slots) c.self.view_is
      (weight-finished (held_of mine.chains mine.row_limit mine.committed.items mine.claimed mine.weight mine.first_octets.items mine.tags.committed) image slots c.self.invariant.3 (subst (λ (held : HeldSoFar). held.claimed ≡ held.chains.cells) (sym c.self.view_is) c.requires.all)
      (subst (λ (held : HeldSoFar). StandsSoFar held image) (sym c.self.view_is) stands) there);
  idle = search rules;
  cells = search rules;
}
