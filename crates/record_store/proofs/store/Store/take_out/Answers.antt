use Rattle.std.proofs.Common.{◌≡◌, ◌<◌, ℕ, set, slice_index, ap, ◌∙◌, sym, refl, subst, arith, rules, true}
use Rattle.std.specs.Vec.{vec_capacity}
use Rattle.cell_store.proofs.Freeing.{link-read}
use Rattle.record_store.specs.Held.{Held}
use Rattle.record_store.specs.Slots.{steps_without}
use Rattle.record_store.specs.Sound.{IsSound}
use Rattle.record_store.specs.Kept.{IsInMemory}
use Rattle.record_store.specs.declared.store.Store.TheInside.{Inside}
use Rattle.record_store.proofs.ChangedSlots.{entries-emptied, only-emptied}
use Rattle.record_store.proofs.Emptying.{removed-stands}
use Rattle.record_store.proofs.Filling.{freed-sound, kept-sound}
use Rattle.record_store.proofs.InUse.{in_use-emptied}
use Rattle.record_store.proofs.RunsOfCommon.{passed-emptied}
use Rattle.record_store.proofs.Transacting.{tag-stays, touched-set}
use Rattle.record_store.proofs.Weighing.{weighed-emptied}
use Rattle.record_store.proofs.store.Store.take_out.Goals.{then-first-index, else-first-index}
use Rattle.record_store.proofs.store.Store.take_out.Goals as goal

-- what holds of a store whose slot is empty
abbrev emptied_is_kept : ℕ → ℕ → Inside → Type 0
emptied_is_kept slot weight inside = IsInMemory (record { chains = inside.chains; row_limit = inside.row_limit; committed = inside.committed.items; working = set inside.working.items slot 65535; begun = inside.begun; first_octets = inside.first_octets.items; tags = inside.tags }) inside.committed_weight weight inside.slots_in_use inside.touched (vec_capacity inside.entries) inside.common_runs

pub invariant_of-self : goal.invariant_of-self
invariant_of-self c =
    let begun : c.self.inside.begun ≡ true = ap (λ (held : Held). held.begun) c.self.view_is ∙ c.requires.begun in
    let cells : c.self.inside.chains.cells ≡ c.args.self.now.chains.cells = ap (λ (held : Held). held.chains.cells) c.self.view_is in
    let inside : c.args.slot < c.self.inside.chains.cells = omega (arith, cells, c.requires.slot) in
    let first : c.index-first.result.now ≡ slice_index c.self.inside.working.items c.args.slot =
    link-read c.self.inside.working.items c.self.inside.working.items c.args.slot c.index-first.result.now refl (omega (arith, cells, c.requires.slot, c.self.invariant.weighed.sound.working_count)) c.index-first.ensures in
    let old : c.index.result.now ≡ slice_index c.self.inside.committed.items c.args.slot =
    link-read c.self.inside.committed.items c.self.inside.committed.items c.args.slot c.index.result.now refl (omega (arith, cells, c.requires.slot, c.self.invariant.weighed.sound.committed_count)) c.index.ensures in
    let weight : c.args.weight ≡ steps_without c.self.inside.chains.links c.self.inside.working.items c.args.slot =
    c.requires.weight ∙ ap (λ (held : Held). steps_without held.chains.links held.working c.args.slot) (sym c.self.view_is) in
    elim c.if-first-index.branch [
      | then-first-index w ↦ subst (emptied_is_kept c.args.slot c.args.weight) (sym w.self-inside-is)
          (record {
            weighed = weighed-emptied _ c.self.inside.committed_weight c.self.inside.working_weight c.args.slot c.args.weight w.free_chain.new.self c.self.invariant.weighed (freed-sound _ w.free_chain.new.self c.args.slot c.index-first.result.now c.self.invariant.weighed.sound begun inside first (λ same. w.if-first-index.true (same ∙ sym old)) w.free_chain.ensures.freed w.free_chain.ensures.cells w.free_chain.ensures.links
                w.free_chain.ensures.count) begun inside w.free_chain.ensures.links weight;
            in_use = in_use-emptied _ w.free_chain.new.self c.args.slot c.self.inside.slots_in_use w.free_chain.ensures.cells c.self.invariant.in_use;
            passed = passed-emptied _ w.free_chain.new.self c.args.slot c.self.inside.common_runs w.free_chain.ensures.cells c.self.invariant.passed;
            transaction = touched-set _ w.free_chain.new.self c.self.inside.first_octets.items c.self.inside.tags c.args.slot 65535 c.self.inside.touched c.touch.new.self (vec_capacity c.self.inside.entries) begun w.free_chain.ensures.cells c.touch.ensures.slots c.touch.ensures.size (tag-stays c.self.inside.tags c.args.slot) c.self.invariant.transaction;
          })
      | else-first-index w ↦ subst (emptied_is_kept c.args.slot c.args.weight) (sym w.self-inside-is)
          (record {
            weighed = weighed-emptied _ c.self.inside.committed_weight c.self.inside.working_weight c.args.slot c.args.weight c.self.inside.chains c.self.invariant.weighed
                (kept-sound _ c.args.slot c.self.invariant.weighed.sound begun inside (sym first ∙ (w.if-first-index.false ∙ old))) begun inside refl weight;
            in_use = in_use-emptied _ c.self.inside.chains c.args.slot c.self.inside.slots_in_use refl c.self.invariant.in_use;
            passed = passed-emptied _ c.self.inside.chains c.args.slot c.self.inside.common_runs refl c.self.invariant.passed;
            transaction = touched-set _ c.self.inside.chains c.self.inside.first_octets.items c.self.inside.tags c.args.slot 65535 c.self.inside.touched c.touch.new.self (vec_capacity c.self.inside.entries) begun refl c.touch.ensures.slots c.touch.ensures.size (tag-stays c.self.inside.tags c.args.slot) c.self.invariant.transaction;
          })
    ]

pub returns : goal.returns
returns c = record {
  removed = λ image stands. removed-stands c.args.self.now _ c.args.slot c.if-first-index.self-inside.chains.used image (subst IsSound c.self.view_is c.self.invariant.weighed.sound) (invariant_of-self c).weighed.sound c.requires.begun c.requires.slot (search rules) (search rules) stands;
  begun = search rules;
  cells = search rules;
  rows = search rules;
  emptied = search rules;
  fewer = search rules;
  only = only-emptied c.args.self.now _ c.args.slot c.if-first-index.self-inside.chains.used (invariant_of-self c).weighed.sound c.requires.begun (search rules);
  entries = entries-emptied c.args.self.now _ c.args.slot c.if-first-index.self-inside.chains.used (invariant_of-self c).weighed.sound c.requires.begun (search rules);
}
