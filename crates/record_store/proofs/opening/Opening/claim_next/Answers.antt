-- The slot that is claimed is the next one, and what holds of the slots before it holds with it.
use Rattle.std.proofs.Common.{◌≡◌, ◌+◌, ◌<◌, ℕ, List, ◌∙◌, get_or, IfSome, refl, sym, ap, rules, arith, subst}
use Rattle.std.specs.Prelude.{option_map, ◌++◌, [], ◌∷◌}
use Rattle.std.specs.Vec.{vec_capacity}
use Rattle.record_store.specs.Kept.{HasMemory}
use Rattle.cell_store.specs.Cells.{Cells}
use Rattle.cell_store.proofs.Freeing.{link-read}
use Rattle.record_store.specs.Opening.{HeldSoFar, IsSoundSoFar, StandsSoFar, TakesSlot, slots_so_far, slot_with, with_octet}
use Rattle.record_store.specs.Tags.{SideTags, with_tags}
use Rattle.record_store.proofs.OpeningSlots.{octets-inside, held_of, held-same, with_slot, slots-next, stands-next, sound-next, store-refused, store-over}
use Rattle.record_store.proofs.opening.Opening.claim_next.Goals.{After-claim_slot, After-keep_octet, After-found}
use Rattle.record_store.proofs.opening.Opening.claim_next.Goals as goal

-- what was held before
abbrev mine : (g : _) → After-claim_slot g → HeldSoFar
mine g c = held_of c.self.inside.chains c.self.inside.row_limit c.self.inside.committed.items c.self.inside.claimed c.self.inside.weight c.self.inside.first_octets.items c.self.inside.tags.committed

left : (g : _) (c : After-claim_slot g) → (mine g c).claimed < (mine g c).chains.cells
left g c = subst (λ (held : HeldSoFar). held.claimed < held.chains.cells) (sym c.self.view_is) c.requires.left

stands : (g : _) (c : After-claim_slot g) → IfSome (g.B.Eeprom.chip c.args.bench.now).image (StandsSoFar (mine g c))
stands g c = subst (λ (held : HeldSoFar). IfSome (g.B.Eeprom.chip c.args.bench.now).image (StandsSoFar held)) (sym c.self.view_is) c.requires.over.stands

first : (g : _) (c : After-claim_slot g) → c.index-first.result.now ≡ get_or (mine g c).firsts (mine g c).claimed 0
first g c = link-read c.self.inside.committed.items c.self.inside.committed.items c.self.inside.claimed c.index-first.result.now refl (omega (arith, left g c, c.self.invariant.3.count)) c.index-first.ensures

takes-first : (g : _) (at : After-claim_slot g) (new : Cells) (octets : List ℕ) (count : ℕ) → TakesSlot (g.B.Eeprom.chip at.args.bench.now).image at.self.inside.chains new at.index-first.result.now octets count
    → TakesSlot (g.B.Eeprom.chip at.args.bench.now).image (mine g at).chains new (get_or (mine g at).firsts (mine g at).claimed 0) octets count
takes-first g at new octets count takes = subst (λ (first : ℕ). TakesSlot (g.B.Eeprom.chip at.args.bench.now).image (mine g at).chains new first octets count) (first g at) takes

-- the octet is kept for a cell
pub keep_octet-requires : goal.keep_octet-requires
keep_octet-requires g c = record {
  inside = λ some.
      let takes = c.in_ok-count.ensures.takes in
      omega (arith, octets-inside c.self.inside.chains c.claim_slot.new.chains c.index-first.result.now c.in_ok-count.count c.claim_slot.new.out.items takes.chain c.in_ok-count.ensures.count (rw c.as_slice.ensures.value at some), takes.chain.links_count, c.self.invariant.3.range.links_count, c.self.invariant.3.octets_count);
}

kept-now : (g : _) (at : After-keep_octet g) → at.keep_octet.new.first_octets.items ≡ with_octet (mine g (goal.at.After-keep_octet g at).After-claim_slot).first_octets (get_or (mine g (goal.at.After-keep_octet g at).After-claim_slot).firsts (mine g (goal.at.After-keep_octet g at).After-claim_slot).claimed 0) at.claim_slot.new.out.items
kept-now g at = rw (at.as_slice.ensures.value, first g (goal.at.After-keep_octet g at).After-claim_slot) at at.keep_octet.ensures

tags-now : (g : _) (at : After-found g) → at.found.new.self.committed ≡ with_tags at.self.inside.tags.committed at.self.inside.claimed at.claim_slot.new.out.items
tags-now g at = rw (at.as_slice-2.ensures.value) at at.found.ensures.committed

pub invariant_of-result : goal.invariant_of-result
invariant_of-result g c =
    let at = (goal.at.invariant_of-result g c).After-claim_slot in
    let takes = takes-first g at c.claim_slot.new.chains c.claim_slot.new.out.items c.in_ok-count.count c.in_ok-count.ensures.takes in
    let kept = kept-now g (goal.at.invariant_of-result g c).After-keep_octet in
    (c.self.invariant.0, c.found.ensures.working ∙ (ap (λ (tags : SideTags). with_tags tags c.self.inside.claimed c.as_slice-2.result.now) c.self.invariant.1 ∙ sym c.found.ensures.committed), subst (λ (cells : ℕ). HasMemory cells c.self.inside.touched (vec_capacity c.self.inside.entries) c.self.inside.common_runs) (sym takes.chain.cells) c.self.invariant.2, held-same IsSoundSoFar c.claim_slot.new.chains c.self.inside.row_limit c.self.inside.committed.items (c.self.inside.claimed + 1) (c.self.inside.weight + c.in_ok-count.count) _ _ _ _ kept (tags-now g (goal.at.invariant_of-result g c).After-found) (sound-next (mine g at) c.claim_slot.new.chains c.in_ok-count.count c.claim_slot.new.out.items c.self.invariant.3 (left g at) takes.chain (omega (arith, c.if-weight-cells.false, c.cells.ensures.number, takes.chain.cells))))

pub returns-in_err-count : goal.returns-in_err-count
returns-in_err-count g c = record {
  slots = search rules;
  over = search rules;
  claimed = search rules;
  weight = search rules;
  few = search rules;
  cells = search rules;
  rows = search rules;
  octets_read = search rules;
  most_read = search rules;
  no_memory_taken = search rules;
  not_a_card = λ refused.
      let at = (goal.at.returns-in_err-count g c).After-claim_slot in
      store-refused (mine g at) (g.B.Eeprom.chip c.args.bench.now).image c.self.invariant.3 (left g at)
      (rw (first g at) at (c.in_err-count.ensures.bad_chain (search rules)).0) (rw (first g at) at (c.in_err-count.ensures.bad_chain (search rules)).1) (stands g at);
  frame = search rules;
}

pub returns-then-weight-cells : goal.returns-then-weight-cells
returns-then-weight-cells g c = record {
  slots = search rules;
  over = search rules;
  claimed = search rules;
  weight = search rules;
  few = search rules;
  cells = search rules;
  rows = search rules;
  octets_read = search rules;
  most_read = search rules;
  no_memory_taken = search rules;
  not_a_card = λ _.
      let at = (goal.at.returns-then-weight-cells g c).After-claim_slot in
      let takes = takes-first g at c.claim_slot.new.chains c.claim_slot.new.out.items c.in_ok-count.count c.in_ok-count.ensures.takes in
      store-over (mine g at) c.claim_slot.new.chains c.in_ok-count.count c.claim_slot.new.out.items (g.B.Eeprom.chip c.args.bench.now).image c.self.invariant.3 (left g at) takes
      (omega (arith, c.if-weight-cells.true, c.cells.ensures.number, takes.chain.cells)) (stands g at);
  frame = search rules;
}

pub returns : goal.returns
returns g c = record {
  slots =
      let at = (goal.at.returns g c).After-claim_slot in
      let takes = takes-first g at c.claim_slot.new.chains c.claim_slot.new.out.items c.in_ok-count.count c.in_ok-count.ensures.takes in
      let image = (g.B.Eeprom.chip c.args.bench.now).image in
      let octets = c.claim_slot.new.out.items in
      subst (λ (held : HeldSoFar). IfSome image (λ image. slots_so_far (with_slot (mine g at) c.claim_slot.new.chains c.in_ok-count.count octets) image ≡ option_map (λ slots. slots ++ slot_with octets ∷ []) (slots_so_far held image))) c.self.view_is
      (slots-next (mine g at) c.claim_slot.new.chains c.in_ok-count.count octets image c.self.invariant.3 (left g at) takes
      (omega (arith, c.if-weight-cells.false, c.cells.ensures.number, takes.chain.cells)) (stands g at));
  over =
      let at = (goal.at.returns g c).After-claim_slot in
      let takes = takes-first g at c.claim_slot.new.chains c.claim_slot.new.out.items c.in_ok-count.count c.in_ok-count.ensures.takes in
      let kept = kept-now g (goal.at.returns g c).After-keep_octet in
      let cells : (mine g at).chains.cells ≡ c.args.self.chains.cells = ap (λ (held : HeldSoFar). held.chains.cells) c.self.view_is in
      record {
        room = omega (arith, takes.chain.cells, cells, c.requires.over.room);
        stands = held-same (λ (held : HeldSoFar). IfSome (g.B.Eeprom.chip c.args.bench.now).image (StandsSoFar held)) c.claim_slot.new.chains c.self.inside.row_limit c.self.inside.committed.items (c.self.inside.claimed + 1) (c.self.inside.weight + c.in_ok-count.count) _ _ _ _ kept (tags-now g (goal.at.returns g c).After-found) (stands-next (mine g at) c.claim_slot.new.chains c.in_ok-count.count c.claim_slot.new.out.items (g.B.Eeprom.chip c.args.bench.now).image c.self.invariant.3 (left g at) takes
            c.in_ok-count.ensures.linked (omega (arith, c.if-weight-cells.false, c.cells.ensures.number, takes.chain.cells)) (stands g at));
      };
  claimed = search rules;
  weight = search rules;
  few = search rules;
  cells = search rules;
  rows = search rules;
  octets_read = search rules;
  most_read = search rules;
  no_memory_taken = search rules;
  not_a_card = search rules;
  frame = search rules;
}
