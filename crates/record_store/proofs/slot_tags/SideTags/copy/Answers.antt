-- Both columns of a slot are copied, slot after slot.
use Rattle.std.proofs.Common.{◌≡◌, ◌<◌, ◌∙◌, ℕ, List, length, get_or, ap, sym, refl, arith}
use Rattle.std.proofs.lemmas.List.{length-set}
use Rattle.cell_store.proofs.Freeing.{link-read}
use Rattle.record_store.specs.Tags.{SideTags}
use Rattle.record_store.specs.Touched.{AreSlots}
use Rattle.record_store.proofs.Touching.{among-at, copy-end, copy-more}
use Rattle.record_store.proofs.slot_tags.SideTags.copy.Goals as goal

abbrev with_both : List ℕ → List ℕ → SideTags
with_both names stamps = record { names = names; stamps = stamps }

-- the slot at a place among slots
slot-inside : (size : ℕ) (slots : List ℕ) (i : ℕ) → AreSlots size slots → i < length slots → get_or slots i 0 < size
slot-inside size slots i are there = are.inside (get_or slots i 0) (among-at slots i there)

same-tags : (a b c d : List ℕ) → a ≡ c → b ≡ d → with_both a b ≡ with_both c d
same-tags a b c d first second = rw (first, second) refl

pub index-requires : goal.index-requires
index-requires c =
    let there = slot-inside _ _ c.loop-slot.slot-index c.requires.slots c.loop-slot-test.true in
    let names : length c.args.other.now.names ≡ length c.other.inside.names.items = ap (λ (tags : SideTags). length tags.names) (sym c.other.view_is) in
    omega (arith, there, names, c.other.inside.names.ok.0)

pub index_mut-requires : goal.index_mut-requires
index_mut-requires c =
    let there = slot-inside _ _ c.loop-slot.slot-index c.requires.slots c.loop-slot-test.true in
    let names : length c.args.other.now.names ≡ length c.other.inside.names.items = ap (λ (tags : SideTags). length tags.names) (sym c.other.view_is) in
    omega (arith, there, names, c.loop-slot.invariant.names_count, c.loop-slot.self-inside.names.ok.0)

pub index-requires-in-loop-slot : goal.index-requires-in-loop-slot
index-requires-in-loop-slot c =
    let there = slot-inside _ _ c.loop-slot.slot-index c.requires.slots c.loop-slot-test.true in
    let stamps : length c.args.other.now.stamps ≡ length c.other.inside.stamps.items = ap (λ (tags : SideTags). length tags.stamps) (sym c.other.view_is) in
    omega (arith, there, stamps, c.requires.differ.even, c.other.inside.stamps.ok.0)

pub index_mut-requires-in-loop-slot : goal.index_mut-requires-in-loop-slot
index_mut-requires-in-loop-slot c =
    let there = slot-inside _ _ c.loop-slot.slot-index c.requires.slots c.loop-slot-test.true in
    let stamps : length c.args.other.now.stamps ≡ length c.other.inside.stamps.items = ap (λ (tags : SideTags). length tags.stamps) (sym c.other.view_is) in
    omega (arith, there, stamps, c.requires.differ.even, c.loop-slot.invariant.stamps_count, c.loop-slot.self-inside.stamps.ok.0)

pub loop-slot-preserved : goal.loop-slot-preserved
loop-slot-preserved c =
    let at : ℕ = get_or c.args.slots.now c.loop-slot.slot-index 0 in
    let there = slot-inside _ _ c.loop-slot.slot-index c.requires.slots c.loop-slot-test.true in
    let names : length c.args.other.now.names ≡ length c.other.inside.names.items = ap (λ (tags : SideTags). length tags.names) (sym c.other.view_is) in
    let stamps : length c.args.other.now.stamps ≡ length c.other.inside.stamps.items = ap (λ (tags : SideTags). length tags.stamps) (sym c.other.view_is) in
    let name = link-read c.other.inside.names.items c.other.inside.names.items at c.index.result.now refl (omega (arith, there, names)) c.index.ensures in
    let stamp = link-read c.other.inside.stamps.items c.other.inside.stamps.items at c.index-in-loop-slot.result.now refl (omega (arith, there, stamps, c.requires.differ.even)) c.index-in-loop-slot.ensures in
    record {
      names_count = length-set c.loop-slot.self-inside.names.items at c.index.result.now ∙ c.loop-slot.invariant.names_count;
      names = rw name (copy-more c.args.slots.now c.other.inside.names.items c.loop-slot.self-inside.names.items c.loop-slot.slot-index c.loop-slot-test.true (omega (arith, there, names, c.loop-slot.invariant.names_count)) c.loop-slot.invariant.names);
      stamps_count = length-set c.loop-slot.self-inside.stamps.items at c.index-in-loop-slot.result.now ∙ c.loop-slot.invariant.stamps_count;
      stamps = rw stamp (copy-more c.args.slots.now c.other.inside.stamps.items c.loop-slot.self-inside.stamps.items c.loop-slot.slot-index c.loop-slot-test.true (omega (arith, there, stamps, c.requires.differ.even, c.loop-slot.invariant.stamps_count)) c.loop-slot.invariant.stamps);
    }

pub returns : goal.returns
returns c =
    let names = copy-end c.args.slots.now c.other.inside.names.items c.loop-slot.self-inside.names.items c.loop-slot.slot-index (omega arith) c.loop-slot.invariant.names_count c.loop-slot.invariant.names in
    let stamps = copy-end c.args.slots.now c.other.inside.stamps.items c.loop-slot.self-inside.stamps.items c.loop-slot.slot-index (omega arith) c.loop-slot.invariant.stamps_count c.loop-slot.invariant.stamps in
    same-tags _ _ _ _ names stamps ∙ c.other.view_is
