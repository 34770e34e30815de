-- The places are sorted, and their records with them.
use Rattle.std.proofs.Common.{◌∙◌, List, rules, subst, sym}
use Rattle.std.specs.List.{filter_map}
use Rattle.std.specs.List.Sorted.{IsPermutation}
use Rattle.std.proofs.lemmas.List.Sorted.{IsNonDecreasingBy-from_sort_by_key}
use Rattle.eeprom.specs.Slots.{AreApart}
use Rattle.card.specs.KeptRecords.{stamp_of}
use Rattle.card.specs.Pool.{IsPlaceIn, record_at}
use Rattle.card.specs.declared.kept_record.KeptRecord.{KeptRecord}
use Rattle.card.proofs.Pooled.{all-permuted, items-seen, length-entries, length-pool, permuted-entries, place_stamp, sorted-entries}
use Rattle.card.proofs.kept_records.KeptRecords.sort.Goals as goal

pub invariant_of-self : goal.invariant_of-self
invariant_of-self c = record {
  all = all-permuted (IsPlaceIn c.self.inside.octets.items) c.self.inside.places.items c.sort_unstable_by_key.new.self.items c.sort_unstable_by_key.ensures.permutation c.self.invariant.all;
  room = rw c.sort_unstable_by_key.ensures.capacity c.self.invariant.room;
  few = rw c.sort_unstable_by_key.ensures.capacity c.self.invariant.few;
}

pub returns-clause-permutation : goal.returns-clause-permutation
returns-clause-permutation c =
    let octets = c.self.inside.octets.items in
    let places = c.self.inside.places.items in
    let sorted = c.sort_unstable_by_key.new.self.items in
    subst (λ (rs : List KeptRecord). IsPermutation rs (filter_map (record_at octets) sorted)) (items-seen octets places _ c.args.self.now c.self.view_is) (permuted-entries octets places sorted c.self.invariant.all c.sort_unstable_by_key.ensures.permutation)

pub returns-clause-sorted : goal.returns-clause-sorted
returns-clause-sorted c = λ apart.
    let octets = c.self.inside.octets.items in
    let places = c.self.inside.places.items in
    let sorted = c.sort_unstable_by_key.new.self.items in
    sorted-entries octets places sorted c.self.invariant.all c.sort_unstable_by_key.ensures.permutation
    (IsNonDecreasingBy-from_sort_by_key place_stamp sorted c.sort_unstable_by_key.ensures.sorted (λ a r q k. search rules))
    (subst (AreApart stamp_of) (sym (items-seen octets places _ c.args.self.now c.self.view_is)) apart)

pub returns-clause-len : goal.returns-clause-len
returns-clause-len c =
    let octets = c.self.inside.octets.items in
    let places = c.self.inside.places.items in
    let sorted = c.sort_unstable_by_key.new.self.items in
    length-entries octets sorted (all-permuted (IsPlaceIn octets) places sorted c.sort_unstable_by_key.ensures.permutation c.self.invariant.all)
    ∙ (sym c.sort_unstable_by_key.new.self.ok.0 ∙ c.sort_unstable_by_key.ensures.len ∙ c.self.inside.places.ok.0) ∙ length-pool octets places _ c.args.self.now c.self.view_is c.self.invariant.all
