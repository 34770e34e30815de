-- The number of cells of each side's records is kept, as slots are emptied and filled and as a transaction ends.
use Rattle.std.proofs.Common.{◌≡◌, ℕ, ◌+◌, ◌<◌, ◌≤◌, Bool, true, false, List, length, set, get_or, slice_index, take, Some, sum_by, sym, refl, ap, ◌∙◌, arith, subst}
use Rattle.std.proofs.lemmas.List.{get_or-set_same, take_all}
use Rattle.std.proofs.lemmas.List.Sums.{sum_by-set}
use Rattle.eeprom.specs.StoreOf.{longest_chain, Slots, weight_of}
use Rattle.cell_store.specs.Cells.{Cells, StayLinked}
use Rattle.cell_store.specs.Chains.{steps}
use Rattle.cell_store.specs.Claims.{TakesChain}
use Rattle.cell_store.specs.Writing.{KeepsChains}
use Rattle.cell_store.proofs.Linking.{steps-linked, steps-end}
use Rattle.record_store.specs.Held.{Held, StandsFor, firsts, contents}
use Rattle.record_store.specs.Opening.{HeldSoFar, IsSoundSoFar}
use Rattle.record_store.specs.Slots.{steps_without}
use Rattle.record_store.specs.Sound.{IsSound}
use Rattle.record_store.specs.Tags.{Tags}
use Rattle.record_store.specs.Weighed.{walk, IsWeighed}
use Rattle.record_store.specs.declared.side.Side.{Side}
use Rattle.record_store.specs.declared.side.Side.TheVariants.{Committed, Working}
use Rattle.record_store.proofs.Filling.{Emptied, with_cells, filled-sound, failed-sound}
use Rattle.record_store.proofs.OpeningSlots.{finished, sound-finished}
use Rattle.record_store.proofs.Putting.{walk-emptied}
use Rattle.record_store.proofs.Sides.{chains-stay, small-links}
use Rattle.record_store.proofs.Weights.{side-chains, walk-chains, weight-is, weight-most}

-- the number that is kept for a side
abbrev pub side_weight : Side → ℕ → ℕ → ℕ
side_weight Committed committed working = committed
side_weight Working committed working = working

side-weight : (held : Held) (committed working : ℕ) (side : Side) → IsWeighed held committed working → side_weight side committed working ≡ walk held.chains.links (firsts held side)
side-weight held committed working Committed w = w.committed_is
side-weight held committed working Working w = w.working_is

-- it is that of the records
pub weighed-is : (held : Held) (committed working : ℕ) (side : Side) → IsWeighed held committed working → (image : List ℕ) → (slots : Slots) → StandsFor held image → contents held side image ≡ Some slots → side_weight side committed working ≡ weight_of slots
weighed-is held committed working side w = weight-is held side held.chains.links (firsts held side) (side_weight side committed working) w.sound refl refl (side-weight held committed working side w)

pub weighed-most : (held : Held) (committed working : ℕ) (side : Side) → IsWeighed held committed working → side_weight side committed working ≤ held.chains.cells
weighed-most held committed working side w = weight-most held side held.chains.links (firsts held side) (side_weight side committed working) w.sound refl refl (side-weight held committed working side w)

working-firsts : (held : Held) → held.begun ≡ true → firsts held Working ≡ held.working
working-firsts held begun = rw begun refl

-- without the chain of a slot
pub weighed-without : (held : Held) (committed working slot : ℕ) → IsWeighed held committed working → held.begun ≡ true → slot < held.chains.cells
    → working ≡ steps_without held.chains.links held.working slot + steps held.chains.links longest_chain (slice_index held.working slot)
weighed-without held committed working slot w begun inside =
    let there : slot < length held.working = omega (arith, inside, w.sound.working_count) in
    let is : working ≡ walk held.chains.links held.working = w.working_is ∙ ap (λ (firsts : List ℕ). sum_by (steps held.chains.links longest_chain) firsts) (working-firsts held begun) in
    let few = small-links held w.sound in
    omega (arith, is, sum_by-set (steps held.chains.links longest_chain) held.working slot 65535 0 there, steps-end held.chains.links longest_chain 65535 few, walk-emptied held.chains.links held.working slot few there)

-- links of other cells may change
walk-stay : (held : Held) (side : Side) (links : List ℕ) → IsSound held → length links ≡ length held.chains.links → StayLinked held.chains.used held.chains.links links → walk links (firsts held side) ≡ walk held.chains.links (firsts held side)
walk-stay held side links sound size stay =
    let s = side-chains held side sound in
    let few = small-links held sound in
    walk-chains links (firsts held side) s.chains (omega (arith, size, few)) (chains-stay held.chains.used held.chains.links links (firsts held side) s.chains size stay s.marked s.has.are)
    ∙ sym (walk-chains held.chains.links (firsts held side) s.chains few s.has.are)

pub weighed-finished : (held : HeldSoFar) (working : List ℕ) (tags : Tags) → IsSoundSoFar held → held.claimed ≡ held.chains.cells → length working ≡ held.chains.cells
    → IsWeighed (finished held working tags) held.weight held.weight
weighed-finished held working tags sound all count =
    let whole : take held.claimed held.firsts ≡ held.firsts = take_all held.claimed held.firsts (omega (arith, all, sound.count)) in
    let walked = walk-chains held.chains.links (take held.claimed held.firsts) sound.chains.slots.chains (omega (arith, sound.range.links_count, sound.range.many)) sound.chains.slots.has.are in
    let is : held.weight ≡ walk held.chains.links held.firsts = sym sound.chains.count_is ∙ (sym walked ∙ ap (λ (firsts : List ℕ). sum_by (steps held.chains.links longest_chain) firsts) whole) in
    record { sound = sound-finished held working tags sound all count; committed_is = is; working_is = is }

-- a slot was emptied
pub weighed-emptied : (held : Held) (committed working slot weight : ℕ) (new : Cells) → IsWeighed held committed working → IsSound (record held { chains = new; working = set held.working slot 65535 }) → held.begun ≡ true → slot < held.chains.cells → new.links ≡ held.chains.links
    → weight ≡ steps_without held.chains.links held.working slot → IsWeighed (record held { chains = new; working = set held.working slot 65535 }) committed weight
weighed-emptied held committed working slot weight new w next begun inside links is =
    let emptied_is = walk-emptied held.chains.links held.working slot (small-links held w.sound) (omega (arith, inside, w.sound.working_count)) in
    record {
      sound = next;
      committed_is = rw links (w.committed_is);
      working_is = rw (links, begun) (is ∙ sym emptied_is);
    }

-- it was filled again
pub weighed-filled : (held mid : Held) (used : List Bool) (slot weight count first octet committed working : ℕ) (new : Cells) (tags : Tags) → Emptied held mid used slot weight count → TakesChain mid.chains new first count → IsWeighed mid committed working
    → IsWeighed (record mid { chains = new; working = set mid.working slot first; first_octets = set mid.first_octets first octet; tags = tags }) committed (weight + count)
weighed-filled held mid used slot weight count first octet committed working new tags e takes w = record {
  sound = filled-sound held mid used slot weight count first octet new tags e takes;
  committed_is = w.committed_is ∙ sym (walk-stay mid Committed new.links mid_sound takes.links_count takes.stay);
  working_is = rw begun walked;
}
  where
    mid_sound : IsSound mid
    mid_sound = w.sound

    begun : mid.begun ≡ true
    begun = ap (λ (h : Held). h.begun) e.is ∙ e.begun

    there : slot < length mid.working
    there = omega (arith, e.inside, ap (λ (h : Held). h.chains.cells) e.is, mid_sound.working_count)

    empty : get_or mid.working slot 0 ≡ 65535
    empty = ap (λ (h : Held). slice_index h.working slot) e.is ∙ get_or-set_same held.working slot 65535 0 (omega (arith, e.inside, e.sound.working_count))

    before : walk mid.chains.links mid.working ≡ weight
    before = ap (λ (h : Held). sum_by (steps h.chains.links longest_chain) h.working) e.is ∙ (walk-emptied held.chains.links held.working slot (small-links held e.sound) (omega (arith, e.inside, e.sound.working_count)) ∙ sym e.weight_is)

    stays : walk new.links mid.working ≡ walk mid.chains.links mid.working
    stays = subst (λ (firsts : List ℕ). walk new.links firsts ≡ walk mid.chains.links firsts) (working-firsts mid begun) (walk-stay mid Working new.links mid_sound takes.links_count takes.stay)

    few : length new.links ≤ 65535
    few = omega (arith, takes.links_count, small-links mid mid_sound)

    walked : weight + count ≡ walk new.links (set mid.working slot first)
    walked =
        let change = sum_by-set (steps new.links longest_chain) mid.working slot first 0 there in
        let nothing : steps new.links longest_chain (get_or mid.working slot 0) ≡ 0 = rw empty (steps-end new.links longest_chain 65535 few) in
        let chain = steps-linked new.links first longest_chain takes.chain few takes.linked (omega (arith, takes.count_is, takes.short)) in
        omega (arith, change, nothing, chain, takes.count_is, stays, before)

-- a write that failed left the chains as they were
pub weighed-failed : (held : Held) (new : Cells) (committed working : ℕ) → IsWeighed held committed working → KeepsChains held.chains new → IsWeighed (with_cells held new) committed working
weighed-failed held new committed working w keeps = record {
  sound = failed-sound held new w.sound keeps;
  committed_is = w.committed_is ∙ sym (walk-stay held Committed new.links w.sound keeps.links_count keeps.stay);
  working_is = w.working_is ∙ sym (walk-stay held Working new.links w.sound keeps.links_count keeps.stay);
}

-- a transaction was committed
pub weighed-committed : (held : Held) (new : Cells) (tags : Tags) (firsts_now : List ℕ) (committed working : ℕ) → IsWeighed held committed working → held.begun ≡ true → new.links ≡ held.chains.links → firsts_now ≡ held.working
    → IsSound (record held { chains = new; committed = firsts_now; begun = false; tags = tags })
    → IsWeighed (record held { chains = new; committed = firsts_now; begun = false; tags = tags }) working working
weighed-committed held new tags firsts_now committed working w begun links same sound =
    let is : working ≡ walk held.chains.links held.working = w.working_is ∙ ap (λ (firsts : List ℕ). sum_by (steps held.chains.links longest_chain) firsts) (working-firsts held begun) in
    let now : working ≡ walk new.links firsts_now = rw (links, same) is in
    record { sound = sound; committed_is = now; working_is = now }

-- it was rolled back
pub weighed-rolled_back : (held : Held) (new : Cells) (tags : Tags) (firsts_now : List ℕ) (committed working : ℕ) → IsWeighed held committed working → new.links ≡ held.chains.links → IsSound (record held { chains = new; working = firsts_now; begun = false; tags = tags })
    → IsWeighed (record held { chains = new; working = firsts_now; begun = false; tags = tags }) committed committed
weighed-rolled_back held new tags firsts_now committed working w links sound =
    let now : committed ≡ walk new.links held.committed = rw links (w.committed_is) in
    record { sound = sound; committed_is = now; working_is = now }
