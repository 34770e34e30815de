-- The runs of common records that a search passes over, as records are put into slots.
use Rattle.std.proofs.Common.{◌≡◌, ◌≢◌, ◌⊎◌, inl, inr, ℕ, zero, suc, ◌+◌, ◌-◌, ◌*◌, ◌<◌, ◌≤◌, ◌==◌, Bool, true, false, if◌then◌else◌, Option, Some, None, List, length, set, slice_index, slice_index_or, option_and_then, refl, sym, ap, ◌∙◌, subst, arith, add-one}
use Rattle.std.specs.Option.{option_map_or}
use Rattle.std.proofs.lemmas.List.{length-set, get_or-set_same, get_or-set_other}
use native.Mathlib.Numerals.{unary_clauses}
use Rattle.eeprom.specs.StoreOf.{Slots, no_cell}
use Rattle.cell_store.specs.Cells.{Cells}
use Rattle.cell_store.specs.Claims.{TakesChain}
use Rattle.record_store.specs.CommonRuns.{AreEnds, ArePassed, Passes, PassesCommon, has_common_or_none, is_common_or_none, common_octet}
use Rattle.record_store.specs.Held.{Held, StandsFor, firsts, contents, record_at, first_octet, kept_octet}
use Rattle.record_store.specs.Opening.{HeldSoFar}
use Rattle.record_store.specs.Sound.{IsSound}
use Rattle.record_store.specs.Tags.{Tags}
use Rattle.record_store.specs.declared.side.Side.{Side}
use Rattle.record_store.specs.declared.side.Side.TheVariants.{Committed, Working}
use Rattle.record_store.proofs.FirstOctets.{first-free, first-inside, kept-other, side-apart, slots-count, slot-past}
use Rattle.record_store.proofs.OpeningSlots.{finished}
use Rattle.record_store.proofs.Putting.{long-chain}
use Rattle.record_store.proofs.Records.{contents-there}
use Rattle.record_store.proofs.Sides.{inside-or-past, same-or-other}
use Rattle.record_store.proofs.Weights.{some-slots}

-- searches from the slots from one on to another, which went on behind it, stop there now
pub record StopsFrom (old now : List ℕ) (from slot : ℕ) : Type 0 where
  pub size : length now ≡ length old
  pub few : from ≤ slot + 1
  pub stops : (at : ℕ) → from ≤ at → at ≤ slot → (slice_index now at ≡ slot) × (slot < slice_index old at)
  pub before : (at : ℕ) → at < from → slice_index now at ≡ slice_index old at
  pub behind : (at : ℕ) → slot < at → slice_index now at ≡ slice_index old at

pub stops-none : (old : List ℕ) (slot : ℕ) → StopsFrom old old (slot + 1) slot
stops-none old slot = record {
  size = refl;
  few = omega arith;
  stops = λ at later earlier. absurd (omega (arith, later, earlier));
  before = λ at earlier. refl;
  behind = λ at later. refl;
}

pub stops-more : (old now : List ℕ) (from slot : ℕ) → 0 < from → StopsFrom old now from slot → slot < slice_index now (from - 1) → slot < length old → StopsFrom old (set now (from - 1) slot) (from - 1) slot
stops-more old now from slot some s further inside =
    let here : from - 1 < length now = omega (arith, s.size, s.few, inside, some) in
    let is = s.before (from - 1) (omega (arith, some)) in
    record {
      size = length-set now (from - 1) slot ∙ s.size;
      few = omega (arith, s.few);
      stops = λ at later earlier. elim (same-or-other at (from - 1)) [
        | inl same ↦ rw same (get_or-set_same now (from - 1) slot 0 here, omega (arith, further, is))
        | inr other ↦ (let more = s.stops at (omega (arith, later, other)) earlier in (get_or-set_other now (from - 1) at slot 0 other ∙ more.0, more.1))
      ];
      before = λ at earlier. get_or-set_other now (from - 1) at slot 0 (λ same. absurd (omega (arith, same, earlier))) ∙ s.before at (omega (arith, earlier));
      behind = λ at later. get_or-set_other now (from - 1) at slot 0 (λ same. absurd (omega (arith, same, later, s.few, some))) ∙ s.behind at later;
    }

-- where a slot is beside these
at-three : (at from slot : ℕ) → (at < from) ⊎ ((from ≤ at) × (at ≤ slot)) ⊎ (slot < at)
at-three at from slot = elim (inside-or-past at from) [
  | inl earlier ↦ inl earlier
  | inr later ↦ elim (inside-or-past slot at) [
    | inl behind ↦ inr (inr behind)
    | inr here ↦ inr (inl (later, here))
  ]
]

-- all before them stop no later
pub stops-before : (old now : List ℕ) (from slot : ℕ) → AreEnds old → StopsFrom old now from slot → (0 < from → slice_index now (from - 1) ≤ slot) → slot < length old → (at : ℕ) → at < from → slice_index old at ≤ slot
stops-before old now zero slot next s last inside at earlier = absurd (omega (arith, earlier))
stops-before old now (suc from) slot next s last inside at earlier =
    let here : slice_index now from ≤ slot = simp unary_clauses at (last (omega arith)) in
    rises from (omega (arith, s.before from (omega arith), here)) (omega (arith, s.few, inside)) at (omega (arith, earlier))
  where
    rises : (from : ℕ) → slice_index old from ≤ slot → from < length old → (at : ℕ) → at ≤ from → slice_index old at ≤ slot
    rises zero most there at earlier = (let same : at ≡ 0 = omega (arith, earlier) in rw same most)
    rises (suc from) most there at earlier = elim (same-or-other at (suc from)) [
      | inl same ↦ rw same most
      | inr other ↦ (let above : slice_index old (from + 1) ≤ slot = rw add-one most in
          rises from (omega (arith, above, next.rising from (omega (arith, there)))) (omega (arith, there)) at (omega (arith, earlier, other)))
    ]

module _ (old now : List ℕ) (from slot : ℕ) (next : AreEnds old) (s : StopsFrom old now from slot) (last : 0 < from → slice_index now (from - 1) ≤ slot) (inside : slot < length old) where
  pub stops-fewer : (at passed : ℕ) → Passes now at passed → Passes old at passed
  stops-fewer at passed p = elim (at-three at from slot) [
    | inl earlier ↦ record { inside = omega (arith, p.inside, s.size); behind = p.behind; before = omega (arith, p.before, s.before at earlier) }
    | inr (inl here) ↦ (let more = s.stops at here.0 here.1 in record { inside = omega (arith, p.inside, s.size); behind = p.behind; before = omega (arith, p.before, more.0, more.1) })
    | inr (inr later) ↦ record { inside = omega (arith, p.inside, s.size); behind = p.behind; before = omega (arith, p.before, s.behind at later) }
  ]

  pub stops-at : (at : ℕ) → Passes now at slot → ⊥
  stops-at at p = elim (at-three at from slot) [
    | inl earlier ↦ omega (arith, p.before, s.before at earlier, stops-before old now from slot next s last inside at earlier)
    | inr (inl here) ↦ (let more = s.stops at here.0 here.1 in omega (arith, p.before, more.0))
    | inr (inr later) ↦ omega (arith, p.behind, later)
  ]

  pub stops-next : AreEnds now
  stops-next = record {
    onward = λ at there. elim (at-three at from slot) [
      | inl earlier ↦ omega (arith, s.before at earlier, next.onward at (omega (arith, there, s.size)))
      | inr (inl here) ↦ (let more = s.stops at here.0 here.1 in omega (arith, more.0, here.1))
      | inr (inr later) ↦ omega (arith, s.behind at later, next.onward at (omega (arith, there, s.size)))
    ];
    within = λ at there. elim (at-three at from slot) [
      | inl earlier ↦ omega (arith, s.before at earlier, s.size, next.within at (omega (arith, there, s.size)))
      | inr (inl here) ↦ (let more = s.stops at here.0 here.1 in omega (arith, more.0, inside, s.size))
      | inr (inr later) ↦ omega (arith, s.behind at later, s.size, next.within at (omega (arith, there, s.size)))
    ];
    rising = λ at there. elim (at-three at from slot) [
      | inl earlier ↦ elim (at-three (at + 1) from slot) [
        | inl before ↦ omega (arith, s.before at earlier, s.before (at + 1) before, next.rising at (omega (arith, there, s.size)))
        | inr (inl here) ↦ (let more = s.stops (at + 1) here.0 here.1 in omega (arith, more.0, s.before at earlier, stops-before old now from slot next s last inside at earlier))
        | inr (inr later) ↦ omega (arith, s.before at earlier, s.behind (at + 1) later, next.rising at (omega (arith, there, s.size)))
      ]
      | inr (inl here) ↦ (let more = s.stops at here.0 here.1 in elim (at-three (at + 1) from slot) [
        | inl before ↦ absurd (omega (arith, before, here.0))
        | inr (inl also) ↦ (let next_more = s.stops (at + 1) also.0 also.1 in omega (arith, more.0, next_more.0))
        | inr (inr later) ↦ omega (arith, more.0, here.1, s.behind (at + 1) later, next.onward (at + 1) (omega (arith, there, s.size)))
      ])
      | inr (inr later) ↦ omega (arith, s.behind at later, s.behind (at + 1) (omega (arith, later)), next.rising at (omega (arith, there, s.size)))
    ];
  }

-- a slot that is empty, and one whose record is a common one
pub has-none : (octets : List ℕ) (first : ℕ) → first ≡ 65535 → has_common_or_none octets first ≡ true
has-none octets first none = rw none refl

pub has-common : (octets : List ℕ) (first : ℕ) → slice_index octets first ≡ common_octet → has_common_or_none octets first ≡ true
has-common octets first same_octet = by_first (first == no_cell)
  where
    by_first : (test : Bool) → option_map_or (λ octet. octet == common_octet) (if test then None else Some (slice_index octets first)) true ≡ true
    by_first true = refl
    by_first false = rw same_octet refl

-- one slot more is looked at
pub common-more : (octets firsts old now : List ℕ) (slot : ℕ) → ((from passed : ℕ) → Passes now from passed → Passes old from passed) → ((from passed : ℕ) → Passes old from passed → passed < slot → has_common_or_none octets (slice_index firsts passed) ≡ true)
    → ((from : ℕ) → Passes now from slot → has_common_or_none octets (slice_index firsts slot) ≡ true) → (from passed : ℕ) → Passes now from passed → passed < slot + 1 → has_common_or_none octets (slice_index firsts passed) ≡ true
common-more octets firsts old now slot fewer common here from passed p within = elim (same-or-other passed slot) [
  | inl same ↦ rw same (here from (subst (λ (passed : ℕ). Passes now from passed) same p))
  | inr other ↦ common from passed (fewer from passed p) (omega (arith, within, other))
]

-- fewer slots are passed over
pub fewer-passed : (octets firsts old now : List ℕ) → ((from passed : ℕ) → Passes now from passed → Passes old from passed) → PassesCommon octets old firsts → PassesCommon octets now firsts
fewer-passed octets firsts old now fewer common from passed p within = common from passed (fewer from passed p) within

-- an octet is kept for a cell that no slot begins at
common-elsewhere : (octets next firsts : List ℕ) (cell octet : ℕ) → ((slot : ℕ) → slot < length firsts → slice_index firsts slot ≢ cell) → PassesCommon octets next firsts → PassesCommon (set octets cell octet) next firsts
common-elsewhere octets next firsts cell octet apart common from passed p within =
    ap (λ (kept : Option ℕ). option_map_or (λ octet. octet == common_octet) kept true) (kept-other octets cell octet (slice_index firsts passed) (apart passed within)) ∙ common from passed p within

-- a slot is emptied
common-emptied : (octets next firsts : List ℕ) (slot : ℕ) → PassesCommon octets next firsts → PassesCommon octets next (set firsts slot 65535)
common-emptied octets next firsts slot common from passed p within =
    let before : passed < length firsts = omega (arith, within, length-set firsts slot 65535) in
    elim (same-or-other passed slot) [
      | inl same ↦ has-none octets _ (rw same (get_or-set_same firsts slot 65535 0 (omega (arith, same, before))))
      | inr other ↦ ap (has_common_or_none octets) (get_or-set_other firsts slot passed 65535 0 other) ∙ common from passed p before
    ]

-- a slot begins at a cell for which an octet is kept
common-filled : (octets next firsts : List ℕ) (slot cell octet : ℕ) → slice_index octets cell ≡ octet → ((from : ℕ) → Passes next from slot → octet ≡ common_octet) → PassesCommon octets next firsts → PassesCommon octets next (set firsts slot cell)
common-filled octets next firsts slot cell octet kept same_octet common from passed p within =
    let before : passed < length firsts = omega (arith, within, length-set firsts slot cell) in
    elim (same-or-other passed slot) [
      | inl same ↦ ap (has_common_or_none octets) (rw same (get_or-set_same firsts slot cell 0 (omega (arith, same, before)))) ∙ has-common octets cell (kept ∙ same_octet from (subst (λ (passed : ℕ). Passes next from passed) same p))
      | inr other ↦ ap (has_common_or_none octets) (get_or-set_other firsts slot passed cell 0 other) ∙ common from passed p before
    ]

pub passed-finished : (held : HeldSoFar) (working : List ℕ) (tags : Tags) (next : List ℕ) → working ≡ held.firsts → length next ≡ held.chains.cells → PassesCommon held.first_octets next held.firsts → ArePassed (finished held working tags) next
passed-finished held working tags next same size common = record { size = size; committed = common; working = subst (PassesCommon held.first_octets next) (sym same) common }

-- for each slot that begins somewhere an octet is kept
pub firsts-kept : (held : HeldSoFar) (working : List ℕ) (tags : Tags) → IsSound (finished held working tags) → (slot : ℕ) → slot < length held.firsts → (slice_index held.firsts slot ≡ 65535) ⊎ (slice_index held.firsts slot < length held.first_octets)
firsts-kept held working tags sound slot inside = elim (same-or-other (slice_index held.firsts slot) 65535) [
  | inl none ↦ inl none
  | inr some ↦ inr (omega (arith, first-inside (finished held working tags) Committed slot (slice_index held.firsts slot) sound inside refl some, sound.octets_count))
]

pub passed-emptied : (held : Held) (new : Cells) (slot : ℕ) (next : List ℕ) → new.cells ≡ held.chains.cells → ArePassed held next → ArePassed (record held { chains = new; working = set held.working slot 65535 }) next
passed-emptied held new slot next cells passed = record {
  size = passed.size ∙ sym cells;
  committed = passed.committed;
  working = common-emptied held.first_octets next held.working slot passed.working;
}

pub passed-kept : (held : Held) (new : Cells) (next : List ℕ) → new.cells ≡ held.chains.cells → ArePassed held next → ArePassed (record held { chains = new }) next
passed-kept held new next cells passed = record { size = passed.size ∙ sym cells; committed = passed.committed; working = passed.working }

pub passed-begun : (held : Held) (next : List ℕ) → ArePassed held next → ArePassed (record held { begun = true }) next
passed-begun held next passed = record { size = passed.size; committed = passed.committed; working = passed.working }

pub passed-committed : (held : Held) (new : Cells) (tags : Tags) (now next : List ℕ) → new.cells ≡ held.chains.cells → now ≡ held.working → ArePassed held next → ArePassed (record held { chains = new; committed = now; begun = false; tags = tags }) next
passed-committed held new tags now next cells same passed = record { size = passed.size ∙ sym cells; committed = subst (PassesCommon held.first_octets next) (sym same) passed.working; working = passed.working }

pub passed-rolled_back : (held : Held) (new : Cells) (tags : Tags) (now next : List ℕ) → new.cells ≡ held.chains.cells → now ≡ held.committed → ArePassed held next → ArePassed (record held { chains = new; working = now; begun = false; tags = tags }) next
passed-rolled_back held new tags now next cells same passed = record { size = passed.size ∙ sym cells; committed = passed.committed; working = subst (PassesCommon held.first_octets next) (sym same) passed.committed }

-- a record is put into a slot, whose chain has cells that were free
pub passed-filled : (held : Held) (new : Cells) (tags : Tags) (slot first count octet : ℕ) (old now : List ℕ) → IsSound held → held.begun ≡ true → first < 2 * held.chains.cells → TakesChain held.chains new first count → length now ≡ length old
    → ((from passed : ℕ) → Passes now from passed → Passes old from passed) → ((from : ℕ) → Passes now from slot → octet ≡ common_octet) → ArePassed held old
    → ArePassed (record held { chains = new; working = set held.working slot first; first_octets = set held.first_octets first octet; tags = tags }) now
passed-filled held new tags slot first count octet old now sound begun inside takes size fewer same_octet passed =
    let some : first < 65535 = omega (arith, inside, sound.range.many) in
    let free = first-free new.links held.chains.used first takes.chain takes.linked takes.free (long-chain new.links first takes.chain some takes.linked) in
    let working_is : firsts held Working ≡ held.working = rw begun refl in
    let apart : (slot : ℕ) → slot < length held.working → slice_index held.working slot ≢ first =
    subst (λ (firsts : List ℕ). (slot : ℕ) → slot < length firsts → slice_index firsts slot ≢ first) working_is (side-apart held Working first sound free.0 some) in
    let octets : List ℕ = set held.first_octets first octet in
    let kept : slice_index octets first ≡ octet = get_or-set_same held.first_octets first octet 0 (omega (arith, inside, sound.octets_count)) in
    record {
      size = size ∙ (passed.size ∙ sym takes.cells);
      committed = common-elsewhere held.first_octets now held.committed first octet (side-apart held Committed first sound free.0 some) (fewer-passed held.first_octets held.committed old now fewer passed.committed);
      working = common-filled octets now held.working slot first octet kept same_octet (common-elsewhere held.first_octets now held.working first octet apart (fewer-passed held.first_octets held.working old now fewer passed.working));
    }

-- so the records that a search passes over are common ones
pub passed-common : (held : Held) (next : List ℕ) → IsSound held → ArePassed held next → (image : List ℕ) (side : Side) (from slot : ℕ) → StandsFor held image → Passes next from slot → is_common_or_none (record_at held side slot image) ≡ true
passed-common held next sound passed image side from slot stands p = elim (inside-or-past slot (length (firsts held side))) [
  | inl inside ↦ ap (λ (octet : Option ℕ). option_map_or (λ octet. octet == common_octet) octet true) (octets side inside) ∙ common side inside
  | inr behind ↦ (let there = some-slots (contents held side image) (contents-there held side image stands) in
      ap is_common_or_none (ap (λ (o : Option Slots). option_and_then (λ slots. slice_index_or slots slot None) o) there.1 ∙ slot-past there.0 slot (omega (arith, behind, slots-count image held.chains.cells (firsts held side) there.0 there.1))))
]
  where
    octets : (side : Side) → slot < length (firsts held side) → first_octet (record_at held side slot image) ≡ kept_octet held.first_octets (slice_index (firsts held side) slot)
    octets Committed inside = stands.committed_octets slot inside
    octets Working inside = stands.working_octets slot inside

    by_begun : (begun : Bool) → slot < length (if begun then held.working else held.committed) → has_common_or_none held.first_octets (slice_index (if begun then held.working else held.committed) slot) ≡ true
    by_begun true inside = passed.working from slot p inside
    by_begun false inside = passed.committed from slot p inside

    common : (side : Side) → slot < length (firsts held side) → has_common_or_none held.first_octets (slice_index (firsts held side) slot) ≡ true
    common Committed inside = passed.committed from slot p inside
    common Working inside = by_begun held.begun inside
