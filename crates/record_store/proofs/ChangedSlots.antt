-- Entries for the slots that have another chain now.
use Rattle.std.proofs.Common.{◌≡◌, ◌⊎◌, inl, inr, ℕ, zero, suc, ◌+◌, ◌*◌, ◌<◌, ◌≤◌, ◌≢◌, ◌==◌, ◌||◌, if◌then◌else◌, true, false, Bool, List, [], ◌∷◌, ◌++◌, length, set, slice_index, nat_lt, sym, refl, ap, ◌∙◌, true≢false, eqb-true, arith, subst, length-append, eq-eqb}
use Rattle.std.specs.List.{list_all}
use Rattle.std.proofs.lemmas.Bool.{cases_Bool, eqb-false, false≢true, or_cases}
use Rattle.std.proofs.lemmas.Bool.Decides.{nat_tests}
use Rattle.std.proofs.lemmas.Grind.{same_number_lists}
use Rattle.std.proofs.lemmas.List.{length-set, get_or-set_same, get_or-set_other}
use Rattle.std.proofs.lemmas.List.Folds.{list_all-append}
use Rattle.eeprom.specs.StoreOf.{is_entry, with_entries, no_cell}
use Rattle.eeprom.specs.declared.entry.Entry.{Entry}
use Rattle.cell_store.specs.Cells.{Cells}
use Rattle.cell_store.specs.Chains.{is_among}
use Rattle.record_store.specs.Held.{Held}
use Rattle.record_store.specs.Put.{emptied}
use Rattle.record_store.specs.Slots.{AreFirsts, changed}
use Rattle.record_store.specs.Sound.{IsSound}
use Rattle.record_store.specs.Tags.{Tags}
use Rattle.record_store.specs.Touched.{SameOutside}
use Rattle.record_store.specs.Transaction.{ChangesOnly, ChangesWhere, begun_from, entries}
use Rattle.record_store.proofs.Putting.{set-again}
use Rattle.record_store.proofs.Sides.{same-or-other}
use Rattle.record_store.proofs.Touching.{among-last, none-last}

with_entries-more : (entries : List Entry) (entry : Entry) (firsts : List ℕ) → with_entries (entries ++ entry ∷ []) firsts ≡ set (with_entries entries firsts) entry.slot entry.first
with_entries-more [] entry firsts = refl
with_entries-more (e ∷ entries) entry firsts = with_entries-more entries entry (set firsts e.slot e.first)

first-at : (n : ℕ) (firsts : List ℕ) (slot : ℕ) → slot < length firsts → AreFirsts n firsts → (slice_index firsts slot < 2 * n) ⊎ (slice_index firsts slot ≡ no_cell)
first-at n [] slot inside are = absurd (omega arith)
first-at n (first ∷ firsts) zero inside are = are.0
first-at n (first ∷ firsts) (suc slot) inside are = first-at n firsts slot (omega arith) are.1

entry-in_range : (n slot first : ℕ) → slot < n → (first < 2 * n) ⊎ (first ≡ no_cell) → is_entry n (record { slot = slot; first = first }) ≡ true
entry-in_range n slot first inside (inl cell) =
    let low : nat_lt slot n ≡ true = grind (arith, nat_tests) in
    let below : nat_lt first (2 * n) ≡ true = grind (arith, nat_tests) in
    rw (low, below) refl
entry-in_range n slot first inside (inr none) =
    let low : nat_lt slot n ≡ true = grind (arith, nat_tests) in
    rw (low, none) (or-true (nat_lt no_cell (2 * n)))
  where
    or-true : (b : Bool) → (b || true) ≡ true
    or-true true = refl
    or-true false = refl

-- a store has no entry for slots that are as they were
pub changed-same : (firsts : List ℕ) → changed firsts firsts ≡ 0
changed-same [] = refl
changed-same (first ∷ firsts) = rw (eq-eqb first first refl, changed-same firsts) refl

-- one more where a slot has another chain then
changed-one : (committed now : List ℕ) (slot first : ℕ) → slot < length committed → length now ≡ length committed → slice_index now slot ≡ slice_index committed slot → first ≢ slice_index committed slot → changed committed (set now slot first) ≡ changed committed now + 1
changed-one [] now slot first inside count same other = absurd (omega arith)
changed-one (old ∷ committed) [] slot first inside count same other = absurd (omega arith)
changed-one (old ∷ committed) (next ∷ now) zero first inside count same other =
    let alike : (next == old) ≡ true = eq-eqb next old same in
    let unlike : (first == old) ≡ false = grind (arith, nat_tests, other) in
    rw (alike, unlike) (omega arith)
changed-one (old ∷ committed) (next ∷ now) (suc slot) first inside count same other = omega (arith, changed-one committed now slot first (omega arith) (omega (arith, count)) same other)

-- the entries of these slots
pub record SoFar (committed working slots : List ℕ) (entries : List Entry) : Type 0 where
  pub size : length (with_entries entries committed) ≡ length committed
  pub named : (slot : ℕ) → is_among slot slots ≡ true → slice_index (with_entries entries committed) slot ≡ slice_index working slot
  pub others : (slot : ℕ) → is_among slot slots ≡ false → slice_index (with_entries entries committed) slot ≡ slice_index committed slot
  pub range : AreFirsts (length working) working → list_all (is_entry (length working)) entries ≡ true
  pub count : length entries ≡ changed committed (with_entries entries committed)
  pub few : length entries ≤ length slots

pub so_far-none : (committed working : List ℕ) → SoFar committed working [] []
so_far-none committed working = record { size = refl; named = λ slot here. absurd (true≢false (sym here)); others = λ slot none. refl; range = λ _. refl; count = sym (changed-same committed); few = omega arith }

-- what holds of one slot more
last-slot : (slots : List ℕ) (last : ℕ) (P : ℕ → Type 0) → ((slot : ℕ) → is_among slot slots ≡ true → P slot) → P last → (slot : ℕ) → is_among slot (slots ++ last ∷ []) ≡ true → P slot
last-slot slots last P before now slot here = elim (or_cases (is_among slot slots) (slot == last) (sym (among-last slot last slots) ∙ here)) [
  | inl earlier ↦ before slot earlier
  | inr same ↦ subst P (sym (eqb-true slot last same)) now
]

pub so_far-same : (committed working slots : List ℕ) (slot : ℕ) (entries : List Entry) → is_among slot slots ≡ false → slice_index working slot ≡ slice_index committed slot → SoFar committed working slots entries → SoFar committed working (slots ++ slot ∷ []) entries
so_far-same committed working slots slot entries new same s = record {
  size = s.size;
  named = last-slot slots slot (λ slot. slice_index (with_entries entries committed) slot ≡ slice_index working slot) s.named (s.others slot new ∙ sym same);
  others = λ at none. s.others at (none-last at slot slots none).0;
  range = s.range;
  count = s.count;
  few = omega (arith, s.few, length-append slots (slot ∷ []));
}

pub so_far-more : (committed working slots : List ℕ) (slot first : ℕ) (entries : List Entry) → slot < length committed → length working ≡ length committed → is_among slot slots ≡ false → first ≡ slice_index working slot → first ≢ slice_index committed slot → SoFar committed working slots entries
    → SoFar committed working (slots ++ slot ∷ []) (entries ++ record { slot = slot; first = first } ∷ [])
so_far-more committed working slots slot first entries inside size new is other s =
    let entry : Entry = record { slot = slot; first = first } in
    let now : List ℕ = with_entries entries committed in
    let then_is : with_entries (entries ++ entry ∷ []) committed ≡ set now slot first = with_entries-more entries entry committed in
    let here : slot < length now = omega (arith, inside, s.size) in
    let named : (at : ℕ) → is_among at (slots ++ slot ∷ []) ≡ true → slice_index (set now slot first) at ≡ slice_index working at =
    λ at among. (elim (same-or-other at slot) [
      | inl same ↦ rw same (get_or-set_same now slot first 0 here ∙ is)
      | inr apart ↦ get_or-set_other now slot at first 0 apart ∙ last-slot slots slot (λ at. at ≢ slot → slice_index now at ≡ slice_index working at) (λ at earlier _. s.named at earlier) (λ wrong. absurd (wrong refl)) at among apart
    ]) in
    record {
      size = ap (length {A = ℕ}) then_is ∙ (length-set now slot first ∙ s.size);
      named = λ at among. ap (λ (firsts : List ℕ). slice_index firsts at) then_is ∙ named at among;
      others = λ at none. (let apart = none-last at slot slots none in ap (λ (firsts : List ℕ). slice_index firsts at) then_is ∙ (get_or-set_other now slot at first 0 apart.1 ∙ s.others at apart.0));
      range = λ are.
          let within : slot < length working = omega (arith, inside, size) in
          let one : is_entry (length working) entry ≡ true = entry-in_range (length working) slot first within (subst (λ (first : ℕ). (first < 2 * length working) ⊎ (first ≡ no_cell)) (sym is) (first-at (length working) working slot within are)) in
          rw (list_all-append (is_entry (length working)) entries (entry ∷ []), s.range are, one) refl;
      count = length-append entries (entry ∷ []) ∙ (omega (arith, s.count, changed-one committed now slot first inside s.size (s.others slot new) other, ap (changed committed) then_is));
      few = omega (arith, s.few, length-append entries (entry ∷ []), length-append slots (slot ∷ []));
    }

-- with these slots all are done, where the chains are the same in all others
pub so_far-end : (committed working slots : List ℕ) (entries : List Entry) → length working ≡ length committed → SameOutside slots working committed → SoFar committed working slots entries → with_entries entries committed ≡ working
so_far-end committed working slots entries size others s = same_number_lists (with_entries entries committed) working (s.size ∙ sym size) (λ slot inside. elim (cases_Bool (is_among slot slots)) [
  | inl here ↦ s.named slot here
  | inr none ↦ s.others slot none ∙ sym (others slot none)
])

-- and at most one more where one slot changes
pub changed-set : (committed working : List ℕ) (slot first : ℕ) → changed committed (set working slot first) ≤ changed committed working + 1
changed-set [] working slot first = omega arith
changed-set (old ∷ committed) [] slot first = omega arith
changed-set (old ∷ committed) (next ∷ working) zero first = one (first == old) (next == old) (changed committed working)
  where
    one : (a b : Bool) (rest : ℕ) → (if a then 0 else 1) + rest ≤ ((if b then 0 else 1) + rest) + 1
    one true true rest = omega arith
    one true false rest = omega arith
    one false true rest = omega arith
    one false false rest = omega arith
changed-set (old ∷ committed) (next ∷ working) (suc slot) first = omega (arith, changed-set committed working slot first)

pub entries-begun : (held : Held) → entries (begun_from held) ≡ 0
entries-begun held = changed-same held.committed

pub entries-emptied : (held new : Held) (slot : ℕ) (used : List Bool) → IsSound new → held.begun ≡ true → new ≡ emptied held slot used → entries new ≤ entries held + 1
entries-emptied held new slot used sound begun is = rw (is, begun) (changed-set held.committed held.working slot 65535)

pub entries-filled : (held mid : Held) (chains : Cells) (octets : List ℕ) (tags : Tags) (slot first : ℕ) (used : List Bool) → held.begun ≡ true → mid ≡ emptied held slot used → entries (record mid { chains = chains; working = set mid.working slot first; first_octets = octets; tags = tags }) ≤ entries held + 1
entries-filled held mid chains octets tags slot first used begun is =
    rw (is, begun, set-again held.working slot 65535 first) (changed-set held.committed held.working slot first)

-- no other slot has another chain then
only-set : (held new : Held) (slot first : ℕ) → held.begun ≡ true → new.begun ≡ true → new.committed ≡ held.committed → new.working ≡ set held.working slot first → ChangesOnly slot held new
only-set held new slot first begun still committed working = record {
  committed = committed;
  others = λ other (apart : (other == slot) ≡ false). rw (begun, still, working) (get_or-set_other held.working slot other first 0 (eqb-false other slot apart));
}

pub only-emptied : (held new : Held) (slot : ℕ) (used : List Bool) → IsSound new → held.begun ≡ true → new ≡ emptied held slot used → ChangesOnly slot held new
only-emptied held new slot used sound begun is =
    only-set held new slot 65535 begun (ap (λ (h : Held). h.begun) is ∙ begun) (ap (λ (h : Held). h.committed) is) (ap (λ (h : Held). h.working) is)

pub only-filled : (held mid : Held) (chains : Cells) (octets : List ℕ) (tags : Tags) (slot first : ℕ) (used : List Bool) → held.begun ≡ true → mid ≡ emptied held slot used
    → ChangesOnly slot held (record mid { chains = chains; working = set mid.working slot first; first_octets = octets; tags = tags })
only-filled held mid chains octets tags slot first used begun is =
    only-set held (record mid { chains = chains; working = set mid.working slot first; first_octets = octets; tags = tags }) slot first begun (ap (λ (h : Held). h.begun) is ∙ begun) (ap (λ (h : Held). h.committed) is)
    (ap (λ (h : Held). set h.working slot first) is ∙ set-again held.working slot 65535 first)

-- two changes, one after the other
pub ChangesWhere-then : (may might : ℕ → Bool) (old mid new : Held) → ChangesWhere may old mid → ChangesWhere might mid new → ChangesWhere (λ slot. may slot || might slot) old new
ChangesWhere-then may might old mid new first second = record {
  committed = second.committed ∙ first.committed;
  others = λ slot (neither : (may slot || might slot) ≡ false). (let both = none-of (may slot) (might slot) neither in second.others slot both.1 ∙ first.others slot both.0);
}
  where
    none-of : (a b : Bool) → (a || b) ≡ false → (a ≡ false) × (b ≡ false)
    none-of true b neither = absurd (false≢true (sym neither))
    none-of false b neither = (refl, neither)

-- more slots may have another chain
pub ChangesWhere-more : (may might : ℕ → Bool) (old new : Held) → ((slot : ℕ) → might slot ≡ false → may slot ≡ false) → ChangesWhere may old new → ChangesWhere might old new
ChangesWhere-more may might old new fewer changes = record { committed = changes.committed; others = λ slot not_there. changes.others slot (fewer slot not_there) }

-- nothing was done
pub ChangesWhere-none : (may : ℕ → Bool) (held : Held) → ChangesWhere may held held
ChangesWhere-none may held = record { committed = refl; others = λ slot not_there. refl }
