-- Slots that have another chain, counted by names that they have.
use Rattle.std.proofs.Common.{◌≡◌, ◌≢◌, ℕ, suc, ◌<◌, ◌≤◌, ◌==◌, ◌||◌, if◌then◌else◌, Bool, true, false, List, [], ◌∷◌, length, slice_index, inl, inr, refl, arith}
use Rattle.std.specs.List.{AllByRecursion, IsDistinct}
use Rattle.std.proofs.lemmas.Bool.{cases_Bool, eqb-false, eqb-true, false≢true, ne_eqb}
use Rattle.std.proofs.lemmas.Cmp.{nat_eq_equiv}
use Rattle.std.proofs.lemmas.Map.Made.{length-le_from_is_member}
use Rattle.cell_store.specs.Chains.{is_among}
use Rattle.record_store.specs.Slots.{changed}

-- a slot has another chain
pub record HasOther (committed working : List ℕ) (slot : ℕ) : Type 0 where
  pub within : slot < length committed
  pub there : slot < length working
  pub other : slice_index working slot ≢ slice_index committed slot

-- and so it has behind one slot more
HasOther-next : (first next : ℕ) (committed working : List ℕ) (slot : ℕ) → HasOther committed working slot → HasOther (first ∷ committed) (next ∷ working) (suc slot)
HasOther-next first next committed working slot h = record { within = omega (arith, h.within); there = omega (arith, h.there); other = h.other }

HasOther-first : (first next : ℕ) (committed working : List ℕ) → (next == first) ≡ false → HasOther (first ∷ committed) (next ∷ working) 0
HasOther-first first next committed working apart = record { within = omega arith; there = omega arith; other = eqb-false next first apart }

-- the names of the slots that have another
abbrev names_of : List ℕ → List ℕ → (ℕ → ℕ) → List ℕ
names_of [] working f = []
names_of (first ∷ committed) [] f = []
names_of (first ∷ committed) (next ∷ working) f = if next == first then names_of committed working (λ slot. f (suc slot)) else f 0 ∷ names_of committed working (λ slot. f (suc slot))

length-names : (committed working : List ℕ) (f : ℕ → ℕ) → length (names_of committed working f) ≡ changed committed working
length-names [] working f = refl
length-names (first ∷ committed) [] f = refl
length-names (first ∷ committed) (next ∷ working) f =
    let rest = length-names committed working (λ slot. f (suc slot)) in
    elim (cases_Bool (next == first)) [ inl t ↦ rw t (omega (arith, rest)) | inr e ↦ rw e (omega (arith, rest)) ]

-- a name that is there is that of such a slot
names-among : (committed working : List ℕ) (f : ℕ → ℕ) (named : List ℕ) → ((slot : ℕ) → HasOther committed working slot → is_among (f slot) named ≡ true) → (name : ℕ)
    → is_among name (names_of committed working f) ≡ true → is_among name named ≡ true
names-among [] working f named among name there = absurd (false≢true there)
names-among (first ∷ committed) [] f named among name there = absurd (false≢true there)
names-among (first ∷ committed) (next ∷ working) f named among name there =
    let rest = names-among committed working (λ slot. f (suc slot)) named (λ slot h. among (suc slot) (HasOther-next first next committed working slot h)) name in
    elim (cases_Bool (next == first)) [
      | inl t ↦ rest (rw t at there)
      | inr e ↦ either (name == f 0) (is_among name (names_of committed working (λ slot. f (suc slot)))) refl (rw e at there) (among 0 (HasOther-first first next committed working e)) rest
    ]
  where
    either : (a b : Bool) → (name == f 0) ≡ a → (a || b) ≡ true → is_among (f 0) named ≡ true → (b ≡ true → is_among name named ≡ true) → is_among name named ≡ true
    either true b same one here rest = rw (eqb-true name (f 0) same) here
    either false b same one here rest = rest one

-- names are apart where no two such slots have one
names-apart : (committed working : List ℕ) (f : ℕ → ℕ) (name : ℕ) → ((slot : ℕ) → HasOther committed working slot → name ≢ f slot) → AllByRecursion (λ other. (name == other) ≡ false) (names_of committed working f)
names-apart [] working f name apart = tt
names-apart (first ∷ committed) [] f name apart = tt
names-apart (first ∷ committed) (next ∷ working) f name apart =
    let rest = names-apart committed working (λ slot. f (suc slot)) name (λ slot h. apart (suc slot) (HasOther-next first next committed working slot h)) in
    elim (cases_Bool (next == first)) [ inl t ↦ rw t rest | inr e ↦ rw e (ne_eqb name (f 0) (apart 0 (HasOther-first first next committed working e)), rest) ]

names-distinct : (committed working : List ℕ) (f : ℕ → ℕ) → ((i j : ℕ) → HasOther committed working i → HasOther committed working j → f i ≡ f j → i ≡ j) → IsDistinct (λ (a b : ℕ). a == b) (names_of committed working f)
unfolding IsDistinct
names-distinct [] working f one = tt
names-distinct (first ∷ committed) [] f one = tt
names-distinct (first ∷ committed) (next ∷ working) f one =
    let later = HasOther-next first next committed working in
    let rest = names-distinct committed working (λ slot. f (suc slot)) (λ i j h k same. let e = one (suc i) (suc j) (later i h) (later j k) same in omega (arith, e)) in
    elim (cases_Bool (next == first)) [
      | inl t ↦ rw t rest
      | inr e ↦ rw e (
        names-apart committed working (λ slot. f (suc slot)) (f 0) (λ slot h same. let wrong = one 0 (suc slot) (HasOther-first first next committed working e) (later slot h) same in absurd (omega (arith, wrong))),
        rest,
      )
    ]

-- Where each such slot has a name of its own among some names, there are no more of them than of names.
pub changed-few : (committed working : List ℕ) (f : ℕ → ℕ) (named : List ℕ) → ((slot : ℕ) → HasOther committed working slot → is_among (f slot) named ≡ true)
    → ((i j : ℕ) → HasOther committed working i → HasOther committed working j → f i ≡ f j → i ≡ j) → changed committed working ≤ length named
changed-few committed working f named among one =
    let most : length (names_of committed working f) ≤ length named
    = length-le_from_is_member nat_eq_equiv (names_of committed working f) named (names-distinct committed working f one) (names-among committed working f named among) in
    omega (arith, most, length-names committed working f)
