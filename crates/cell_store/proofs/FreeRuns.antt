-- Runs of free cells: there is one, and which is the longest.
use Rattle.std.proofs.Common.{◌≡◌, ◌⊎◌, inl, inr, ℕ, zero, suc, ◌+◌, ◌<◌, ◌≤◌, Bool, true, false, not, cond, List, [], ◌∷◌, length, nat_lt, sym, refl, ◌∙◌, arith, ltb-true, true≢false}
use Rattle.std.proofs.lemmas.Bool.Decides.{nat_tests}
use Rattle.std.proofs.lemmas.List.Sums.{sum_by-cons}
use Rattle.cell_store.specs.Marks.{IsFreeRun, is_marked, unmarked}

-- where a cell isn't marked, that one is a run
pub some-free : (marks : List Bool) → 1 ≤ unmarked marks → (cell : ℕ) × (cell < length marks) × (is_marked marks cell ≡ false)
some-free [] some = absurd (omega arith)
some-free (false ∷ marks) some = (0, omega arith, refl)
some-free (true ∷ marks) some =
    let rest = some-free marks (omega (arith, sum_by-cons (λ (mark : Bool). cond (not mark) 1 0) true marks)) in
    (suc rest.0, omega (arith, rest.1), rest.2)

pub one-free : (marks : List Bool) (cell : ℕ) → cell < length marks → is_marked marks cell ≡ false → IsFreeRun marks cell 1
one-free marks cell inside free = record {
  inside = omega arith;
  free = λ k from below. let is : k ≡ cell = omega arith in rw is free;
}

-- so a longest run has one
pub some-longest : (marks : List Bool) (most found : ℕ) → 1 ≤ most → 1 ≤ unmarked marks → (found < most → (cell count : ℕ) → 0 ≤ cell → IsFreeRun marks cell count → count ≤ found) → 1 ≤ found
some-longest marks most found asked some longest = elim (nat_lt found most) as (λ t. nat_lt found most ≡ t → 1 ≤ found) [
  | true ↦ λ e. let free = some-free marks some in longest (ltb-true found most e) free.0 1 (omega arith) (one-free marks free.0 free.1 free.2)
  | false ↦ λ e. grind (arith, nat_tests)
] refl

-- a cell that is marked is before a free run or behind it
pub outside-run : (marks : List Bool) (at count cell : ℕ) → IsFreeRun marks at count → is_marked marks cell ≡ true → (cell < at) ⊎ (at + count ≤ cell)
outside-run marks at count cell run is = elim (nat_lt cell at) as (λ t. nat_lt cell at ≡ t → (cell < at) ⊎ (at + count ≤ cell)) [
  | true ↦ λ e. inl (ltb-true cell at e)
  | false ↦ λ from. elim (nat_lt cell (at + count)) as (λ t. nat_lt cell (at + count) ≡ t → (cell < at) ⊎ (at + count ≤ cell)) [
    | true ↦ λ e. absurd (true≢false (sym is ∙ run.free cell (grind (arith, nat_tests)) (ltb-true cell (at + count) e)))
    | false ↦ λ e. inr (grind (arith, nat_tests))
  ] refl
] refl

-- where no run from a cell on is longer than this one, none is that begins in it or right behind it
pub longest-here : (marks : List Bool) (at found : ℕ) → IsFreeRun marks at found → ((count : ℕ) → IsFreeRun marks at count → count ≤ found)
    → (cell count : ℕ) → at ≤ cell → cell ≤ at + found → IsFreeRun marks cell count → count ≤ found
longest-here marks at found here longest cell count from within run = elim (nat_lt found count) as (λ t. nat_lt found count ≡ t → count ≤ found) [
  | true ↦ λ e.
      let more : found < count = ltb-true found count e in
      let whole : IsFreeRun marks at (found + 1) = record {
        inside = omega (arith, run.inside);
        free = λ k after below. elim (nat_lt k cell) as (λ t. nat_lt k cell ≡ t → is_marked marks k ≡ false) [
          | true ↦ λ e. let before : k < cell = ltb-true k cell e in here.free k after (omega arith)
          | false ↦ λ e. let behind : cell ≤ k = grind (arith, nat_tests) in run.free k behind (omega arith)
        ] refl;
      } in
      absurd (omega (arith, longest (found + 1) whole))
  | false ↦ λ e. grind (arith, nat_tests)
] refl

-- no run that begins before a cell is longer, and none that begins in the run there or right behind it
pub longest-more : (marks : List Bool) (from at best found now : ℕ) → best ≤ now → found ≤ now → ((cell count : ℕ) → from ≤ cell → cell < at → IsFreeRun marks cell count → count ≤ best)
    → IsFreeRun marks at found → ((count : ℕ) → IsFreeRun marks at count → count ≤ found) → (cell count : ℕ) → from ≤ cell → cell < at + (found + 1) → IsFreeRun marks cell count → count ≤ now
longest-more marks from at best found now more enough before run here = λ cell count after within each.
    elim (nat_lt cell at) as (λ t. nat_lt cell at ≡ t → count ≤ now) [
      | true ↦ λ e. omega (arith, before cell count after (ltb-true cell at e) each)
      | false ↦ λ e.
          let behind : at ≤ cell = grind (arith, nat_tests) in
          omega (arith, longest-here marks at found run here cell count behind (omega arith) each)
    ] refl

-- nor one that begins anywhere, where all cells were looked at
pub longest-all : (marks : List Bool) (from at best : ℕ) → length marks ≤ at → ((cell count : ℕ) → from ≤ cell → cell < at → IsFreeRun marks cell count → count ≤ best) → (cell count : ℕ) → from ≤ cell → IsFreeRun marks cell count → count ≤ best
longest-all marks from at best all before cell zero after run = omega arith
longest-all marks from at best all before cell (suc count) after run = before cell (suc count) after (omega (arith, run.inside)) run
