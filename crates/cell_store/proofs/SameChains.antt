-- Chains stay where a write leaves their cells.
use Rattle.std.proofs.Common.{◌≡◌, ℕ, zero, suc, ◌*◌, ◌<◌, ◌≤◌, ◌==◌, false, List, [], ◌∷◌, ◌++◌, flat_map, nat_lt, Some, sym, refl, ap, ap₂, arith, subst, ltb-true, inl, inr}
use Rattle.std.specs.List.{AllByRecursion}
use Rattle.std.proofs.lemmas.Bool.Decides.{nat_tests}
use Rattle.eeprom.specs.StoreOf.{chain_of, chains_of, cell_place, payload_of, number_at, is_record, slot_of}
use Rattle.cell_store.specs.Placed.{SameCell}
use Rattle.eeprom.proofs.Chains.{chain-cases, chains-parts}

abbrev pub SameChain : List ℕ → List ℕ → ℕ → List ℕ → Type 0
SameChain left was n chain = AllByRecursion (SameCell left was n) chain

pub chain-same : (left was : List ℕ) (n most cell : ℕ) (chain : List ℕ) → n ≤ 2048 → chain_of was n most cell ≡ Some chain → SameChain left was n chain → chain_of left n most cell ≡ Some chain
chain-same left was n zero cell chain few h same = h
chain-same left was n (suc most) cell chain few h same =
    elim (chain-cases (cell == 65535) (nat_lt cell (2 * n)) cell (chain_of was n most (number_at was (cell_place n cell))) chain h) [
      | inl none ↦ rw (none.0) (ap (λ (xs : List ℕ). Some xs) (sym none.1))
      | inr some ↦
          let inside : cell < 2 * n = ltb-true cell (2 * n) some.0 in
          let other : (cell == 65535) ≡ false = grind (arith, nat_tests) in
          let parts : SameChain left was n (cell ∷ some.1) = subst (SameChain left was n) some.3 same in
          let rest = chain-same left was n most (number_at was (cell_place n cell)) some.1 few some.2 parts.1 in
          rw (other, some.0, parts.0.link, rest) (ap (λ (xs : List ℕ). Some xs) (sym some.3))
    ]

pub chains-same : (left was : List ℕ) (n : ℕ) (firsts : List ℕ) (chains : List (List ℕ)) → n ≤ 2048 → chains_of was n firsts ≡ Some chains → AllByRecursion (SameChain left was n) chains → chains_of left n firsts ≡ Some chains
chains-same left was n [] chains few h same = h
chains-same left was n (first ∷ rest) chains few h same =
    let parts = chains-parts (chain_of was n (2 * n) first) (chains_of was n rest) chains h in
    let each : AllByRecursion (SameChain left was n) (parts.0 ∷ parts.1) = subst (AllByRecursion (SameChain left was n)) parts.4 same in
    let one = chain-same left was n (2 * n) first parts.0 few parts.2 each.0 in
    let more = chains-same left was n rest parts.1 few parts.3 each.1 in
    rw (one, more) (ap (λ (all : List (List ℕ)). Some all) (sym parts.4))

pub payload-same : (left was : List ℕ) (n : ℕ) (chain : List ℕ) → SameChain left was n chain → flat_map (payload_of left n) chain ≡ flat_map (payload_of was n) chain
payload-same left was n [] same = refl
payload-same left was n (cell ∷ chain) same = ap₂ (λ (xs ys : List ℕ). xs ++ ys) same.0.payload (payload-same left was n chain same.1)

pub record-same : (left was : List ℕ) (n : ℕ) (chain : List ℕ) → SameChain left was n chain → is_record left n chain ≡ is_record was n chain
record-same left was n [] same = refl
record-same left was n (cell ∷ chain) same = rw (same.0.payload) refl

pub slot-same : (left was : List ℕ) (n : ℕ) (chain : List ℕ) → SameChain left was n chain → slot_of left n chain ≡ slot_of was n chain
slot-same left was n [] same = refl
slot-same left was n (cell ∷ chain) same = rw (payload-same left was n (cell ∷ chain) same) refl
