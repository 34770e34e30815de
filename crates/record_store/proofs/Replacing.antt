-- One slot's chain in place of another.
use Rattle.std.proofs.Common.{◌≡◌, ℕ, zero, suc, ◌*◌, ◌<◌, ◌≤◌, Bool, true, List, [], ◌∷◌, ◌++◌, length, set, map, Option, Some, sym, refl, ap, ap₂, arith, subst}
use Rattle.std.specs.List.{AllByRecursion, list_all}
use Rattle.std.proofs.lemmas.Bool.{and_parts}
use Rattle.eeprom.specs.StoreOf.{Slots, chain_of, chains_of, is_record, slot_of}
use Rattle.cell_store.specs.Marks.{is_marked}
use Rattle.cell_store.specs.Placed.{Keeping}
use Rattle.eeprom.proofs.Chains.{chains-parts}
use Rattle.cell_store.proofs.SameChains.{SameChain, chain-same, chains-same, record-same, slot-same}
use Rattle.record_store.specs.Sound.{cells_in}
use Rattle.record_store.proofs.SameSlots.{records-same, map-same}

abbrev pub IsMarkedChain : List Bool → List ℕ → Type 0
IsMarkedChain marks chain = AllByRecursion (λ cell. is_marked marks cell ≡ true) chain

pub marked-same : (marks : List Bool) (n : ℕ) (now was : List ℕ) (chain : List ℕ) → Keeping marks n now was → IsMarkedChain marks chain → SameChain now was n chain
marked-same marks n now was [] keeping is = tt
marked-same marks n now was (cell ∷ chain) keeping is = (keeping.cells cell is.0, marked-same marks n now was chain keeping is.1)

pub all-marked-same : (marks : List Bool) (n : ℕ) (now was : List ℕ) (chains : List (List ℕ)) → Keeping marks n now was → AllByRecursion (IsMarkedChain marks) chains → AllByRecursion (SameChain now was n) chains
all-marked-same marks n now was [] keeping is = tt
all-marked-same marks n now was (chain ∷ chains) keeping is = (marked-same marks n now was chain keeping is.0, all-marked-same marks n now was chains keeping is.1)

-- the chains with a new one in a slot, and their records
pub record Replaced (now was : List ℕ) (n : ℕ) (firsts : List ℕ) (chains : List (List ℕ)) (slot first : ℕ) (new : List ℕ) : Type 0 where
  pub of : chains_of now n (set firsts slot first) ≡ Some (set chains slot new)
  pub records : list_all (is_record now n) (set chains slot new) ≡ true
  pub slots : map (slot_of now n) (set chains slot new) ≡ set (map (slot_of was n) chains) slot (slot_of now n new)

pub replaced : (marks : List Bool) (now was : List ℕ) (n : ℕ) (firsts : List ℕ) (chains : List (List ℕ)) (slot first : ℕ) (new : List ℕ) → n ≤ 2048 → Keeping marks n now was → slot < length firsts
    → chains_of was n firsts ≡ Some chains → list_all (is_record was n) chains ≡ true → AllByRecursion (IsMarkedChain marks) chains → chain_of now n (2 * n) first ≡ Some new → is_record now n new ≡ true → Replaced now was n firsts chains slot first new
replaced marks now was n [] chains slot first new few keeping inside of records but there is = absurd (omega arith)
replaced marks now was n (old ∷ rest) chains zero first new few keeping inside of records but there is =
    let parts = chains-parts (chain_of was n (2 * n) old) (chains_of was n rest) chains of in
    let marked : AllByRecursion (IsMarkedChain marks) (parts.0 ∷ parts.1) = subst (AllByRecursion (IsMarkedChain marks)) parts.4 but in
    let same = all-marked-same marks n now was parts.1 keeping marked.1 in
    let tests = and_parts (is_record was n parts.0) (list_all (is_record was n) parts.1) (rw (parts.4) at records) in
    let others = chains-same now was n rest parts.1 few parts.3 same in
    subst (λ (all : List (List ℕ)). Replaced now was n (old ∷ rest) all zero first new) (sym parts.4) (record {
      of = rw (there, others) refl;
      records = rw (is, records-same now was n parts.1 same) (tests.1);
      slots = ap (λ (slots : Slots). slot_of now n new ∷ slots) (map-same now was n parts.1 same);
    })
replaced marks now was n (old ∷ rest) chains (suc slot) first new few keeping inside of records but there is =
    let parts = chains-parts (chain_of was n (2 * n) old) (chains_of was n rest) chains of in
    let marked : AllByRecursion (IsMarkedChain marks) (parts.0 ∷ parts.1) = subst (AllByRecursion (IsMarkedChain marks)) parts.4 but in
    let same = marked-same marks n now was parts.0 keeping marked.0 in
    let tests = and_parts (is_record was n parts.0) (list_all (is_record was n) parts.1) (rw (parts.4) at records) in
    let one = chain-same now was n (2 * n) old parts.0 few parts.2 same in
    let others = replaced marks now was n rest parts.1 slot first new few keeping (omega arith) parts.3 tests.1 marked.1 there is in
    subst (λ (all : List (List ℕ)). Replaced now was n (old ∷ rest) all (suc slot) first new) (sym parts.4) (record {
      of = rw (one, others.of) refl;
      records = rw (record-same now was n parts.0 same, tests.0) (others.records);
      slots = ap₂ (λ (slot : Option (List ℕ)) (slots : Slots). slot ∷ slots) (slot-same now was n parts.0 same) others.slots;
    })

-- the chains whose cells are marked
pub marked-chains : (marks : List Bool) (chains : List (List ℕ)) → AllByRecursion (λ cell. is_marked marks cell ≡ true) (cells_in chains) → AllByRecursion (IsMarkedChain marks) chains
marked-chains marks [] all = tt
marked-chains marks (chain ∷ chains) all = (let parts = split chain (cells_in chains) all in (parts.0, marked-chains marks chains parts.1))
  where
    split : (xs ys : List ℕ) → AllByRecursion (λ cell. is_marked marks cell ≡ true) (xs ++ ys) → AllByRecursion (λ cell. is_marked marks cell ≡ true) xs × AllByRecursion (λ cell. is_marked marks cell ≡ true) ys
    split [] ys all = (tt, all)
    split (x ∷ xs) ys all = (let rest = split xs ys all.1 in ((all.0, rest.0), rest.1))
