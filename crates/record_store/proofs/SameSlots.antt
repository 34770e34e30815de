-- Slots stay where a write leaves the cells of their chains.
use Rattle.std.proofs.Common.{◌≡◌, ℕ, ◌+◌, ◌*◌, ◌-◌, ◌≤◌, ◌&&◌, Bool, true, List, [], ◌∷◌, take, drop, map, slice_index, Option, Some, sym, ap, ap₂, ◌∙◌, refl, arith, get_or-drop, get_or, drop-drop}
use Rattle.std.specs.List.{list_all, AllByRecursion}
use Rattle.eeprom.specs.StoreOf.{Slots, chains_of, cell_place, number_at, is_record, slot_of, slots_at, are_apart}
use Rattle.cell_store.specs.Placed.{SameCell}
use Rattle.cell_store.proofs.SameChains.{SameChain, chains-same, record-same, slot-same}

pub records-same : (left was : List ℕ) (n : ℕ) (chains : List (List ℕ)) → AllByRecursion (SameChain left was n) chains → list_all (is_record left n) chains ≡ list_all (is_record was n) chains
records-same left was n [] same = refl
records-same left was n (chain ∷ chains) same = ap₂ (λ (a b : Bool). a && b) (record-same left was n chain same.0) (records-same left was n chains same.1)

pub map-same : (left was : List ℕ) (n : ℕ) (chains : List (List ℕ)) → AllByRecursion (SameChain left was n) chains → map (slot_of left n) chains ≡ map (slot_of was n) chains
map-same left was n [] same = refl
map-same left was n (chain ∷ chains) same = ap₂ (λ (slot : Option (List ℕ)) (slots : Slots). slot ∷ slots) (slot-same left was n chain same.0) (map-same left was n chains same.1)

-- where each chain's cells are the same, so are the slots
pub slots-same : (left was : List ℕ) (n : ℕ) (firsts : List ℕ) (slots : Slots) (chains : List (List ℕ)) → n ≤ 2048 → chains_of was n firsts ≡ Some chains → list_all (is_record was n) chains ≡ true → are_apart n chains ≡ true → slots ≡ map (slot_of was n) chains
    → AllByRecursion (SameChain left was n) chains → slots_at left n firsts ≡ Some slots
slots-same left was n firsts slots chains few of records apart is same =
    rw (chains-same left was n firsts chains few of same, records-same left was n chains same, records, apart, map-same left was n chains same, is) refl

-- where all octets from the cells on are the same, each cell is
cell-beside : (left was : List ℕ) (n cell : ℕ) → drop (34 + 6 * n) left ≡ drop (34 + 6 * n) was → SameCell left was n cell
cell-beside left was n cell same =
    let drops : (k : ℕ) → drop ((34 + 6 * n) + k) left ≡ drop ((34 + 6 * n) + k) was =
    λ k. sym (drop-drop k (34 + 6 * n) left) ∙ ap (λ (xs : List ℕ). drop k xs) same ∙ drop-drop k (34 + 6 * n) was in
    let octet : (k : ℕ) → slice_index left ((34 + 6 * n) + k) ≡ slice_index was ((34 + 6 * n) + k) =
    λ k. sym (get_or-drop (34 + 6 * n) left k 0) ∙ ap (λ (xs : List ℕ). get_or xs k 0) same ∙ get_or-drop (34 + 6 * n) was k 0 in
    let low : (34 + 6 * n) + (32 * cell + 1) ≡ cell_place n cell + 1 = omega arith in
    let from : (34 + 6 * n) + (32 * cell + 2) ≡ cell_place n cell + 2 = omega arith in
    record {
      link = rw (octet (32 * cell), rw low at (octet (32 * cell + 1))) refl;
      payload = ap (λ (xs : List ℕ). take ((cell_place n cell + 32) - (cell_place n cell + 2)) xs) (rw from at (drops (32 * cell + 2)));
    }

pub links-beside : (left was : List ℕ) (n cell : ℕ) → drop (34 + 6 * n) left ≡ drop (34 + 6 * n) was → number_at left (cell_place n cell) ≡ number_at was (cell_place n cell)
links-beside left was n cell same = (cell-beside left was n cell same).link
