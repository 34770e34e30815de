-- Where all octets from a place on are the same, so are the directory in force and the slots.
use Rattle.std.proofs.Common.{◌≡◌, ℕ, zero, suc, ◌+◌, ◌*◌, ◌-◌, ◌≤◌, ◌==◌, ◌&&◌, nat_le, nat_lt, if◌then◌else◌, Bool, List, [], ◌∷◌, ◌++◌, length, take, drop, map, get_or, slice_index, Option, Some, None, option_map, option_and_then, sym, refl, ap, ap₂, ◌∙◌, arith, drop-drop, get_or-drop}
use Rattle.std.specs.List.{flat_map, list_all}
use Rattle.eeprom.specs.StoreOf.{Slots, no_cell, front_size, header_size, number_at, entries_at, journal_place, journal, is_entry, is_in_range, is_gate_open, written_directory, with_entries, directory, cell_place, payload_of, chain_of, chains_of, cells_for, longest_record, is_record, record_in, slot_of, are_apart, slots_at}
use Rattle.eeprom.specs.declared.entry.Entry.{Entry}
use Rattle.eeprom.proofs.Regions.{numbers-agree}

-- all octets from a place on are the same
abbrev pub SameFrom : ℕ → List ℕ → List ℕ → Type 0
SameFrom from left was = drop from left ≡ drop from was

pub drop-from : (from k : ℕ) (left was : List ℕ) → from ≤ k → SameFrom from left was → drop k left ≡ drop k was
drop-from from k left was behind same =
    let rest = k - from in
    let e : from + rest ≡ k = omega arith in
    ap (λ (k : ℕ). drop k left) (sym e) ∙ sym (drop-drop rest from left) ∙ ap (λ (xs : List ℕ). drop rest xs) same ∙ drop-drop rest from was ∙ ap (λ (k : ℕ). drop k was) e

pub octet-from : (from k : ℕ) (left was : List ℕ) → from ≤ k → SameFrom from left was → slice_index left k ≡ slice_index was k
octet-from from k left was behind same =
    let rest = k - from in
    let e : from + rest ≡ k = omega arith in
    ap (λ (k : ℕ). slice_index left k) (sym e) ∙ sym (get_or-drop from left rest 0) ∙ ap (λ (xs : List ℕ). get_or xs rest 0) same ∙ get_or-drop from was rest 0 ∙ ap (λ (k : ℕ). slice_index was k) e

number-from : (from place : ℕ) (left was : List ℕ) → from ≤ place → SameFrom from left was → number_at left place ≡ number_at was place
number-from from place left was behind same =
    ap₂ (λ (high low : ℕ). 256 * high + low) (octet-from from place left was behind same) (octet-from from (place + 1) left was (omega arith) same)

entries-from : (from place count : ℕ) (left was : List ℕ) → from ≤ place → SameFrom from left was → entries_at left place count ≡ entries_at was place count
entries-from from place zero left was behind same = refl
entries-from from place (suc count) left was behind same =
    let slot = number-from from place left was behind same in
    let first = number-from from (place + 2) left was (omega arith) same in
    let rest = entries-from from (place + 4) count left was (omega arith) same in
    ap₂ (λ (entry : Entry) (entries : List Entry). entry ∷ entries) (ap₂ (λ (slot first : ℕ). record { slot = slot; first = first }) slot first) rest

journal-from : (from n : ℕ) (left was : List ℕ) → from ≤ header_size → SameFrom from left was → journal left n ≡ journal was n
journal-from from n left was before same =
    ap (λ (count : ℕ). entries_at left (journal_place n + 2) count) (number-from from (journal_place n) left was (omega arith) same)
    ∙ entries-from from (journal_place n + 2) (number_at was (journal_place n)) left was (omega arith) same

range-from : (from n : ℕ) (left was : List ℕ) → from ≤ header_size → SameFrom from left was → is_in_range left n ≡ is_in_range was n
range-from from n left was before same =
    ap₂ (λ (count : ℕ) (entries : List Entry). nat_le count n && list_all (is_entry n) entries) (number-from from (journal_place n) left was (omega arith) same) (journal-from from n left was before same)

written-from : (from n : ℕ) (left was : List ℕ) → from ≤ header_size → SameFrom from left was → written_directory left n ≡ written_directory was n
written-from from n left was before same = numbers-agree left was header_size n (λ k after below. octet-from from k left was (omega arith) same)

-- of the octets before the header's end the gate's alone is looked at
pub directory-from : (from n : ℕ) (left was : List ℕ) → from ≤ header_size → SameFrom from left was → is_gate_open left ≡ is_gate_open was → directory left n ≡ directory was n
directory-from from n left was before same gate =
    chosen (is_gate_open left) (is_gate_open was) (is_in_range left n) (is_in_range was n) (journal left n) (journal was n) (written_directory left n) (written_directory was n) gate
    (range-from from n left was before same) (journal-from from n left was before same) (written-from from n left was before same)
  where
    chosen : (a b c d : Bool) (es fs : List Entry) (xs ys : List ℕ) → a ≡ b → c ≡ d → es ≡ fs → xs ≡ ys
        → (if a then (if c then Some (with_entries es xs) else None) else Some xs) ≡ (if b then (if d then Some (with_entries fs ys) else None) else Some ys)
    chosen a b c d es fs xs ys gate range entries firsts = rw (gate, range, entries, firsts) refl

payload-from : (from n cell : ℕ) (left was : List ℕ) → from ≤ front_size n → SameFrom from left was → payload_of left n cell ≡ payload_of was n cell
payload-from from n cell left was before same =
    ap (λ (xs : List ℕ). take ((cell_place n cell + 32) - (cell_place n cell + 2)) xs) (drop-from from (cell_place n cell + 2) left was (omega arith) same)

chain-from : (from n most cell : ℕ) (left was : List ℕ) → from ≤ front_size n → SameFrom from left was → chain_of left n most cell ≡ chain_of was n most cell
chain-from from n zero cell left was before same = refl
chain-from from n (suc most) cell left was before same =
    let link = number-from from (cell_place n cell) left was (omega arith) same in
    ap (λ (tail : Option (List ℕ)). if cell == no_cell then Some [] else (if nat_lt cell (2 * n) then option_map (λ cells. cell ∷ cells) tail else None))
    (ap (chain_of left n most) link ∙ chain-from from n most (number_at was (cell_place n cell)) left was before same)

chains-from : (from n : ℕ) (left was firsts : List ℕ) → from ≤ front_size n → SameFrom from left was → chains_of left n firsts ≡ chains_of was n firsts
chains-from from n left was [] before same = refl
chains-from from n left was (first ∷ rest) before same =
    ap₂ (λ (chain : Option (List ℕ)) (chains : Option (List (List ℕ))). option_and_then (λ cells. option_map (λ chains. cells ∷ chains) chains) chain)
    (chain-from from n (2 * n) first left was before same) (chains-from from n left was rest before same)

record-from : (from n : ℕ) (left was chain : List ℕ) → from ≤ front_size n → SameFrom from left was → is_record left n chain ≡ is_record was n chain
record-from from n left was [] before same = refl
record-from from n left was (cell ∷ cells) before same =
    ap (λ (payload : List ℕ). nat_le 1 (number_at payload 0) && nat_le (number_at payload 0) longest_record && (length (cell ∷ cells) == cells_for (number_at payload 0)))
    (payload-from from n cell left was before same)

records-from : (from n : ℕ) (left was : List ℕ) (chains : List (List ℕ)) → from ≤ front_size n → SameFrom from left was → list_all (is_record left n) chains ≡ list_all (is_record was n) chains
records-from from n left was [] before same = refl
records-from from n left was (chain ∷ chains) before same =
    ap₂ (λ (a b : Bool). a && b) (record-from from n left was chain before same) (records-from from n left was chains before same)

payloads-from : (from n : ℕ) (left was cells : List ℕ) → from ≤ front_size n → SameFrom from left was → flat_map (payload_of left n) cells ≡ flat_map (payload_of was n) cells
payloads-from from n left was [] before same = refl
payloads-from from n left was (cell ∷ cells) before same =
    ap₂ (λ (payload rest : List ℕ). payload ++ rest) (payload-from from n cell left was before same) (payloads-from from n left was cells before same)

slot-from : (from n : ℕ) (left was chain : List ℕ) → from ≤ front_size n → SameFrom from left was → slot_of left n chain ≡ slot_of was n chain
slot-from from n left was [] before same = refl
slot-from from n left was (cell ∷ cells) before same = ap (λ (payload : List ℕ). Some (record_in payload)) (payloads-from from n left was (cell ∷ cells) before same)

each-from : (from n : ℕ) (left was : List ℕ) (chains : List (List ℕ)) → from ≤ front_size n → SameFrom from left was → map (slot_of left n) chains ≡ map (slot_of was n) chains
each-from from n left was [] before same = refl
each-from from n left was (chain ∷ chains) before same =
    ap₂ (λ (slot : Option (List ℕ)) (slots : Slots). slot ∷ slots) (slot-from from n left was chain before same) (each-from from n left was chains before same)

pub slots-from : (from n : ℕ) (left was firsts : List ℕ) → from ≤ front_size n → SameFrom from left was → slots_at left n firsts ≡ slots_at was n firsts
slots-from from n left was firsts before same =
    ap (option_and_then (λ chains. if list_all (is_record left n) chains && are_apart n chains then Some (map (slot_of left n) chains) else None)) (chains-from from n left was firsts before same)
    ∙ each (chains_of was n firsts)
  where
    each : (chains : Option (List (List ℕ))) → option_and_then (λ chains. if list_all (is_record left n) chains && are_apart n chains then Some (map (slot_of left n) chains) else None) chains
        ≡ option_and_then (λ chains. if list_all (is_record was n) chains && are_apart n chains then Some (map (slot_of was n) chains) else None) chains
    each None = refl
    each (Some chains) = ap₂ (λ (fit : Bool) (slots : Slots). if fit && are_apart n chains then Some slots else None) (records-from from n left was chains before same) (each-from from n left was chains before same)

-- the slots of the directory in force
pub in-force-from : (from n : ℕ) (left was : List ℕ) → from ≤ header_size → SameFrom from left was → is_gate_open left ≡ is_gate_open was → option_and_then (slots_at left n) (directory left n) ≡ option_and_then (slots_at was n) (directory was n)
in-force-from from n left was before same gate = ap (option_and_then (slots_at left n)) (directory-from from n left was before same gate) ∙ each (directory was n)
  where
    each : (firsts : Option (List ℕ)) → option_and_then (slots_at left n) firsts ≡ option_and_then (slots_at was n) firsts
    each None = refl
    each (Some firsts) = slots-from from n left was firsts (omega arith) same
