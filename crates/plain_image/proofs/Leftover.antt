-- The slots of a directory, one after another: what those are whose chains are still to be walked.
use Rattle.std.proofs.Common.{ℕ, ◌&&◌, Bool, List, ◌++◌, Option, Some, None, option_and_then, map, length, nat_le, flat_map, if◌then◌else◌}
use Rattle.std.specs.List.{list_all}
use Rattle.eeprom.specs.StoreOf.{Slots, chains_of, is_record, is_distinct, slot_of}

-- no cell is used twice, and at most so many are
abbrev pub are_few : ℕ → List ℕ → Bool
are_few n used = is_distinct used && nat_le (length used) n

-- the slots so far, whose chains use these cells, and those of chains to come
abbrev pub slots_with : List ℕ → ℕ → List ℕ → Slots → List (List ℕ) → Option Slots
slots_with image n used slots chains =
    if list_all (is_record image n) chains && are_few n (used ++ flat_map (λ chain. chain) chains) then Some (slots ++ map (slot_of image n) chains) else None

-- the slots so far, and those of first cells to come
abbrev pub slots_from : List ℕ → ℕ → List ℕ → Slots → List ℕ → Option Slots
slots_from image n used slots firsts = option_and_then (slots_with image n used slots) (chains_of image n firsts)
