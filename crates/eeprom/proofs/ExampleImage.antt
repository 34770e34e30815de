-- Written examples of images: the fresh card of 16 cells, and what small changes make of it.
use Rattle.std.proofs.Common.{◌≡◌, ℕ, List, [], ◌∷◌, ◌++◌, refl, replicate, Some, None, length, true}
use Rattle.eeprom.specs.Image.{overwrite}
use Rattle.eeprom.specs.StoreOf.{Stored, store_of, fresh_slots, fresh_store, directory, written_directory, is_gate_open, no_cell}

abbrev counter : List ℕ
counter = 0x00 ∷ 0x00 ∷ 0x00 ∷ 0x00 ∷ 0x02 ∷ []

abbrev owner : List ℕ
owner =
    0x01 ∷ 0x00 ∷ 0x00 ∷ 0x00 ∷ 0x01 ∷ 0x00 ∷ 0x00 ∷ 0x00 ∷ 0x01 ∷ 0x01 ∷ 0x03 ∷ 0x05 ∷ 0x4F ∷ 0x57 ∷ 0x4E ∷ 0x45 ∷ 0x52 ∷ 0x00 ∷ []

abbrev image : List ℕ
image =
    (0x53 ∷ 0x43 ∷ 0x51 ∷ 0x4C ∷ 0x02 ∷ 0x00 ∷ 0x00 ∷ 0x10 ∷ 0x00 ∷ []) ++ (replicate 23 0
    ++ ((0x00 ∷ 0x00 ∷ 0x00 ∷ 0x01 ∷ []) ++ (replicate 28 0xFF ++ (replicate 66 0
    ++ ((0xFF ∷ 0xFF ∷ 0x00 ∷ 0x05 ∷ []) ++ (counter ++ (replicate 23 0
    ++ ((0xFF ∷ 0xFF ∷ 0x00 ∷ 0x12 ∷ []) ++ (owner ++ replicate 970 0)))))))))

size : length image ≡ 1154
size = refl

store : store_of image ≡ Some (fresh_store 16 counter owner)
store = refl

-- an odd version, and behind the gate the number 1,020: a card that was migrated
abbrev migrated : List ℕ
migrated = overwrite (overwrite image 5 (0x01 ∷ [])) 9 (0x03 ∷ 0xFC ∷ [])

abbrev longer_rows : Stored
longer_rows = record { row_limit = 1020; slots = fresh_slots 16 counter owner }

migrated_store : store_of migrated ≡ Some longer_rows
migrated_store = refl

-- an odd version without it
odd_version : store_of (overwrite image 5 (0x01 ∷ [])) ≡ None
odd_version = refl

-- an open gate, a journal whose one entry says that slot 1 begins at cell 1, and a written directory in which that slot is empty
abbrev unfinished : List ℕ
unfinished =
    overwrite (overwrite (overwrite image 8 (0x01 ∷ [])) 34 (0xFF ∷ 0xFF ∷ [])) 64 (0x00 ∷ 0x01 ∷ 0x00 ∷ 0x01 ∷ 0x00 ∷ 0x01 ∷ [])

gate : is_gate_open unfinished ≡ true
gate = refl

written : written_directory unfinished 16 ≡ 0 ∷ replicate 15 no_cell
written = refl

in_force : directory unfinished 16 ≡ Some (0 ∷ 1 ∷ replicate 14 no_cell)
in_force = refl

unfinished_store : store_of unfinished ≡ store_of image
unfinished_store = refl

-- the same with a closed gate: OWNER's slot is empty
abbrev counter_alone : Stored
counter_alone = record { row_limit = 240; slots = Some counter ∷ replicate 15 None }

closed_store : store_of (overwrite unfinished 8 (0x00 ∷ [])) ≡ Some counter_alone
closed_store = refl

-- an open gate alone, before a journal without entries
gate_alone : store_of (overwrite image 8 (0x01 ∷ [])) ≡ store_of image
gate_alone = refl

-- a journal of 17 entries, and one with a cell that isn't there
many_entries : store_of (overwrite (overwrite image 8 (0x01 ∷ [])) 64 (0x00 ∷ 0x11 ∷ [])) ≡ None
many_entries = refl

entry_out_of_range : store_of (overwrite (overwrite image 8 (0x01 ∷ [])) 64 (0x00 ∷ 0x01 ∷ 0x00 ∷ 0x02 ∷ 0x00 ∷ 0x20 ∷ [])) ≡ None
entry_out_of_range = refl

-- another format, 17 cells, a shared cell, a ring, a record of no octets
other_format : store_of (overwrite image 4 (0x01 ∷ [])) ≡ None
other_format = refl

cells_without_room : store_of (overwrite image 6 (0x00 ∷ 0x11 ∷ [])) ≡ None
cells_without_room = refl

shared_cell : store_of (overwrite image 34 (0x00 ∷ 0x00 ∷ [])) ≡ None
shared_cell = refl

in_a_ring : store_of (overwrite image 130 (0x00 ∷ 0x00 ∷ [])) ≡ None
in_a_ring = refl

no_octets : store_of (overwrite image 132 (0x00 ∷ 0x00 ∷ [])) ≡ None
no_octets = refl

-- a place that isn't looked at, and a free cell
ignored_place : store_of (overwrite image 9 (0xFF ∷ [])) ≡ store_of image
ignored_place = refl

free_cell : store_of (overwrite image 226 (0x55 ∷ [])) ≡ store_of image
free_cell = refl
