-- The store of an image in format 2: a header, a directory, a redo journal behind a gate, and chains of cells.
-- Places are in octets from the image's start; numbers of several octets have the highest octet first.
use Rattle.std.specs.Prelude.{ℕ, zero, suc, ◌+◌, ◌*◌, ◌/◌, ◌%◌, ◌==◌, nat_le, nat_lt, ◌-◌, not, ◌&&◌, ◌||◌, Bool, true, false, if◌then◌else◌, List, [], ◌∷◌, length, map, replicate, Option, Some, None, option_map, option_and_then, slice_index, slice_range, slice_set}
use Rattle.std.specs.List.{flat_map, list_all, list_any, sum_by}
use Rattle.eeprom.specs.declared.entry.Entry.{Entry}

-- a store: the record of each slot, or none in an empty slot
abbrev pub Slots : Type 0
Slots = List (Option (List ℕ))

-- the number in the two octets at a place
abbrev pub number_at : List ℕ → ℕ → ℕ
number_at octets place = 256 * slice_index octets place + slice_index octets (place + 1)

-- so many numbers of two octets each, from a place on
abbrev pub numbers_at : List ℕ → ℕ → ℕ → List ℕ
numbers_at octets place zero = []
numbers_at octets place (suc count) = number_at octets place ∷ numbers_at octets (place + 2) count

-- the two octets of a number
abbrev pub two_octets : ℕ → List ℕ
two_octets number = (number / 256) ∷ (number % 256) ∷ []

-- what a directory or a cell says where no cell comes
abbrev pub no_cell : ℕ
no_cell = 65535

-- how many octets stand before the directory of an image
abbrev pub header_size : ℕ
header_size = 32

-- the directory as it is written: for each slot the first cell of its chain
abbrev pub written_directory : List ℕ → ℕ → List ℕ
written_directory image n = numbers_at image header_size n

-- where the journal begins: behind the directory, with the number of its entries
abbrev pub journal_place : ℕ → ℕ
journal_place n = header_size + 2 * n

-- so many entries of four octets each, a slot and the first cell of its chain, from a place on
abbrev pub entries_at : List ℕ → ℕ → ℕ → List Entry
entries_at octets place zero = []
entries_at octets place (suc count) = record { slot = number_at octets place; first = number_at octets (place + 2) } ∷ entries_at octets (place + 4) count

-- the entries of the journal
abbrev pub journal : List ℕ → ℕ → List Entry
journal image n = entries_at image (journal_place n + 2) (number_at image (journal_place n))

-- an entry names a slot, and a cell or none
abbrev pub is_entry : ℕ → Entry → Bool
is_entry n entry = nat_lt entry.slot n && (nat_lt entry.first (2 * n) || (entry.first == no_cell))

-- the journal has at most as many entries as there are slots, and each of them is one
abbrev pub is_in_range : List ℕ → ℕ → Bool
is_in_range image n = nat_le (number_at image (journal_place n)) n && list_all (is_entry n) (journal image n)

-- the directory with these entries, one after another
abbrev pub with_entries : List Entry → List ℕ → List ℕ
with_entries [] firsts = firsts
with_entries (entry ∷ entries) firsts = with_entries entries (slice_set firsts entry.slot entry.first)

-- where the gate is: an octet that is odd where it is open, and even where it is closed
abbrev pub gate_place : ℕ
gate_place = 8

abbrev pub is_gate_open : List ℕ → Bool
is_gate_open image = slice_index image gate_place % 2 == 1

-- the directory in force: the written one, and behind an open gate the one with the journal's entries, where it is in range
abbrev pub directory : List ℕ → ℕ → Option (List ℕ)
directory image n =
    if is_gate_open image then (if is_in_range image n then Some (with_entries (journal image n) (written_directory image n)) else None)
    else Some (written_directory image n)

-- how many octets a cell has, and how many of them are payload
abbrev pub cell_size : ℕ
cell_size = 32

abbrev pub piece_size : ℕ
piece_size = 30

-- how many octets stand before the cells: header, directory and journal, with room for an entry of each slot
abbrev pub front_size : ℕ → ℕ
front_size n = 34 + 6 * n

-- where a cell begins: two octets for the next cell, 65,535 for none, and then the payload
abbrev pub cell_place : ℕ → ℕ → ℕ
cell_place n cell = front_size n + cell_size * cell

abbrev pub payload_of : List ℕ → ℕ → ℕ → List ℕ
payload_of image n cell = slice_range image (cell_place n cell + 2) (cell_place n cell + cell_size)

-- the cells from this one on, linked in order, where they end within so many
abbrev pub chain_of : List ℕ → ℕ → ℕ → ℕ → Option (List ℕ)
chain_of image n zero cell = if cell == no_cell then Some [] else None
chain_of image n (suc most) cell =
    if cell == no_cell then Some []
    else (if nat_lt cell (2 * n) then option_map (λ cells. cell ∷ cells) (chain_of image n most (number_at image (cell_place n cell))) else None)

-- the chains of all slots, where each first cell of a directory has one
abbrev pub chains_of : List ℕ → ℕ → List ℕ → Option (List (List ℕ))
chains_of image n [] = Some []
chains_of image n (first ∷ rest) =
    option_and_then (λ cells. option_map (λ chains. cells ∷ chains) (chains_of image n rest)) (chain_of image n (2 * n) first)

-- the least whole number of cells that hold a record of this length and the two octets of its length
abbrev pub cells_for : ℕ → ℕ
cells_for size = (size + 31) / piece_size

-- the cells of the record in a slot, and of the records in all slots
abbrev pub cells_of : Option (List ℕ) → ℕ
cells_of None = 0
cells_of (Some octets) = cells_for (length octets)

abbrev pub weight_of : Slots → ℕ
weight_of slots = sum_by cells_of slots

-- the record in a chain's payload: its length, its octets, and what is left isn't looked at
abbrev pub record_in : List ℕ → List ℕ
record_in payload = slice_range payload 2 (2 + number_at payload 0)

abbrev pub slot_of : List ℕ → ℕ → List ℕ → Option (List ℕ)
slot_of image n [] = None
slot_of image n (cell ∷ cells) = Some (record_in (flat_map (payload_of image n) (cell ∷ cells)))

-- how many octets a record has at most, and how many cells its chain
abbrev pub longest_record : ℕ
longest_record = 1029

abbrev pub longest_chain : ℕ
longest_chain = 35

-- a chain has a record of at least one octet, and exactly its cells
abbrev pub is_record : List ℕ → ℕ → List ℕ → Bool
is_record image n [] = true
is_record image n (cell ∷ cells) =
    let size = number_at (payload_of image n cell) 0 in
    nat_le 1 size && nat_le size longest_record && (length (cell ∷ cells) == cells_for size)

abbrev pub is_distinct : List ℕ → Bool
is_distinct [] = true
is_distinct (x ∷ xs) = not (list_any (λ y. x == y) xs) && is_distinct xs

-- no cell is in two chains, and all chains together have at most n cells
abbrev pub are_apart : ℕ → List (List ℕ) → Bool
are_apart n chains = let cells = flat_map (λ chain. chain) chains in is_distinct cells && nat_le (length cells) n

-- the records at the first cells of a directory
abbrev pub slots_at : List ℕ → ℕ → List ℕ → Option Slots
slots_at image n firsts =
    option_and_then (λ chains. if list_all (is_record image n) chains && are_apart n chains then Some (map (slot_of image n) chains) else None) (chains_of image n firsts)

-- 53 43 51 4C, which is `SCQL`
abbrev pub starts_with_magic : List ℕ → Bool
starts_with_magic (a ∷ b ∷ c ∷ d ∷ rest) = (a == 0x53) && (b == 0x43) && (c == 0x51) && (d == 0x4C)
starts_with_magic image = false

-- how many octets an image of so many cells has at least: the last cell ends there
abbrev pub image_size : ℕ → ℕ
image_size n = 70 * n + 34

-- how many cells a card may have at least and at most
abbrev pub fewest_cells : ℕ
fewest_cells = 16

abbrev pub most_cells : ℕ
most_cells = 2048

-- how many octets a row may have on a card that wasn't migrated, and on one that was
abbrev pub fresh_row_limit : ℕ
fresh_row_limit = 240

abbrev pub migrated_row_limit : ℕ
migrated_row_limit = 1020

-- how many octets a row may have, by the version: an even one says that the card wasn't migrated, an odd one that it was
abbrev pub row_limit : List ℕ → ℕ
row_limit image = if slice_index image 5 % 2 == 0 then fresh_row_limit else migrated_row_limit

-- an even version, or an odd one and behind the gate the number 1,020, which is 03 FC
abbrev pub has_version : List ℕ → Bool
has_version octets = (slice_index octets 5 % 2 == 0) || ((slice_index octets 9 == 0x03) && (slice_index octets 10 == 0xFC))

-- these first octets say format 2 with a version, and a number of cells that an image of this size has room for
abbrev pub is_header : List ℕ → ℕ → Bool
is_header octets size =
    let n = number_at octets 6 in
    (slice_index octets 4 == 2) && has_version octets && nat_le fewest_cells n && nat_le n most_cells && nat_le (image_size n) size

-- those of the image do
abbrev pub has_header : List ℕ → Bool
has_header image = is_header image (length image)

-- what an image is the store of: how many octets a row may have, and the record of each slot
pub record Stored : Type 0 where
  pub row_limit : ℕ
  pub slots : Slots

-- the store of an image, or none
abbrev pub store_of : List ℕ → Option Stored
store_of image =
    let n = number_at image 6 in
    if starts_with_magic image then (if has_header image
    then option_map (λ slots. record { row_limit = row_limit image; slots = slots }) (option_and_then (slots_at image n) (directory image n))
    else None) else None

-- the slots of a new store: two records, and no others
abbrev pub fresh_slots : ℕ → List ℕ → List ℕ → Slots
fresh_slots n first second = Some first ∷ Some second ∷ replicate (n - 2) None

-- a new store, of a card that wasn't migrated
abbrev pub fresh_store : ℕ → List ℕ → List ℕ → Stored
fresh_store n first second = record { row_limit = fresh_row_limit; slots = fresh_slots n first second }
