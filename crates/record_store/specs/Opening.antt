-- A store that is being opened: its slots are claimed one after another.
use Rattle.std.specs.Prelude.{◌≡◌, ℕ, ◌+◌, ◌*◌, ◌≤◌, true, false, List, [], ◌∷◌, length, take, slice_set, Option, Some, None, IsSome, IfSome}
use Rattle.eeprom.specs.Chip.{Chip, Becomes, RisesAtMost, RisesBy}
use Rattle.eeprom.specs.Frame.{HasRoom}
use Rattle.eeprom.specs.StoreOf.{Slots, is_gate_open, number_at, slots_at, chain_of, is_record, slot_of, weight_of, cell_size, longest_chain, most_cells}
use Rattle.cell_store.specs.Cells.{Cells, IsInRange, AreLinkedIn}
use Rattle.cell_store.specs.Claims.{TakesChain}
use Rattle.record_store.specs.Held.{BeginsAs, IsRowLimit, AreKept}
use Rattle.record_store.specs.Sound.{Claimed, cells_in}
use Rattle.record_store.specs.Tags.{SideTags, AreTags, HasTags}

-- the cells and the chains of them; how many octets a row may have; for each slot the first cell of its chain; how many
-- slots were claimed, and how many cells their chains have; for each cell that one of them begins at the first octet of its record; and
-- the tags of the slots that were claimed
pub record HeldSoFar : Type 0 where
  pub chains : Cells
  pub row_limit : ℕ
  pub firsts : List ℕ
  pub claimed : ℕ
  pub weight : ℕ
  pub first_octets : List ℕ
  pub tags : SideTags

-- the slot with these octets as its record; without octets it is empty
abbrev pub slot_with : List ℕ → Option (List ℕ)
slot_with [] = None
slot_with (octet ∷ octets) = Some (octet ∷ octets)

-- the octets with the first one of a record kept for a cell; an empty slot has none
abbrev pub with_octet : List ℕ → ℕ → List ℕ → List ℕ
with_octet kept first [] = kept
with_octet kept first (octet ∷ octets) = slice_set kept first octet

-- the records of the slots that were claimed
abbrev pub slots_so_far : HeldSoFar → List ℕ → Option Slots
slots_so_far held image = slots_at image held.chains.cells (take held.claimed held.firsts)

-- the image begins as that of a store with these first cells, and the slots that were claimed have their records
pub record StandsSoFar (held : HeldSoFar) (image : List ℕ) : Type 0 where
  pub begins : BeginsAs held.chains.cells held.row_limit held.firsts image
  pub links : AreLinkedIn held.chains image
  pub claimed : IsSome (slots_so_far held image)
  pub octets : AreKept held.first_octets (take held.claimed held.firsts) (slots_so_far held image)
  pub tags : AreTags held.tags (slots_so_far held image)

-- the EEPROM has room for the store, and its image, where told, has what was opened so far
pub record IsOverSoFar (held : HeldSoFar) (chip : Chip) : Type 0 where
  pub room : HasRoom held.chains.cells chip
  pub stands : IfSome chip.image (StandsSoFar held)

-- these slots are claimed, and their chains have so many cells
pub record ClaimedSoFar (store : Cells) (firsts : List ℕ) (weight : ℕ) : Type 0 where
  pub slots : Claimed store firsts
  pub count_is : length (cells_in slots.chains) ≡ weight

-- in the image this chain of a slot that begins at this cell has these octets as its record, or none
pub record IsSlot (image : List ℕ) (n first : ℕ) (octets chain : List ℕ) : Type 0 where
  pub of : chain_of image n (2 * n) first ≡ Some chain
  pub is : is_record image n chain ≡ true
  pub slot : slot_of image n chain ≡ slot_with octets

-- The chain of a slot is used now, or it is empty and has no cell; where the image is told the chain has these octets.
pub record TakesSlot (image : Option (List ℕ)) (old new : Cells) (first : ℕ) (octets : List ℕ) (count : ℕ) : Type 0 where
  pub chain : TakesChain old new first count
  pub told : IfSome image (λ image. IsSlot image old.cells first octets chain.chain)

-- what holds of it in memory, whatever an EEPROM tells
pub record IsSoundSoFar (held : HeldSoFar) : Type 0 where
  pub range : IsInRange held.chains
  pub rows : IsRowLimit held.row_limit
  pub count : length held.firsts ≡ held.chains.cells
  pub octets_count : length held.first_octets ≡ 2 * held.chains.cells
  pub tags_count : HasTags held.chains.cells held.tags
  pub claimed : held.claimed ≤ held.chains.cells
  pub chains : ClaimedSoFar held.chains (take held.claimed held.firsts) held.weight

-- how many octets of an image of so many cells are looked at before its cells: 11, and the directory
abbrev pub front_octets : ℕ → ℕ
front_octets n = 11 + 2 * n

-- so many more are read at the most where the gate is open: its octet, and a journal
abbrev pub journal_octets : ℕ → ℕ
journal_octets n = 3 + 4 * n

-- No record was read yet: at most so many octets as come before the records of a store of n cells, which is the number in the image's header, where told.
-- Those of a journal are among them only behind an open gate.
pub record ReadsFront (n : ℕ) (image : Option (List ℕ)) (old new : Option ℕ) : Type 0 where
  pub few : n ≤ most_cells
  pub told : IfSome image (λ image. number_at image 6 ≡ n)
  pub read : Becomes (RisesAtMost (front_octets n + journal_octets n)) old new
  pub closed : IfSome image (λ image. is_gate_open image ≡ false → Becomes (RisesAtMost (front_octets n)) old new)

-- these are read where a store with a closed gate is opened, and as many as the cells of its records have
abbrev pub ReadsStore : ℕ → Slots → ℕ → ℕ → Type 0
ReadsStore n slots = RisesBy (front_octets n + cell_size * weight_of slots)

-- so many are read at the most of any image: a store is refused as soon as the chains have more cells than it may have
abbrev pub most_octets : ℕ
most_octets = front_octets most_cells + journal_octets most_cells + cell_size * (most_cells + longest_chain)
