-- What a store holds in memory, and of which images it speaks.
use Rattle.std.specs.Prelude.{◌≡◌, ℕ, ◌==◌, ◌||◌, Bool, true, false, if◌then◌else◌, List, Option, Some, None, IsSome, IfSome, option_map, option_and_then, slice_index, slice_index_or, length, ◌<◌}
use Rattle.eeprom.specs.Chip.{Chip}
use Rattle.eeprom.specs.Frame.{HasRoom}
use Rattle.eeprom.specs.StoreOf.{fresh_row_limit, migrated_row_limit, no_cell, Slots, Stored, slots_at, starts_with_magic, has_header, number_at, row_limit, is_gate_open, written_directory}
use Rattle.cell_store.specs.Cells.{Cells, AreLinkedIn}
use Rattle.record_store.specs.Tags.{Tags, SideTags, AreTags}
use Rattle.record_store.specs.declared.side.Side.{Side}
use Rattle.record_store.specs.declared.side.Side.TheVariants.{Committed, Working}

-- the cells and the chains of them; how many octets a row may have; for each slot the first cell of its chain as it was committed
-- and, where a transaction was begun, as it is in it; for each cell that the chain of a record begins at the first octet of the record;
-- and the tags of the records on both sides
pub record Held : Type 0 where
  pub chains : Cells
  pub row_limit : ℕ
  pub committed : List ℕ
  pub working : List ℕ
  pub begun : Bool
  pub first_octets : List ℕ
  pub tags : Tags

abbrev pub firsts : Held → Side → List ℕ
firsts held Committed = held.committed
firsts held Working = if held.begun then held.working else held.committed

-- the tags of a side
abbrev pub tags_of : Held → Side → SideTags
tags_of held Committed = held.tags.committed
tags_of held Working = if held.begun then held.tags.working else held.tags.committed

-- how many octets a row may have: 240, or 1,020 on a card that was migrated
abbrev pub IsRowLimit : ℕ → Type 0
IsRowLimit limit = (limit == fresh_row_limit || limit == migrated_row_limit) ≡ true

-- the records of a side
abbrev pub contents : Held → Side → List ℕ → Option Slots
contents held side image = slots_at image held.chains.cells (firsts held side)

-- a store with these slots and this row limit
abbrev pub with_limit : ℕ → Option Slots → Option Stored
with_limit limit slots = option_map (λ slots. record { row_limit = limit; slots = slots }) slots

-- the store with the records of a side
abbrev pub stored : Held → Side → List ℕ → Option Stored
stored held side image = with_limit held.row_limit (contents held side image)

-- the record of a slot
abbrev pub record_at : Held → Side → ℕ → List ℕ → Option (List ℕ)
record_at held side slot image = option_and_then (λ slots. slice_index_or slots slot None) (contents held side image)

-- the first octet of a record, or none
abbrev pub first_octet : Option (List ℕ) → Option ℕ
first_octet entry = option_map (λ octets. slice_index octets 0) entry

-- the octet that is kept for a slot whose chain begins at a cell, and none for an empty slot
abbrev pub kept_octet : List ℕ → ℕ → Option ℕ
kept_octet octets first = if first == no_cell then None else Some (slice_index octets first)

-- for each of the slots that begin at these cells the first octet of its record is kept
abbrev pub AreKept : List ℕ → List ℕ → Option Slots → Type 0
AreKept octets firsts slots = (slot : ℕ) → slot < length firsts → first_octet (option_and_then (λ slots. slice_index_or slots slot None) slots) ≡ kept_octet octets (slice_index firsts slot)

-- the image begins as that of a store of so many cells does, with this row limit, a closed gate, and these first cells in its directory
pub record BeginsAs (n limit : ℕ) (first_cells image : List ℕ) : Type 0 where
  pub front : starts_with_magic image ≡ true
  pub header : has_header image ≡ true
  pub cells : number_at image 6 ≡ n
  pub rows : row_limit image ≡ limit
  pub closed : is_gate_open image ≡ false
  pub directory : written_directory image n ≡ first_cells

-- the image has the store that is held, and each side has its records
pub record StandsFor (held : Held) (image : List ℕ) : Type 0 where
  pub begins : BeginsAs held.chains.cells held.row_limit held.committed image
  pub links : AreLinkedIn held.chains image
  pub committed : IsSome (contents held Committed image)
  pub working : IsSome (contents held Working image)
  pub committed_octets : AreKept held.first_octets held.committed (contents held Committed image)
  pub working_octets : AreKept held.first_octets (firsts held Working) (contents held Working image)
  pub committed_tags : AreTags held.tags.committed (contents held Committed image)
  pub working_tags : AreTags (tags_of held Working) (contents held Working image)

-- the EEPROM has room for the store that is held, and its image, where told, has that store
pub record IsOver (held : Held) (chip : Chip) : Type 0 where
  pub room : HasRoom held.chains.cells chip
  pub stands : IfSome chip.image (StandsFor held)
