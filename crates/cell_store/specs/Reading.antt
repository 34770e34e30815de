-- How many octets of an EEPROM are read for a record, by its count before and after; and what is read of it.
use Rattle.std.specs.Prelude.{◌≡◌, ℕ, ◌+◌, ◌*◌, ◌<◌, ◌≤◌, List, ◌++◌, length, Option, Some, None, Result, IfSome, OnOk}
pub use Rattle.eeprom.specs.Chip.{RisesAtMost as ReadsAtMost}
use Rattle.eeprom.specs.Calls.{FitsInto}
use Rattle.eeprom.specs.Chip.{Chip, Becomes, RisesBy}
use Rattle.eeprom.specs.Fault.{each_error}
use Rattle.eeprom.specs.Frame.{Reads}
use Rattle.eeprom.specs.StoreOf.{cells_for, cell_place, cell_size, number_at, payload_of, piece_size, slot_of}
use Rattle.cell_store.specs.Chains.{IsRecordChain}

-- so many whole cells are read
abbrev pub ReadsCells : ℕ → ℕ → ℕ → Type 0
ReadsCells cells = RisesBy (cell_size * cells)

-- for a record as many octets as it has are read, and at most those of its cells; for an empty slot none
abbrev pub ReadsRecord : Option (List ℕ) → ℕ → ℕ → Type 0
ReadsRecord None before after = after ≡ before
ReadsRecord (Some octets) before after = (before + length octets ≤ after) × (after ≤ before + cell_size * cells_for (length octets))

-- so many octets are appended
abbrev pub Extends : ℕ → List ℕ → List ℕ → Type 0
Extends count old new = (octets : List ℕ) × (length octets ≡ count) × (new ≡ old ++ octets)

-- A cell is read: its payload is appended, and the number of the next cell is that of the image.
pub record ReadsCell (n cell next : ℕ) (image : Option (List ℕ)) (old new : List ℕ) : Type 0 where
  pub link : IfSome image (λ image. next ≡ number_at image (cell_place n cell))
  pub payload : IfSome image (λ image. new ≡ old ++ payload_of image n cell)
  -- It has its length whatever is told of the image.
  pub appends : Extends piece_size old new

-- The chain from a cell on is read: where the image has a record there it is this one, for which so many octets are read. Nothing is written.
pub record ReadsChain {S T E : Type 0} (chip : S → Chip) (faults : S → ℕ) (octets : S → Option ℕ) (n first : ℕ) (out : List ℕ) (before after : S) (result : Result T E) : Type 0 where
  pub «record» : OnOk result (IfSome (chip before).image (λ image. (chain : List ℕ) → IsRecordChain image n first chain → slot_of image n chain ≡ Some out))
  pub octets_read : OnOk result (IfSome (chip before).image (λ image. (chain : List ℕ) → IsRecordChain image n first chain → Becomes (ReadsRecord (Some out)) (octets before) (octets after)))
  pub frame : Reads each_error chip faults before after result

-- There is such a cell in the image, and room for its payload behind so many octets.
pub record MayReadCell (n cell size room : ℕ) (chip : Chip) : Type 0 where
  pub fits : FitsInto n chip
  pub inside : cell < 2 * n
  pub free : size + piece_size ≤ room

-- There is room for the payload of so many cells behind so many octets.
pub record MayReadAlong (n most size room : ℕ) (chip : Chip) : Type 0 where
  pub fits : FitsInto n chip
  pub free : size + piece_size * most ≤ room

-- These octets are no more than the payload of one cell.
pub record MayReadLonger (n : ℕ) (piece : List ℕ) (chip : Chip) : Type 0 where
  pub fits : FitsInto n chip
  pub size : length piece ≤ piece_size
