-- A walk along a chain of cells.
use Rattle.std.specs.Prelude.{◌≡◌, ◌⊎◌, ℕ, ◌+◌, ◌-◌, ◌*◌, ◌≤◌, List, ◌++◌, length, Option, Some, Result, IfSome, IfOk, OnOk}
use Rattle.std.specs.List.{flat_map}
use Rattle.eeprom.specs.Chip.{Chip, Becomes}
use Rattle.eeprom.specs.Fault.{each_error}
use Rattle.eeprom.specs.Frame.{Reads}
use Rattle.eeprom.specs.StoreOf.{chain_of, payload_of, number_at, record_in, piece_size, longest_chain, longest_record}
use Rattle.cell_store.specs.Reading.{ReadsCells}

-- these cells are left from a cell on
pub record IsLeft (image : List ℕ) (n cell : ℕ) (rest : List ℕ) : Type 0 where
  pub most : ℕ
  pub is : chain_of image n most cell ≡ Some rest

-- after so many steps, what was read and what is left of the chain are its payload
pub record Walked (n : ℕ) (chain : List ℕ) (cell : ℕ) (octets : List ℕ) (step : ℕ) (image : List ℕ) : Type 0 where
  pub rest : List ℕ
  pub left : IsLeft image n cell rest
  pub payload : flat_map (payload_of image n) chain ≡ octets ++ flat_map (payload_of image n) rest
  pub steps : length rest + step ≡ length chain

-- A walk goes on from a cell to another one, for so many steps or to the end of the chain, and reads the payload on the way.
pub record GoesAlong (n cell next most : ℕ) (old new : List ℕ) (image : Option (List ℕ)) (before after : Option ℕ) : Type 0 where
  pub count : ℕ
  pub within : count ≤ most
  pub far : (count ≡ most) ⊎ (2 * n ≤ next)
  pub size : length new ≡ length old + piece_size * count
  pub walked : IfSome image (λ image. (chain : List ℕ) (step : ℕ) → Walked n chain cell old step image → Walked n chain next new (step + count) image)
  pub read : Becomes (ReadsCells count) before after

-- the record is copied out of the payload of such a walk
pub record CopiesRecord (n cell most : ℕ) (old out : List ℕ) (image : Option (List ℕ)) (before after : Option ℕ) : Type 0 where
  pub next : ℕ
  pub payload : List ℕ
  pub along : GoesAlong n cell next most old payload image before after
  pub copied : number_at payload 0 ≤ longest_record → 2 + number_at payload 0 ≤ length payload → out ≡ record_in payload

-- So many cells of a chain are read, from one on, or to the chain's end.
pub record ReadsAlong {S E : Type 0} (chip : S → Chip) (faults : S → ℕ) (octets : S → Option ℕ) (n first most : ℕ) (old new : List ℕ) (before after : S) (result : Result ℕ E) : Type 0 where
  pub along : IfOk result (λ next. GoesAlong n first next most old new (chip before).image (octets before) (octets after))
  pub frame : Reads each_error chip faults before after result

-- The record of a chain is read, behind the payload of its first cell.
pub record ReadsLonger {S T E : Type 0} (chip : S → Chip) (faults : S → ℕ) (octets : S → Option ℕ) (n second : ℕ) (piece out : List ℕ) (before after : S) (result : Result T E) : Type 0 where
  pub copies : OnOk result (CopiesRecord n second (longest_chain - 1) piece out (chip before).image (octets before) (octets after))
  pub frame : Reads each_error chip faults before after result
