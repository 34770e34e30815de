-- A chain that is written into cells which no other chain has, from its last cell on.
use Rattle.std.specs.Prelude.{◌≡◌, ℕ, ◌+◌, ◌*◌, ◌<◌, ◌≤◌, Bool, true, false, List, length, take, drop, Some, slice_index, slice_range, is_some, Result, IfOk, OnOk, OnErr}
use Rattle.std.specs.List.{flat_map, AllByRecursion}
use Rattle.eeprom.specs.Calls.{FitsInto}
use Rattle.eeprom.specs.Chip.{Chip, Becomes, LeavesOf, RisesBy}
use Rattle.eeprom.specs.Fault.{Counts}
use Rattle.eeprom.specs.StoreOf.{front_size, chain_of, cell_place, payload_of, number_at, is_distinct, cell_size, longest_chain, piece_size, image_size}
use Rattle.cell_store.specs.Marks.{is_marked, unmarked}
use Rattle.cell_store.specs.Chains.{AreLinked, AreFree, with_marked}
use Rattle.cell_store.specs.Cells.{CoverCells, link_in, StayLinked}

-- a cell has the same link and payload
pub record SameCell (left was : List ℕ) (n cell : ℕ) : Type 0 where
  pub link : number_at left (cell_place n cell) ≡ number_at was (cell_place n cell)
  pub payload : payload_of left n cell ≡ payload_of was n cell

-- all before the cells and behind them is the same, and each marked cell
pub record Keeping (marks : List Bool) (n : ℕ) (left was : List ℕ) : Type 0 where
  pub size : length left ≡ length was
  pub front : take (front_size n) left ≡ take (front_size n) was
  pub behind : drop (image_size n) left ≡ drop (image_size n) was
  pub cells : (cell : ℕ) → is_marked marks cell ≡ true → SameCell left was n cell

-- a cell that was taken for the chain
pub record IsTakenBefore (n : ℕ) (start marks : List Bool) (cell : ℕ) : Type 0 where
  pub inside : cell < 2 * n
  pub free : is_marked start cell ≡ false
  pub now : is_marked marks cell ≡ true

-- from this cell on the image has a chain with the payload from a piece of it on
pub record Placed (n : ℕ) (start marks : List Bool) (payload : List ℕ) (piece count first : ℕ) (image : List ℕ) : Type 0 where
  pub chain : List ℕ
  pub of : (most : ℕ) → length chain ≤ most → chain_of image n most first ≡ Some chain
  pub cells : length chain + piece ≡ count
  pub octets : flat_map (payload_of image n) chain ≡ slice_range payload (piece_size * piece) (piece_size * count)
  pub taken : AllByRecursion (IsTakenBefore n start marks) chain
  pub distinct : is_distinct chain ≡ true

-- the same, and the image keeps what was marked, and links the cells that were taken as they are linked in memory
pub record IsPlaced (n : ℕ) (start marks : List Bool) (payload : List ℕ) (piece count first : ℕ) (links was now : List ℕ) : Type 0 where
  pub keeping : Keeping start n now was
  pub placed : Placed n start marks payload piece count first now
  pub new_links : (cell : ℕ) → is_marked marks cell ≡ true → is_marked start cell ≡ false → slice_index links cell ≡ number_at now (cell_place n cell)

-- in memory there is that chain too, whatever the image tells: its cells were free, and are marked now
pub record IsLaid (n : ℕ) (start marks : List Bool) (piece count first : ℕ) (before links : List ℕ) : Type 0 where
  pub chain : List ℕ
  pub linked : AreLinked (link_in links) (2 * n) first chain
  pub free : AreFree start chain
  pub cells : length chain + piece ≡ count
  pub marks_are : marks ≡ with_marked start chain
  pub stay : StayLinked start before links

-- at each moment all before the cells and behind them is as it was, and each marked cell; nothing is given
pub record KeepsMarked (marks : List Bool) (n : ℕ) (old new : Chip) : Type 0 where
  pub still : new.still ≡ old.still
  pub moments : LeavesOf (λ was left. Keeping marks n left was) old new

-- How the writing of a payload of so many pieces into free cells ends, which answers the chain's first cell.
pub record WritesCells {S E : Type 0} (chip : S → Chip) (faults : S → ℕ) (n : ℕ) (payload : List ℕ) (count : ℕ) (was now : List Bool) (before links : List ℕ) (old new : S) (result : Result ℕ E) : Type 0 where
  pub placed : IfOk result (λ first. Becomes (IsPlaced n was now payload 0 count first links) (chip old).image (chip new).image)
  pub laid : IfOk result (λ first. IsLaid n was now 0 count first before links)
  pub covers : CoverCells n now links
  -- Where a write fails, the marks are as they were.
  pub undone : OnErr result (now ≡ was)
  pub stay : StayLinked was before links
  pub there : IfOk result (λ first. first < 2 * n)
  pub told : OnOk result (is_some (chip new).image ≡ is_some (chip old).image)
  pub octets_written : OnOk result (Becomes (RisesBy (cell_size * count)) (chip old).written (chip new).written)
  pub moments : KeepsMarked was n (chip old) (chip new)
  pub cause : Counts (faults old) (faults new) result

-- A payload of so many pieces may be written: the image fits into the EEPROM, and so many cells are free.
pub record MayWriteCells (n : ℕ) (marks : List Bool) (links octets : List ℕ) (count : ℕ) (chip : Chip) : Type 0 where
  pub fits : FitsInto n chip
  pub covers : CoverCells n marks links
  pub payload : piece_size * count ≤ length octets
  pub some : 1 ≤ count
  pub short : count ≤ longest_chain
  pub free : count ≤ unmarked marks
