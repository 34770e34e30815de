-- What the writing of a chain makes of a store of cells and its image.
use Rattle.std.specs.Prelude.{◌≡◌, ◌↔◌, ℕ, ◌*◌, ◌<◌, List, length, Some, Result, IfOk, OnOk, IsErrOf, is_some}
use Rattle.eeprom.specs.Chip.{Chip, Becomes, RisesBy}
use Rattle.eeprom.specs.Fault.{CountsFaults}
use Rattle.eeprom.specs.StoreOf.{cell_size, cells_for, slot_of}
use Rattle.cell_store.specs.Chains.{AreLinked, IsRecordChain}
use Rattle.cell_store.specs.Cells.{Cells, link_in, AreLinkedIn, StayLinked}
use Rattle.cell_store.specs.Claims.{TakesChain}
use Rattle.cell_store.specs.Faults.{is_write_fault}
use Rattle.cell_store.specs.Marks.{unmarked}
use Rattle.cell_store.specs.Placed.{Keeping, KeepsMarked}
use Rattle.cell_store.specs.declared.refusal.CellRefusal.{CellRefusal}
use Rattle.cell_store.specs.declared.refusal.CellRefusal.TheVariants.{NoCell, Fault}

-- The chain along the links from this cell on reads as these octets. All before the cells and behind them is as it was, and each cell that was used.
pub record IsWritten (old new : Cells) (first : ℕ) (octets was now : List ℕ) : Type 0 where
  pub keeping : Keeping old.used old.cells now was
  pub links : AreLinkedIn old was → AreLinkedIn new now
  pub reads : (chain : List ℕ) → AreLinked (link_in new.links) (length new.links) first chain → IsRecordChain now new.cells first chain × (slot_of now new.cells chain ≡ Some octets)

-- the used chains are as they were, where a write failed
pub record KeepsChains (old new : Cells) : Type 0 where
  pub cells : new.cells ≡ old.cells
  pub used : new.used ≡ old.used
  pub links_count : length new.links ≡ length old.links
  pub stay : StayLinked old.used old.links new.links

-- How the writing of a record ends, which answers the first cell of its chain.
pub record WritesChain {S : Type 0} (chip : S → Chip) (faults : S → ℕ) (octets : List ℕ) (old new : Cells) (before after : S) (result : Result ℕ CellRefusal) : Type 0 where
  pub takes : IfOk result (λ first. TakesChain old new first (cells_for (length octets)))
  pub written : IfOk result (λ first. Becomes (IsWritten old new first octets) (chip before).image (chip after).image)
  -- It is refused exactly where there are too few free cells, and then nothing is done.
  pub no_cell : IsErrOf result NoCell ↔ (unmarked old.used < cells_for (length octets))
  pub unchanged : IsErrOf result NoCell → (new ≡ old) × (after ≡ before)
  pub fault : IsErrOf result Fault → KeepsChains old new
  pub there : IfOk result (λ first. first < 2 * old.cells)
  pub told : OnOk result (is_some (chip after).image ≡ is_some (chip before).image)
  pub octets_written : OnOk result (Becomes (RisesBy (cell_size * cells_for (length octets))) (chip before).written (chip after).written)
  pub moments : KeepsMarked old.used old.cells (chip before) (chip after)
  pub cause : CountsFaults is_write_fault (faults before) (faults after) result
