-- What becomes of a store of cells where a chain of free cells is taken, claimed of an image or newly written.
use Rattle.std.specs.Prelude.{◌≡◌, ℕ, ◌+◌, ◌*◌, ◌≤◌, Bool, List, length, Option, Some, Result, IfOk, IfSome, IsErrOf, OnOk}
use Rattle.std.specs.List.{flat_map}
use Rattle.eeprom.specs.Calls.{FitsInto, ReadsOnly}
use Rattle.eeprom.specs.Chip.{Chip, Becomes, RisesAtMost}
use Rattle.eeprom.specs.Frame.{Reads}
use Rattle.eeprom.specs.StoreOf.{chain_of, cell_size, cells_for, longest_chain, payload_of, piece_size, slot_of}
use Rattle.cell_store.specs.Chains.{AreLinked, AreFree, with_marked, IsRecordChain}
use Rattle.cell_store.specs.Cells.{Cells, CoverCells, cells_from, link_in, AreLinkedIn, StayLinked}
use Rattle.cell_store.specs.Claiming.{ClaimsCell, IsTakenCell, record_cells}
use Rattle.cell_store.specs.Faults.{is_claim_fault}
use Rattle.cell_store.specs.Reading.{ReadsCell, ReadsCells}
use Rattle.cell_store.specs.declared.refusal.ClaimRefusal.{ClaimRefusal}
use Rattle.cell_store.specs.declared.refusal.ClaimRefusal.TheVariants.{BadChain}

-- A chain of so many cells from this one on, which were free, is used now; the links of all other used cells stay.
pub record TakesChain (old new : Cells) (first count : ℕ) : Type 0 where
  pub chain : List ℕ
  pub linked : AreLinked (link_in new.links) (length new.links) first chain
  pub free : AreFree old.used chain
  pub count_is : length chain ≡ count
  pub short : count ≤ longest_chain
  pub used : new.used ≡ with_marked old.used chain
  pub stay : StayLinked old.used old.links new.links
  pub cells : new.cells ≡ old.cells
  pub links_count : length new.links ≡ length old.links

-- the chain along the links from this cell on has a record in the image
abbrev pub HasRecord : Cells → ℕ → List ℕ → Type 0
HasRecord store first image = (chain : List ℕ) → AreLinked (link_in store.links) (length store.links) first chain → IsRecordChain image store.cells first chain

-- no chain of free cells from this one on has a record in the image
abbrev pub HasNoRecord : Cells → ℕ → List ℕ → Type 0
HasNoRecord store first image = (chain : List ℕ) → IsRecordChain image store.cells first chain → ¬ (AreFree store.used chain)

-- How the claim of the chain from a cell on ends, which answers how many cells it has.
pub record ClaimsChain {S : Type 0} (chip : S → Chip) (faults : S → ℕ) (octets : S → Option ℕ) (first : ℕ) (old new : Cells) (before after : S) (result : Result ℕ ClaimRefusal) : Type 0 where
  -- These cells were free and are used now, linked as in the image, which has a record in them.
  pub takes : IfOk result (λ count. TakesChain old new first count)
  pub linked : OnOk result (IfSome (chip before).image (λ image. AreLinkedIn old image → AreLinkedIn new image))
  pub «record» : OnOk result (IfSome (chip before).image (HasRecord new first))
  -- As many octets are read as they have, and with a refusal at most those of the longest chain.
  pub octets_read : IfOk result (λ count. Becomes (ReadsCells count) (octets before) (octets after))
  pub most_read : Becomes (RisesAtMost (cell_size * longest_chain)) (octets before) (octets after)
  -- It is refused only where the image has no record in free cells there.
  pub bad_chain : IsErrOf result BadChain → IfSome (chip before).image (HasNoRecord old first)
  pub frame : Reads is_claim_fault chip faults before after result

-- The record of a chain that is claimed is handed out.
pub record ClaimsRecord {S : Type 0} (chip : S → Chip) (faults : S → ℕ) (octets : S → Option ℕ) (first : ℕ) (out : List ℕ) (old new : Cells) (before after : S) (result : Result ℕ ClaimRefusal) : Type 0 where
  pub claims : ClaimsChain chip faults octets first old new before after result
  pub reads : OnOk result (IfSome (chip before).image (λ image. (chain : List ℕ) → IsRecordChain image old.cells first chain → slot_of image old.cells chain ≡ Some out))
  -- It has at least one octet, and exactly the cells of its chain.
  pub some : OnOk result (1 ≤ length out)
  pub count : IfOk result (λ count. count ≡ cells_for (length out))

-- The payload of a chain that is claimed is kept.
pub record ClaimsCells {S : Type 0} (chip : S → Chip) (faults : S → ℕ) (octets : S → Option ℕ) (n first : ℕ) (kept : List ℕ) (used marks : List Bool) (links linked : List ℕ) (before after : S) (result : Result ℕ ClaimRefusal) : Type 0 where
  pub claims : ClaimsChain chip faults octets first (cells_from n used links) (cells_from n marks linked) before after result
  pub payload : OnOk result (IfSome (chip before).image (λ image. (chain : List ℕ) → chain_of image n (2 * n) first ≡ Some chain → length chain ≤ longest_chain → kept ≡ flat_map (payload_of image n) chain))
  -- It has exactly the cells of its record.
  pub count : IfOk result (λ count. record_cells kept ≡ Some count)
  pub size : IfOk result (λ count. length kept ≡ piece_size * count)
  pub covers : CoverCells n marks linked

-- A cell is claimed: it is read, and its link is kept and answered.
pub record ClaimsOne {S : Type 0} (chip : S → Chip) (faults : S → ℕ) (octets : S → Option ℕ) (n at : ℕ) (payload more : List ℕ) (old new : Cells) (before after : S) (result : Result ℕ ClaimRefusal) : Type 0 where
  pub claims : IfOk result (λ next. ClaimsCell old new at next)
  pub cell : IfOk result (λ next. ReadsCell n at next (chip before).image payload more)
  pub octets_read : OnOk result (Becomes (ReadsCells 1) (octets before) (octets after))
  pub reads : ReadsOnly is_claim_fault chip faults octets (RisesAtMost cell_size) before after result
  pub taken : IsErrOf result BadChain → IsTakenCell old at
  pub covers : CoverCells n new.used new.links

-- A chain may be claimed: the image fits into the EEPROM, and there is a mark and a link for each cell.
pub record MayClaim (n : ℕ) (used : List Bool) (links : List ℕ) (chip : Chip) : Type 0 where
  pub fits : FitsInto n chip
  pub covers : CoverCells n used links

-- A cell may be claimed too: there is room for its payload behind so many octets.
pub record MayClaimCell (n : ℕ) (used : List Bool) (links : List ℕ) (size : ℕ) (chip : Chip) : Type 0 where
  pub fits : FitsInto n chip
  pub covers : CoverCells n used links
  pub free : size + piece_size ≤ piece_size * longest_chain
