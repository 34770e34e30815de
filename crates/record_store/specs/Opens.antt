-- How the calls end that open a store.
use Rattle.std.specs.Prelude.{◌≡◌, ℕ, ◌+◌, ◌*◌, ◌≤◌, ◌++◌, [], ◌∷◌, List, Option, Some, None, false, Result, option_map, is_some, IfSome, IfOk, OnOk, IsErrOf}
use Rattle.eeprom.specs.Calls.{ReadsOnly}
use Rattle.eeprom.specs.Chip.{Chip, Becomes, RisesBy, RisesAtMost}
use Rattle.eeprom.specs.Frame.{Reads}
use Rattle.eeprom.specs.StoreOf.{Slots, Stored, store_of, is_gate_open, cells_of, cell_size, longest_chain, most_cells, weight_of}
use Rattle.cell_store.specs.Reading.{ReadsCells}
use Rattle.record_store.specs.Faults.{is_open_fault}
use Rattle.record_store.specs.Header.{IsHeader, IsHeaderOf}
use Rattle.record_store.specs.Held.{Held, IsOver, StandsFor, contents, stored}
use Rattle.record_store.specs.Opening.{HeldSoFar, IsOverSoFar, ReadsFront, ReadsStore, StandsSoFar, front_octets, journal_octets, most_octets, slots_so_far, slot_with}
use Rattle.record_store.specs.Recovery.{Recovers}
use Rattle.record_store.specs.declared.header.Header.{Header}
use Rattle.record_store.specs.declared.header.TheConstants.{FRONT}
use Rattle.record_store.specs.declared.refusal.OpenRefusal.{OpenRefusal}
use Rattle.record_store.specs.declared.refusal.OpenRefusal.TheVariants.{NoMemory, NotACard}
use Rattle.record_store.specs.declared.side.Side.TheVariants.{Committed}

-- The header of an image is read, where it begins as a store's does.
pub record ReadsHeader {S : Type 0} (chip : S → Chip) (faults : S → ℕ) (octets : S → Option ℕ) (before after : S) (result : Result Header OpenRefusal) : Type 0 where
  pub range : IfOk result (λ header. IsHeader (chip before).still.size header)
  pub header : IfOk result (λ header. IfSome (chip before).image (λ image. IsHeaderOf image header))
  -- Where it is refused, the image has no store.
  pub not_a_card : IsErrOf result NotACard → IfSome (chip before).image (λ image. store_of image ≡ None)
  pub octets_read : OnOk result (Becomes (RisesBy FRONT) (octets before) (octets after))
  -- No memory is taken.
  pub no_memory_taken : ¬ (IsErrOf result NoMemory)
  pub reads : ReadsOnly is_open_fault chip faults octets (RisesAtMost FRONT) before after result

-- The journal behind an open gate is replayed.
pub record ClosesGate {S T : Type 0} (chip : S → Chip) (faults : S → ℕ) (octets : S → Option ℕ) (was : Header) (before after : S) (result : Result T OpenRefusal) : Type 0 where
  -- The header is what it was, with a closed gate.
  pub header : OnOk result (IfSome (chip after).image (λ image. IsHeaderOf image (record was { is_open = false })))
  pub told : OnOk result (is_some (chip after).image ≡ is_some (chip before).image)
  -- Nothing is read behind a closed gate, and at most a journal behind an open one.
  pub octets_read : was.is_open ≡ false → octets after ≡ octets before
  pub most_read : Becomes (RisesAtMost (journal_octets was.cells)) (octets before) (octets after)
  pub not_a_card : IsErrOf result NotACard → IfSome (chip before).image (λ image. store_of image ≡ None)
  pub frame : Recovers is_open_fault chip faults before after result

-- A store is begun to be opened.
pub record BeginsOpening {S : Type 0} (chip : S → Chip) (faults : S → ℕ) (octets : S → Option ℕ) (before after : S) (result : Result HeldSoFar OpenRefusal) : Type 0 where
  -- No slot was claimed yet.
  pub begins : IfOk result (λ opening. opening.claimed ≡ 0)
  pub weight : IfOk result (λ opening. opening.weight ≡ 0)
  pub over : IfOk result (λ opening. IsOverSoFar opening (chip after))
  pub told : OnOk result (is_some (chip after).image ≡ is_some (chip before).image)
  -- What begins the image is read, and a journal only behind an open gate.
  pub octets_read : IfOk result (λ opening. IfSome (chip before).image (λ image. is_gate_open image ≡ false → Becomes (RisesBy (front_octets opening.chains.cells)) (octets before) (octets after)))
  pub reads_front : IfOk result (λ opening. ReadsFront opening.chains.cells (chip before).image (octets before) (octets after))
  pub most_read : Becomes (RisesAtMost (front_octets most_cells + journal_octets most_cells)) (octets before) (octets after)
  -- Where memory is wanting, no record was read.
  pub no_memory : IsErrOf result NoMemory → (n : ℕ) × ReadsFront n (chip before).image (octets before) (octets after)
  -- Where it is refused, the image has no store.
  pub not_a_card : IsErrOf result NotACard → IfSome (chip before).image (λ image. store_of image ≡ None)
  pub frame : Recovers is_open_fault chip faults before after result

-- The next slot is claimed.
pub record ClaimsNext {S : Type 0} (chip : S → Chip) (faults : S → ℕ) (octets : S → Option ℕ) (held : HeldSoFar) (out : List ℕ) (before after : S) (result : Result HeldSoFar OpenRefusal) : Type 0 where
  -- It has these octets as its record, or is empty where these are none.
  pub slots : IfOk result (λ next. IfSome (chip before).image (λ image. slots_so_far next image ≡ option_map (λ slots. slots ++ slot_with out ∷ []) (slots_so_far held image)))
  pub over : IfOk result (λ next. IsOverSoFar next (chip before))
  pub claimed : IfOk result (λ next. next.claimed ≡ held.claimed + 1)
  -- The cells of its record are counted, of which there aren't more than the store has.
  pub weight : IfOk result (λ next. next.weight ≡ held.weight + cells_of (slot_with out))
  pub few : IfOk result (λ next. next.weight ≤ next.chains.cells)
  pub cells : IfOk result (λ next. next.chains.cells ≡ held.chains.cells)
  pub rows : IfOk result (λ next. next.row_limit ≡ held.row_limit)
  -- They are read, and nothing else.
  pub octets_read : OnOk result (Becomes (ReadsCells (cells_of (slot_with out))) (octets before) (octets after))
  pub most_read : Becomes (RisesAtMost (cell_size * longest_chain)) (octets before) (octets after)
  -- No memory is taken.
  pub no_memory_taken : ¬ (IsErrOf result NoMemory)
  -- Where it is refused, the image has no store.
  pub not_a_card : IsErrOf result NotACard → IfSome (chip before).image (λ image. store_of image ≡ None)
  pub frame : Reads is_open_fault chip faults before after result

-- All slots were claimed, and the store is open.
pub record FinishesOpening (opening : HeldSoFar) (store : Held) : Type 0 where
  -- It stands for the same images, and has the records of the slots that were claimed.
  pub stands : (image : List ℕ) → StandsSoFar opening image → StandsFor store image
  pub opened : (image : List ℕ) → StandsSoFar opening image → store_of image ≡ stored store Committed image
  pub slots : (image : List ℕ) → StandsSoFar opening image → contents store Committed image ≡ slots_so_far opening image
  pub weight : (image : List ℕ) (slots : Slots) → StandsSoFar opening image → contents store Committed image ≡ Some slots → opening.weight ≡ weight_of slots
  -- No transaction was begun.
  pub idle : store.begun ≡ false
  pub cells : store.chains.cells ≡ opening.chains.cells

-- The store of an image is opened, where it has one.
pub record Opens {S : Type 0} (chip : S → Chip) (faults : S → ℕ) (octets : S → Option ℕ) (before after : S) (result : Result Held OpenRefusal) : Type 0 where
  pub over : IfOk result (λ store. IsOver store (chip after))
  pub opened : IfOk result (λ store. IfSome (chip after).image (λ image. store_of image ≡ stored store Committed image))
  pub told : OnOk result (is_some (chip after).image ≡ is_some (chip before).image)
  -- No transaction was begun.
  pub idle : IfOk result (λ store. store.begun ≡ false)
  -- What begins the image is read, and the cells of the records.
  pub octets_read : IfOk result (λ store. IfSome (chip before).image (λ image. (was : Stored) → store_of image ≡ Some was → is_gate_open image ≡ false
      → Becomes (ReadsStore store.chains.cells was.slots) (octets before) (octets after)))
  pub most_read : Becomes (RisesAtMost most_octets) (octets before) (octets after)
  -- Where memory is wanting, no record was read.
  pub no_memory : IsErrOf result NoMemory → (n : ℕ) × ReadsFront n (chip before).image (octets before) (octets after)
  -- Where it is refused, the image has no store.
  pub not_a_card : IsErrOf result NotACard → IfSome (chip before).image (λ image. store_of image ≡ None)
  pub frame : Recovers is_open_fault chip faults before after result
