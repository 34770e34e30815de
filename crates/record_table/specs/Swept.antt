-- All records of a kind that pass a test are taken out of their slots.
use Rattle.std.specs.Prelude.{◌≡◌, ℕ, ◌+◌, ◌≤◌, Bool, false, List, Option, Some, None, Result, IfSome, OnOk, map, if◌then◌else◌}
use Rattle.std.specs.Option.{option_map_or}
use Rattle.eeprom.specs.Chip.{Chip}
use Rattle.eeprom.specs.Fault.{each_error}
use Rattle.eeprom.specs.Frame.{Reads}
use Rattle.eeprom.specs.Slots.{in_slot}
use Rattle.eeprom.specs.StoreOf.{Slots}
use Rattle.record_store.specs.Held.{Held, IsOver}
use Rattle.record_store.specs.Transaction.{ChangesWhere, entries}
use Rattle.record_store.specs.declared.side.Side.TheVariants.{Committed, Working}
use Rattle.catalog_codec.specs.Kinds.{Kind, read_as}
use Rattle.record_table.specs.Listed.{slots_of}

-- a slot has a record of the kind that passes the test
abbrev pub has_passing : {X : Type 0} → Kind X → (X → Bool) → Option (List ℕ) → Bool
has_passing {X} kind p entry = option_map_or p (in_slot (read_as kind) entry) false

-- the slot is empty then, and else as it was
abbrev pub without_passing : {X : Type 0} → Kind X → (X → Bool) → Option (List ℕ) → Option (List ℕ)
without_passing {X} kind p entry = if has_passing kind p entry then None else entry

abbrev pub all_without : {X : Type 0} → Kind X → (X → Bool) → Slots → Slots
all_without {X} kind p slots = map (without_passing kind p) slots

-- How it ends that records are taken out of slots, in memory alone: `left` is what that leaves of the slots, `changed` tells which it changes, and `most` how many these are at most.
pub record Sweeps {S T E : Type 0} (chip : S → Chip) (faults : S → ℕ) (left : Slots → Slots) (changed : Slots → ℕ → Bool) (most : Slots → ℕ) (before after : S) (old new : Held) (result : Result T E) : Type 0 where
  -- The working side has what is left, and what is committed stays.
  pub removed : OnOk result (IfSome (slots_of old Working (chip before)) (λ slots. slots_of new Working (chip after) ≡ Some (left slots)))
  pub committed : OnOk result (slots_of new Committed (chip after) ≡ slots_of old Committed (chip before))
  -- The store goes on over its EEPROM.
  pub over : OnOk result (IsOver new (chip after))
  pub begun : OnOk result (new.begun ≡ old.begun)
  pub cells : OnOk result (new.chains.cells ≡ old.chains.cells)
  pub rows : OnOk result (new.row_limit ≡ old.row_limit)
  -- No other slot has another chain, and each that is changed is one entry of a commit at most.
  pub only : OnOk result (IfSome (slots_of old Working (chip before)) (λ slots. ChangesWhere (changed slots) old new))
  pub entries : OnOk result (IfSome (slots_of old Working (chip before)) (λ slots. entries new ≤ entries old + most slots))
  -- Nothing is written. A fault of the EEPROM was counted.
  pub frame : Reads each_error chip faults before after result
