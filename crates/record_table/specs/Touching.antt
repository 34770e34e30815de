-- Which records a change of the working side touches: those in the slots that have other chains.
use Rattle.std.specs.Prelude.{◌≡◌, ◌⊎◌, ℕ, ◌≤◌, true, List, Option, Some, None, option_map, slice_index, slice_index_or}
use Rattle.std.specs.Option.{option_or}
use Rattle.eeprom.specs.Slots.{in_slot}
use Rattle.eeprom.specs.StoreOf.{Slots}
use Rattle.cell_store.specs.Chains.{is_among}
use Rattle.record_store.specs.Held.{Held, firsts}
use Rattle.record_store.specs.Transaction.{KeepsChain}
use Rattle.record_store.specs.declared.side.Side.TheVariants.{Working}
use Rattle.scql_model.specs.Records.{AnyRecord, of_counter, of_user, of_object, of_grant, of_row, record_stamp, counter_in, user_in, object_in, grant_in, row_in}

-- the record of whatever kind that octets are, with nothing left over
abbrev pub record_in : List ℕ → Option AnyRecord
record_in octets =
    option_or (option_map of_counter (counter_in octets)) (
    option_or (option_map of_user (user_in octets)) (
    option_or (option_map of_object (object_in octets)) (
    option_or (option_map of_grant (grant_in octets)) (option_map of_row (row_in octets)))))

-- the stamp of the record that octets are
abbrev pub stamp_in : List ℕ → Option ℕ
stamp_in octets = option_map record_stamp (record_in octets)

-- the stamp of the record in a slot
abbrev pub stamp_at : ℕ → Slots → Option ℕ
stamp_at slot slots = in_slot stamp_in (slice_index_or slots slot None)

-- the record of a stamp stands in a slot
abbrev pub Stands : ℕ → ℕ → Slots → Type 0
Stands stamp slot slots = stamp_at slot slots ≡ Some stamp

-- a slot has its chain still, and its record
abbrev pub KeepsSlot : ℕ → Slots → Slots → Held → Held → Type 0
KeepsSlot slot was now old new = KeepsChain slot old new × (slice_index_or now slot None ≡ slice_index_or was slot None)

-- Another working chain is only in slots in which records of these stamps stand, before or after, and none has another committed one. A record stands in the
-- slot in which the one of its stamp stood, or it is a new one, whose stamp is the next or a later one.
pub record Touches (stamps : List ℕ) (next : ℕ) (was now : Slots) (old new : Held) : Type 0 where
  pub committed : new.committed ≡ old.committed
  pub others : (slot : ℕ) → KeepsSlot slot was now old new ⊎ ((stamp : ℕ) → Stands stamp slot was ⊎ Stands stamp slot now → is_among stamp stamps ≡ true)
  pub places : (slot stamp : ℕ) → Stands stamp slot now → Stands stamp slot was ⊎ (next ≤ stamp)

-- A transaction has touched records of these stamps: all that stand, on either side, in slots whose chains differ are among them. A record that is on both
-- sides stands in one slot.
pub record IsTouched (touched : List ℕ) (committed working : Slots) (held : Held) : Type 0 where
  pub covers : (slot : ℕ) → (slice_index (firsts held Working) slot ≡ slice_index held.committed slot)
      ⊎ ((stamp : ℕ) → Stands stamp slot committed ⊎ Stands stamp slot working → is_among stamp touched ≡ true)
  pub places : (i j stamp : ℕ) → Stands stamp i committed → Stands stamp j working → i ≡ j
