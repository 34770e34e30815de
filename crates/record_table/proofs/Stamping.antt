-- The counter of slots that hold a database, and what is refused where it gives no stamp.
use Rattle.std.proofs.Common.{◌≡◌, ℕ, ◌≤◌, ◌==◌, true, List, Option, Some, Err, refl, subst, ◌∙◌, arith}
use Rattle.std.specs.Prelude.{IfSome, count_by}
use Rattle.std.specs.List.{find}
use Rattle.eeprom.specs.Chip.{Chip}
use Rattle.eeprom.specs.StoreOf.{Slots}
use Rattle.record_store.specs.Held.{Held}
use Rattle.record_store.specs.declared.side.Side.TheVariants.{Working}
use Rattle.scql_base.specs.Words.{no_space}
use Rattle.scql_model.specs.Database.{Database}
use Rattle.scql_model.specs.Edits.{Edit, stamps_end, takes_stamp, with_edits}
use Rattle.catalog_codec.specs.Catalog.{counter_kind}
use Rattle.record_table.specs.Listed.{listed, slots_of}
use Rattle.record_table.specs.Making.{IsHeld}
use Rattle.record_table.proofs.HeldRecords.{counter-listed}

-- what a search for any counter finds
abbrev pub IsFirst : Option ℕ → Option Slots → Type 0
IsFirst found slots = IfSome slots (λ slots. count_by (λ (next : ℕ). true) (listed counter_kind slots) ≤ 1 → found ≡ find (λ (next : ℕ). true) (listed counter_kind slots))

-- it is the database's
pub counter-held : (store : Held) (chip : Chip) (db : Database) (found : Option ℕ) → IsHeld store Working chip db → IsFirst found (slots_of store Working chip) → found ≡ Some db.next
counter-held store chip db found held first =
    let list = counter-listed held.slots db held.holds in
    let here : count_by (λ (next : ℕ). true) (listed counter_kind held.slots) ≤ 1 → found ≡ find (λ (next : ℕ). true) (listed counter_kind held.slots)
    = subst (IsFirst found) held.told first in
    here (rw list (omega arith)) ∙ rw list refl

-- no stamp is left
pub stamps_ended : (db : Database) (edits : List Edit) → takes_stamp edits ≡ true → db.next ≡ stamps_end → with_edits db edits ≡ Err no_space
stamps_ended db edits takes ended =
    let last : (db.next == stamps_end) ≡ true = rw ended refl in
    rw (takes, last) refl
