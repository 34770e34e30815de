-- An index stands for a store in one way, so that a type may keep that it does.
use Rattle.std.proofs.Props.{props}
use Rattle.std.specs.Prelude.{ℕ}
use Rattle.eeprom.specs.Chip.{Chip}
use Rattle.eeprom.specs.StoreOf.{Slots}
use Rattle.record_store.specs.Held.{Held}
use Rattle.row_index.specs.Index.{HasRows, Index, Indexes}
use Rattle.row_index.specs.SideRows.{SideRows}

HasRows-prop : (cells : ℕ) (rows : SideRows) (slots : Slots) → IsProp (HasRows cells rows slots)
HasRows-prop cells rows slots = Prim.hlevel props

pub Indexes-prop : (index : Index) (store : Held) (chip : Chip) → IsProp (Indexes index store chip)
Indexes-prop index store chip = Prim.hlevel (props, HasRows-prop)
