-- The object that a search for a stamp finds is the one of the database that the store holds.
use Rattle.std.proofs.Common.{◌≡◌, ℕ, List, Option, subst}
use Rattle.std.specs.Prelude.{IfSome}
use Rattle.eeprom.specs.Chip.{Chip}
use Rattle.eeprom.specs.Slots.{Rises}
use Rattle.eeprom.specs.StoreOf.{Slots}
use Rattle.record_store.specs.Held.{Held}
use Rattle.record_store.specs.declared.side.Side.{Side}
use Rattle.scql_base.specs.declared.records.Object.{Object}
use Rattle.scql_model.specs.Database.{Database, object_stamped}
use Rattle.catalog_codec.specs.Catalog.{object_kind}
use Rattle.record_table.specs.Listed.{listed, slots_of}
use Rattle.record_table.specs.Making.{IsHeld}

-- the object that a search for a stamp finds
abbrev pub IsOfStamp : ℕ → Option Object → Slots → Type 0
IsOfStamp stamp found slots = Rises object_kind.key (listed object_kind slots) → found ≡ object_stamped (listed object_kind slots) stamp

pub stamped-held : (store : Held) (side : Side) (chip : Chip) (db : Database) (stamp : ℕ) (found : Option Object) → IsHeld store side chip db → IfSome (slots_of store side chip) (IsOfStamp stamp found)
    → found ≡ object_stamped db.objects stamp
stamped-held store side chip db stamp found held said =
    let here = subst (λ (o : Option Slots). IfSome o (IsOfStamp stamp found)) held.told said in
    subst (λ (objects : List Object). Rises object_kind.key objects → found ≡ object_stamped objects stamp) held.holds.objects here held.valid.objects.rises
