-- What the slots that hold a database list of each kind.
use Rattle.std.proofs.Common.{◌≡◌, [], ◌∷◌, ap}
use Rattle.std.specs.List.{filter_map}
use Rattle.eeprom.specs.StoreOf.{Slots}
use Rattle.eeprom.specs.Slots.{in_slot, in_order}
use Rattle.scql_model.specs.Database.{Database}
use Rattle.scql_model.specs.Opens.{Holds, counter_stamp}
use Rattle.scql_model.specs.Records.{counter_in}
use Rattle.catalog_codec.specs.Catalog.{counter_kind, user_kind}
use Rattle.record_table.specs.Listed.{listed}
use Rattle.record_table.proofs.ListedChanges.{in_order-alone}

pub users-listed : (slots : Slots) (db : Database) → Holds slots db → listed user_kind slots ≡ db.users
users-listed slots db holds = holds.users

pub counter-listed : (slots : Slots) (db : Database) → Holds slots db → listed counter_kind slots ≡ db.next ∷ []
counter-listed slots db holds = ap (in_order counter_kind.key) (in_order-alone counter_stamp (filter_map (in_slot counter_in) slots) db.next holds.counter)
