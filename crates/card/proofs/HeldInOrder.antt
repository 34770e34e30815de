-- The records gathered of slots, in rising order of their stamps, are of each kind those of the database which the slots hold.
use Rattle.std.proofs.Common.{sym, ap, ◌∙◌}
use Rattle.std.specs.List.{filter_map}
use Rattle.eeprom.specs.StoreOf.{Slots}
use Rattle.eeprom.specs.Slots.{AreApart, has, in_order, in_slot}
use Rattle.eeprom.proofs.InOrder.{count_by-in_order, Rises-in_order}
use Rattle.scql_model.specs.Records.{user_in, object_in, grant_in, row_in}
use Rattle.scql_model.specs.Database.{Database, IsValid}
use Rattle.scql_model.specs.Opens.{Holds}
use Rattle.card.specs.Opening.{gathered}
use Rattle.card.specs.KeptRecords.{AreRecordsOf, stamp_of, as_user, as_object, as_grant, as_row}
use Rattle.card.proofs.ListsInOrder.{filter_map-in_order}
use Rattle.card.proofs.HeldKinds.{user_stamp, object_stamp, grant_stamp, row_stamp, users-gathered, objects-gathered, grants-gathered, rows-gathered}
use Rattle.card.proofs.OfKinds.{user-stamp, object-stamp, grant-stamp, row-stamp}
use Rattle.card.proofs.Tested.{users_at, objects_at, grants_at, rows_at, valid-apart}

-- Stamps that are different in a valid database are so in its slots.
pub apart-held : (slots : Slots) (db : Database) → Holds slots db → IsValid db → AreApart stamp_of (gathered 0 slots)
apart-held slots db holds valid =
    valid-apart db (gathered 0 slots) valid
    (λ k. ap (users_at k) (users-gathered slots) ∙ sym (count_by-in_order user_stamp (has user_stamp k) (filter_map (in_slot user_in) slots)) ∙ ap (users_at k) holds.users)
    (λ k. ap (objects_at k) (objects-gathered slots) ∙ sym (count_by-in_order object_stamp (has object_stamp k) (filter_map (in_slot object_in) slots)) ∙ ap (objects_at k) holds.objects)
    (λ k. ap (grants_at k) (grants-gathered slots) ∙ sym (count_by-in_order grant_stamp (has grant_stamp k) (filter_map (in_slot grant_in) slots)) ∙ ap (grants_at k) holds.grants)
    (λ k. ap (rows_at k) (rows-gathered slots) ∙ sym (count_by-in_order row_stamp (has row_stamp k) (filter_map (in_slot row_in) slots)) ∙ ap (rows_at k) holds.rows)

-- Of each kind they are those of the database.
pub records-held : (slots : Slots) (db : Database) → Holds slots db → AreApart stamp_of (gathered 0 slots) → AreRecordsOf db (in_order stamp_of (gathered 0 slots))
records-held slots db holds apart = record {
  rises = Rises-in_order stamp_of (gathered 0 slots) apart;
  users = filter_map-in_order stamp_of user_stamp as_user (gathered 0 slots) user-stamp apart ∙ ap (in_order user_stamp) (users-gathered slots) ∙ holds.users;
  objects = filter_map-in_order stamp_of object_stamp as_object (gathered 0 slots) object-stamp apart ∙ ap (in_order object_stamp) (objects-gathered slots) ∙ holds.objects;
  grants = filter_map-in_order stamp_of grant_stamp as_grant (gathered 0 slots) grant-stamp apart ∙ ap (in_order grant_stamp) (grants-gathered slots) ∙ holds.grants;
  rows = filter_map-in_order stamp_of row_stamp as_row (gathered 0 slots) row-stamp apart ∙ ap (in_order row_stamp) (rows-gathered slots) ∙ holds.rows;
}
