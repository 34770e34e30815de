-- A database in which a record took the place of another is as the edits have it, where there is room.
use Rattle.std.proofs.Common.{◌≡◌, ◌+◌, ◌-◌, ◌≤◌, ◌<◌, [], ◌∷◌, Ok, Err, Some, ap, refl, subst, sym, arith}
use Rattle.std.specs.List.{find}
use Rattle.std.proofs.lemmas.Bool.{eqb-true, le-ltb, lt-ltb}
use Rattle.eeprom.specs.Slots.{has, replaced}
use Rattle.eeprom.proofs.InOrder.{AreApart-rising}
use Rattle.scql_base.specs.Words.{no_space}
use Rattle.scql_base.specs.declared.records.Grant.{Grant}
use Rattle.scql_base.specs.declared.records.RowRecord.{RowRecord}
use Rattle.scql_model.specs.Database.{Database, IsValid, weight}
use Rattle.scql_model.specs.Edits.{cells_of_record, changing, edited, of_grant, of_row, to_change, with_edits}
use Rattle.scql_model.proofs.ChangedLists.{sum_of_keys-replaced}
use Rattle.scql_model.proofs.EditLaws.{HasRecord, weight-kinds, weight-removing, weight-row}
use Rattle.scql_model.proofs.LongerLists.{find-passes}
use Rattle.plain_database.proofs.Removed.{fits-lighter}

-- each grant takes one cell
pub grant-changed : (db : Database) (g : Grant) → IsValid db → Ok (record db { grants = replaced (λ (h : Grant). h.stamp) g db.grants }) ≡ with_edits db (changing (of_grant g) ∷ [])
grant-changed db g valid =
    let left : Database = record db { grants = replaced (λ (h : Grant). h.stamp) g db.grants } in
    let grants = sum_of_keys-replaced (λ _. 1) (λ (h : Grant). h.stamp) g db.grants in
    let light : weight left ≤ weight db = omega (arith, weight-kinds db, weight-kinds left, grants) in
    fits-lighter db (changing (of_grant g) ∷ []) left valid refl refl light

-- where no row has the stamp, all stays
pub row-absent : (db : Database) (row : RowRecord) → IsValid db → db.rows ≡ replaced (λ (r : RowRecord). r.stamp) row db.rows → Ok db ≡ with_edits db (changing (of_row row) ∷ [])
row-absent db row valid same = fits-lighter db (changing (of_row row) ∷ []) db valid refl (ap (λ rows. record db { rows = rows }) same) (omega arith)

-- a row takes its own cells for those of the one before
record IsWeighed (db : Database) (row held : RowRecord) : Type 0 where
  least : cells_of_record (of_row held) ≤ weight db
  weighs : weight (edited to_change (of_row row) db) + cells_of_record (of_row held) ≡ weight db + cells_of_record (of_row row)

row-weighs : (db : Database) (row held : RowRecord) → IsValid db → find (has (λ (r : RowRecord). r.stamp) row.stamp) db.rows ≡ Some held → IsWeighed db row held
row-weighs db row held valid found =
    let same : held.stamp ≡ row.stamp = eqb-true held.stamp row.stamp (find-passes (has (λ (r : RowRecord). r.stamp) row.stamp) db.rows held found) in
    let there = subst (λ stamp. find (has (λ (r : RowRecord). r.stamp) stamp) db.rows ≡ Some held) (sym same) found in
    let among : HasRecord db (of_row held) = (there, AreApart-rising (λ (r : RowRecord). r.stamp) db.rows valid.rows.rises held.stamp) in
    let without = weight-removing db (of_row held) among in
    record { least = omega arith; weighs = weight-row db held row (sym same) among }

pub row-least : (db : Database) (row held : RowRecord) → IsValid db → find (has (λ (r : RowRecord). r.stamp) row.stamp) db.rows ≡ Some held → cells_of_record (of_row held) ≤ weight db
row-least db row held valid found = (row-weighs db row held valid found).least

pub row-changed : (db : Database) (row held : RowRecord) → IsValid db → find (has (λ (r : RowRecord). r.stamp) row.stamp) db.rows ≡ Some held
    → weight db - cells_of_record (of_row held) + cells_of_record (of_row row) ≤ db.cells
    → Ok (record db { rows = replaced (λ (r : RowRecord). r.stamp) row db.rows }) ≡ with_edits db (changing (of_row row) ∷ [])
row-changed db row held valid found light =
    let weighed = row-weighs db row held valid found in
    let fits : weight (edited to_change (of_row row) db) ≤ db.cells = omega (arith, weighed.least, weighed.weighs) in
    rw (le-ltb db.cells (weight (edited to_change (of_row row) db)) fits) refl

pub row-refused : (db : Database) (row held : RowRecord) → IsValid db → find (has (λ (r : RowRecord). r.stamp) row.stamp) db.rows ≡ Some held
    → db.cells < weight db - cells_of_record (of_row held) + cells_of_record (of_row row)
    → Err no_space ≡ with_edits db (changing (of_row row) ∷ [])
row-refused db row held valid found heavy =
    let weighed = row-weighs db row held valid found in
    let over : db.cells < weight (edited to_change (of_row row) db) = omega (arith, weighed.least, weighed.weighs) in
    rw (lt-ltb db.cells (weight (edited to_change (of_row row) db)) over) refl
