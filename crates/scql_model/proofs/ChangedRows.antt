-- A valid database stays valid where a row is added, where one takes the place of that of its stamp, and where rows are removed.
use Rattle.std.proofs.Common.{◌≡◌, ℕ, ◌+◌, ◌<◌, ◌≤◌, Bool, true, List, [], ◌∷◌, ◌++◌, filter, sym, subst, arith}
use Rattle.std.specs.List.{AllByRecursion}
use Rattle.eeprom.specs.Slots.{replaced}
use Rattle.scql_base.specs.declared.records.Object.{Object}
use Rattle.scql_base.specs.declared.records.RowRecord.{RowRecord}
use Rattle.scql_model.specs.Records.{counter_record, row_record}
use Rattle.scql_model.specs.Rules.{AreRows, has_table, is_within_limit}
use Rattle.scql_model.specs.Database.{Database, IsValid, weight, stored_row}
use Rattle.scql_model.proofs.LongerLists.{all-added, rises-added}
use Rattle.scql_model.proofs.ChangedLists.{Rises-replaced, Rises-filter, list_all-replaced, list_all-filter}
use Rattle.scql_model.proofs.RecordLengths.{storable-row}
use Rattle.scql_model.proofs.RecordsOf.{before_rows, records_of-rows}
use Rattle.scql_model.proofs.Stored.{IsStored-added, IsStored-changed, IsStored-removed, below-of_kind}

abbrev stamp_of : RowRecord → ℕ
stamp_of r = r.stamp

-- a row that may stand among these objects
pub record IsRowOf (limit : ℕ) (objects : List Object) (r : RowRecord) : Type 0 where
  pub fits : row_record.fits r ≡ true
  pub within : is_within_limit limit r ≡ true
  pub table : has_table objects r ≡ true

-- the rows' own rules
AreRows-added : (limit : ℕ) (objects : List Object) (rows : List RowRecord) (r : RowRecord) → AreRows limit objects rows → IsRowOf limit objects r → AllByRecursion (λ s. stamp_of s < stamp_of r) rows
    → AreRows limit objects (rows ++ r ∷ [])
AreRows-added limit objects rows r are is below = record {
  rises = rises-added stamp_of rows r are.rises below;
  limits = all-added row_record.fits rows r are.limits is.fits;
  lengths = all-added (is_within_limit limit) rows r are.lengths is.within;
  tables = all-added (has_table objects) rows r are.tables is.table;
}

AreRows-replaced : (limit : ℕ) (objects : List Object) (rows : List RowRecord) (r : RowRecord) → AreRows limit objects rows → IsRowOf limit objects r → AreRows limit objects (replaced stamp_of r rows)
AreRows-replaced limit objects rows r are is = record {
  rises = Rises-replaced stamp_of r rows are.rises;
  limits = list_all-replaced row_record.fits stamp_of r rows is.fits are.limits;
  lengths = list_all-replaced (is_within_limit limit) stamp_of r rows is.within are.lengths;
  tables = list_all-replaced (has_table objects) stamp_of r rows is.table are.tables;
}

AreRows-filter : (limit : ℕ) (objects : List Object) (rows : List RowRecord) (stays : RowRecord → Bool) → AreRows limit objects rows → AreRows limit objects (filter stays rows)
AreRows-filter limit objects rows stays are = record {
  rises = Rises-filter stays stamp_of rows are.rises;
  limits = list_all-filter stays row_record.fits rows are.limits;
  lengths = list_all-filter stays (is_within_limit limit) rows are.lengths;
  tables = list_all-filter stays (has_table objects) rows are.tables;
}

-- the database with the row behind all others, with it in the place of that of its stamp, and with the rows that stay
abbrev pub with_row : Database → RowRecord → Database
with_row db r = record db { next = db.next + 1; rows = db.rows ++ r ∷ [] }

abbrev pub with_row_changed : Database → RowRecord → Database
with_row_changed db r = record db { rows = replaced stamp_of r db.rows }

abbrev pub with_rows_left : Database → (RowRecord → Bool) → Database
with_rows_left db stays = record db { rows = filter stays db.rows }

pub IsValid-with_row : (db : Database) (r : RowRecord) → IsValid db → IsRowOf db.limit db.objects r → r.stamp ≡ db.next → weight (with_row db r) ≤ db.cells → counter_record.fits (db.next + 1) ≡ true
    → IsValid (with_row db r)
IsValid-with_row db r valid is stamp room next =
    let low = valid.next in
    let below = below-of_kind stored_row (before_rows db) [] db.rows (records_of-rows db) valid.stored in
    record {
      cells = valid.cells;
      limit = valid.limit;
      next = omega arith;
      counter = next;
      stored = IsStored-added stored_row (before_rows db) [] db.rows r (records_of-rows db) (records_of-rows (with_row db r)) valid.stored stamp (omega arith) (storable-row r is.fits) room;
      users = valid.users;
      objects = valid.objects;
      grants = valid.grants;
      rows = AreRows-added db.limit db.objects db.rows r valid.rows is (subst (λ n. AllByRecursion (λ s. stamp_of s < n) db.rows) (sym stamp) below);
    }

pub IsValid-with_row_changed : (db : Database) (r : RowRecord) → IsValid db → IsRowOf db.limit db.objects r → weight (with_row_changed db r) ≤ db.cells → IsValid (with_row_changed db r)
IsValid-with_row_changed db r valid is room = record {
  cells = valid.cells;
  limit = valid.limit;
  next = valid.next;
  counter = valid.counter;
  stored = IsStored-changed stored_row (before_rows db) [] db.rows r (records_of-rows db) (records_of-rows (with_row_changed db r)) valid.stored (storable-row r is.fits) room;
  users = valid.users;
  objects = valid.objects;
  grants = valid.grants;
  rows = AreRows-replaced db.limit db.objects db.rows r valid.rows is;
}

pub IsValid-with_rows_left : (db : Database) (stays : RowRecord → Bool) → IsValid db → IsValid (with_rows_left db stays)
IsValid-with_rows_left db stays valid = record {
  cells = valid.cells;
  limit = valid.limit;
  next = valid.next;
  counter = valid.counter;
  stored = IsStored-removed stored_row (before_rows db) [] db.rows stays (records_of-rows db) (records_of-rows (with_rows_left db stays)) valid.stored;
  users = valid.users;
  objects = valid.objects;
  grants = valid.grants;
  rows = AreRows-filter db.limit db.objects db.rows stays valid.rows;
}
