-- UPDATE: the row after the changes, or the first refusal.
use Rattle.std.proofs.Common.{◌≡◌, ◌==◌, ◌&&◌, ◌^◌, ℕ, Bool, true, false, List, [], ◌∷◌, length, map, nat_le, Option, Some, None, Result, Ok, Err, refl, sym, ap, subst, ◌∙◌, inl, inr}
use Rattle.std.specs.Prelude.{IfSome, nat_lt, option_and_then}
use Rattle.std.specs.List.{find, list_all}
use Rattle.std.specs.Option.{option_map_or}
use Rattle.std.proofs.lemmas.Bool.{and_parts, cases_Bool, eqb-true, false≢true, le-leb, ltb-false}
use Rattle.std.proofs.lemmas.Option.{none-some, same_Some}
use Rattle.std.specs.Result.{IsErrAnd}
use Rattle.scql_base.specs.Row.{IsRow, is_narrow, row_size}
use Rattle.scql_base.specs.Words.{conditions_not_satisfied, not_found, record_not_found, wrong_data}
use Rattle.scql_base.specs.declared.cursor.Cursor.{Cursor}
use Rattle.scql_base.specs.declared.operation.Operation.TheVariants.{Update}
use Rattle.scql_base.specs.declared.records.Object.{Object}
use Rattle.scql_base.specs.declared.records.RowRecord.{RowRecord}
use Rattle.scql_base.specs.declared.words.Actor.{Actor}
use Rattle.scql_base.specs.declared.words.StatusWord.{StatusWord}
use Rattle.scql_model.specs.Database.{Database, IsValid, are_among, is_table, object_stamped, weight}
use Rattle.scql_model.specs.Defining.{is_table_or_view}
use Rattle.scql_model.specs.Edits.{Edit, applied, changing}
use Rattle.scql_model.specs.Matching.{Columns, Values}
use Rattle.scql_model.specs.Moves.{opened}
use Rattle.scql_model.specs.Objects.{StampedRow, columns_of}
use Rattle.scql_model.specs.Records.{is_count_of_columns, is_row, of_row}
use Rattle.scql_model.specs.Rights.{update_privilege}
use Rattle.scql_model.specs.Rules.{has_table}
use Rattle.scql_model.specs.WellFormed.{HasForm}
use Rattle.scql_model.specs.Writing.{Assignment, all_assigned, columns_of_row, record_at_cursor, row_after, row_at_place, row_updated, written_through}
use Rattle.scql_model.specs.Contents.{contents_of}
use Rattle.scql_model.proofs.Assigning.{length-all_assigned}
use Rattle.scql_model.proofs.ChangeLaws.{AreMade-with_edits}
use Rattle.scql_model.proofs.KeepsRows.{updated-keeps}
use Rattle.scql_model.proofs.LongerLists.{find-all}
use Rattle.catalog_codec.specs.Catalog.{row_kind}
use Rattle.record_table.specs.Making.{IsValidWith}
use Rattle.record_table.specs.declared.stop.Stop.{Stop}
use Rattle.record_table.specs.declared.stop.Stop.TheVariants.{Refused, Fault}
use Rattle.db_write.specs.Assigned.{within_limit}
use Rattle.record_table.specs.Asking.{IsStopOf}
use Rattle.db_write.specs.Reached.{AnswersEdits, HasObject, IsThrough}
use Rattle.db_write.proofs.ReachedThrough.{IsReached}

pub updates-closed : (db : Database) (actor : Actor) (cursor : Option Cursor) (assignments : List Assignment) → opened cursor ≡ Err conditions_not_satisfied → row_updated db actor cursor assignments ≡ Err conditions_not_satisfied
unfolding row_updated
updates-closed db actor cursor assignments closed = rw closed refl

-- where it may not write through its object
pub updates-stopped : (db : Database) (actor : Actor) (cursor : Option Cursor) (assignments : List Assignment) (c : Cursor) (stop : Stop) → opened cursor ≡ Ok c → IsStopOf (written_through db actor update_privilege c) stop
    → IsStopOf (row_updated db actor cursor assignments) stop
unfolding row_updated
updates-stopped db actor cursor assignments c (Refused word) ready stopped = rw (ready, stopped) refl
updates-stopped db actor cursor assignments c Fault ready stopped = tt

abbrev pub named : List Assignment → Columns → Bool
named assignments columns = are_among (map (λ (a : Assignment). a.0) assignments) columns

-- the columns that are named are asked of the object that was found
pub named-found : (db : Database) (c : Cursor) (found : Option Object) (assignments : List Assignment) (are : Bool) (has : HasObject db c found)
    → IfSome found (λ (o : Object). is_table_or_view o.kind ≡ true → are ≡ named assignments (columns_of o.kind)) → are ≡ named assignments (columns_of has.object.kind)
named-found db c found assignments are has says =
    subst (λ (found : Option Object). IfSome found (λ (o : Object). is_table_or_view o.kind ≡ true → are ≡ named assignments (columns_of o.kind))) has.is says has.kind

pub updates-unnamed : (db : Database) (actor : Actor) (cursor : Option Cursor) (assignments : List Assignment) (c : Cursor) (o : Object) → opened cursor ≡ Ok c → written_through db actor update_privilege c ≡ Ok o
    → named assignments (columns_of o.kind) ≡ false → row_updated db actor cursor assignments ≡ Err not_found
unfolding row_updated
updates-unnamed db actor cursor assignments c o ready written unnamed = rw (ready, written, unnamed) refl

pub updates-none : (db : Database) (actor : Actor) (cursor : Option Cursor) (assignments : List Assignment) (c : Cursor) (o : Object) → IsReached db actor update_privilege cursor c o None → named assignments (columns_of o.kind) ≡ true
    → row_updated db actor cursor assignments ≡ Err record_not_found
unfolding row_updated
updates-none db actor cursor assignments c o is names = rw (is.ready, is.written, names, sym is.there) refl

updates-long : (db : Database) (actor : Actor) (cursor : Option Cursor) (assignments : List Assignment) (c : Cursor) (o : Object) (r : RowRecord) → IsReached db actor update_privilege cursor c o (Some r) → named assignments (columns_of o.kind) ≡ true
    → nat_le (row_size (row_after db assignments r).row) db.limit ≡ false → row_updated db actor cursor assignments ≡ Err wrong_data
unfolding row_updated
updates-long db actor cursor assignments c o r is names long = rw (is.ready, is.written, names, sym is.there, long) refl

updates : (db : Database) (actor : Actor) (cursor : Option Cursor) (assignments : List Assignment) (c : Cursor) (o : Object) (r : RowRecord) → IsReached db actor update_privilege cursor c o (Some r) → named assignments (columns_of o.kind) ≡ true
    → nat_le (row_size (row_after db assignments r).row) db.limit ≡ true → row_updated db actor cursor assignments ≡ Ok (changing (of_row (row_after db assignments r)) ∷ [])
unfolding row_updated
updates db actor cursor assignments c o r is names within = rw (is.ready, is.written, names, sym is.there, within) refl

-- the record of a cursor's row is found by its stamp
row-found : (db : Database) (c : Cursor) (r : RowRecord) → Some r ≡ record_at_cursor db c → (stamp : ℕ) × (find (λ (s : RowRecord). s.stamp == stamp) db.rows ≡ Some r)
row-found db c r there = go (row_at_place (contents_of db c.object) c c.place) (sym there)
  where
    go : (o : Option StampedRow) → option_and_then (λ (s : StampedRow). find (λ (t : RowRecord). t.stamp == s.stamp) db.rows) o ≡ Some r → (stamp : ℕ) × (find (λ (s : RowRecord). s.stamp == stamp) db.rows ≡ Some r)
    go None is = absurd (none-some r is)
    go (Some s) is = (s.stamp, is)

-- in a valid database a row has as many values as its table has columns
as-many : (db : Database) (c : Cursor) (r : RowRecord) → IsValid db → Some r ≡ record_at_cursor db c → length (columns_of_row db r) ≡ length r.row
as-many db c r valid there =
    let found = row-found db c r there in
    of_table (object_stamped db.objects r.table) (find-all (has_table db.objects) (λ (s : RowRecord). s.stamp == found.0) db.rows r valid.rows.tables found.1)
  where
    of_table : (o : Option Object) → option_map_or (λ (o : Object). is_table o.kind && nat_lt o.stamp r.stamp && (length (columns_of o.kind) == length r.row)) o false ≡ true
        → length (option_map_or (λ (o : Object). columns_of o.kind) o []) ≡ length r.row
    of_table None is = absurd (false≢true is)
    of_table (Some o) is = eqb-true (length (columns_of o.kind)) (length r.row) (and_parts (is_table o.kind && nat_lt o.stamp r.stamp) (length (columns_of o.kind) == length r.row) is).1

-- the row after changes is within the limits of its kind, where its values are a row
fits-after : (db : Database) (c : Cursor) (assignments : List Assignment) (r : RowRecord) → IsValid db → Some r ≡ record_at_cursor db c → IsRow (row_after db assignments r).row → row_kind.form.fits (row_after db assignments r) ≡ true
fits-after db c assignments r valid there is =
    let found = row-found db c r there in
    let new = (row_after db assignments r).row in
    let fits = find-all row_kind.form.fits (λ (s : RowRecord). s.stamp == found.0) db.rows r valid.rows.limits found.1 in
    let a = and_parts (nat_lt r.stamp (2 ^ 32)) (nat_lt r.table (2 ^ 32) && is_row r.row) fits in
    let b = and_parts (nat_lt r.table (2 ^ 32)) (is_row r.row) a.1 in
    let d = and_parts (is_count_of_columns (length r.row) && list_all is_narrow r.row) (nat_le (row_size r.row) 1020) b.1 in
    let e = and_parts (is_count_of_columns (length r.row)) (list_all is_narrow r.row) d.0 in
    let as_many = length-all_assigned assignments (columns_of_row db r) r.row in
    rw (a.0, b.0, as_many, e.0, is.widths, le-leb (row_size new) 1020 is.size) refl

-- a row that is kept within a limit, or is not
kept-within : (limit : ℕ) (values row : Values) → Some row ≡ within_limit limit values → (nat_le (row_size values) limit ≡ true) × (row ≡ values)
kept-within limit values row is =
    elim (cases_Bool (nat_le (row_size values) limit)) [
      | inl t ↦ (t, same_Some row values (is ∙ rw t refl))
      | inr f ↦ absurd (none-some row (let wrong : Some row ≡ None = is ∙ rw f refl in sym wrong))
    ]

not_within : (limit : ℕ) (values : Values) → None ≡ within_limit limit values → nat_le (row_size values) limit ≡ false
not_within limit values is =
    elim (cases_Bool (nat_le (row_size values) limit)) [
      | inl t ↦ absurd (none-some values (let wrong : None ≡ Some values = is ∙ rw t refl in wrong))
      | inr f ↦ f
    ]

-- what is kept of the row after changes within the card's limit is the model's row
after-kept : (db : Database) (assignments : List Assignment) (r : RowRecord) (columns : Columns) (limit : ℕ) (row : Values) → columns_of_row db r ≡ columns → limit ≡ db.limit → length (columns_of_row db r) ≡ length r.row
    → (length columns ≡ length r.row → Some row ≡ within_limit limit (all_assigned assignments columns r.row)) → (nat_le (row_size (row_after db assignments r).row) db.limit ≡ true) × (row ≡ (row_after db assignments r).row)
after-kept db assignments r columns limit row same is many kept =
    kept-within db.limit (all_assigned assignments (columns_of_row db r) r.row) row
    (kept (ap length (sym same) ∙ many)
    ∙ (ap (λ (n : ℕ). within_limit n (all_assigned assignments columns r.row)) is ∙ ap (λ (all : Columns). within_limit db.limit (all_assigned assignments all r.row)) (sym same)))

after-long : (db : Database) (assignments : List Assignment) (r : RowRecord) (columns : Columns) (limit : ℕ) → columns_of_row db r ≡ columns → limit ≡ db.limit → length (columns_of_row db r) ≡ length r.row
    → (length columns ≡ length r.row → None ≡ within_limit limit (all_assigned assignments columns r.row)) → nat_le (row_size (row_after db assignments r).row) db.limit ≡ false
after-long db assignments r columns limit same is many none =
    not_within db.limit (all_assigned assignments (columns_of_row db r) r.row)
    (none (ap length (sym same) ∙ many)
    ∙ (ap (λ (n : ℕ). within_limit n (all_assigned assignments columns r.row)) is ∙ ap (λ (all : Columns). within_limit db.limit (all_assigned assignments all r.row)) (sym same)))

-- a part of the operation hands on a stop
pub Answers-stopped : {X : Type 0} (edits : X → List Edit) (outcome : Result (List Edit) StatusWord) (result : Result X Stop) (stop : Stop) → IsErrAnd result (λ given. given ≡ stop) → IsStopOf outcome stop → AnswersEdits edits outcome result
Answers-stopped edits outcome (Ok x) stop gives stopped = absurd gives
Answers-stopped edits outcome (Err given) stop gives stopped = subst (IsStopOf outcome) (sym gives) stopped

-- the database with the row is valid, where there is room
pub valid-updated : (db : Database) (actor : Actor) (cursor : Option Cursor) (assignments : List Assignment) (outcome : Result (List Edit) StatusWord) (edits : List Edit) → IsValid db → HasForm (Update assignments)
    → IsThrough db (λ cursor. row_updated db actor cursor assignments) cursor outcome → outcome ≡ Ok edits → IsValidWith db edits
valid-updated db actor cursor assignments outcome edits valid form through is = λ room.
    let new = applied db edits in
    let made = AreMade-with_edits db edits new (rw room refl) in
    (updated-keeps db actor through.through.0 assignments valid form).each edits (sym through.through.1 ∙ is) (record { stamps_left = made.stamps_left; room = ltb-false new.cells (weight new) made.room })

-- what was found for an update of a row: the object has the columns that are named, the row's table has these columns, and the card has this limit
pub record IsUpdated (db : Database) (assignments : List Assignment) (o : Object) (r : RowRecord) (columns : Columns) (limit : ℕ) : Type 0 where
  pub valid : IsValid db
  pub names : named assignments (columns_of o.kind) ≡ true
  pub all : columns_of_row db r ≡ columns
  pub most : limit ≡ db.limit

abbrev pub with_values : RowRecord → Values → RowRecord
with_values r values = record { stamp = r.stamp; table = r.table; row = values }

-- the row that was kept is the model's row after the changes
kept-after : (db : Database) (assignments : List Assignment) (c : Cursor) (o : Object) (r : RowRecord) (columns : Columns) (limit : ℕ) (row : Values) → IsUpdated db assignments o r columns limit → Some r ≡ record_at_cursor db c
    → (length columns ≡ length r.row → Some row ≡ within_limit limit (all_assigned assignments columns r.row)) → (nat_le (row_size (row_after db assignments r).row) db.limit ≡ true) × (with_values r row ≡ row_after db assignments r)
kept-after db assignments c o r columns limit row is there kept =
    let after = after-kept db assignments r columns limit row is.all is.most (as-many db c r is.valid there) kept in
    (after.0, ap (with_values r) after.1)

pub updates-kept : (db : Database) (actor : Actor) (cursor : Option Cursor) (assignments : List Assignment) (c : Cursor) (o : Object) (r : RowRecord) (columns : Columns) (limit : ℕ) (row : Values) (new : RowRecord) → IsUpdated db assignments o r columns limit
    → (length columns ≡ length r.row → Some row ≡ within_limit limit (all_assigned assignments columns r.row)) → new ≡ with_values r row → IsReached db actor update_privilege cursor c o (Some r)
    → row_updated db actor cursor assignments ≡ Ok (changing (of_row new) ∷ [])
updates-kept db actor cursor assignments c o r columns limit row new is kept same reached =
    let after = kept-after db assignments c o r columns limit row is reached.there kept in
    updates db actor cursor assignments c o r reached is.names after.0
    ∙ ap (λ (x : RowRecord). Ok (changing (of_row x) ∷ [])) (sym (same ∙ after.1))

pub fits-kept : (db : Database) (assignments : List Assignment) (c : Cursor) (o : Object) (r : RowRecord) (columns : Columns) (limit : ℕ) (row : Values) (new : RowRecord) → IsUpdated db assignments o r columns limit → Some r ≡ record_at_cursor db c
    → (length columns ≡ length r.row → Some row ≡ within_limit limit (all_assigned assignments columns r.row)) → new ≡ with_values r row → IsRow new.row → row_kind.form.fits new ≡ true
fits-kept db assignments c o r columns limit row new is there kept same row_is =
    let after = same ∙ (kept-after db assignments c o r columns limit row is there kept).1 in
    subst (λ (x : RowRecord). row_kind.form.fits x ≡ true) (sym after) (fits-after db c assignments r is.valid there (subst (λ (x : RowRecord). IsRow x.row) after row_is))

pub updates-not_kept : (db : Database) (actor : Actor) (cursor : Option Cursor) (assignments : List Assignment) (c : Cursor) (o : Object) (r : RowRecord) (columns : Columns) (limit : ℕ) → IsUpdated db assignments o r columns limit
    → (length columns ≡ length r.row → None ≡ within_limit limit (all_assigned assignments columns r.row)) → IsReached db actor update_privilege cursor c o (Some r) → row_updated db actor cursor assignments ≡ Err wrong_data
updates-not_kept db actor cursor assignments c o r columns limit is none reached =
    updates-long db actor cursor assignments c o r reached is.names (after-long db assignments r columns limit is.all is.most (as-many db c r is.valid reached.there) none)
