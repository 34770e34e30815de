-- INSERT, UPDATE and DELETE end by proper edits or a refusal, and keep a database valid.
use Rattle.std.proofs.Common.{◌≡◌, ℕ, ◌≤◌, ◌^◌, ◌==◌, ◌&&◌, ◌||◌, Bool, true, false, not, List, [], ◌∷◌, length, map, Option, Some, None, refl, sym, subst, inl, inr, arith}
use Rattle.std.specs.Prelude.{◌⊎◌, nat_le, nat_lt, option_and_then}
use Rattle.std.specs.List.{find, list_all}
use Rattle.std.specs.Option.{option_map_or}
use Rattle.std.specs.Str.{bytes_eq}
use Rattle.std.proofs.lemmas.Bool.{cases_Bool, and_parts, and_from, eqb-true, eq-eqb, le-leb, leb-true}
use Rattle.std.proofs.lemmas.Option.{none-some}
use Rattle.scql_base.specs.Row.{is_narrow, row_size}
use Rattle.scql_base.specs.Words.{conditions_not_satisfied, not_found, wrong_data, security_not_satisfied, record_not_found}
use Rattle.scql_base.specs.declared.words.Actor.{Actor}
use Rattle.scql_base.specs.declared.cursor.Cursor.{Cursor}
use Rattle.scql_base.specs.declared.records.Object.{Object}
use Rattle.scql_base.specs.declared.records.RowRecord.{RowRecord}
use Rattle.scql_model.specs.Records.{of_row, is_row, is_count_of_columns, row_record}
use Rattle.scql_model.specs.Refusals.{or_refused, provided}
use Rattle.scql_model.specs.Rules.{is_table, are_among, object_stamped, has_table}
use Rattle.scql_model.specs.Database.{Database, IsValid}
use Rattle.scql_model.specs.Matching.{Columns, Values}
use Rattle.scql_model.specs.Objects.{StampedRow, columns_of}
use Rattle.scql_model.specs.Contents.{contents_of}
use Rattle.scql_model.specs.Moves.{is_opened, opened}
use Rattle.scql_model.specs.Parameters.{are_changes}
use Rattle.scql_model.specs.Rights.{insert_privilege, update_privilege, delete_privilege, holds, seen_named, seen_stamped}
use Rattle.scql_model.specs.Defining.{of_kind, is_table_or_view}
use Rattle.scql_model.specs.Writing.{Assignment, assigned, all_assigned, columns_of_row, record_at_cursor, row_at_place, row_after, written_through, row_inserted, row_updated, row_deleted}
use Rattle.scql_model.specs.Edits.{has_record, making, changing, removing}
use Rattle.scql_model.proofs.Assigning.{length-all_assigned}
use Rattle.scql_model.proofs.ChangedRows.{IsRowOf, IsValid-with_row, IsValid-with_row_changed, IsValid-with_rows_left}
use Rattle.scql_model.proofs.LongerLists.{find-all}
use Rattle.scql_model.proofs.RightEdits.{Yields, bound-yields, done-yields, has_record-row, found-there}
use Rattle.scql_model.proofs.FormedCommands.{not_unless, not_refused}
use Rattle.scql_model.proofs.Outcomes.{AreProper, proper-sparing, proper-making, IsOutcome, outcome-done, outcome-bound, outcome-asked, outcome-there}
use Rattle.scql_model.proofs.Keeping.{HasRoomFor, Keeps, next-making, IsThere-found, of_kind-parts}

pub inserted-outcome : (db : Database) (actor : Actor) (name : List ℕ) (values : Values) → IsOutcome (AreProper db) (row_inserted db actor name values)
unfolding row_inserted
inserted-outcome db actor name values =
    outcome-there (of_kind is_table (seen_named db actor name)) not_found _ refl λ o _.
    outcome-asked (holds db actor o insert_privilege) security_not_satisfied _ refl λ _.
    outcome-asked (length values == length (columns_of o.kind)) wrong_data _ refl λ _.
    let r : RowRecord = record { stamp = db.next; table = o.stamp; row = values } in
    outcome-done (making db (of_row r)) (proper-making db (of_row r) refl refl refl)

-- the row at a cursor of an actor who may write it
pub opened-outcome : (cursor : Option Cursor) → IsOutcome (λ c. cursor ≡ Some c) (opened cursor)
opened-outcome cursor =
    outcome-there cursor conditions_not_satisfied _ refl λ c is. outcome-asked (is_opened c.place) conditions_not_satisfied _ refl λ _. outcome-done c is

pub written_through-outcome : (db : Database) (actor : Actor) (privilege : ℕ) (c : Cursor) → IsOutcome (λ o. seen_stamped db actor c.object ≡ Some o) (written_through db actor privilege c)
written_through-outcome db actor privilege c =
    outcome-there (seen_stamped db actor c.object) not_found _ refl λ o is.
    outcome-asked (is_table_or_view o.kind) conditions_not_satisfied _ refl λ _.
    outcome-asked (holds db actor o privilege) security_not_satisfied _ refl λ _. outcome-done o is

-- the record of the cursor's row is there
record_at-there : (db : Database) (cursor : Cursor) (r : RowRecord) → record_at_cursor db cursor ≡ Some r → has_record db r.stamp ≡ true
record_at-there db cursor r found = go (row_at_place (contents_of db cursor.object) cursor cursor.place) found
  where
    go : (o : Option StampedRow) → option_and_then (λ (s : StampedRow). find (λ (t : RowRecord). t.stamp == s.stamp) db.rows) o ≡ Some r → has_record db r.stamp ≡ true
    go None found = absurd (none-some r found)
    go (Some s) found = has_record-row db r.stamp (found-there (λ (t : RowRecord). t.stamp) (λ (t : RowRecord). t.stamp == s.stamp) db.rows r found)

pub updated-outcome : (db : Database) (actor : Actor) (cursor : Option Cursor) (assignments : List Assignment) → IsOutcome (AreProper db) (row_updated db actor cursor assignments)
unfolding row_updated
updated-outcome db actor cursor assignments =
    outcome-bound (opened cursor) _ (opened-outcome cursor) λ c _.
    outcome-bound (written_through db actor update_privilege c) _ (written_through-outcome db actor update_privilege c) λ o _.
    outcome-asked (are_among (map (λ (a : Assignment). a.0) assignments) (columns_of o.kind)) not_found _ refl λ _.
    outcome-there (record_at_cursor db c) record_not_found _ refl λ r is.
    outcome-asked (nat_le (row_size (row_after db assignments r).row) db.limit) wrong_data _ refl λ _.
    outcome-done (changing (of_row (row_after db assignments r)) ∷ [])
    (proper-sparing db (changing (of_row (row_after db assignments r)) ∷ []) (rw (record_at-there db c r is) refl) refl)

pub deleted-outcome : (db : Database) (actor : Actor) (cursor : Option Cursor) → IsOutcome (AreProper db) (row_deleted db actor cursor)
unfolding row_deleted
deleted-outcome db actor cursor =
    outcome-bound (opened cursor) _ (opened-outcome cursor) λ c _.
    outcome-bound (written_through db actor delete_privilege c) _ (written_through-outcome db actor delete_privilege c) λ _ _.
    outcome-there (record_at_cursor db c) record_not_found _ refl λ r is.
    outcome-done (removing (of_row r) ∷ []) (proper-sparing db (removing (of_row r) ∷ []) (rw (record_at-there db c r is) refl) refl)

-- INSERT: the row takes the next stamp, in a table that is there
pub inserted-keeps : (db : Database) (actor : Actor) (name : List ℕ) (values : Values) → IsValid db → is_row values ≡ true → nat_le (row_size values) db.limit ≡ true
    → Yields (Keeps db) (row_inserted db actor name values)
unfolding row_inserted
inserted-keeps db actor name values valid row within =
    bound-yields (Keeps db) (or_refused (of_kind is_table (seen_named db actor name)) not_found) _ λ o is.
    bound-yields (Keeps db) (provided (holds db actor o insert_privilege) security_not_satisfied) _ λ _ _.
    bound-yields (Keeps db) (provided (length values == length (columns_of o.kind)) wrong_data) _ λ x same.
    let parts = of_kind-parts is_table (seen_named db actor name) o (not_refused (of_kind is_table (seen_named db actor name)) not_found o is) in
    let there = IsThere-found db _ o valid parts.0 in
    let as_many = eqb-true (length values) (length (columns_of o.kind)) (not_unless (length values == length (columns_of o.kind)) wrong_data x same) in
    let r : RowRecord = record { stamp = db.next; table = o.stamp; row = values } in
    done-yields (Keeps db) (making db (of_row r)) (λ (room : HasRoomFor db (making db (of_row r))).
    IsValid-with_row db r valid (record {
      fits = rw (valid.counter, there.fits, row) refl;
      within = within;
      table = rw (there.stamped, parts.1, there.older, eq-eqb (length (columns_of o.kind)) (length values) (sym as_many)) refl;
    }) refl room.room (next-making db (of_row r) valid room))

-- UPDATE: the row keeps its stamp, its table and the number of its values
narrow-assigned : (assignments : List Assignment) (columns : Columns) (values : Values) → list_all (λ (a : Assignment). is_narrow a.1) assignments ≡ true → list_all is_narrow values ≡ true
    → list_all is_narrow (all_assigned assignments columns values) ≡ true
narrow-assigned assignments [] values new old = old
narrow-assigned assignments (column ∷ columns) [] new old = old
narrow-assigned assignments (column ∷ columns) (value ∷ values) new old =
    let parts = and_parts (is_narrow value) (list_all is_narrow values) old in
    and_from (is_narrow (assigned assignments column value)) (list_all is_narrow (all_assigned assignments columns values))
    (one (find (λ (a : Assignment). bytes_eq column a.0) assignments) refl parts.0) (narrow-assigned assignments columns values new parts.1)
  where
    one : (found : Option Assignment) → find (λ (a : Assignment). bytes_eq column a.0) assignments ≡ found → is_narrow value ≡ true → is_narrow (option_map_or (λ (a : Assignment). a.1) found value) ≡ true
    one None is narrow = narrow
    one (Some a) is narrow = find-all (λ (a : Assignment). is_narrow a.1) (λ (a : Assignment). bytes_eq column a.0) assignments a new is

-- a card's limit is at most the largest
pub within_largest : (db : Database) (n : ℕ) → IsValid db → nat_le n db.limit ≡ true → nat_le n 1020 ≡ true
within_largest db n valid within =
    let small = leb-true n db.limit within in
    le-leb n 1020 (one small (cases_Bool (db.limit == 240)) valid.limit)
  where
    one : n ≤ db.limit → ((db.limit == 240) ≡ true) ⊎ ((db.limit == 240) ≡ false) → ((db.limit == 240) || (db.limit == 1020)) ≡ true → n ≤ 1020
    one small (inl t) limit = let is = eqb-true db.limit 240 t in omega arith
    one small (inr f) limit = let is = eqb-true db.limit 1020 (rw f at limit) in omega arith

IsRowOf-row_after : (db : Database) (assignments : List Assignment) (q : RowRecord → Bool) (r : RowRecord) → IsValid db → find q db.rows ≡ Some r → are_changes assignments ≡ true
    → nat_le (row_size (row_after db assignments r).row) db.limit ≡ true → IsRowOf db.limit db.objects (row_after db assignments r)
IsRowOf-row_after db assignments q r valid found changes within =
    let new = and_parts _ (list_all (λ (a : Assignment). is_narrow a.1) assignments) changes in
    let fits = find-all row_record.fits q db.rows r valid.rows.limits found in
    let a = and_parts (nat_lt r.stamp (2 ^ 32)) (nat_lt r.table (2 ^ 32) && is_row r.row) fits in
    let b = and_parts (nat_lt r.table (2 ^ 32)) (is_row r.row) a.1 in
    let c = and_parts (is_count_of_columns (length r.row) && list_all is_narrow r.row) (nat_le (row_size r.row) 1020) b.1 in
    let d = and_parts (is_count_of_columns (length r.row)) (list_all is_narrow r.row) c.0 in
    let as_many = length-all_assigned assignments (columns_of_row db r) r.row in
    record {
      fits = rw (a.0, b.0, as_many, d.0, narrow-assigned assignments (columns_of_row db r) r.row new.1 d.1, within_largest db (row_size (row_after db assignments r).row) valid within) refl;
      within = within;
      table = subst (λ (n : ℕ). option_map_or (λ (o : Object). is_table o.kind && nat_lt o.stamp r.stamp && (length (columns_of o.kind) == n)) (object_stamped db.objects r.table) false ≡ true) (sym as_many)
          (find-all (has_table db.objects) q db.rows r valid.rows.tables found);
    }

-- the record of a cursor's row is found by its stamp
record_at-found : (db : Database) (cursor : Cursor) (r : RowRecord) → record_at_cursor db cursor ≡ Some r → (stamp : ℕ) × (find (λ (s : RowRecord). s.stamp == stamp) db.rows ≡ Some r)
record_at-found db cursor r found = go (row_at_place (contents_of db cursor.object) cursor cursor.place) found
  where
    go : (o : Option StampedRow) → option_and_then (λ (s : StampedRow). find (λ (t : RowRecord). t.stamp == s.stamp) db.rows) o ≡ Some r → (stamp : ℕ) × (find (λ (s : RowRecord). s.stamp == stamp) db.rows ≡ Some r)
    go None found = absurd (none-some r found)
    go (Some s) found = (s.stamp, found)

pub updated-keeps : (db : Database) (actor : Actor) (cursor : Option Cursor) (assignments : List Assignment) → IsValid db → are_changes assignments ≡ true
    → Yields (Keeps db) (row_updated db actor cursor assignments)
unfolding row_updated
updated-keeps db actor cursor assignments valid changes =
    bound-yields (Keeps db) (opened cursor) _ λ c _.
    bound-yields (Keeps db) (written_through db actor update_privilege c) _ λ o _.
    bound-yields (Keeps db) (provided (are_among (map (λ (a : Assignment). a.0) assignments) (columns_of o.kind)) not_found) _ λ _ _.
    bound-yields (Keeps db) (or_refused (record_at_cursor db c) record_not_found) _ λ r is.
    bound-yields (Keeps db) (provided (nat_le (row_size (row_after db assignments r).row) db.limit) wrong_data) _ λ x within.
    let found = record_at-found db c r (not_refused (record_at_cursor db c) record_not_found r is) in
    let new : RowRecord = row_after db assignments r in
    done-yields (Keeps db) (changing (of_row new) ∷ []) (λ (room : HasRoomFor db (changing (of_row new) ∷ [])).
    IsValid-with_row_changed db new valid
    (IsRowOf-row_after db assignments (λ (s : RowRecord). s.stamp == found.0) r valid found.1 changes (not_unless (nat_le (row_size new.row) db.limit) wrong_data x within)) room.room)

-- DELETE: one row goes
pub deleted-keeps : (db : Database) (actor : Actor) (cursor : Option Cursor) → IsValid db → Yields (Keeps db) (row_deleted db actor cursor)
unfolding row_deleted
deleted-keeps db actor cursor valid =
    bound-yields (Keeps db) (opened cursor) _ λ c _.
    bound-yields (Keeps db) (written_through db actor delete_privilege c) _ λ _ _.
    bound-yields (Keeps db) (or_refused (record_at_cursor db c) record_not_found) _ λ r _.
    done-yields (Keeps db) (removing (of_row r) ∷ []) (λ room. IsValid-with_rows_left db (λ (s : RowRecord). not (s.stamp == r.stamp)) valid)
