-- What is left where a table is dropped, with the grants on it and its rows.
use Rattle.std.proofs.Common.{◌≡◌, ℕ, ◌+◌, ◌≤◌, false, not, ◌==◌, List, ◌++◌, length, count_by, get_or, None, Some, sym, ap, subst, ◌∙◌, arith}
use Rattle.std.specs.Prelude.{IfSome}
use Rattle.std.specs.List.{filter, sum_by}
use Rattle.std.proofs.lemmas.List.{length-append, length-map}
use Rattle.eeprom.specs.Chip.{Chip}
use Rattle.eeprom.specs.StoreOf.{Slots, cells_of}
use Rattle.record_store.specs.Held.{Held}
use Rattle.record_store.specs.Transaction.{ChangesWhere, entries}
use Rattle.record_store.specs.declared.side.Side.TheVariants.{Committed, Working}
use Rattle.scql_base.specs.declared.words.Actor.{Actor}
use Rattle.scql_base.specs.declared.records.Grant.{Grant}
use Rattle.scql_base.specs.declared.records.Object.{Object}
use Rattle.scql_base.specs.declared.records.RowRecord.{RowRecord}
use Rattle.scql_model.specs.Database.{Database, IsValid}
use Rattle.scql_model.specs.Defining.{removing_object, removing_rows, table_dropped}
use Rattle.scql_model.specs.Edits.{Edit, applied, edited, removing, takes_stamp, to_remove, touched}
use Rattle.scql_model.specs.Opens.{Holds}
use Rattle.scql_model.specs.Records.{of_grant, of_object, of_row, record_stamp}
use Rattle.scql_model.proofs.KeepsObjects.{table_dropped-keeps}
use Rattle.scql_model.proofs.Removing.{applied-removing_table, grants-take_none, rows-take_none, takes_stamp-behind}
use Rattle.catalog_codec.specs.Catalog.{object_kind, row_kind}
use Rattle.record_table.specs.EditableLaws.{IsEditable-row}
use Rattle.record_table.specs.Listed.{at_slot, slots_of}
use Rattle.record_table.specs.Making.{IsHeld, Makes}
use Rattle.row_table.specs.Found.{is_in}
use Rattle.db_define.specs.Dependent.{is_on}
use Rattle.db_define.specs.Dropped.{IsToDrop}
use Rattle.db_define.specs.declared.dropped.Dropped.TheVariants.{Table}
use Rattle.db_define.specs.declared.dropped.ToDrop.{ToDrop}
use Rattle.record_table.specs.Swept.{all_without, has_passing}
use Rattle.record_table.specs.Touching.{Touches}
use Rattle.record_table.proofs.LeftRecords.{Holds-without_rows, count-passing}
use Rattle.record_table.proofs.MadeLeft.{Makes-left, less-without, of-told}
use Rattle.record_table.proofs.TouchedEdits.{Touches-all_removed, Touches-parts}
use Rattle.row_table.specs.WithGrants.{goes_with_grants, left_with_grants, most_with_grants}
use Rattle.row_table.proofs.GrantsLeft.{less-with_grants}
use Rattle.db_define.proofs.ObjectLeft.{Holds-granted, Touches-granted, count-grants}

-- the edits of a table that is dropped
abbrev pub dropping_edits : Database → Object → List Edit
dropping_edits db o = removing_object db o ++ removing_rows db o

-- the slots without the table, the grants on it and its rows
abbrev pub slots_left : ℕ → ℕ → Slots → Slots
slots_left slot stamp slots = all_without row_kind (is_in stamp) (left_with_grants slot (is_on stamp) slots)

-- no stamp is taken
takes_none : (db : Database) (o : Object) → takes_stamp (dropping_edits db o) ≡ false
takes_none db o = takes_stamp-behind (removing_object db o) (removing_rows db o) (grants-take_none (filter (λ (g : Grant). g.object == o.stamp) db.grants)) ∙ rows-take_none (filter (λ (r : RowRecord). r.table == o.stamp) db.rows)

-- as many records are touched: the table, the grants on it and its rows
count-touched : (db : Database) (o : Object) → length (touched (dropping_edits db o)) ≡ 1 + length (filter (is_on o.stamp) db.grants) + length (filter (is_in o.stamp) db.rows)
count-touched db o =
    let grants = filter (is_on o.stamp) db.grants in
    let rows = filter (is_in o.stamp) db.rows in
    length-map (dropping_edits db o) (λ (e : Edit). record_stamp e.entry)
    ∙ omega (arith, length-append (removing_object db o) (removing_rows db o), length-map grants (λ (g : Grant). removing (of_grant g)), length-map rows (λ (r : RowRecord). removing (of_row r)))

module _ (db : Database) (o : Object) (slot : ℕ) (slots : Slots) (holds : Holds slots db) (valid : IsValid db) (at : at_slot object_kind slot slots ≡ Some o) where
  Holds-left : Holds (slots_left slot o.stamp slots) (applied db (dropping_edits db o))
  Holds-left =
      subst (Holds (slots_left slot o.stamp slots)) (sym (applied-removing_table db o valid.grants.rises valid.rows.rises))
      (Holds-without_rows (is_in o.stamp) (left_with_grants slot (is_on o.stamp) slots) (record (edited to_remove (of_object o) db) { grants = filter (λ (g : Grant). not (is_on o.stamp g)) db.grants })
      (Holds-granted db o slot slots holds valid at) valid.rows.rises)

  -- what is removed, by the slots
  count-rows : count_by (has_passing row_kind (is_in o.stamp)) (left_with_grants slot (is_on o.stamp) slots) ≡ length (filter (is_in o.stamp) db.rows)
  count-rows = count-passing row_kind (is_in o.stamp) (left_with_grants slot (is_on o.stamp) slots) ∙ ap (λ (rows : List RowRecord). length (filter (is_in o.stamp) rows)) (Holds-granted db o slot slots holds valid at).rows

  less-left : sum_by cells_of (slots_left slot o.stamp slots) ≤ sum_by cells_of slots
  less-left = omega (arith, less-without row_kind (is_in o.stamp) (left_with_grants slot (is_on o.stamp) slots), less-with_grants (is_on o.stamp) slot slots)

  -- the table, the grants on it and its rows are touched
  Touches-left : (old mid new : Held) → ChangesWhere (goes_with_grants slot (is_on o.stamp) slots) old mid
      → ChangesWhere (λ s. has_passing row_kind (is_in o.stamp) (get_or (left_with_grants slot (is_on o.stamp) slots) s None)) mid new → Touches (touched (dropping_edits db o)) db.next slots (slots_left slot o.stamp slots) old new
  Touches-left old mid new granted swept =
      Touches-parts (removing_object db o) (removing_rows db o) db.next slots (left_with_grants slot (is_on o.stamp) slots) (slots_left slot o.stamp slots) old mid new (Touches-granted db o slot slots holds valid at old mid granted)
      (Touches-all_removed row_kind of_row IsEditable-row (is_in o.stamp) db.next (left_with_grants slot (is_on o.stamp) slots) db.rows mid new (Holds-granted db o slot slots holds valid at).rows valid.rows.rises swept)

-- A store from which a table was taken with the grants on it, and then its rows, has made the edits.
pub Makes-table_dropped : (db : Database) (actor : Actor) (name : List ℕ) (found : ToDrop) (old mid new : Held) (chip : Chip) (held : IsHeld old Working chip db) (there : IsToDrop Table old chip actor name found held.slots)
    → IfSome (slots_of old Working chip) (λ slots. slots_of mid Working chip ≡ Some (left_with_grants found.slot (is_on found.stamp) slots))
    → IfSome (slots_of mid Working chip) (λ slots. slots_of new Working chip ≡ Some (all_without row_kind (is_in found.stamp) slots))
    → new.chains.cells ≡ old.chains.cells → new.row_limit ≡ old.row_limit → slots_of new Committed chip ≡ slots_of old Committed chip
    → IfSome (slots_of old Working chip) (λ slots. entries mid ≤ entries old + most_with_grants found.slot (is_on found.stamp) slots)
    → IfSome (slots_of mid Working chip) (λ slots. entries new ≤ entries mid + count_by (has_passing row_kind (is_in found.stamp)) slots)
    → IfSome (slots_of old Working chip) (λ slots. ChangesWhere (goes_with_grants found.slot (is_on found.stamp) slots) old mid)
    → IfSome (slots_of mid Working chip) (λ slots. ChangesWhere (λ s. has_passing row_kind (is_in found.stamp) (get_or slots s None)) mid new)
    → Makes db (dropping_edits db there.object) old new chip chip
Makes-table_dropped db actor name found old mid new chip held there one two cells limit committed few_1 few_2 only_1 only_2 =
    let o = there.object in
    let slot = found.slot in
    let slots = held.slots in
    let granted = left_with_grants slot (is_on found.stamp) slots in
    let told_1 = of-told old chip slots (λ slots. slots_of mid Working chip ≡ Some (left_with_grants slot (is_on found.stamp) slots)) held.told one in
    let told_2 = of-told mid chip granted (λ slots. slots_of new Working chip ≡ Some (all_without row_kind (is_in found.stamp) slots)) told_1 two in
    let grants = of-told old chip slots (λ slots. entries mid ≤ entries old + most_with_grants slot (is_on found.stamp) slots) held.told few_1 in
    let rows = of-told mid chip granted (λ slots. entries new ≤ entries mid + count_by (has_passing row_kind (is_in found.stamp)) slots) told_1 few_2 in
    let of_grants = of-told old chip slots (λ slots. ChangesWhere (goes_with_grants slot (is_on found.stamp) slots) old mid) held.told only_1 in
    let of_rows = of-told mid chip granted (λ slots. ChangesWhere (λ s. has_passing row_kind (is_in found.stamp) (get_or slots s None)) mid new) told_1 only_2 in
    Makes-left db (dropping_edits db o) (table_dropped db actor name) (slots_left slot o.stamp slots) old new chip held (table_dropped-keeps db actor name held.valid) (there.drops db held)
    (Holds-left db o slot slots held.holds held.valid there.at) (takes_none db o) (less-left db o slot slots held.holds held.valid there.at) (rw there.stamp told_2) cells limit committed
    (omega (arith, rw (sym there.stamp) at grants, rw (sym there.stamp) at rows, count-grants db o slot slots held.holds held.valid there.at, count-rows db o slot slots held.holds held.valid there.at, count-touched db o))
    (Touches-left db o slot slots held.holds held.valid there.at old mid new (rw there.stamp of_grants) (rw there.stamp of_rows))
