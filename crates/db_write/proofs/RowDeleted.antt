-- DELETE: which row goes, or the first refusal; and how the index follows.
use Rattle.std.proofs.Common.{◌≡◌, ℕ, true, List, [], ◌∷◌, Option, Some, None, Ok, Err, refl, sym, ◌∙◌}
use Rattle.std.proofs.lemmas.Bool.{ltb-false}
use Rattle.eeprom.specs.Chip.{Chip}
use Rattle.scql_base.specs.Words.{conditions_not_satisfied, record_not_found}
use Rattle.scql_base.specs.declared.cursor.Cursor.{Cursor}
use Rattle.scql_base.specs.declared.records.Object.{Object}
use Rattle.scql_base.specs.declared.records.RowRecord.{RowRecord}
use Rattle.scql_base.specs.declared.words.Actor.{Actor}
use Rattle.scql_model.specs.Database.{Database, IsValid, weight}
use Rattle.scql_model.specs.Edits.{Edit, applied, removing}
use Rattle.scql_model.specs.Moves.{opened}
use Rattle.scql_model.specs.Records.{of_row}
use Rattle.scql_model.specs.Rights.{delete_privilege}
use Rattle.scql_model.specs.Writing.{row_deleted, written_through}
use Rattle.scql_model.proofs.ChangeLaws.{AreMade-with_edits}
use Rattle.scql_model.proofs.KeepsRows.{deleted-keeps}
use Rattle.record_table.specs.Making.{IsValidWith}
use Rattle.record_table.specs.declared.stop.Stop.{Stop}
use Rattle.record_table.specs.declared.stop.Stop.TheVariants.{Refused, Fault}
use Rattle.row_table.specs.Tables.{RemovesRow, Stand}
use Rattle.row_table.specs.declared.tables.Tables.{Tables}
use Rattle.row_table.proofs.Endings.{Follows}
use Rattle.record_table.specs.Asking.{IsStopOf}
use Rattle.db_write.specs.Reached.{IsThrough}
use Rattle.db_write.proofs.ReachedThrough.{IsReached}

pub deletes-closed : (db : Database) (actor : Actor) (cursor : Option Cursor) → opened cursor ≡ Err conditions_not_satisfied → row_deleted db actor cursor ≡ Err conditions_not_satisfied
unfolding row_deleted
deletes-closed db actor cursor closed = rw closed refl

-- where it may not write through its object
pub deletes-stopped : (db : Database) (actor : Actor) (cursor : Option Cursor) (c : Cursor) (stop : Stop) → opened cursor ≡ Ok c → IsStopOf (written_through db actor delete_privilege c) stop → IsStopOf (row_deleted db actor cursor) stop
unfolding row_deleted
deletes-stopped db actor cursor c (Refused word) ready stopped = rw (ready, stopped) refl
deletes-stopped db actor cursor c Fault ready stopped = tt

pub deletes-none : (db : Database) (actor : Actor) (cursor : Option Cursor) (c : Cursor) (o : Object) → IsReached db actor delete_privilege cursor c o None → row_deleted db actor cursor ≡ Err record_not_found
unfolding row_deleted
deletes-none db actor cursor c o is = rw (is.ready, is.written, sym is.there) refl

pub deletes : (db : Database) (actor : Actor) (cursor : Option Cursor) (c : Cursor) (o : Object) (r : RowRecord) → IsReached db actor delete_privilege cursor c o (Some r) → row_deleted db actor cursor ≡ Ok (removing (of_row r) ∷ [])
unfolding row_deleted
deletes db actor cursor c o r is = rw (is.ready, is.written, sym is.there) refl

-- the database without the row is valid
pub valid-deleted : (db : Database) (actor : Actor) (cursor : Option Cursor) (edits : List Edit) → IsValid db → IsThrough db (row_deleted db actor) cursor (Ok edits) → IsValidWith db edits
valid-deleted db actor cursor edits valid is = λ room.
    let new = applied db edits in
    let made = AreMade-with_edits db edits new (rw room refl) in
    (deleted-keeps db actor is.through.0 valid).each edits (sym is.through.1) (record { stamps_left = made.stamps_left; room = ltb-false new.cells (weight new) made.room })

-- The index loses the row that the store lost.
pub Follows-removed : {may : Database → Type 0} {old new : Tables} {chip : Chip} {slot : ℕ} → Stand old chip → old.store.begun ≡ true → RemovesRow slot old new → Follows may old new chip
Follows-removed {may} {old} {new} {chip} {slot} stand begun removes = record {
  index = λ db held may. removes.index chip stand;
  cells = removes.changes.cells;
  committed = removes.changes.committed;
  begun = removes.changes.begun ∙ sym (stand.together ∙ begun);
}

-- So the tables stand, whatever was read before.
pub Stand-removed : {old new : Tables} {before after : Chip} {slot : ℕ} → Stand old before → old.store.begun ≡ true → RemovesRow slot old new → after ≡ before → Stand new after
Stand-removed {old} {new} {before} {after} {slot} stand begun removes same = rw same record {
  over = (removes.goes_on before stand).over;
  index = removes.index before stand;
  together = removes.changes.begun ∙ sym ((removes.goes_on before stand).begun ∙ begun);
}
