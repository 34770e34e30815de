-- The row that the cursor reaches, after the changes, or the first refusal.
use Rattle.std.proofs.Common.{◌≡◌, List, [], ◌∷◌, Option, Some, None, Result, Ok, Err, refl, sym, subst, ◌∙◌}
use Rattle.record_store.specs.declared.side.Side.TheVariants.{Working}
use Rattle.scql_base.specs.Words.{conditions_not_satisfied, not_found, record_not_found, wrong_data}
use Rattle.scql_base.specs.declared.cursor.Cursor.{Cursor}
use Rattle.scql_base.specs.declared.words.StatusWord.{StatusWord}
use Rattle.scql_model.specs.Database.{Database}
use Rattle.scql_model.specs.Edits.{Edit, changing}
use Rattle.scql_model.specs.Records.{of_row}
use Rattle.scql_model.specs.Rights.{update_privilege}
use Rattle.scql_model.specs.Writing.{row_updated}
use Rattle.record_table.specs.Making.{IsHeld}
use Rattle.record_table.specs.declared.stop.Stop.TheVariants.{Fault}
use Rattle.db_read.specs.Scan.{Found, IsRight}
use Rattle.db_write.specs.Reached.{IsThrough, without_conditions}
use Rattle.db_write.proofs.FoundThrough.{right-for}
use Rattle.db_write.proofs.ReachedThrough.{IsReached, IsThrough-found, IsThrough-given, opened-some}
use Rattle.db_write.proofs.RowUpdated.{Answers-stopped, IsUpdated, fits-kept, named-found, updates-closed, updates-kept, updates-none, updates-not_kept, updates-stopped, updates-unnamed}
use Rattle.db_write.proofs.updating.find_updated.Goals.{After-record_after}
use Rattle.db_write.proofs.updating.find_updated.Goals as goal

pub returns-in_default-clause-updated : goal.returns-in_default-clause-updated
returns-in_default-clause-updated g c = λ db held. (
  Err conditions_not_satisfied,
  IsThrough-given db _ c.args.cursor.now _ (updates-closed db c.args.actor c.args.cursor.now c.args.changes.now c.in_default.ensures),
  rw c.refused.ensures refl,
)

pub returns-in_err-find_written-clause-updated : goal.returns-in_err-find_written-clause-updated
returns-in_err-find_written-clause-updated g c = λ db held. (
  row_updated db c.args.actor c.args.cursor.now c.args.changes.now,
  IsThrough-given db _ c.args.cursor.now _ refl,
  Answers-stopped _ _ c.from_residual.result c.in_err-find_written.field-0.0 c.from_residual.ensures.1
      (updates-stopped db c.args.actor c.args.cursor.now c.args.changes.now c.in-Some.cursor.now c.in_err-find_written.field-0.0 c.in-Some.ensures (c.in_err-find_written.ensures.written db held)),
)

pub returns-then-not-are_columns-clause-updated : goal.returns-then-not-are_columns-clause-updated
returns-then-not-are_columns-clause-updated g c = λ db held.
    let found = c.in_ok-find_written.ensures.written db held in
    let unnamed = sym (named-found db c.in-Some.cursor.now c.find_written.new.choice.object c.args.changes.now c.are_columns.result found.chosen.has c.are_columns.ensures) ∙ c.if-not-are_columns.true in (
      Err not_found,
      IsThrough-given db _ c.args.cursor.now _ (updates-unnamed db c.args.actor c.args.cursor.now c.args.changes.now c.in-Some.cursor.now found.chosen.has.object c.in-Some.ensures found.written unnamed),
      rw c.refused-then-not-are_columns.ensures refl,
    )

pub returns-in_err-slot-clause-updated : goal.returns-in_err-slot-clause-updated
returns-in_err-slot-clause-updated g c = λ db held. (row_updated db c.args.actor c.args.cursor.now c.args.changes.now, IsThrough-given db _ c.args.cursor.now _ refl, Answers-stopped _ _ c.from_residual-in_err-slot.result Fault c.from_residual-in_err-slot.ensures.1 tt)

pub returns-in_default-2-clause-updated : goal.returns-in_default-2-clause-updated
returns-in_default-2-clause-updated g c = λ db held.
    let cursor = c.in-Some.cursor.now in
    let second = subst (λ chip. IsHeld c.args.tables.now.store Working chip db) (sym c.in_ok-find_written.ensures.frame.same) held in
    let found = c.in_ok-find_written.ensures.written db held in
    let named = sym (named-found db cursor c.find_written.new.choice.object c.args.changes.now c.are_columns.result found.chosen.has c.are_columns.ensures) ∙ c.if-not-are_columns.false in (
      Err record_not_found,
      IsThrough-found db c.args.actor update_privilege _ c.args.cursor.now cursor found.chosen.has.object _ c.find_row.new.room.row None _ c.in-Some.ensures found.written (rw c.in_default-2.is at (c.in_ok-slot.ensures.finds db second))
          (λ some own is. updates-none db c.args.actor some c.args.changes.now own found.chosen.has.object is named),
      rw c.refused-in_default-2.ensures refl,
    )

-- what was found through the cursor
found : (g : _) (c : After-record_after g) (db : Database) → (held : IsHeld c.args.tables.now.store Working (g.B.Eeprom.chip c.args.bench.now) db)
    → IsUpdated db c.args.changes.now (c.in_ok-find_written.ensures.written db held).chosen.has.object c.find_row.new.room.row c.find_row.new.choice.resolved.all c.row_limit-limit.result
found g c db held =
    let second = subst (λ chip. IsHeld c.args.tables.now.store Working chip db) (sym c.in_ok-find_written.ensures.frame.same) held in
    let has = (c.in_ok-find_written.ensures.written db held).chosen.has in
    record {
      valid = held.valid;
      names = sym (named-found db c.in-Some.cursor.now c.find_written.new.choice.object c.args.changes.now c.are_columns.result has c.are_columns.ensures) ∙ c.if-not-are_columns.false;
      all = (rw c.in-Some-2.is at (c.in_ok-slot.ensures.finds db second)).of_object.all;
      most = c.row_limit-limit.ensures.limit ∙ sym held.limit;
    }

-- the outcome of each cursor that reaches the row is that of the operation
through : (g : _) (c : After-record_after g) (db : Database) (held : IsHeld c.args.tables.now.store Working (g.B.Eeprom.chip c.args.bench.now) db) (outcome : Result (List Edit) StatusWord)
    → ((cursor : Option Cursor) (own : Cursor) → IsReached db c.args.actor update_privilege cursor own (c.in_ok-find_written.ensures.written db held).chosen.has.object (Some c.find_row.new.room.row) → row_updated db c.args.actor cursor c.args.changes.now ≡ outcome)
    → IsThrough db (λ cursor. row_updated db c.args.actor cursor c.args.changes.now) c.args.cursor.now outcome
through g c db held outcome ends =
    let second = subst (λ chip. IsHeld c.args.tables.now.store Working chip db) (sym c.in_ok-find_written.ensures.frame.same) held in
    let found = c.in_ok-find_written.ensures.written db held in
    IsThrough-found db c.args.actor update_privilege _ c.args.cursor.now c.in-Some.cursor.now found.chosen.has.object _ c.find_row.new.room.row (Some c.in-Some-2.slot) outcome c.in-Some.ensures found.written
    (rw c.in-Some-2.is at (c.in_ok-slot.ensures.finds db second)) ends

pub returns-in_default-record_after-clause-updated : goal.returns-in_default-record_after-clause-updated
returns-in_default-record_after-clause-updated g c = λ db held.
    let at = (goal.at.returns-in_default-record_after-clause-updated g c).After-record_after in
    let is = found g at db held in (
      Err wrong_data,
      through g at db held _ (λ cursor own reached. updates-not_kept db c.args.actor cursor c.args.changes.now own _ _ _ _ is (rw c.in_default-record_after.is at c.record_after.ensures.after) reached),
      rw c.refused-in_default-record_after.ensures refl,
    )

pub returns-clause-updated : goal.returns-clause-updated
returns-clause-updated g c = λ db held.
    let at = (goal.at.returns-clause-updated g c).After-record_after in
    let is = found g at db held in (
      Ok (changing (of_row c.record_after.new.updated) ∷ []),
      through g at db held _ (λ cursor own reached. updates-kept db c.args.actor cursor c.args.changes.now own _ _ _ _ c.record_after.new.updated.row c.record_after.new.updated is (rw c.in-Some-record_after.is at c.record_after.ensures.after)
          (rw c.in-Some-record_after.is at c.record_after.ensures.record) reached),
      refl,
    )

pub returns-clause-fits : goal.returns-clause-fits
returns-clause-fits g c = λ db held.
    let second = subst (λ chip. IsHeld c.args.tables.now.store Working chip db) (sym c.in_ok-find_written.ensures.frame.same) held in
    let any = without_conditions c.in-Some.cursor.now in
    fits-kept db c.args.changes.now any _ _ _ _ c.record_after.new.updated.row c.record_after.new.updated (found g (goal.at.returns-clause-fits g c).After-record_after db held) (rw c.in-Some-2.is at (c.in_ok-slot.ensures.finds db second)).of_object.row
    (rw c.in-Some-record_after.is at c.record_after.ensures.after) (rw c.in-Some-record_after.is at c.record_after.ensures.record) (rw c.in-Some-record_after.is at c.record_after.ensures.is_row)

-- what was found is right for the cursor
pub find_written-requires-clause-right : goal.find_written-requires-clause-right
find_written-requires-clause-right g c = λ db held.
    subst (λ (scan : Option Found). IsRight db c.args.actor scan c.in-Some.cursor.now) (sym c.scan.view_is)
    (right-for db c.args.actor c.args.scan.now c.args.cursor.now c.in-Some.cursor.now (opened-some c.args.cursor.now c.in-Some.cursor.now c.in-Some.ensures) (c.requires.right db held))

pub find_row-requires-clause-chosen : goal.find_row-requires-clause-chosen
find_row-requires-clause-chosen g c = λ db held. (c.in_ok-find_written.ensures.written db (rw c.in_ok-find_written.ensures.frame.same at held)).chosen
