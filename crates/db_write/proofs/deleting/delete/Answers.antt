-- The row that the cursor reaches goes, and so does its place in the index.
use Rattle.std.proofs.Common.{◌≡◌, rules, [], ◌∷◌, Option, Some, None, Ok, Err, refl, sym, subst, ◌∙◌}
use Rattle.std.specs.Prelude.{IfSome}
use Rattle.record_store.specs.declared.side.Side.TheVariants.{Working}
use Rattle.scql_base.specs.Words.{conditions_not_satisfied, record_not_found}
use Rattle.scql_model.specs.Edits.{removing}
use Rattle.scql_model.specs.Records.{of_row}
use Rattle.scql_model.specs.Rights.{delete_privilege}
use Rattle.scql_model.specs.Writing.{row_deleted}
use Rattle.catalog_codec.specs.Catalog.{row_kind}
use Rattle.record_table.specs.Listed.{at_slot, slots_of}
use Rattle.record_table.specs.Making.{IsHeld}
use Rattle.record_table.specs.declared.stop.Stop.TheVariants.{Fault}
use Rattle.row_table.proofs.Endings.{EndedBy-before, EndedBy-in_memory}
use Rattle.db_read.specs.Scan.{Found, IsRight}
use Rattle.db_write.proofs.FoundThrough.{right-for}
use Rattle.db_write.proofs.ReachedThrough.{Ends-before, IsThrough-found, IsThrough-given, opened-some}
use Rattle.db_write.proofs.RowDeleted.{Follows-removed, Stand-removed, deletes, deletes-closed, deletes-none, deletes-stopped, valid-deleted}
use Rattle.db_write.proofs.deleting.delete.Goals as goal

pub returns-in_default-clause-ended : goal.returns-in_default-clause-ended
returns-in_default-clause-ended g c = EndedBy-before c.requires.open.stand refl (search rules) (λ db held any. (
  Err conditions_not_satisfied,
  IsThrough-given db (row_deleted db c.args.actor) c.args.cursor.now _ (deletes-closed db c.args.actor c.args.cursor.now c.in_default.ensures),
  rw c.refused.ensures (refl, refl, refl),
))

pub returns-in_err-find_written-clause-ended : goal.returns-in_err-find_written-clause-ended
returns-in_err-find_written-clause-ended g c = EndedBy-before c.requires.open.stand c.in_err-find_written.ensures.frame.same (search rules) (λ db held any. (
  row_deleted db c.args.actor c.args.cursor.now,
  IsThrough-given db (row_deleted db c.args.actor) c.args.cursor.now _ refl,
  Ends-before db _ c.from_residual.result c.in_err-find_written.field-0.0 c.args.tables.now.store _ _ c.from_residual.ensures.1
      (deletes-stopped db c.args.actor c.args.cursor.now c.in-Some.cursor.now c.in_err-find_written.field-0.0 c.in-Some.ensures (c.in_err-find_written.ensures.written db held)) c.in_err-find_written.ensures.frame.same,
))

pub returns-in_err-slot-clause-ended : goal.returns-in_err-slot-clause-ended
returns-in_err-slot-clause-ended g c = EndedBy-before c.requires.open.stand (c.in_err-slot.ensures.frame.same ∙ c.in_ok-find_written.ensures.frame.same) (search rules) (λ db held any. (
  row_deleted db c.args.actor c.args.cursor.now,
  IsThrough-given db (row_deleted db c.args.actor) c.args.cursor.now _ refl,
  Ends-before db _ c.from_residual-in_err-slot.result Fault c.args.tables.now.store _ _ c.from_residual-in_err-slot.ensures.1 tt (c.in_err-slot.ensures.frame.same ∙ c.in_ok-find_written.ensures.frame.same),
))

pub returns-in_default-2-clause-ended : goal.returns-in_default-2-clause-ended
returns-in_default-2-clause-ended g c = EndedBy-before c.requires.open.stand (c.in_ok-slot.ensures.frame.same ∙ c.in_ok-find_written.ensures.frame.same) (search rules) (λ db held any.
    let second = subst (λ chip. IsHeld c.args.tables.now.store Working chip db) (sym c.in_ok-find_written.ensures.frame.same) held in
    let found = c.in_ok-find_written.ensures.written db held in (
      Err record_not_found,
      IsThrough-found db c.args.actor delete_privilege (row_deleted db c.args.actor) c.args.cursor.now c.in-Some.cursor.now found.chosen.has.object _ c.find_row.new.room.row None _ c.in-Some.ensures found.written
          (rw c.in_default-2.is at (c.in_ok-slot.ensures.finds db second)) (λ cursor own is. deletes-none db c.args.actor cursor own found.chosen.has.object is),
      rw c.refused-in_default-2.ensures (refl, refl, c.in_ok-slot.ensures.frame.same ∙ c.in_ok-find_written.ensures.frame.same),
    ))

pub returns-clause-ended : goal.returns-clause-ended
returns-clause-ended g c =
    let chip = g.B.Eeprom.chip c.args.bench.now in
    let first = c.in_ok-find_written.ensures.frame.same in
    let row = c.find_row.new.room.row in
    let removes = c.remove_row.ensures in
    EndedBy-in_memory (c.in_ok-slot.ensures.frame.same ∙ first) (search rules) (λ db held any.
    let second = subst (λ chip. IsHeld c.args.tables.now.store Working chip db) (sym first) held in
    let found = c.in_ok-find_written.ensures.written db held in
    let own = IsThrough-found db c.args.actor delete_privilege (row_deleted db c.args.actor) c.args.cursor.now c.in-Some.cursor.now found.chosen.has.object _ row (Some c.in-Some-2.slot) (Ok (removing (of_row row) ∷ [])) c.in-Some.ensures found.written
    (rw c.in-Some-2.is at (c.in_ok-slot.ensures.finds db second)) (λ cursor own is. deletes db c.args.actor cursor own found.chosen.has.object row is) in
    let at = subst (λ chip. IfSome (slots_of c.args.tables.now.store Working chip) (λ slots. Some row ≡ at_slot row_kind c.in-Some-2.slot slots)) first (rw c.in-Some-2.is at c.in_ok-slot.ensures.at).at in (
      removing (of_row row) ∷ [],
      own,
      removes.makes chip db row c.requires.open.stand held at (valid-deleted db c.args.actor c.args.cursor.now _ held.valid own),
    ))
    (removes.goes_on chip c.requires.open.stand) (removes.committed chip c.requires.open.stand) (Follows-removed c.requires.open.stand c.requires.open.begun removes)

-- what was found is right for the cursor
pub find_written-requires-clause-right : goal.find_written-requires-clause-right
find_written-requires-clause-right g c = λ db held.
    subst (λ (scan : Option Found). IsRight db c.args.actor scan c.in-Some.cursor.now) (sym c.scan.view_is)
    (right-for db c.args.actor c.args.scan.now c.args.cursor.now c.in-Some.cursor.now (opened-some c.args.cursor.now c.in-Some.cursor.now c.in-Some.ensures) (c.requires.right db held))

pub find_row-requires-clause-chosen : goal.find_row-requires-clause-chosen
find_row-requires-clause-chosen g c = λ db held. (c.in_ok-find_written.ensures.written db (rw c.in_ok-find_written.ensures.frame.same at held)).chosen

pub returns-in_err-find_written-clause-stand : goal.returns-in_err-find_written-clause-stand
returns-in_err-find_written-clause-stand g c = rw c.in_err-find_written.ensures.frame.same c.requires.open.stand

pub returns-in_err-slot-clause-stand : goal.returns-in_err-slot-clause-stand
returns-in_err-slot-clause-stand g c = rw (c.in_err-slot.ensures.frame.same, c.in_ok-find_written.ensures.frame.same) c.requires.open.stand

pub returns-in_default-2-clause-stand : goal.returns-in_default-2-clause-stand
returns-in_default-2-clause-stand g c = rw (c.in_ok-slot.ensures.frame.same, c.in_ok-find_written.ensures.frame.same) c.requires.open.stand

pub returns-clause-stand : goal.returns-clause-stand
returns-clause-stand g c = Stand-removed c.requires.open.stand c.requires.open.begun c.remove_row.ensures (c.in_ok-slot.ensures.frame.same ∙ c.in_ok-find_written.ensures.frame.same)
