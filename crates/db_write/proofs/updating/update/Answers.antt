-- The row after the changes takes the place of the one that the cursor reached.
use Rattle.std.proofs.Common.{rules, sym, subst, ◌∙◌}
use Rattle.scql_model.specs.Writing.{row_updated}
use Rattle.row_table.proofs.Endings.{EndedBy-after, EndedBy-before}
use Rattle.db_write.specs.Reached.{IsThrough}
use Rattle.db_write.proofs.ReachedThrough.{Ends-before}
use Rattle.db_write.proofs.RowUpdated.{valid-updated}
use Rattle.db_write.proofs.updating.update.Goals as goal

pub returns-in_err-slot-clause-ended : goal.returns-in_err-slot-clause-ended
returns-in_err-slot-clause-ended g c = EndedBy-before c.requires.open.stand c.in_err-slot.ensures.frame.same (search rules) (λ db held form.
    let updated = c.in_err-slot.ensures.updated db held in (
      updated.0,
      updated.1,
      Ends-before db updated.0 c.from_residual.result c.in_err-slot.field-0.0 c.args.tables.now.store _ _ c.from_residual.ensures.1 updated.2 c.in_err-slot.ensures.frame.same,
    ))

pub returns-clause-ended : goal.returns-clause-ended
returns-clause-ended g c = EndedBy-after c.change_row.ensures.ended c.in_ok-slot.ensures.frame.same c.in_ok-slot.ensures.frame.counts.1 (λ db held form.
    let updated = c.in_ok-slot.ensures.updated db held in (
      (c.in_ok-slot.ensures.fits db held, valid-updated db c.args.actor c.args.cursor.now c.args.changes.now updated.0 _ held.valid form updated.1 updated.2),
      λ outcome is. subst (IsThrough db (λ cursor. row_updated db c.args.actor cursor c.args.changes.now) c.args.cursor.now) (updated.2 ∙ sym is) updated.1,
    ))
