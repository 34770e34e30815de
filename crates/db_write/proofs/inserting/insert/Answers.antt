-- The new row is the model's, and so is the database with it.
use Rattle.std.proofs.Common.{rules, Ok, sym, ap, subst, ◌∙◌}
use Rattle.record_store.specs.declared.side.Side.TheVariants.{Working}
use Rattle.scql_model.specs.Edits.{making}
use Rattle.scql_model.specs.Records.{of_row}
use Rattle.record_table.specs.Making.{IsHeld, IsValidWith}
use Rattle.row_table.proofs.Endings.{Ended-after, Ended-before}
use Rattle.db_write.proofs.ReachedThrough.{Ends-before}
use Rattle.db_write.proofs.RowInserted.{valid-inserted}
use Rattle.db_write.proofs.inserting.insert.Goals as goal

pub returns-in_err-table : goal.returns-in_err-table
returns-in_err-table g c = Ended-before c.requires.open.stand (search rules) (search rules) (λ db held may.
    Ends-before db _ c.from_residual.result c.in_err-table.field-0.0 c.args.tables.now.store _ _ c.from_residual.ensures.1 (c.in_err-table.ensures.answers db held) (search rules))

pub returns : goal.returns
returns g c = Ended-after c.make_row.ensures (search rules) (search rules) (λ db held may.
    let is = c.in_ok-table.ensures.answers db held in
    let next = ap (λ counter. counter.value) c.counter.view_is ∙ c.in_ok-counter.ensures.finds.next db (subst (λ chip. IsHeld c.args.tables.now.store Working chip db) (search rules) held) in
    let same = ap of_row (c.new_record-record.ensures.record ∙ ap (λ stamp. record { stamp = stamp; table = c.in_ok-table.table; row = c.args.row.now }) next) in (
      (
        ap (λ r. r.stamp) c.new_record-record.ensures.record ∙ next,
        subst (λ r. IsValidWith db (making db r)) (sym same) (valid-inserted db c.args.actor c.args.table c.args.row.now _ held.valid may.0 may.1 is),
      ),
      is ∙ ap (λ r. Ok (making db r)) (sym same),
    ))
