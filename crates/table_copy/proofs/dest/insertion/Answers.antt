use Rattle.std.proofs.Common.{◌≡◌, length, Some, None, refl, sym, ◌∙◌, ap, arith}
use Rattle.scql_base.specs.Row.{row_from}
use Rattle.card_asking.proofs.RowsAgain.{read-again, row-some}
use Rattle.table_copy.proofs.Sent.{insert-sent}
use Rattle.table_copy.proofs.dest.insertion.Goals as goal

pub returns-in_err-row-clause-row : goal.returns-in_err-row-clause-row
returns-in_err-row-clause-row c = λ row is form. absurd (let none : None ≡ Some row = sym (c.in_err-row.was) ∙ (c.read.ensures ∙ (ap row_from is ∙ read-again row form)) in cc)

pub returns-then-len-eq0-clause-row : goal.returns-then-len-eq0-clause-row
returns-then-len-eq0-clause-row c = λ row is form.
    let read : Some c.in_ok-row.row ≡ Some row = sym (c.in_ok-row.was) ∙ (c.read.ensures ∙ (ap row_from is ∙ read-again row form)) in
    let same : c.in_ok-row.row ≡ row = cc in
    absurd (omega (arith, row-some row form, ap length same, c.len.ensures.count, c.if-len-eq0.true))

pub returns-clause-row : goal.returns-clause-row
returns-clause-row c = λ row is form.
    let read : Some c.in_ok-row.row ≡ Some row = sym (c.in_ok-row.was) ∙ (c.read.ensures ∙ (ap row_from is ∙ read-again row form)) in
    let same : c.in_ok-row.row ≡ row = cc in
    rw (c.asking.ensures, c.copy.ensures, same) refl

pub returns-clause-inserts : goal.returns-clause-inserts
returns-clause-inserts c = record {
  row = c.in_ok-row.row;
  is = rw (c.asking.ensures, c.copy.ensures) refl;
  sendable =
      rw (c.asking.ensures, c.copy.ensures)
      (insert-sent c.args.table.now c.in_ok-row.row (rw c.octets.ensures.octets at c.octets.ensures.name) (rw c.octets.ensures.octets at c.octets.ensures.short) (omega (arith, c.if-len-eq0.false, c.len.ensures.count)) c.len.ensures.row);
}
