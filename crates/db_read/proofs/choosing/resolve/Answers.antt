-- A table, a view and a dictionary are resolved by what each is.
use Rattle.std.proofs.Common.{refl, sym, ap, ◌∙◌}
use Rattle.std.proofs.lemmas.Result.{IfOk-weaker}
use Rattle.scql_model.specs.Defining.{is_table_or_view}
use Rattle.scql_model.specs.Objects.{columns_of}
use Rattle.db_read.proofs.Chooses.{resolved-table, resolved-told, resolved-view}
use Rattle.db_read.proofs.choosing.resolve.Goals.{in-Table, in-Dictionary}
use Rattle.db_read.proofs.choosing.resolve.Goals as goal

pub returns-clause-rests : goal.returns-clause-rests
returns-clause-rests g c = λ db held at.
    let o = c.args.object.now in
    elim c.match-object.branch [
      | in-Table w ↦ resolved-table db.objects o w.in-Table.columns _ at w.in-Table.is refl (w.columns-is ∙ w.copy-columns.ensures) c.clear.ensures
      | in-Dictionary w ↦ resolved-told db.objects o _ (ap is_table_or_view w.in-Dictionary.is) (w.columns-is ∙ (w.columns_of-columns.ensures ∙ sym (ap columns_of w.in-Dictionary.is)))
    ]

pub returns-in-View-clause-rests : goal.returns-in-View-clause-rests
returns-in-View-clause-rests g c = λ db held at.
    let o = c.args.object.now in
    let kind = ap is_table_or_view c.in-View.is in
    IfOk-weaker c.resolve_into.result _ _ (λ done resolves. resolved-view db.objects o _ kind resolves) (c.resolve_into.ensures.resolved db held at kind)
