-- The table of a row is there, and has as many columns as the row has values.
use Rattle.std.proofs.Common.{◌∙◌}
use Rattle.std.proofs.lemmas.Option.{none-some}
use Rattle.plain_database.proofs.Reached.{has_its_table, own-columns}
use Rattle.plain_database.proofs.valid.ValidDatabase.columns_of_row.Goals as goal

pub returns-in_err-object_stamped-clause-columns : goal.returns-in_err-object_stamped-clause-columns
returns-in_err-object_stamped-clause-columns c =
    let table = has_its_table c.args.self.now c.args.row.now c.database-valid.ensures.valid c.requires in
    absurd (none-some table.table ((rw c.in_err-object_stamped.was at c.object_stamped.ensures) ∙ table.there))

pub returns-in_err-object_stamped-clause-many : goal.returns-in_err-object_stamped-clause-many
returns-in_err-object_stamped-clause-many c =
    let table = has_its_table c.args.self.now c.args.row.now c.database-valid.ensures.valid c.requires in
    rw table.there table.many

pub returns-clause-columns : goal.returns-clause-columns
returns-clause-columns c =
    let table = has_its_table c.args.self.now c.args.row.now c.database-valid.ensures.valid c.requires in
    c.columns_stored.ensures ∙ own-columns c.args.self.now c.args.row.now c.in_ok-object_stamped.field-0.now table (rw c.in_ok-object_stamped.was at c.object_stamped.ensures)

pub returns-clause-many : goal.returns-clause-many
returns-clause-many c =
    let table = has_its_table c.args.self.now c.args.row.now c.database-valid.ensures.valid c.requires in
    rw table.there table.many
