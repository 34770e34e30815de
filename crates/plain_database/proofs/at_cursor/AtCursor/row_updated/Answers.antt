-- The cursor is over an object that is there, and the row that is written is one of its table's.
use Rattle.std.proofs.Common.{sym}
use Rattle.scql_model.specs.Defining.{is_table_or_view}
use Rattle.scql_model.specs.Objects.{columns_of}
use Rattle.plain_database.proofs.SoughtRows.{seen-there}
use Rattle.plain_database.proofs.Written.{chosen-true}
use Rattle.plain_database.proofs.at_cursor.AtCursor.row_updated.Goals as goal

pub record_at-requires-clause-there : goal.record_at-requires-clause-there
record_at-requires-clause-there c =
    let o = c.in-Some-seen_stamped.object.now in
    let stored = chosen-true (is_table_or_view o.kind) c.in-Some-columns_stored.columns.now (columns_of o.kind) c.in-Some-columns_stored.ensures in
    (o, seen-there c.args.self.now.database c.args.actor c.in-Some.cursor.object o c.database.ensures.valid (sym c.in-Some-seen_stamped.ensures), stored)
