-- The cursor is over an object that is there.
use Rattle.std.proofs.Common.{sym}
use Rattle.plain_database.proofs.SoughtRows.{seen-there}
use Rattle.plain_database.proofs.at_cursor.AtCursor.row_deleted.Goals as goal

pub record_at-requires-clause-there : goal.record_at-requires-clause-there
record_at-requires-clause-there c =
    let o = c.in-Some-seen_stamped.object.now in
    (o, seen-there c.args.self.now.database c.args.actor c.in-Some.cursor.object o c.database.ensures.valid (sym c.in-Some-seen_stamped.ensures), sym c.if-not-is_table_or_view.ensures)
