-- The object has the stamp of the cursor's.
use Rattle.std.proofs.Common.{sym, ◌∙◌}
use Rattle.plain_database.proofs.SoughtRows.{seen-there}
use Rattle.plain_reading.proofs.ReadableObjects.{readable-rows}
use Rattle.plain_reading.proofs.readable.readable.Goals as goal

pub returns-in-Some : goal.returns-in-Some
returns-in-Some c = record {
  object = seen-there c.args.database.now c.args.actor c.args.cursor.now.object c.in-Some.object.now c.database-records.ensures.valid (sym c.in-Some.ensures);
  rows = readable-rows c.args.database.now c.args.actor c.args.cursor.now c.in-Some.object.now (sym c.in-Some.ensures) (rw c.database-records.ensures.same at (sym c.holds.ensures ∙ c.if-holds.true));
}
