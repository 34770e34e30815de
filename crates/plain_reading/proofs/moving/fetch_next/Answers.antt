-- The row behind the cursor's place is given.
use Rattle.std.proofs.Common.{ap, sym, ◌∙◌}
use Rattle.scql_model.specs.Machine.{Reading}
use Rattle.plain_database.specs.Sought.{row_shown}
use Rattle.plain_reading.proofs.MovedRows.{fetched-next}
use Rattle.plain_reading.proofs.moving.fetch_next.Goals as goal

pub returns-in-Some : goal.returns-in-Some
returns-in-Some c =
    let cursor = c.in_ok-cursor.cursor.now in
    let own = ap (λ (r : Reading). r.cursor) c.reading.view_is in
    let gave = c.give_row.ensures cursor (sym own ∙ c.in_ok-cursor.ensures.there) in
    record {
      answered = gave.answered
          ∙ sym (fetched-next c.args.database.now c.args.actor c.args.reading.now cursor c.args.le (row_shown c.in-Some.found) (rw own at c.in_ok-cursor.ensures.opened) c.in_ok-object.ensures.rows c.in-Some.ensures);
      same = gave.same;
    }
