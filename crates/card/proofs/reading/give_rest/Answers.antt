-- What is pending is given where the cursor's object may be read, or the first refusal.
use Rattle.std.proofs.Common.{Option, Ok, sym, ap, ◌∙◌}
use Rattle.scql_model.specs.Moves.{chosen}
use Rattle.scql_model.specs.Contents.{Contents}
use Rattle.scql_model.specs.Rights.{seen_stamped}
use Rattle.scql_base.specs.declared.records.Object.{Object}
use Rattle.record_table.proofs.Stopped.{IfOk-stop_answer}
use Rattle.db_read.proofs.Sighted.{asked-Err}
use Rattle.scql_base.specs.declared.cursor.Cursor.{Cursor}
use Rattle.card.specs.Reading.{move_to}
use Rattle.card.specs.Sessions.{reading_in}
use Rattle.db_read.proofs.Adding.{nothing-read}
use Rattle.card.proofs.ReadingCosts.{asked-read}
use Rattle.card.proofs.ReadingMoves.{more-may, more-refused, more-without_cursor, rows_under-found}
use Rattle.card.proofs.reading.give_rest.Goals as goal

pub returns-in_default-clause-moves : goal.returns-in_default-clause-moves
returns-in_default-clause-moves g c = λ db held.
    rw c.without_body.ensures (more-without_cursor db c.args.actor (reading_in c.args.session.now) c.args.le c.in_default.is)

pub returns-in-Err-clause-moves : goal.returns-in-Err-clause-moves
returns-in-Err-clause-moves g c = λ db held. IfOk-stop_answer c.in-Err.stop c.answer.result _ c.answer.ensures (λ word is.
    let cursor = c.in-Some.cursor in
    let stops = rw is at (c.in-Err.ensures.refused db held) in
    rw c.without_body.ensures (more-refused db c.args.actor (reading_in c.args.session.now) c.args.le cursor c.in-Some.is word
    (asked-Err db c.args.actor (seen_stamped db c.args.actor cursor.object) (λ (x : Object) (contents : Contents). Ok (chosen contents cursor)) word stops.0)))

pub returns-in-Ok-clause-moves : goal.returns-in-Ok-clause-moves
returns-in-Ok-clause-moves g c = λ db held.
    let cursor = c.in-Some.cursor in
    let rows = rows_under-found db c.args.actor cursor c.find_selected.new.place c.in-Ok.ensures.there (c.in-Ok.ensures.found db held) in
    more-may db c.args.actor (reading_in c.args.session.now) c.args.le cursor c.in-Some.is rows.0 _ rows.1 (c.give_more.ensures cursor)
    ∙ ap (λ (o : Option Cursor). move_to c.give_more.new.reply.body c.give_more.result o c.give_more.new.pending) (sym c.in-Some.is)

pub returns-in_default-clause-octets_read : goal.returns-in_default-clause-octets_read
returns-in_default-clause-octets_read g c = λ db held. nothing-read _ _

pub returns-in-Err-clause-octets_read : goal.returns-in-Err-clause-octets_read
returns-in-Err-clause-octets_read g c = λ db held. IfOk-stop_answer c.in-Err.stop c.answer.result _ c.answer.ensures (λ word is.
    rw c.in-Some.is (asked-read db c.args.actor c.in-Some.cursor c.args.le _ _ (rw is at (c.in-Err.ensures.octets_read db held))))

pub returns-in-Ok-clause-octets_read : goal.returns-in-Ok-clause-octets_read
returns-in-Ok-clause-octets_read g c = λ db held. rw c.in-Some.is (asked-read db c.args.actor c.in-Some.cursor c.args.le _ _ (c.in-Ok.ensures.octets_read db held))
