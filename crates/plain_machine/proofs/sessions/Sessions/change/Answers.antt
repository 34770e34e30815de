-- The cursor of the channel is the one that is seen there.
use Rattle.std.proofs.Common.{◌≡◌, Option, ap, subst, sym, ◌∙◌}
use Rattle.std.specs.Prelude.{IfSome}
use Rattle.scql_base.specs.declared.cursor.Cursor.{Cursor}
use Rattle.scql_model.specs.Changing.{change_of}
use Rattle.scql_model.specs.Cursors.{IsCursorOf}
use Rattle.scql_model.specs.Machine as machine
use Rattle.plain_machine.specs.Sessions.{reading_on}
use Rattle.plain_machine.specs.declared.session.Session.{Session}
use Rattle.plain_machine.proofs.SeenSessions.{found-reading}
use Rattle.plain_machine.proofs.sessions.Sessions.change.Goals.{After-session}
use Rattle.plain_machine.proofs.sessions.Sessions.change.Goals as goal

-- the cursor of the session that was found is that of the channel
cursors : (c : After-session) → (reading_on c.args.self.now c.args.channel).cursor ≡ c.session.inside.0.1.0.cursor
cursors c =
    let reads : reading_on c.args.self.now c.args.channel ≡ c.in-Some.session.reading = rw (← c.place-place.ensures.place)
    (found-reading c.self.inside.channels c.self.inside.chains c.args.self.now c.place-place.result c.index-self-place.result c.self.invariant c.place-place.ensures.few c.self.view_is c.index-self-place.is c.in-Some.session c.in-Some.is) in
    ap (λ (reading : machine.Reading). reading.cursor) reads ∙ ap (λ (s : Session). s.reading.cursor) (sym c.session.view_is)

pub change-requires : goal.change-requires
change-requires c = record {
  valid = c.requires.valid;
  cursor = subst (λ (cursor : Option Cursor). IfSome cursor (IsCursorOf c.args.database.now)) (cursors c) c.requires.reads.cursor;
}

pub returns-clause-ends : goal.returns-clause-ends
returns-clause-ends c = record {
  ended = c.change.ensures.ends.ended ∙ ap (λ (cursor : Option Cursor). change_of c.args.database.now c.args.actor cursor c.args.operation.now) (sym (cursors (goal.at.returns-clause-ends c).After-session));
  same = c.change.ensures.ends.same;
}
