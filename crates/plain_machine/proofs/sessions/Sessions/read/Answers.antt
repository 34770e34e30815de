-- The session of the channel reads.
use Rattle.std.proofs.Common.{◌≡◌, List, Option, Some, ap, refl, subst, sym, ◌∙◌}
use Rattle.std.specs.Prelude.{IfSome, slice_set}
use Rattle.std.proofs.lemmas.Result.{on_err_weaker}
use Rattle.scql_model.specs.Cursors.{IsCursorOf}
use Rattle.scql_model.specs.Machine as machine
use Rattle.scql_model.specs.Moves.{moved}
use Rattle.scql_model.specs.ReadingCommands.{Move}
use Rattle.scql_model.specs.Sessions.{reading_so}
use Rattle.plain_database.specs.Effects.{ended}
use Rattle.plain_reading.specs.Commands.{command_seen}
use Rattle.plain_machine.specs.Sessions.{changed_on, reading_on, sessions_of}
use Rattle.plain_machine.specs.declared.session.Session.{Session}
use Rattle.plain_machine.proofs.SeenSessions.{found-changed, found-new, found-none, found-reading, set-again}
use Rattle.plain_machine.proofs.sessions.Sessions.read.Goals.{After-read, In-Some}
use Rattle.plain_machine.proofs.sessions.Sessions.read.Goals as goal

-- what the session that was found reads is what the channel reads
readings : (c : In-Some) → reading_on c.args.self.now c.args.channel ≡ c.in-Some.session.reading
readings c = rw (← c.place-place.ensures.place) (found-reading c.self.inside.channels c.self.inside.chains c.args.self.now c.place-place.result c.index-self-place.result c.self.invariant c.place-place.ensures.few c.self.view_is c.index-self-place.is c.in-Some.session c.in-Some.is)

-- the session that has read, and what the channel reads then
abbrev new : After-read → Session
new c = record c.in-Some.session { reading = c.read.new.reading }

new-readings : (c : After-read) → reading_on (sessions_of (slice_set c.self.inside.channels c.place-place.result (Some (new c))) c.self.inside.chains) c.args.channel ≡ c.read.new.reading
new-readings c = rw (← c.place-place.ensures.place) (found-new c.self.inside.channels c.self.inside.chains c.args.self.now c.place-place.result c.index-self-place.result c.self.invariant c.place-place.ensures.few c.self.view_is c.index-self-place.is c.in-Some.session (new c) c.in-Some.is)

pub unreachable-requires : goal.unreachable-requires
unreachable-requires c = found-none c.self.inside.channels c.self.inside.chains c.args.self.now c.place-place.result c.index-self-place.result c.self.invariant c.place-place.ensures.few c.self.view_is c.index-self-place.is c.in-None.is (rw c.place-place.ensures.place c.requires.is_open)

pub read-requires : goal.read-requires
read-requires c =
    subst (λ (reading : machine.Reading). IfSome reading.cursor (IsCursorOf c.args.database.now)) (readings (goal.at.read-requires c).In-Some) c.requires.cursor

pub returns : goal.returns
returns c =
    let here = goal.at.returns c in
    let meant : (let move : Move machine.Reading = record { reply = c.read.new.reply; after = reading_on (sessions_of (slice_set c.self.inside.channels c.place-place.result (Some (new here.After-read))) c.self.inside.chains) c.args.channel } in ended c.read.result move) ≡ moved c.args.database.now c.args.actor (reading_on c.args.self.now c.args.channel) (command_seen c.args.command.now) =
    ap (λ (after : machine.Reading). let move : Move machine.Reading = record { reply = c.read.new.reply; after = after } in ended c.read.result move) (new-readings here.After-read)
    ∙ (c.read.ensures.answered
    ∙ ap (λ (reading : machine.Reading). moved c.args.database.now c.args.actor reading (command_seen c.args.command.now)) (sym (readings here.In-Some))) in
    record {
      moved = meant;
      left = found-changed c.self.inside.channels c.self.inside.chains c.args.self.now c.place-place.result c.index-self-place.result c.self.invariant c.place-place.ensures.few c.self.view_is c.index-self-place.is
          (reading_so c.read.new.reading) c.in-Some.session (new here.After-read) c.in-Some.is (λ chain. refl)
          ∙ (ap (changed_on (reading_so c.read.new.reading) c.args.self.now) c.place-place.ensures.place
          ∙ ap (λ (reading : machine.Reading). changed_on (reading_so reading) c.args.self.now c.args.channel) (sym (new-readings here.After-read)));
      same = on_err_weaker c.read.result
          (λ same.
          ap (λ (reading : machine.Reading). let next : Session = record c.in-Some.session { reading = reading } in sessions_of (slice_set c.self.inside.channels c.place-place.result (Some next)) c.self.inside.chains) same
          ∙ (ap (λ (session : Option Session). sessions_of (slice_set c.self.inside.channels c.place-place.result session) c.self.inside.chains) (sym c.in-Some.is)
          ∙ (ap (λ (sessions : List (Option Session)). sessions_of sessions c.self.inside.chains) (set-again c.self.inside.channels c.place-place.result c.index-self-place.result)
          ∙ c.self.view_is)))
          c.read.ensures.same;
    }
