use Rattle.std.proofs.Common.{codes, true, Ok, Err, ◌∙◌, rules}
use Rattle.scql_model.specs.Shown.{shown_on}
use Rattle.query_run.specs.QueryLines.{is_refused}
use Rattle.query_run.specs.QueryText.{query_text}
use Rattle.query_run.proofs.Answered.{all-sent, all-within, asked-read, nothing-leaves, nothing-over, over-is, refused-long, refused-read, shows-nothing, text-long, told-leaves, told-over}
use Rattle.query_run.proofs.answering.answer_line.Goals as goal

pub returns-in_default : goal.returns-in_default
returns-in_default g c = record {
  answers = λ m r.
      rw (c.in_default.is, c.told.ensures)
      (told-over g.L.CardLink.is_at g.L.CardLink.is_live g.L.CardLink.faults g.L.CardLink.mark g.L.CardLink.chip g.L.CardLink.goes_on g.L.Outlet.given g.L.Outlet.sink_faults c.say.result (codes "error line too long\n") true c.args.desk.now c.say.new.desk c.say.ensures m _ _ (text-long (shown_on m 0)) (refused-long (shown_on m 0)) r);
  leaves =
      rw c.told.ensures
      (told-leaves g.L.CardLink.is_at g.L.CardLink.is_live g.L.CardLink.faults g.L.CardLink.mark g.L.CardLink.chip g.L.CardLink.goes_on g.L.Outlet.given g.L.Outlet.sink_faults c.say.result (codes "error line too long\n") true c.args.desk.now c.say.new.desk c.say.ensures g.P.Person.lost g.P.Person.shown c.args.person.now c.args.person.now c.requires (shows-nothing g.P.Person.lost g.P.Person.shown c.args.person.now));
}

pub returns-then-is_nothing : goal.returns-then-is_nothing
returns-then-is_nothing g c = record {
  answers = λ m r.
      rw c.in-Some.is
      (nothing-over g.L.CardLink.is_at g.L.Outlet.given g.L.CardLink.mark g.L.CardLink.chip m c.in-Some.line.octets.now c.is_nothing.result c.args.desk.now c.if-is_nothing.true c.is_nothing.ensures (g.met.L.CardLink.marks c.args.desk.now)
      (g.met.L.CardLink.opens c.args.desk.now) r);
  leaves =
      nothing-leaves g.L.CardLink.is_live g.L.CardLink.faults g.L.Outlet.sink_faults g.L.CardLink.mark g.L.CardLink.goes_on g.P.Person.lost g.P.Person.shown c.args.desk.now c.args.person.now c.requires (g.met.L.CardLink.goes_on_same c.args.desk.now);
}

pub answer_query-requires : goal.answer_query-requires
answer_query-requires g c = record {
  live = c.requires;
  askable = record {
    sendable = all-sent c.in-Ok.query.objects c.in-Ok.ensures.sendable;
    few = c.in-Ok.ensures.objects.few;
    within = all-within c.in-Ok.query.objects c.in-Ok.query.equalities c.in-Ok.ensures.equalities;
  };
}

pub returns-in-Ok : goal.returns-in-Ok
returns-in-Ok g c = record {
  answers = λ m r.
      rw c.in-Some.is
      (over-is g.L.CardLink.is_at g.L.Outlet.given g.L.CardLink.mark g.L.CardLink.chip m (query_text (shown_on m 0) c.in-Ok.query) _ (is_refused (shown_on m 0) c.in-Ok.query) _ c.answer_query.result c.args.desk.now c.answer_query.new.desk
      (asked-read (shown_on m 0) c.in-Some.line.octets.now c.is_nothing.result (Ok c.in-Ok.query) c.if-is_nothing.false c.is_nothing.ensures c.in-Ok.ensures.query)
      (refused-read (shown_on m 0) c.in-Some.line.octets.now c.is_nothing.result (Ok c.in-Ok.query) c.if-is_nothing.false c.is_nothing.ensures c.in-Ok.ensures.query) (c.answer_query.ensures.answers m r));
  leaves = search rules;
}

pub returns-in-Err : goal.returns-in-Err
returns-in-Err g c = record {
  answers = λ m r.
      let text = asked-read (shown_on m 0) c.in-Some.line.octets.now c.is_nothing.result (Err c.in-Err.fault) c.if-is_nothing.false c.is_nothing.ensures c.in-Err.ensures.query in
      let refused = refused-read (shown_on m 0) c.in-Some.line.octets.now c.is_nothing.result (Err c.in-Err.fault) c.if-is_nothing.false c.is_nothing.ensures c.in-Err.ensures.query in
      rw (c.in-Some.is, c.told-in-Err.ensures)
      (told-over g.L.CardLink.is_at g.L.CardLink.is_live g.L.CardLink.faults g.L.CardLink.mark g.L.CardLink.chip g.L.CardLink.goes_on g.L.Outlet.given g.L.Outlet.sink_faults c.say-in-Err.result c.deref.result.now true c.args.desk.now c.say-in-Err.new.desk c.say-in-Err.ensures m _ _ (c.deref.ensures.0 ∙ (c.fault_text.ensures ∙ text)) refused r);
  leaves =
      rw c.told-in-Err.ensures
      (told-leaves g.L.CardLink.is_at g.L.CardLink.is_live g.L.CardLink.faults g.L.CardLink.mark g.L.CardLink.chip g.L.CardLink.goes_on g.L.Outlet.given g.L.Outlet.sink_faults c.say-in-Err.result c.deref.result.now true c.args.desk.now c.say-in-Err.new.desk c.say-in-Err.ensures g.P.Person.lost g.P.Person.shown c.args.person.now c.args.person.now c.requires (shows-nothing g.P.Person.lost g.P.Person.shown c.args.person.now));
}
