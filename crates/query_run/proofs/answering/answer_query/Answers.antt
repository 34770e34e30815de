use Rattle.std.proofs.Common.{◌∙◌}
use Rattle.query_run.specs.declared.answer.Answer.{Answer}
use Rattle.query_run.specs.Answers.{found_text}
use Rattle.query_run.proofs.Answered.{answers-behind, leaves-behind, moments-behind, stopped-leaves, stopped-over, told-later, told-leaves, told-over}
use Rattle.query_run.proofs.answering.answer_query.Goals as goal

pub returns-in-Ok : goal.returns-in-Ok
returns-in-Ok g c = record {
  answers = λ m r.
      let over = c.in-Ok.ensures.finds.over m r in
      let finds = over.fetches in
      let rest = c.find_answer.ensures.finds.leaves.rest in
      let ends = told-over g.L.CardLink.is_at g.L.CardLink.is_live g.L.CardLink.faults g.L.CardLink.mark g.L.CardLink.chip g.L.CardLink.goes_on g.L.Outlet.given g.L.Outlet.sink_faults c.print_answer.result (found_text c.args.query.now c.in-Ok.answer)
      c.is_refusal.result c.find_answer.new.link c.print_answer.new.desk c.print_answer.ensures m _ _ finds.text (c.is_refusal.ensures ∙ finds.refused) finds.reads in
      rw c.told.ensures (record {
        answers = answers-behind g.L.CardLink.is_at g.L.Outlet.given m _ _ c.args.desk.now c.find_answer.new.link c.print_answer.new.desk _ (g.met.L.Desk.kept c.args.desk.now c.find_answer.new.link rest.kept).0 ends.answers;
        moments = moments-behind g.L.CardLink.chip g.L.CardLink.mark m.committed c.args.desk.now c.find_answer.new.link c.print_answer.new.desk rest.marked
            (told-later g.L.CardLink.is_at g.L.CardLink.is_live g.L.CardLink.faults g.L.CardLink.mark g.L.CardLink.chip g.L.CardLink.goes_on g.L.Outlet.given g.L.Outlet.sink_faults c.print_answer.result (found_text c.args.query.now c.in-Ok.answer)
            c.is_refusal.result c.find_answer.new.link c.print_answer.new.desk c.print_answer.ensures) over.moments ends.moments;
      });
  leaves =
      let fetched = c.in-Ok.ensures.finds.leaves in
      let kept = g.met.L.Desk.kept c.args.desk.now c.find_answer.new.link fetched.rest.kept in
      rw c.told.ensures
      (leaves-behind g.L.CardLink.is_live g.L.CardLink.faults g.L.Outlet.sink_faults g.L.CardLink.mark g.L.CardLink.goes_on g.P.Person.lost g.P.Person.shown _ c.args.desk.now c.find_answer.new.link c.print_answer.new.desk c.args.person.now c.find_answer.new.person
      fetched.ends.same kept.1 fetched.rest.marked (g.met.L.CardLink.goes_on_then c.args.desk.now c.find_answer.new.link c.print_answer.new.desk fetched.rest.goes)
      (told-leaves g.L.CardLink.is_at g.L.CardLink.is_live g.L.CardLink.faults g.L.CardLink.mark g.L.CardLink.chip g.L.CardLink.goes_on g.L.Outlet.given g.L.Outlet.sink_faults c.print_answer.result (found_text c.args.query.now c.in-Ok.answer)
      c.is_refusal.result c.find_answer.new.link c.print_answer.new.desk c.print_answer.ensures g.P.Person.lost g.P.Person.shown c.args.person.now c.find_answer.new.person fetched.ends.live c.find_answer.ensures.finds.shows));
}

pub returns-in-Err : goal.returns-in-Err
returns-in-Err g c = record {
  answers = λ m r.
      let rest = c.find_answer.ensures.finds.leaves.rest in
      rw c.stop_of.ensures
      (stopped-over g.L.CardLink.mark c.in-Err.end c.args.desk.now c.find_answer.new.link rest.marked g.L.CardLink.is_at g.L.Outlet.given g.L.CardLink.chip m _ _ (g.met.L.Desk.kept c.args.desk.now c.find_answer.new.link rest.kept).0
      (c.find_answer.ensures.finds.over m r).moments);
  leaves =
      let fetched = c.in-Err.ensures.finds.leaves in
      rw c.stop_of.ensures
      (stopped-leaves g.L.CardLink.mark c.in-Err.end c.args.desk.now c.find_answer.new.link fetched.rest.marked Answer g.L.CardLink.is_live g.L.CardLink.faults g.L.Outlet.sink_faults g.L.CardLink.goes_on g.P.Person.lost g.P.Person.shown c.args.person.now
      c.find_answer.new.person c.in-Err.ensures.ends fetched.ends (g.met.L.Desk.kept c.args.desk.now c.find_answer.new.link fetched.rest.kept).1 fetched.rest.goes c.find_answer.ensures.finds.shows);
}
