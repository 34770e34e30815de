use Rattle.guide.proofs.Told.{told-then}
use Rattle.query_run.proofs.Responded.{heard-answered, heard-failed, heard-refused}
use Rattle.query_run.proofs.responding.respond.Goals as goal

pub returns-clause-hears : goal.returns-clause-hears
returns-clause-hears g c = λ asking r.
    let over = c.answer_line-result.ensures.answers asking.machine r in
    record {
      answered = heard-answered g.D.CardLink.is_at g.D.Outlet.given g.D.CardLink.mark g.D.CardLink.chip g.met.D.ToldDesk.output g.met.D.CardLink.marks g.met.D.ToldDesk.counted asking _ c.args.desk.now c.answer_line-result.new.desk over.moments _
          c.answer_line-result.result over.answers;
      refused = heard-refused g.D.CardLink.is_at g.D.Outlet.given asking.machine _ _ c.answer_line-result.result c.args.desk.now c.answer_line-result.new.desk over.answers;
      failed = heard-failed g.D.CardLink.is_at g.D.Outlet.given g.D.CardLink.mark g.D.CardLink.chip g.met.D.ToldDesk.output g.met.D.CardLink.marks g.met.D.ToldDesk.counted asking _ c.args.desk.now c.answer_line-result.new.desk over.moments _
          c.answer_line-result.result over.answers c.answer_line-result.ensures.leaves.unmarked;
    }

pub returns-clause-told : goal.returns-clause-told
returns-clause-told g c = told-then g.N.Person.lost g.N.Person.shown c.args.notices.now c.tell.new.person c.tell-2.new.person c.tell.ensures c.tell-2.ensures
