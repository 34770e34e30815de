-- The run over the input is that of the desk.
use Rattle.std.proofs.Common.{false, refl, sym, ◌∙◌, ap, rules}
use Rattle.query_run.specs.QueryLines.{Asking, query_lines}
use Rattle.query_run.specs.Statuses.{program_status}
use Rattle.query_run.specs.Responding.{AsksSo}
use Rattle.guide.proofs.Told.{told-then}
use Rattle.program.proofs.Ended.{runs-through}
use Rattle.query_run.proofs.Ran.{ends-all, ends-by, ends-long, ends-opened, prints-queries}
use Rattle.query_run.proofs.run.answer_queries.Goals as goal

pub returns : goal.returns
returns g c = record {
  runs = λ m r.
      let ran = c.run_lines-end.ensures.runs (record { machine = m; refused = false }) (record { reads = r; tells = refl }) in
      record {
        runs = runs-through _ c.run_lines-end.result.1 (λ queries. queries.desk) g.D.CardLink.chip g.D.CardLink.faults query_lines (record { machine = m; refused = false }) c.run_lines-end.result.0 c.run_lines-end.result.1.refused
            (program_status c.of_input-status.result) (g.S.Source.left c.args.source.now) (g.S.Source.left c.run_lines-end.new.source) c.of_input-status.ensures ran;
        prints = λ whole.
            let done = ends-all c.run_lines-end.result.0 c.run_lines-end.result.1.refused (program_status c.of_input-status.result) c.of_input-status.ensures whole in
            prints-queries _ _ (λ (asking : Asking). AsksSo g.D.CardLink.is_at asking c.run_lines-end.result.1.desk c.run_lines-end.result.1.refused) m c.run_lines-end.result.0 c.run_lines-end.result.1.refused (program_status c.of_input-status.result)
            (g.S.Source.left c.args.source.now) (g.S.Source.left c.run_lines-end.new.source) _ c.run_lines-end.result.1 done c.of_input-status.ensures (λ asking asks. asks.tells) ran
            (c.run_lines-end.ensures.at (record { machine = m; refused = false }) (record { reads = r; tells = refl }));
      };
  whole = λ whole. c.run_lines-end.ensures.whole (ends-all c.run_lines-end.result.0 c.run_lines-end.result.1.refused (program_status c.of_input-status.result) c.of_input-status.ensures whole);
  opened = λ is. ends-opened c.run_lines-end.result.0 c.run_lines-end.result.1.refused (sym c.of_input-status.ensures ∙ ap program_status is);
  goes_on = search rules;
  leaves = record {
    too_long = λ is. c.run_lines-end.ensures.too_long (ends-long c.run_lines-end.result.0 c.run_lines-end.result.1.refused (sym c.of_input-status.ensures ∙ ap program_status is));
    ends = ends-by c.run_lines-end.result.0 c.run_lines-end.result.1.refused (program_status c.of_input-status.result) _ _ _ _ _ _ c.of_input-status.ensures c.run_lines-end.ensures.causes c.run_lines-end.ensures.source;
    shows = c.run_lines-end.ensures.goes_on.watches;
    told = told-then g.N.Person.lost g.N.Person.shown c.args.notices c.run_lines-end.result.1.notices c.tell-2.new.person
        (told-then g.N.Person.lost g.N.Person.shown c.args.notices c.tell.new.person c.run_lines-end.result.1.notices c.tell.ensures c.run_lines-end.ensures.goes_on.hears) c.tell-2.ensures;
  };
}
