use Rattle.std.proofs.Common.{Vec, Global, ◌≡◌, rules}
use Rattle.row_join.specs.declared.fetched.Fetched.{Fetched}
use Rattle.query_run.proofs.Fetched.{reads-held}
use Rattle.query_run.proofs.Found.{finds-refusal, finds-rows, refusal-ends, refusal-leaves}
use Rattle.query_run.proofs.finding.find_answer.Goals as goal

pub returns-in-Ok-join_tables-clause-finds : goal.returns-in-Ok-join_tables-clause-finds
returns-in-Ok-join_tables-clause-finds g c = record {
  over = λ m r.
      let objects : c.deref.result.now ≡ c.args.query.now.objects = search rules in
      let over = c.in-Ok.ensures.fetches.over r.machine r.at in
      record {
        fetches = finds-rows g.L.CardLink.is_at m c.args.query.now c.deref.result.now c.args.link.now c.fetch_all.new.link r objects c.in-Ok.tables.items c.in-Ok-join_tables.answer over.fetches c.in-Ok-join_tables.ensures;
        moments = reads-held g.L.CardLink.is_at g.L.CardLink.chip g.L.CardLink.mark m c.args.link.now c.fetch_all.new.link r over.moments;
      };
  leaves = search rules;
  shows = search rules;
}

pub returns-in-Err-join_tables-clause-finds : goal.returns-in-Err-join_tables-clause-finds
returns-in-Err-join_tables-clause-finds g c = record {
  over = λ m r. record {
    fetches = tt;
    moments = reads-held g.L.CardLink.is_at g.L.CardLink.chip g.L.CardLink.mark m c.args.link.now c.fetch_all.new.link r (c.in-Ok.ensures.fetches.over r.machine r.at).moments;
  };
  leaves = search rules;
  shows = search rules;
}

pub returns-in-Err-clause-finds : goal.returns-in-Err-clause-finds
returns-in-Err-clause-finds g c = record {
  over = λ m r.
      let objects : c.deref.result.now ≡ c.args.query.now.objects = search rules in
      let over = c.in-Err.ensures.fetches.over r.machine r.at in
      record {
        fetches = finds-refusal g.L.CardLink.is_at m c.args.query.now c.deref.result.now c.args.link.now c.fetch_all.new.link r objects (Vec Fetched Global) (λ (tables : Vec Fetched Global). tables.items) c.in-Err.end c.refusal_of.result
            c.refusal_of.ensures over.fetches;
        moments = reads-held g.L.CardLink.is_at g.L.CardLink.chip g.L.CardLink.mark m c.args.link.now c.fetch_all.new.link r over.moments;
      };
  leaves = record {
    ends = refusal-leaves (Vec Fetched Global) g.L.CardLink.is_live g.L.CardLink.faults c.args.link.now c.fetch_all.new.link c.in-Err.end c.refusal_of.result c.refusal_of.ensures c.in-Err.ensures.fetches.leaves.ends;
    rest = c.fetch_all.ensures.fetches.leaves.rest;
  };
  shows = search rules;
}

pub returns-in-Err-clause-ends : goal.returns-in-Err-clause-ends
returns-in-Err-clause-ends g c = refusal-ends c.in-Err.end c.refusal_of.result c.refusal_of.ensures
