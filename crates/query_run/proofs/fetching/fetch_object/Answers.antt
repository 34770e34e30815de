use Rattle.std.proofs.Common.{rules}
use Rattle.query_run.proofs.Fetched.{gives-started, object-fetched, object-unfetched}
use Rattle.query_run.proofs.fetching.fetch_object.Goals as goal

pub returns-in-Ok : goal.returns-in-Ok
returns-in-Ok g c = record {
  over = λ m at.
      let over = g.met.L.CardLink.valid c.args.link.now m at in
      let rows = c.in-Ok.ensures.over m _ _ _ (gives-started g.L.CardLink.is_at m c.args.asked.now c.args.link.now over c.requires.askable at c.selection.result c.start-plan.result c.next_into.new.self c.next_into.new.step c.selection.ensures
      c.start-plan.ensures c.next_into.ensures.next) in
      record { fetches = object-fetched g.L.CardLink.is_at m c.args.asked.now c.fetch_rows.new.rows.items c.fetch_rows.new.link over _ rows.fetches; moments = rows.moments };
  leaves = search rules;
  shows = search rules;
}

pub returns-in-Err : goal.returns-in-Err
returns-in-Err g c = record {
  over = λ m at.
      let over = g.met.L.CardLink.valid c.args.link.now m at in
      let rows = c.in-Err.ensures.over m _ _ _ (gives-started g.L.CardLink.is_at m c.args.asked.now c.args.link.now over c.requires.askable at c.selection.result c.start-plan.result c.next_into.new.self c.next_into.new.step c.selection.ensures
      c.start-plan.ensures c.next_into.ensures.next) in
      record { fetches = object-unfetched g.L.CardLink.is_at m c.args.asked.now c.fetch_rows.new.rows.items c.fetch_rows.new.link over c.in-Err.end rows.fetches; moments = rows.moments };
  leaves = search rules;
  shows = search rules;
}
