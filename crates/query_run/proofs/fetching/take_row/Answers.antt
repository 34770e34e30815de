use Rattle.std.proofs.Common.{rules}
use Rattle.query_run.proofs.Fetched.{fetching-on, one-row-more}
use Rattle.query_run.proofs.fetching.take_row.Goals as goal

pub returns-in-Ok-follow : goal.returns-in-Ok-follow
returns-in-Ok-follow g c = record {
  over = λ m last closing all f. record {
    fetches = fetching-on g.L.CardLink.is_at m closing last all c.args.rows.now.items c.add_row.new.rows.items c.args.plan.now c.follow.new.plan c.args.step.now c.follow.new.step c.args.link.now c.follow.new.link f c.in-Ok.ensures.added
        (c.in-Ok-follow.ensures.gives m last closing f.left f.gives);
    moments = c.follow.ensures.still m last closing f.left f.gives;
  };
  takes = record {
    grows = one-row-more c.args.step.now c.args.plan.now.row c.args.rows.now.items c.add_row.new.rows.items c.in-Ok.ensures.added;
    comes_on = c.in-Ok-follow.ensures.comes_on;
  };
  stops = search rules;
  leaves = search rules;
}
