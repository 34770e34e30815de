use Rattle.scql_model.proofs.SeenThrough.{IsSeenThrough-resolved_of, depth_of-resolved_of}
use Rattle.scql_model.proofs.laws.views.views_are_seen_through.Goals as goal

pub returns-clause-rows : goal.returns-clause-rows
returns-clause-rows c = IsSeenThrough-resolved_of

pub returns-clause-filters : goal.returns-clause-filters
returns-clause-filters c = depth_of-resolved_of
