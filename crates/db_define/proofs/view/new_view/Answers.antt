-- Names are short and few, and the conditions are short.
use Rattle.db_define.proofs.ViewMade.{short-view}
use Rattle.db_define.proofs.view.new_view.Goals as goal

pub returns-clause-short : goal.returns-clause-short
returns-clause-short c =
    rw c.copy.ensures (short-view c.args.stamp c.actor_stamp.result c.args.base.now.stamp c.args.name c.wanted_of-columns.result c.args.conditions.now (rw c.octets.ensures.octets at c.octets.ensures.name) c.len.ensures.list c.requires.short)
