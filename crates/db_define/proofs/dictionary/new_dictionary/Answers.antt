-- A name is short.
use Rattle.db_define.proofs.ObjectMade.{short-dictionary}
use Rattle.db_define.proofs.dictionary.new_dictionary.Goals as goal

pub returns-clause-short : goal.returns-clause-short
returns-clause-short c = short-dictionary c.args.stamp c.actor_stamp.result c.args.name c.args.subject (rw c.octets.ensures.octets at c.octets.ensures.name)
