use Rattle.planner.proofs.OctetsTell.{octets-tell}
use Rattle.planner.proofs.laws.octets_tell_of_the_transaction.Goals as goal

pub returns : goal.returns
returns c = octets-tell
