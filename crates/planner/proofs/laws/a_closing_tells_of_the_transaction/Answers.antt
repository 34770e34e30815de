use Rattle.planner.proofs.TransactionKnown.{transaction-told}
use Rattle.planner.proofs.laws.a_closing_tells_of_the_transaction.Goals as goal

pub returns : goal.returns
returns c = transaction-told
