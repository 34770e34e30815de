use Rattle.script.proofs.FaultPlaces.{first_fault}
use Rattle.script.proofs.laws.no_statement_begins_with_a_fault.Goals as goal

pub returns : goal.returns
returns c = first_fault
