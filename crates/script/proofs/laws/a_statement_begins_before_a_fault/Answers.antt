use Rattle.script.proofs.FaultPlaces.{begun_before_fault}
use Rattle.script.proofs.laws.a_statement_begins_before_a_fault.Goals as goal

pub returns : goal.returns
returns c = begun_before_fault
