use Rattle.scql_model.proofs.PartsAgain.{first_parts-next, part-read, last-read, part-one}
use Rattle.scql_model.proofs.written.parts_that_are_written_are_read_back.Goals as goal

pub returns-clause-part : goal.returns-clause-part
returns-clause-part c = part-read

pub returns-clause-last : goal.returns-clause-last
returns-clause-last c = last-read

pub returns-clause-next : goal.returns-clause-next
returns-clause-next c = first_parts-next

pub returns-clause-one : goal.returns-clause-one
returns-clause-one c = part-one
