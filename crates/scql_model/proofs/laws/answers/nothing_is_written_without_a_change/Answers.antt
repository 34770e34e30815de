use Rattle.scql_model.proofs.NothingWritten.{octets_bound-accepts, octets_bound-none, octets_stepped-reading}
use Rattle.scql_model.proofs.laws.answers.nothing_is_written_without_a_change.Goals as goal

pub returns-clause-refused : goal.returns-clause-refused
returns-clause-refused c = octets_bound-accepts

pub returns-clause-reading : goal.returns-clause-reading
returns-clause-reading c = octets_stepped-reading

pub returns-clause-uncommitted : goal.returns-clause-uncommitted
returns-clause-uncommitted c = octets_bound-none
