use Rattle.scql_model.specs.Operations.{operations}
use Rattle.scql_model.proofs.FormedCommands.{IsWellFormed-form_of, sound-operations}
use Rattle.scql_model.proofs.OperationLaws.{IsValid-edits_of, edits_of-next}
use Rattle.scql_model.proofs.ReadFits.{FitsCard-form_of}
use Rattle.scql_model.proofs.laws.changes.a_change_keeps_a_database_valid.Goals as goal

pub returns-clause-valid : goal.returns-clause-valid
returns-clause-valid c = λ db new actor cursor operation edits. IsValid-edits_of db actor cursor operation edits new

pub returns-clause-read : goal.returns-clause-read
returns-clause-read c = λ octets channels chain limit command are least is. (
  (IsWellFormed-form_of operations octets channels chain limit command sound-operations are least is).form,
  FitsCard-form_of operations octets channels chain limit command sound-operations are least is,
)

pub returns-clause-next : goal.returns-clause-next
returns-clause-next c = edits_of-next
