use Rattle.std.proofs.Common.{◌≡◌, ℕ, List, Result, Ok, Err, OnOk}
use Rattle.script.specs.declared.statement.Statement.{Statement}
use Rattle.script.specs.Commands.{CanAlwaysBeSent}
use Rattle.script.specs.Line.{statement_of}
use Rattle.script.proofs.SentLines.{statement_of-sent}
use Rattle.script.proofs.statement.Statement.read_into.Goals as goal

sent : {A B : Type 0} (line : List ℕ) (result : Result A B) (place : Statement) → OnOk result (statement_of line ≡ Ok place) → OnOk result (CanAlwaysBeSent place)
sent line (Ok _) place is = rw is at (statement_of-sent line)
sent line (Err _) place is = tt

pub returns-clause-sendable : goal.returns-clause-sendable
returns-clause-sendable c = sent c.args.line.octets.now c.read_statement.result c.read_statement.new.place c.read_statement.ensures.statement
