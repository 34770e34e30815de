use Rattle.std.proofs.Common.{◌≡◌, ℕ, List, Result, IfOk}
use Rattle.std.proofs.lemmas.Result.{IfOk-weaker}
use Rattle.script.specs.declared.fault.ScriptFault.{ScriptFault}
use Rattle.query.specs.Asked.{Asked}
use Rattle.query.specs.Line.{query_of}
use Rattle.query.proofs.Sound.{IsRead, query_of-read}
use Rattle.query.proofs.query.Query.read.Goals as goal

-- a part of what holds of each query
part : (line : List ℕ) (r : Result Asked ScriptFault) (P : Asked → Type 0) → r ≡ query_of line → ((q : Asked) → IsRead line q → P q) → IfOk r P
part line r P is of = rw is (IfOk-weaker (query_of line) (IsRead line) P of (query_of-read line))

pub returns-clause-objects : goal.returns-clause-objects
returns-clause-objects c = part c.args.line.octets.now _ _ c.read_query.ensures (λ q is. is.sound.objects)

pub returns-clause-different : goal.returns-clause-different
returns-clause-different c = part c.args.line.octets.now _ _ c.read_query.ensures (λ q is. is.sound.different)

pub returns-clause-sendable : goal.returns-clause-sendable
returns-clause-sendable c = part c.args.line.octets.now _ _ c.read_query.ensures (λ q is. is.sound.sendable)

pub returns-clause-selected : goal.returns-clause-selected
returns-clause-selected c = part c.args.line.octets.now _ _ c.read_query.ensures (λ q is. is.sound.selected)

pub returns-clause-equalities : goal.returns-clause-equalities
returns-clause-equalities c = part c.args.line.octets.now _ _ c.read_query.ensures (λ q is. is.sound.equalities)

pub returns-clause-order : goal.returns-clause-order
returns-clause-order c = part c.args.line.octets.now _ _ c.read_query.ensures (λ q is. is.sound.order)

pub returns-clause-names : goal.returns-clause-names
returns-clause-names c = part c.args.line.octets.now _ _ c.read_query.ensures (λ q is. is.names)
