use Rattle.std.proofs.Common.{Some, None, sym, ◌∙◌}
use Rattle.reader_rack.proofs.Placed.{taken-ends}
use Rattle.reader_rack.proofs.rack.Rack.line.Goals as goal

pub returns-in-Some-clause-ends : goal.returns-in-Some-clause-ends
returns-in-Some-clause-ends g c = λ state there.
    taken-ends _ state c.args.line.octets.now (Some c.in-Some.statement) c.state.result _ _ (sym c.rack_statement.ensures.statement ∙ c.in-Some.is) (c.state.ensures.ends state there)

pub returns-in-None-clause-ends : goal.returns-in-None-clause-ends
returns-in-None-clause-ends g c = λ state there.
    taken-ends _ state c.args.line.octets.now None c.ask.result _ _ (sym c.rack_statement.ensures.statement ∙ c.in-None.is) (c.ask.ensures.ends state there)
