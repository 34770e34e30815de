use Rattle.std.proofs.Common.{ap}
use Rattle.reader_rack.proofs.Placed.{ejected-none, ejected-ok}
use Rattle.reader_rack.proofs.rack.Rack.state.Goals as goal

pub returns-then-eject-clause-ends : goal.returns-then-eject-clause-ends
returns-then-eject-clause-ends g c = λ state there. ejected-ok _ state c.in-Eject.reader c.args.statement c.eject.result _ _ _ _ _ _ c.in-Eject.is c.if-eject.true (c.eject.ensures.ejects state there) (ap g.O.Outlet.given c.eject.ensures.leaves.outlet) c.say-then-eject.ensures

pub returns-else-eject-clause-ends : goal.returns-else-eject-clause-ends
returns-else-eject-clause-ends g c = λ state there. ejected-none _ state c.in-Eject.reader c.args.statement c.eject.result _ _ _ _ _ _ c.in-Eject.is c.if-eject.false (c.eject.ensures.ejects state there) (ap g.O.Outlet.given c.eject.ensures.leaves.outlet) c.say_no_card.ensures
