use Rattle.rack_run.proofs.line_rack.RackLineRack.carry_out.Goals as goal

pub returns-in-Some-clause-ends : goal.returns-in-Some-clause-ends
returns-in-Some-clause-ends g c = λ state there. rw c.in-Some.is (c.line.ensures.ends state there)

pub returns-in-None-clause-ends : goal.returns-in-None-clause-ends
returns-in-None-clause-ends g c = λ state there. rw c.in-None.is (c.refuse_long_line.ensures.ends state there)
