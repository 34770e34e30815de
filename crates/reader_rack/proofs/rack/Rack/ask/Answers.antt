use Rattle.std.proofs.Common.{◌-◌, arith}
use Rattle.reader_rack.proofs.Placed.{asked-ends, asked-asks}
use Rattle.reader_rack.proofs.rack.Rack.ask.Goals as goal

pub returns-clause-ends : goal.returns-clause-ends
returns-clause-ends g c = asked-ends _ _ c.args.self.now.readers c.args.self.now.current.number (c.from.result - 1) c.index-self-from.result c.answer.new.self c.args.line.octets.now c.answer.result _ _
    c.args.self.now.current.reader (omega (arith, c.from.ensures, c.args.self.now.current.reader.0)) (omega arith) c.answer.ensures.ends

pub returns-clause-asks : goal.returns-clause-asks
returns-clause-asks g c = asked-asks _ _ c.args.self.now.readers c.args.self.now.current.number (c.from.result - 1) c.index-self-from.result c.answer.new.self c.answer.result _ _
    (omega (arith, c.from.ensures, c.args.self.now.current.reader.0)) (omega arith) c.answer.ensures.ends_by c.answer.ensures.aside
