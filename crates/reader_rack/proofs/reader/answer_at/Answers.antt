use Rattle.std.proofs.Common.{refl, sym, subst}
use Rattle.std.specs.Prelude.{IsTrue}
use Rattle.script.specs.Line.{statement_of}
use Rattle.reader_rack.proofs.Lined.{sits-line, ends-mute, ends-refused}
use Rattle.reader_rack.proofs.reader.answer_at.Goals as goal

pub returns-in-Mute-clause-ends : goal.returns-in-Mute-clause-ends
returns-in-Mute-clause-ends g c = λ state sits.
    ends-mute g.L.CardLink.is_at g.L.CardLink.is_live g.O.Outlet.given state (statement_of c.args.line.octets.now) c.line_at.new.terminal c.line_at.result (c.args.link.now, c.args.outlet.now) (c.line_at.new.link, c.line_at.new.outlet)
    _ c.say.result _ _ _ c.in-Mute.is c.in-Mute.ensures.ends_by.0.gone
    (sits-line g.L.CardLink.is_at g.O.Outlet.given state c.args.terminal.now c.line_at.new.terminal c.args.line.octets.now c.line_at.result (c.args.link.now, c.args.outlet.now) (c.line_at.new.link, c.line_at.new.outlet)
    sits c.args.line.short c.line_at.ensures.ends)
    refl c.say.ensures

pub returns-in-Refused-clause-ends : goal.returns-in-Refused-clause-ends
returns-in-Refused-clause-ends g c = λ state sits.
    ends-refused g.L.CardLink.is_at g.L.CardLink.is_live g.O.Outlet.given state (statement_of c.args.line.octets.now) c.line_at.new.terminal c.in-Refused.why c.line_at.result (c.args.link.now, c.args.outlet.now) (c.line_at.new.link, c.line_at.new.outlet)
    c.in-Refused.is (subst IsTrue (sym c.in-Refused.ensures.ends_by.live) c.requires.live)
    (sits-line g.L.CardLink.is_at g.O.Outlet.given state c.args.terminal.now c.line_at.new.terminal c.args.line.octets.now c.line_at.result (c.args.link.now, c.args.outlet.now) (c.line_at.new.link, c.line_at.new.outlet)
    sits c.args.line.short c.line_at.ensures.ends)
