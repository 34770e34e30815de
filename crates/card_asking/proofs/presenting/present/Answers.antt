use Rattle.std.proofs.Common.{sym, ◌∙◌, ap}
use Rattle.std.proofs.lemmas.Bool.{eq-eqb, ne_eqb}
use Rattle.scql_model.specs.Replies.{Reply}
use Rattle.planner.specs.Words.{is_done}
use Rattle.card_asking.proofs.Presented.{presented-heard, presented-moments}
use Rattle.card_asking.proofs.presenting.present.Goals as goal

pub returns-in-Ok-clause-presents : goal.returns-in-Ok-clause-presents
returns-in-Ok-clause-presents g c = λ m at.
    let heard = presented-heard g.L.CardLink.is_at m c.args.user.now c.presenting.result c.ask.new.reply c.reply.inside.word c.ask.new.link c.presenting.ensures.command c.presenting.ensures.sendable (g.met.L.CardLink.valid c.args.link.now m at)
    (ap (λ (reply : Reply). reply.word) c.reply.view_is) (c.in-Ok.ensures.asks m at).answered in
    (ap is_done (sym heard.said) ∙ eq-eqb _ _ c.if-reply.true, heard.behind)

pub returns-in-Ok-clause-moments : goal.returns-in-Ok-clause-moments
returns-in-Ok-clause-moments g c = λ m at.
    presented-moments g.L.CardLink.chip (g.L.CardLink.mark c.args.link.now) m c.args.user.now c.presenting.result c.args.link.now c.ask.new.link c.presenting.ensures.command c.presenting.ensures.sendable (g.met.L.CardLink.valid c.args.link.now m at)
    (c.ask.ensures.asks m at).moments

pub returns-in-Ok-2-clause-presents : goal.returns-in-Ok-2-clause-presents
returns-in-Ok-2-clause-presents g c = λ m at.
    let heard = presented-heard g.L.CardLink.is_at m c.args.user.now c.presenting.result c.ask.new.reply c.reply.inside.word c.ask.new.link c.presenting.ensures.command c.presenting.ensures.sendable (g.met.L.CardLink.valid c.args.link.now m at)
    (ap (λ (reply : Reply). reply.word) c.reply.view_is) (c.in-Ok.ensures.asks m at).answered in
    (ap is_done (sym heard.said) ∙ ne_eqb _ _ c.if-reply.false, heard.said, heard.behind)

pub returns-in-Ok-2-clause-moments : goal.returns-in-Ok-2-clause-moments
returns-in-Ok-2-clause-moments g c = λ m at.
    presented-moments g.L.CardLink.chip (g.L.CardLink.mark c.args.link.now) m c.args.user.now c.presenting.result c.args.link.now c.ask.new.link c.presenting.ensures.command c.presenting.ensures.sendable (g.met.L.CardLink.valid c.args.link.now m at)
    (c.ask.ensures.asks m at).moments

pub returns-in-Err-clause-moments : goal.returns-in-Err-clause-moments
returns-in-Err-clause-moments g c = λ m at.
    presented-moments g.L.CardLink.chip (g.L.CardLink.mark c.args.link.now) m c.args.user.now c.presenting.result c.args.link.now c.ask.new.link c.presenting.ensures.command c.presenting.ensures.sendable (g.met.L.CardLink.valid c.args.link.now m at)
    (c.ask.ensures.asks m at).moments
