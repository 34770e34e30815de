use Rattle.std.proofs.Common.{◌∷◌, sym, subst}
use Rattle.scql_model.specs.Step.{step}
use Rattle.card_link.specs.Link.{IsOneOf, LeavesOpen}
use Rattle.card.specs.LiveCardLaws.{opens-answered}
use Rattle.line_bench.specs.LineBench.{chip_of}
use Rattle.card_c.specs.OnLog.{IsDeskAt, OnLog, desk_chip, mark_of}
use Rattle.card_c.proofs.card_desk.CardDeskCardLink.exchange.Goals as goal

pub returns-clause-step : goal.returns-clause-step
returns-clause-step c = λ m at replied.
    let answers = (c.answer.ensures.replied m (subst (λ (d : OnLog). IsDeskAt d m) (sym c.self.view_is) at).at replied).step in
    record { reply = answers.reply; at = record { ready = c.answer.ensures.ready replied; at = answers.at } }

pub returns-clause-moments : goal.returns-clause-moments
returns-clause-moments c = λ m at.
    let dbs = m.committed ∷ (step m c.args.command.now).commits in
    subst (λ (d : OnLog). LeavesOpen (IsOneOf (mark_of d) dbs) (desk_chip d) (chip_of c.answer.new.bench)) c.self.view_is
    (opens-answered dbs (chip_of c.self.inside.bench) (chip_of c.answer.new.bench) (c.answer.ensures.moments m (subst (λ (d : OnLog). IsDeskAt d m) (sym c.self.view_is) at).at))
