use Rattle.std.proofs.Common.{◌<◌, Some, None, sym, subst, inl, rules}
use Rattle.planner.specs.declared.step.Step.{Step}
use Rattle.planner.specs.Turns.{IfGoesOn}
use Rattle.card_asking.specs.Following.{Follows, given_by, to_go}
use Rattle.card_asking.proofs.Moments.{leaves-all}
use Rattle.card_asking.proofs.Followed.{asked-follows, asked-less, asked-moment, asked-reply, asked-turn, reset-follows, less-seen}
use Rattle.card_asking.proofs.Rows.{gives-on, gives-still}
use Rattle.card_asking.proofs.following.follow.Goals as goal

pub returns-in_err-ask-in-Send-clause-moments : goal.returns-in_err-ask-in-Send-clause-moments
returns-in_err-ask-in-Send-clause-moments g c = λ m at.
    leaves-all g.L.CardLink.chip _ _ c.args.link.now c.ask.new.link (λ n left is. asked-moment (g.L.CardLink.mark c.args.link.now) m c.args.plan.now c.args.step.now c.in-Send.command n left c.in-Send.is is) (c.ask.ensures.asks m at).moments

pub returns-in_ok-ask-in-Send-clause-moments : goal.returns-in_ok-ask-in-Send-clause-moments
returns-in_ok-ask-in-Send-clause-moments g c = λ m at.
    leaves-all g.L.CardLink.chip _ _ c.args.link.now c.ask.new.link (λ n left is. asked-moment (g.L.CardLink.mark c.args.link.now) m c.args.plan.now c.args.step.now c.in-Send.command n left c.in-Send.is is) (c.ask.ensures.asks m at).moments

pub returns-in_ok-ask-in-Send-clause-follows : goal.returns-in_ok-ask-in-Send-clause-follows
returns-in_ok-ask-in-Send-clause-follows g c = λ m at.
    asked-follows g.L.CardLink.is_at m c.args.plan.now c.next_into-in-Send.new.self c.args.step.now c.in-Send.command c.next_into-in-Send.new.step c.ask.new.reply c.ask.new.link c.in-Send.is c.requires.sendable
    (c.in_ok-ask-in-Send.ensures.asks m at).answered c.next_into-in-Send.ensures.next

pub returns-in_ok-ask-in-Send-clause-gives : goal.returns-in_ok-ask-in-Send-clause-gives
returns-in_ok-ask-in-Send-clause-gives g c = λ m last closing rows gives.
    gives-on g.L.CardLink.is_at m closing last rows c.args.plan.now c.next_into-in-Send.new.self c.args.step.now c.next_into-in-Send.new.step c.args.link.now c.ask.new.link gives
    (asked-follows g.L.CardLink.is_at gives.machine c.args.plan.now c.next_into-in-Send.new.self c.args.step.now c.in-Send.command c.next_into-in-Send.new.step c.ask.new.reply c.ask.new.link c.in-Send.is c.requires.sendable
    (c.in_ok-ask-in-Send.ensures.asks gives.machine gives.at).answered c.next_into-in-Send.ensures.next)

pub returns-in_ok-ask-in-Send-clause-comes_on : goal.returns-in_ok-ask-in-Send-clause-comes_on
returns-in_ok-ask-in-Send-clause-comes_on g c = record {
  next_sendable = search rules;
  less = asked-less (Some c.ask.new.reply) c.args.plan.now c.next_into-in-Send.new.self c.args.step.now c.next_into-in-Send.new.step c.in-Send.command c.in-Send.is c.next_into-in-Send.ensures.next;
}

pub returns-in-ResetCard-clause-follows : goal.returns-in-ResetCard-clause-follows
returns-in-ResetCard-clause-follows g c = λ m at.
    subst (λ (s : Step). Follows g.L.CardLink.is_at m c.args.plan.now s (given_by c.args.plan.now s) c.next_into.new.self c.next_into.new.step c.reset.new.self) (sym c.in-ResetCard.is)
    (reset-follows g.L.CardLink.is_at m c.args.plan.now c.next_into.new.self c.next_into.new.step c.reset.new.self (c.reset.ensures.step m at) c.next_into.ensures.next)

pub returns-in-ResetCard-clause-moments : goal.returns-in-ResetCard-clause-moments
returns-in-ResetCard-clause-moments g c = λ m at. leaves-all g.L.CardLink.chip _ _ c.args.link.now c.reset.new.self (λ n left holds. inl holds) (c.reset.ensures.moments m at)

pub returns-in-ResetCard-clause-comes_on : goal.returns-in-ResetCard-clause-comes_on
returns-in-ResetCard-clause-comes_on g c = record {
  next_sendable = search rules;
  less =
      subst (λ (s : Step). IfGoesOn s (to_go c.next_into.new.self c.next_into.new.step < to_go c.args.plan.now s)) (sym c.in-ResetCard.is) (less-seen None c.args.plan.now c.next_into.new.self c.next_into.new.step c.next_into.ensures.next);
}

pub returns-in_ok-ask-in-Send-clause-turns : goal.returns-in_ok-ask-in-Send-clause-turns
returns-in_ok-ask-in-Send-clause-turns g c = asked-turn c.args.plan.now c.next_into-in-Send.new.self c.args.step.now c.next_into-in-Send.new.step c.in-Send.command c.ask.new.reply c.in-Send.is c.next_into-in-Send.ensures.next

pub returns-in_ok-ask-in-Send-clause-reply : goal.returns-in_ok-ask-in-Send-clause-reply
returns-in_ok-ask-in-Send-clause-reply g c = λ m at. asked-reply m c.args.step.now c.in-Send.command c.args.reply.now c.ask.new.reply c.in-Send.is (c.in_ok-ask-in-Send.ensures.asks m at).answered.reply

pub returns-in_err-ask-in-Send-clause-still : goal.returns-in_err-ask-in-Send-clause-still
returns-in_err-ask-in-Send-clause-still g c = λ m last closing rows gives.
    leaves-all g.L.CardLink.chip _ _ c.args.link.now c.ask.new.link
    (λ n left is. gives-still g.L.CardLink.is_at (g.L.CardLink.mark c.args.link.now) m closing last rows c.args.plan.now c.args.step.now c.args.link.now n left gives
    (asked-moment (g.L.CardLink.mark c.args.link.now) gives.machine c.args.plan.now c.args.step.now c.in-Send.command n left c.in-Send.is is))
    (c.ask.ensures.asks gives.machine gives.at).moments

pub returns-in_ok-ask-in-Send-clause-still : goal.returns-in_ok-ask-in-Send-clause-still
returns-in_ok-ask-in-Send-clause-still g c = λ m last closing rows gives.
    leaves-all g.L.CardLink.chip _ _ c.args.link.now c.ask.new.link
    (λ n left is. gives-still g.L.CardLink.is_at (g.L.CardLink.mark c.args.link.now) m closing last rows c.args.plan.now c.args.step.now c.args.link.now n left gives
    (asked-moment (g.L.CardLink.mark c.args.link.now) gives.machine c.args.plan.now c.args.step.now c.in-Send.command n left c.in-Send.is is))
    (c.ask.ensures.asks gives.machine gives.at).moments
