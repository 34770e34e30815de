use Rattle.std.proofs.Common.{refl, inl, rules}
use Rattle.card_asking.proofs.Calls.{answers-both, leaves-mute, mutes-then, rest-both, rest-same}
use Rattle.card_asking.proofs.Moments.{leaves-none}
use Rattle.card_asking.proofs.Sent.{nothing-sent, asked-moments, part-sent, all-sent}
use Rattle.card_asking.proofs.asking.ask.Goals as goal

pub loop-part-init : goal.loop-part-init
loop-part-init g c = record {
  told = λ m at. nothing-sent g.L.CardLink.is_at m c.args.command.now c.args.link.now at;
  moments = λ m at.
      leaves-none g.L.CardLink.chip g.L.CardLink.mark _ c.args.link.now m.committed (g.met.L.CardLink.marks c.args.link.now) (g.met.L.CardLink.opens c.args.link.now m at) (inl (refl, refl));
  live = record { live = c.requires.live; same = refl };
  rest = rest-same g.L.CardLink.mark g.L.CardLink.keeps g.L.CardLink.goes_on c.args.link.now (g.met.L.CardLink.keeps_same c.args.link.now) (g.met.L.CardLink.goes_on_same c.args.link.now);
}

pub loop-part-preserved : goal.loop-part-preserved
loop-part-preserved g c = record {
  told = λ m at.
      let sent = c.loop-part.invariant.told m at in
      part-sent g.L.CardLink.is_at m c.args.command.now c.loop-part.part c.send_part.new.reply c.loop-part.link c.send_part.new.link sent (search rules) (c.in_ok-send_part.ensures.asks sent.machine sent.at).answered (search rules);
  moments =
      asked-moments g.L.CardLink.is_at g.L.CardLink.chip g.L.CardLink.mark c.args.command.now c.loop-part.part c.loop-part.part c.args.link.now c.loop-part.link c.send_part.new.link refl c.loop-part.invariant.told c.loop-part.invariant.moments
      c.loop-part.invariant.rest.marked (λ n at'. (c.send_part.ensures.asks n at').moments);
  live = answers-both g.L.CardLink.is_live g.L.CardLink.faults c.args.link.now c.loop-part.link c.send_part.new.link c.loop-part.invariant.live c.in_ok-send_part.ensures.leaves.replied;
  rest = rest-both g.L.CardLink.mark g.L.CardLink.keeps g.L.CardLink.goes_on c.args.link.now c.loop-part.link c.send_part.new.link (g.met.L.CardLink.keeps_then c.args.link.now c.loop-part.link c.send_part.new.link) (g.met.L.CardLink.goes_on_then c.args.link.now c.loop-part.link c.send_part.new.link) c.loop-part.invariant.rest c.send_part.ensures.leaves.rest;
}

pub returns-in_err-send_part-clause-asks : goal.returns-in_err-send_part-clause-asks
returns-in_err-send_part-clause-asks g c = λ m at. record {
  answered = search rules;
  moments =
      asked-moments g.L.CardLink.is_at g.L.CardLink.chip g.L.CardLink.mark c.args.command.now c.loop-part.part c.loop-part.part c.args.link.now c.loop-part.link c.send_part.new.link refl c.loop-part.invariant.told c.loop-part.invariant.moments
      c.loop-part.invariant.rest.marked (λ n at'. (c.send_part.ensures.asks n at').moments) m at;
}

pub returns-in_err-send_part-clause-leaves : goal.returns-in_err-send_part-clause-leaves
returns-in_err-send_part-clause-leaves g c =
    leaves-mute g.L.CardLink.is_live g.L.CardLink.faults g.L.CardLink.mark g.L.CardLink.keeps g.L.CardLink.goes_on c.from_residual.result c.in_err-send_part.field-0.0 c.send_part.new.reply c.args.link.now c.send_part.new.link (search rules)
    (mutes-then g.L.CardLink.is_live g.L.CardLink.faults c.args.link.now c.loop-part.link c.send_part.new.link c.loop-part.invariant.live c.in_err-send_part.ensures.leaves.mute.0, c.in_err-send_part.ensures.leaves.mute.1)
    (rest-both g.L.CardLink.mark g.L.CardLink.keeps g.L.CardLink.goes_on c.args.link.now c.loop-part.link c.send_part.new.link (g.met.L.CardLink.keeps_then c.args.link.now c.loop-part.link c.send_part.new.link) (g.met.L.CardLink.goes_on_then c.args.link.now c.loop-part.link c.send_part.new.link) c.loop-part.invariant.rest c.send_part.ensures.leaves.rest)

pub returns-then-reply-clause-asks : goal.returns-then-reply-clause-asks
returns-then-reply-clause-asks g c = λ m at.
    let sent = c.loop-part.invariant.told m at in
    record {
      answered = all-sent g.L.CardLink.is_at m c.args.command.now c.loop-part.part c.send_part.new.reply c.loop-part.link c.send_part.new.link sent (c.in_ok-send_part.ensures.asks sent.machine sent.at).answered (λ more. search rules);
      moments =
          asked-moments g.L.CardLink.is_at g.L.CardLink.chip g.L.CardLink.mark c.args.command.now c.loop-part.part c.loop-part.part c.args.link.now c.loop-part.link c.send_part.new.link refl c.loop-part.invariant.told c.loop-part.invariant.moments
          c.loop-part.invariant.rest.marked (λ n at'. (c.send_part.ensures.asks n at').moments) m at;
    }

pub returns-then-reply-clause-leaves : goal.returns-then-reply-clause-leaves
returns-then-reply-clause-leaves g c = record {
  replied = answers-both g.L.CardLink.is_live g.L.CardLink.faults c.args.link.now c.loop-part.link c.send_part.new.link c.loop-part.invariant.live c.in_ok-send_part.ensures.leaves.replied;
  mute = search rules;
  rest = rest-both g.L.CardLink.mark g.L.CardLink.keeps g.L.CardLink.goes_on c.args.link.now c.loop-part.link c.send_part.new.link (g.met.L.CardLink.keeps_then c.args.link.now c.loop-part.link c.send_part.new.link) (g.met.L.CardLink.goes_on_then c.args.link.now c.loop-part.link c.send_part.new.link) c.loop-part.invariant.rest c.send_part.ensures.leaves.rest;
}

pub returns-clause-asks : goal.returns-clause-asks
returns-clause-asks g c = λ m at. record {
  answered = search rules;
  moments =
      asked-moments g.L.CardLink.is_at g.L.CardLink.chip g.L.CardLink.mark c.args.command.now c.loop-part.part _ c.args.link.now c.loop-part.link c.send_part-2.new.link (search rules) c.loop-part.invariant.told c.loop-part.invariant.moments
      c.loop-part.invariant.rest.marked (λ n at'. (c.send_part-2.ensures.asks n at').moments) m at;
}

pub returns-clause-leaves : goal.returns-clause-leaves
returns-clause-leaves g c = record {
  replied = search rules;
  mute = search rules;
  rest = rest-both g.L.CardLink.mark g.L.CardLink.keeps g.L.CardLink.goes_on c.args.link.now c.loop-part.link c.send_part-2.new.link (g.met.L.CardLink.keeps_then c.args.link.now c.loop-part.link c.send_part-2.new.link) (g.met.L.CardLink.goes_on_then c.args.link.now c.loop-part.link c.send_part-2.new.link) c.loop-part.invariant.rest c.send_part-2.ensures.leaves.rest;
}
