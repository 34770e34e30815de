use Rattle.std.proofs.Common.{◌≡◌, Err, length, arith, refl, sym}
use Rattle.person.proofs.Counting.{count-ended, step-counted}
use Rattle.person.proofs.Texts.{shows-none}
use Rattle.query_run.specs.Fetching.{IsFetched}
use Rattle.query_run.specs.Progress.{each, words}
use Rattle.card_asking.proofs.Calls.{answers-both, holds-both, rest-both, rest-same}
use Rattle.query_run.proofs.Fetched.{ends-closed, ends-then, fetching-ended, fetching-none, holds-same, unless-stopped}
use Rattle.query_run.proofs.Showing.{counted-fetched, less-left}
use Rattle.query_run.proofs.fetching.fetch_rows.Goals as goal

pub loop-step-init : goal.loop-step-init
loop-step-init g c = record {
  fetches = λ m last closing all gives. fetching-none g.L.CardLink.is_at m closing last all c.args.rows.now.items c.args.plan.now c.args.step.now c.args.link.now c.requires.none gives;
  still = λ m last closing all gives.
      holds-same g.L.CardLink.chip g.L.CardLink.mark m.committed gives.machine.committed c.args.link.now (g.met.L.CardLink.marks c.args.link.now) (g.met.L.CardLink.opens c.args.link.now gives.machine gives.at) gives.like.committed;
  answers = record { live = c.requires.can_ask.live; same = refl };
  shown = rw c.requires.none (shows-none g.P.Person.lost g.P.Person.shown c.args.person.now);
  sendable = c.requires.can_ask.askable;
  rest = rest-same g.L.CardLink.mark g.L.CardLink.keeps g.L.CardLink.goes_on c.args.link.now (g.met.L.CardLink.keeps_same c.args.link.now) (g.met.L.CardLink.goes_on_same c.args.link.now);
}

pub returns-in-Done : goal.returns-in-Done
returns-in-Done g c = record {
  over = λ m last closing all gives. record {
    fetches = fetching-ended g.L.CardLink.is_at m closing last all c.loop-step.rows.items c.loop-step.plan c.loop-step.step c.in-Done.closing c.fetched.result c.loop-step.link c.in-Done.is c.fetched.ensures
        (c.loop-step.invariant.fetches m last closing all gives);
    moments = c.loop-step.invariant.still m last closing all gives;
  };
  leaves = record {
    ends = ends-closed g.L.CardLink.is_live g.L.CardLink.faults c.args.link.now c.loop-step.link c.in-Done.closing c.fetched.result c.fetched.ensures c.loop-step.invariant.answers;
    rest = c.loop-step.invariant.rest;
  };
  shows =
      let count : c.len-count.result ≡ length c.loop-step.rows.items = omega (arith, c.len-count.ensures, c.loop-step.rows.ok) in
      record {
        count = c.len-count.result;
        counted = counted-fetched c.fetched.result c.loop-step.rows.items c.len-count.result count;
        shows = count-ended g.P.Person.lost g.P.Person.shown words each c.len-count.result _ c.len-count.result c.args.person.now c.loop-step.person c.end.new.person refl (sym count) c.loop-step.invariant.shown c.end.ensures;
      };
}

pub returns-in-Err : goal.returns-in-Err
returns-in-Err g c =
    let count : c.len-count.result ≡ length c.loop-step.rows.items = omega (arith, c.len-count.ensures, c.loop-step.rows.ok) in
    record {
      over = λ m last closing all gives. record {
        fetches = unless-stopped (Unit {0}) c.in-Err.end (IsFetched g.L.CardLink.is_at closing last all c.take_row.new.rows.items (Err c.in-Err.end) c.take_row.new.link) c.in-Err.ensures.stops;
        moments = holds-both g.L.CardLink.chip g.L.CardLink.mark m.committed c.args.link.now c.loop-step.link c.take_row.new.link c.loop-step.invariant.rest.marked (c.loop-step.invariant.still m last closing all gives)
            (c.take_row.ensures.over m last closing all (c.loop-step.invariant.fetches m last closing all gives)).moments;
      };
      leaves = record {
        ends = ends-then (Unit {0}) (Unit {0}) g.L.CardLink.is_live g.L.CardLink.faults c.args.link.now c.loop-step.link c.take_row.new.link c.in-Err.end c.loop-step.invariant.answers c.in-Err.ensures.leaves.ends;
        rest = rest-both g.L.CardLink.mark g.L.CardLink.keeps g.L.CardLink.goes_on c.args.link.now c.loop-step.link c.take_row.new.link (g.met.L.CardLink.keeps_then c.args.link.now c.loop-step.link c.take_row.new.link)
            (g.met.L.CardLink.goes_on_then c.args.link.now c.loop-step.link c.take_row.new.link) c.loop-step.invariant.rest c.take_row.ensures.leaves.rest;
      };
      shows = record {
        count = c.len-count.result;
        counted = tt;
        shows = count-ended g.P.Person.lost g.P.Person.shown words each c.len-count.result _ c.len-count.result c.args.person.now c.loop-step.person c.end-in-Err.new.person refl (sym count) c.loop-step.invariant.shown c.end-in-Err.ensures;
      };
    }

pub loop-step-preserved : goal.loop-step-preserved
loop-step-preserved g c = record {
  fetches = λ m last closing all gives. (c.in_default-take_row.ensures.over m last closing all (c.loop-step.invariant.fetches m last closing all gives)).fetches;
  still = λ m last closing all gives.
      holds-both g.L.CardLink.chip g.L.CardLink.mark m.committed c.args.link.now c.loop-step.link c.take_row.new.link c.loop-step.invariant.rest.marked (c.loop-step.invariant.still m last closing all gives)
      (c.take_row.ensures.over m last closing all (c.loop-step.invariant.fetches m last closing all gives)).moments;
  answers = answers-both g.L.CardLink.is_live g.L.CardLink.faults c.args.link.now c.loop-step.link c.take_row.new.link c.loop-step.invariant.answers c.in_default-take_row.ensures.leaves.ends;
  shown = step-counted g.P.Person.lost g.P.Person.shown words each c.len-count.result c.len.result _ _ c.args.person.now c.loop-step.person c.show.new.person (omega (arith, c.len-count.ensures, c.loop-step.rows.ok))
      (omega (arith, c.len.ensures, c.take_row.new.rows.ok)) c.in_default-take_row.ensures.takes.grows c.loop-step.invariant.shown c.show.ensures;
  sendable = c.in_default-take_row.ensures.takes.comes_on.next_sendable;
  rest = rest-both g.L.CardLink.mark g.L.CardLink.keeps g.L.CardLink.goes_on c.args.link.now c.loop-step.link c.take_row.new.link (g.met.L.CardLink.keeps_then c.args.link.now c.loop-step.link c.take_row.new.link)
      (g.met.L.CardLink.goes_on_then c.args.link.now c.loop-step.link c.take_row.new.link) c.loop-step.invariant.rest c.take_row.ensures.leaves.rest;
}

pub loop-step-smaller : goal.loop-step-smaller
loop-step-smaller g c = less-left c.loop-step.step _ _ c.in_default.not-Done c.in_default-take_row.ensures.takes.comes_on.less
