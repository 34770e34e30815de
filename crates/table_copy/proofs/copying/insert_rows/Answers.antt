use Rattle.std.proofs.Common.{ℕ, Bool, Err, arith, refl, sym, ◌∙◌, ap, subst}
use Rattle.table_copy.specs.Copying.{StaysAt}
use Rattle.table_copy.specs.Filling.{IsFetching, IsFilled, Together, has_row, with_row}
use Rattle.person.proofs.Texts.{shows-none}
use Rattle.person.proofs.Counting.{count-ended, step-counted}
use Rattle.table_copy.specs.Progress.{each, words}
use Rattle.table_copy.proofs.Opening.{gives-stays}
use Rattle.table_copy.proofs.Showing.{few-left, one-at-most, one-or-none, step-rows, to_go-few}
use Rattle.card_asking.proofs.Calls.{answers-both, holds-both, rest-both}
use Rattle.table_copy.proofs.Turning.{counted-done, fetched-counted, fetched-goes, filled, goes-of, goes-then, heard-ended, holds-same, reads-ended, reads-stayed, turns-ended}
use Rattle.table_copy.proofs.copying.insert_rows.Goals as goal

pub loop-fetching-init : goal.loop-fetching-init
loop-fetching-init g c = record {
  turns = λ s d count total together. together;
  reads = λ s fetching. fetching;
  fills = λ d filling. filling;
  still = λ s fetching.
      holds-same g.S.CardLink.chip g.S.CardLink.mark s.committed fetching.gives.machine.committed c.args.source.now (g.met.S.CardLink.marks c.args.source.now)
      (g.met.S.CardLink.opens c.args.source.now fetching.gives.machine fetching.gives.at) fetching.gives.like.committed;
  moments = λ d filling.
      holds-same g.D.CardLink.chip g.D.CardLink.mark d.committed filling.copies.machine.committed c.args.dest.now (g.met.D.CardLink.marks c.args.dest.now)
      (g.met.D.CardLink.opens c.args.dest.now filling.copies.machine filling.copies.at) filling.copies.copies.committed;
  source = record { live = c.requires.live.0; same = refl };
  dest = record { live = c.requires.live.1; same = refl };
  few = omega arith;
  shown = shows-none g.P.Person.lost g.P.Person.shown c.args.person.now;
  sendable = c.requires.sendable;
  source_rest = record { marked = refl; kept = g.met.S.CardLink.keeps_same c.args.source.now; goes = g.met.S.CardLink.goes_on_same c.args.source.now };
  dest_rest = record { marked = refl; kept = g.met.D.CardLink.keeps_same c.args.dest.now; goes = g.met.D.CardLink.goes_on_same c.args.dest.now };
}

pub returns-in-Done : goal.returns-in-Done
returns-in-Done g c = record {
  turns = λ s d count total together.
      rw (counted-done c.loop-fetching.rows c.loop-fetching.fetching.step c.in-Done.closing c.goes_on.result c.counted.result c.in-Done.is c.goes_on.ensures c.counted.ensures)
      (filled g.S.CardLink.is_at g.D.CardLink.is_at s d count c.loop-fetching.rows c.args.table.now total c.loop-fetching.fetching.plan c.in-Done.closing c.loop-fetching.source c.loop-fetching.dest (rw c.in-Done.is at (c.loop-fetching.invariant.turns s d count total together)));
  reads = λ s fetching.
      let f = c.loop-fetching.invariant.reads s fetching in
      record {
        reads = reads-stayed g.S.CardLink.is_at s c.counted.result c.loop-fetching.source (gives-stays g.S.CardLink.is_at s f.last f.closing f.rows c.loop-fetching.fetching.plan c.loop-fetching.fetching.step c.loop-fetching.source f.gives);
        still = c.loop-fetching.invariant.still s fetching;
      };
  fills = λ d filling. record { fills = λ _. c.loop-fetching.invariant.fills d filling; moments = c.loop-fetching.invariant.moments d filling };
  leaves = record {
    ends =
        rw (counted-done c.loop-fetching.rows c.loop-fetching.fetching.step c.in-Done.closing c.goes_on.result c.counted.result c.in-Done.is c.goes_on.ensures c.counted.ensures)
        (fetched-goes g.S.CardLink.is_live g.S.CardLink.faults g.D.CardLink.is_live g.D.CardLink.faults c.loop-fetching.rows c.in-Done.closing c.args.source.now c.loop-fetching.source c.args.dest.now c.loop-fetching.dest c.loop-fetching.invariant.source
        c.loop-fetching.invariant.dest);
    source_rest = c.loop-fetching.invariant.source_rest;
    dest_rest = c.loop-fetching.invariant.dest_rest;
  };
  shows = record {
    rows = c.loop-fetching.rows;
    counted = rw (counted-done c.loop-fetching.rows c.loop-fetching.fetching.step c.in-Done.closing c.goes_on.result c.counted.result c.in-Done.is c.goes_on.ensures c.counted.ensures) (fetched-counted c.loop-fetching.rows c.in-Done.closing);
    shows = count-ended g.P.Person.lost g.P.Person.shown words each c.from.result c.loop-fetching.rows c.loop-fetching.rows c.args.person.now c.loop-fetching.person c.end.new.person c.from.ensures refl c.loop-fetching.invariant.shown c.end.ensures;
  };
}

pub turn-requires : goal.turn-requires
turn-requires g c = record { live = (c.loop-fetching.invariant.source.live, c.loop-fetching.invariant.dest.live); sendable = c.loop-fetching.invariant.sendable }

pub loop-fetching-preserved : goal.loop-fetching-preserved
loop-fetching-preserved g c = record {
  turns = λ s d count total together. subst (λ (rows : ℕ). Together g.S.CardLink.is_at g.D.CardLink.is_at s d count rows c.args.table.now total c.turn.new.fetching.plan c.turn.new.fetching.step c.turn.new.source c.turn.new.dest)
      (ap (λ (had_row : Bool). with_row had_row c.loop-fetching.rows) (sym c.has_row.ensures) ∙ sym (step-rows c.has_row.result c.loop-fetching.rows c.from-in-loop-fetching.result c.from-in-loop-fetching.ensures))
      (c.in_default-turn.ensures.turns s d count c.loop-fetching.rows total (c.loop-fetching.invariant.turns s d count total together));
  reads = λ s fetching. (c.in_default-turn.ensures.reads s (c.loop-fetching.invariant.reads s fetching)).reads;
  fills = λ d filling. (c.in_default-turn.ensures.fills d (c.loop-fetching.invariant.fills d filling)).fills (λ is. absurd cc);
  still = λ s fetching.
      holds-both g.S.CardLink.chip g.S.CardLink.mark s.committed c.args.source.now c.loop-fetching.source c.turn.new.source c.loop-fetching.invariant.source_rest.marked (c.loop-fetching.invariant.still s fetching)
      (c.turn.ensures.reads s (c.loop-fetching.invariant.reads s fetching)).still;
  moments = λ d filling.
      holds-both g.D.CardLink.chip g.D.CardLink.mark d.committed c.args.dest.now c.loop-fetching.dest c.turn.new.dest c.loop-fetching.invariant.dest_rest.marked (c.loop-fetching.invariant.moments d filling)
      (c.turn.ensures.fills d (c.loop-fetching.invariant.fills d filling)).moments;
  source = answers-both g.S.CardLink.is_live g.S.CardLink.faults c.args.source.now c.loop-fetching.source c.turn.new.source c.loop-fetching.invariant.source c.in_default-turn.ensures.leaves.ends.0;
  dest = answers-both g.D.CardLink.is_live g.D.CardLink.faults c.args.dest.now c.loop-fetching.dest c.turn.new.dest c.loop-fetching.invariant.dest c.in_default-turn.ensures.leaves.ends.1;
  few = few-left c.loop-fetching.fetching.step c.has_row.result c.loop-fetching.rows _ _ _ _ c.in_default.not-Done (step-rows c.has_row.result c.loop-fetching.rows c.from-in-loop-fetching.result c.from-in-loop-fetching.ensures) c.loop-fetching.invariant.few c.in_default-turn.ensures.comes_on.less;
  shown = step-counted g.P.Person.lost g.P.Person.shown words each c.from-in-loop-fetching-2.result c.from-in-loop-fetching-3.result c.loop-fetching.rows _ c.args.person.now c.loop-fetching.person c.show.new.person c.from-in-loop-fetching-2.ensures
      c.from-in-loop-fetching-3.ensures (one-or-none c.has_row.result c.loop-fetching.rows c.from-in-loop-fetching.result c.from-in-loop-fetching.ensures) c.loop-fetching.invariant.shown c.show.ensures;
  sendable = c.in_default-turn.ensures.comes_on.next_sendable;
  source_rest =
      rest-both g.S.CardLink.mark g.S.CardLink.keeps g.S.CardLink.goes_on c.args.source.now c.loop-fetching.source c.turn.new.source (g.met.S.CardLink.keeps_then c.args.source.now c.loop-fetching.source c.turn.new.source)
      (g.met.S.CardLink.goes_on_then c.args.source.now c.loop-fetching.source c.turn.new.source) c.loop-fetching.invariant.source_rest c.turn.ensures.leaves.source_rest;
  dest_rest =
      rest-both g.D.CardLink.mark g.D.CardLink.keeps g.D.CardLink.goes_on c.args.dest.now c.loop-fetching.dest c.turn.new.dest (g.met.D.CardLink.keeps_then c.args.dest.now c.loop-fetching.dest c.turn.new.dest)
      (g.met.D.CardLink.goes_on_then c.args.dest.now c.loop-fetching.dest c.turn.new.dest) c.loop-fetching.invariant.dest_rest c.turn.ensures.leaves.dest_rest;
}

pub returns-in-Err : goal.returns-in-Err
returns-in-Err g c = record {
  turns = λ s d count total together.
      turns-ended (λ _. Together g.S.CardLink.is_at g.D.CardLink.is_at s d count (with_row (has_row c.loop-fetching.fetching.step) c.loop-fetching.rows) c.args.table.now total c.turn.new.fetching.plan c.turn.new.fetching.step c.turn.new.source c.turn.new.dest)
      (λ number. IsFilled g.D.CardLink.is_at d count total number c.turn.new.dest) total c.in-Err.end (c.in-Err.ensures.turns s d count c.loop-fetching.rows total (c.loop-fetching.invariant.turns s d count total together));
  reads = λ s fetching. record {
    reads =
        reads-ended (Unit {0}) ℕ g.S.CardLink.is_at s (IsFetching g.S.CardLink.is_at s c.turn.new.fetching.plan c.turn.new.fetching.step c.turn.new.source) (StaysAt g.S.CardLink.is_at s c.turn.new.source) c.turn.new.source c.in-Err.end
        (c.in-Err.ensures.reads s (c.loop-fetching.invariant.reads s fetching)).reads;
    still =
        holds-both g.S.CardLink.chip g.S.CardLink.mark s.committed c.args.source.now c.loop-fetching.source c.turn.new.source c.loop-fetching.invariant.source_rest.marked (c.loop-fetching.invariant.still s fetching)
        (c.turn.ensures.reads s (c.loop-fetching.invariant.reads s fetching)).still;
  };
  fills = λ d filling. record {
    fills = λ heard. (c.in-Err.ensures.fills d (c.loop-fetching.invariant.fills d filling)).fills (heard-ended c.in-Err.end (Err c.in-Err.end) refl heard _ refl);
    moments =
        holds-both g.D.CardLink.chip g.D.CardLink.mark d.committed c.args.dest.now c.loop-fetching.dest c.turn.new.dest c.loop-fetching.invariant.dest_rest.marked (c.loop-fetching.invariant.moments d filling)
        (c.turn.ensures.fills d (c.loop-fetching.invariant.fills d filling)).moments;
  };
  leaves = record {
    ends =
        goes-then g.S.CardLink.is_live g.S.CardLink.faults g.D.CardLink.is_live g.D.CardLink.faults c.args.source.now c.loop-fetching.source c.turn.new.source c.args.dest.now c.loop-fetching.dest c.turn.new.dest
        c.loop-fetching.invariant.source c.loop-fetching.invariant.dest {A = ℕ} (Err c.in-Err.end)
        (goes-of (Unit {0}) ℕ g.S.CardLink.is_live g.S.CardLink.faults g.D.CardLink.is_live g.D.CardLink.faults c.in-Err.end c.loop-fetching.source c.turn.new.source c.loop-fetching.dest c.turn.new.dest c.in-Err.ensures.leaves.ends);
    source_rest =
        rest-both g.S.CardLink.mark g.S.CardLink.keeps g.S.CardLink.goes_on c.args.source.now c.loop-fetching.source c.turn.new.source (g.met.S.CardLink.keeps_then c.args.source.now c.loop-fetching.source c.turn.new.source)
        (g.met.S.CardLink.goes_on_then c.args.source.now c.loop-fetching.source c.turn.new.source) c.loop-fetching.invariant.source_rest c.turn.ensures.leaves.source_rest;
    dest_rest =
        rest-both g.D.CardLink.mark g.D.CardLink.keeps g.D.CardLink.goes_on c.args.dest.now c.loop-fetching.dest c.turn.new.dest (g.met.D.CardLink.keeps_then c.args.dest.now c.loop-fetching.dest c.turn.new.dest)
        (g.met.D.CardLink.goes_on_then c.args.dest.now c.loop-fetching.dest c.turn.new.dest) c.loop-fetching.invariant.dest_rest c.turn.ensures.leaves.dest_rest;
  };
  shows = record {
    rows = c.loop-fetching.rows;
    counted = tt;
    shows = count-ended g.P.Person.lost g.P.Person.shown words each c.from-in-Err.result c.loop-fetching.rows c.loop-fetching.rows c.args.person.now c.loop-fetching.person c.end-in-Err.new.person c.from-in-Err.ensures refl c.loop-fetching.invariant.shown c.end-in-Err.ensures;
  };
}

pub overflow_add-with_row : goal.overflow_add-with_row
overflow_add-with_row g c = omega (arith, c.loop-fetching.invariant.few, to_go-few c.args.fetching.now.plan c.args.fetching.now.step, one-at-most c.has_row.result c.from-in-loop-fetching.result c.from-in-loop-fetching.ensures)
