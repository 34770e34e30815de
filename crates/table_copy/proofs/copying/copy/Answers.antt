use Rattle.std.proofs.Common.{length, Ok, refl, inl, rules}
use Rattle.card_link.specs.Link.{IsOneOf}
use Rattle.card_asking.proofs.Moments.{leaves-none}
use Rattle.std.specs.Prelude.{◌∷◌}
use Rattle.table_copy.specs.Copy.{copy, source_rows}
use Rattle.table_copy.proofs.Copied.{copy-given, fetching-all, unopened-copies, unopened-reads}
use Rattle.card_asking.proofs.Calls.{holds-both}
use Rattle.table_copy.proofs.Turning.{source-counted}
use Rattle.person.proofs.Texts.{shows-none}
use Rattle.table_copy.proofs.copying.copy.Goals as goal

pub returns-in-Ok : goal.returns-in-Ok
returns-in-Ok g c = record {
  copied = λ s d source_at dest_at.
      let can = rw c.selection.ensures.select at c.selection.ensures.sendable in
      let opened = (c.in-Ok.ensures.opens s c.args.object.now (rw c.selection.ensures.select at c.start-plan.ensures) can source_at).comes in
      rw (copy-given s d c.args.object.now c.args.table.now (Ok opened.0) opened.1)
      (c.copy_opened.ensures.copied s d opened.0 opened.2 dest_at);
  undone = search rules;
  read = λ s source_at.
      let can = rw c.selection.ensures.select at c.selection.ensures.sendable in
      let is = rw c.selection.ensures.select at c.start-plan.ensures in
      let opened = (c.in-Ok.ensures.opens s c.args.object.now is can source_at).comes in
      let read = c.copy_opened.ensures.read s (fetching-all g.S.CardLink.is_at s (length opened.0) opened.0 c.open.new.fetching.plan c.open.new.fetching.step c.open.new.source opened.2) in
      record {
        reads = read.reads;
        source_moments =
            holds-both g.S.CardLink.chip g.S.CardLink.mark s.committed c.args.source.now c.open.new.source c.copy_opened.new.source c.open.ensures.leaves.rest.marked (c.open.ensures.opens s c.args.object.now is can source_at).moments read.source_moments;
      };
  leaves = search rules;
}

pub returns-in-Err : goal.returns-in-Err
returns-in-Err g c = record {
  copied = λ s d source_at dest_at.
      let can = rw c.selection.ensures.select at c.selection.ensures.sendable in
      record {
        copies =
            unopened-copies g.S.CardLink.is_at g.D.CardLink.is_at s d c.args.object.now c.args.table.now c.open.new.fetching.plan c.open.new.fetching.step c.in-Err.end c.open.new.source c.args.dest.now
            (c.in-Err.ensures.opens s c.args.object.now (rw c.selection.ensures.select at c.start-plan.ensures) can source_at).comes dest_at;
        dest_moments =
            leaves-none g.D.CardLink.chip g.D.CardLink.mark (IsOneOf (g.D.CardLink.mark c.args.dest.now) (d.committed ∷ (copy s d c.args.object.now c.args.table.now).commits)) c.args.dest.now d.committed (g.met.D.CardLink.marks c.args.dest.now) (g.met.D.CardLink.opens c.args.dest.now d dest_at) (inl (refl, refl));
      };
  undone = search rules;
  read = λ s source_at.
      let can = rw c.selection.ensures.select at c.selection.ensures.sendable in
      let is = rw c.selection.ensures.select at c.start-plan.ensures in
      record {
        reads =
            unopened-reads g.S.CardLink.is_at g.S.CardLink.is_live g.S.CardLink.faults s (source_rows s c.args.object.now) c.open.new.fetching.plan c.open.new.fetching.step c.in-Err.end c.args.source.now c.open.new.source
            (c.in-Err.ensures.opens s c.args.object.now (rw c.selection.ensures.select at c.start-plan.ensures) can source_at).comes c.in-Err.ensures.leaves.ends;
        source_moments = (c.open.ensures.opens s c.args.object.now is can source_at).moments;
      };
  leaves = record {
    causes = search rules;
    source_goes_on = c.open.ensures.leaves.rest;
    dest_goes_on = record { marked = refl; kept = g.met.D.CardLink.keeps_same c.args.dest.now; goes = g.met.D.CardLink.goes_on_same c.args.dest.now };
    shows = record {
      rows = 0;
      counted = source-counted (Unit {0}) g.S.CardLink.is_live g.S.CardLink.faults c.in-Err.end 0 c.args.source.now c.open.new.source c.in-Err.ensures.leaves.ends;
      shows = shows-none g.P.Person.lost g.P.Person.shown c.args.person.now;
    };
  };
}
