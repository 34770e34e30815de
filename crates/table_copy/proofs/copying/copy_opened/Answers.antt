use Rattle.std.proofs.Common.{ℕ, length, refl, sym, ◌∙◌, subst, inl, rules}
use Rattle.scql_model.specs.Machine.{actor}
use Rattle.card_asking.proofs.Calls.{rest-both}
use Rattle.card_asking.proofs.Moments.{leaves-all}
use Rattle.table_copy.specs.Copy.{copy_of, put_into}
use Rattle.table_copy.specs.Copying.{CopiesSo, StaysAt, UndoneSo}
use Rattle.table_copy.specs.Filling.{IsCommitted}
use Rattle.std.proofs.Common.{Ok}
use Rattle.table_copy.proofs.Copied.{begun-moments, begun-total, commits-same, copied-so, ended-reads, filling-ended, rolled-moments, together-first, undone-copies, undone-so, unless-mute}
use Rattle.table_copy.proofs.Turning.{dest-counted, goes-counted, goes-ends}
use Rattle.table_copy.specs.Progress.{IsCounted}
use Rattle.person.proofs.Texts.{shows-none}
use Rattle.table_copy.proofs.copying.copy_opened.Goals as goal

pub returns-in-Ok-clause-copied : goal.returns-in-Ok-clause-copied
returns-in-Ok-clause-copied g c = λ s d rows gives at.
    let begun = (c.in_default.ensures.begins d at).comes in
    let total = copy_of d.committed (actor d 0) c.args.table.now rows in
    let together = together-first g.S.CardLink.is_at g.D.CardLink.is_at s d rows c.args.table.now c.args.fetching.now.plan c.args.fetching.now.step c.args.source.now c.begin.new.dest gives begun.1 in
    record {
      copies = copied-so g.D.CardLink.is_at d (length rows) _ total c.in-Ok.rows c.fill.new.dest (begun-total d total begun.0) (c.in-Ok.ensures.turns s d (length rows) total together).comes;
      dest_moments =
          begun-moments g.D.CardLink.chip g.D.CardLink.mark d.committed _ _ c.args.dest.now c.begin.new.dest c.fill.new.dest (commits-same (length rows) _ total (begun-total d total begun.0)) c.begin.ensures.leaves.rest.marked
          (c.begin.ensures.begins d at).moments (c.fill.ensures.turns s d (length rows) total together).moments;
    }

pub returns-in-Ok-clause-read : goal.returns-in-Ok-clause-read
returns-in-Ok-clause-read g c = λ s fetching. record { reads = λ _. (c.in-Ok.ensures.reads s fetching).reads; source_moments = (c.fill.ensures.reads s fetching).still }

pub returns-in-Err-fill-clause-copied : goal.returns-in-Err-fill-clause-copied
returns-in-Err-fill-clause-copied g c = λ s d rows gives at.
    let begun = (c.in_default.ensures.begins d at).comes in
    let total = copy_of d.committed (actor d 0) c.args.table.now rows in
    let together = together-first g.S.CardLink.is_at g.D.CardLink.is_at s d rows c.args.table.now c.args.fetching.now.plan c.args.fetching.now.step c.args.source.now c.begin.new.dest gives begun.1 in
    record {
      copies =
          unless-mute (λ r. CopiesSo g.D.CardLink.is_at d (put_into d c.args.table.now (Ok rows)) r c.roll_back.new.dest) c.roll_back.result tt (λ heard.
          subst (λ r. CopiesSo g.D.CardLink.is_at d (put_into d c.args.table.now (Ok rows)) r c.roll_back.new.dest) (sym (c.roll_back.ensures.same heard))
          (undone-copies g.D.CardLink.is_at d (λ number. IsCommitted g.D.CardLink.is_at d (length rows) total number c.fill.new.dest) (length rows) _ total c.in-Err-fill.end c.roll_back.new.dest (begun-total d total begun.0)
          (c.in-Err-fill.ensures.turns s d (length rows) total together).comes
          ((c.roll_back.ensures.rolls d
          (filling-ended g.D.CardLink.is_at d c.fill.result c.in-Err-fill.end c.fill.new.dest c.in-Err-fill.is (c.fill.ensures.fills d (record { db = d.committed; copies = begun.1 })) (λ mute. heard (c.roll_back.ensures.mute mute).0))).comes heard)));
      dest_moments =
          rolled-moments g.D.CardLink.chip g.D.CardLink.mark d.committed _ c.args.dest.now c.fill.new.dest c.roll_back.new.dest c.in-Err-fill.end (c.fill.ensures.leaves.dest_rest.marked ∙ c.begin.ensures.leaves.rest.marked)
          (λ mute. (c.roll_back.ensures.mute mute).1)
          (λ heard. (c.roll_back.ensures.rolls d
          (filling-ended g.D.CardLink.is_at d c.fill.result c.in-Err-fill.end c.fill.new.dest c.in-Err-fill.is (c.fill.ensures.fills d (record { db = d.committed; copies = begun.1 })) heard)).moments)
          (begun-moments g.D.CardLink.chip g.D.CardLink.mark d.committed _ _ c.args.dest.now c.begin.new.dest c.fill.new.dest (commits-same (length rows) _ total (begun-total d total begun.0)) c.begin.ensures.leaves.rest.marked
          (c.begin.ensures.begins d at).moments
          (c.fill.ensures.turns s d (length rows) total together).moments);
    }

pub returns-in-Err-fill-clause-read : goal.returns-in-Err-fill-clause-read
returns-in-Err-fill-clause-read g c = λ s fetching. record {
  reads =
      ended-reads ℕ g.S.CardLink.is_at g.S.CardLink.is_live g.S.CardLink.faults g.D.CardLink.is_live g.D.CardLink.faults s (StaysAt g.S.CardLink.is_at s c.fill.new.source) c.in-Err-fill.end c.args.source.now c.fill.new.source c.begin.new.dest c.fill.new.dest
      (c.in-Err-fill.ensures.reads s fetching).reads
      (goes-ends ℕ g.S.CardLink.is_live g.S.CardLink.faults g.D.CardLink.is_live g.D.CardLink.faults c.in-Err-fill.end c.args.source.now c.fill.new.source c.begin.new.dest c.fill.new.dest c.in-Err-fill.ensures.leaves.ends);
  source_moments = (c.fill.ensures.reads s fetching).still;
}

pub returns-in-Err-fill-clause-undone : goal.returns-in-Err-fill-clause-undone
returns-in-Err-fill-clause-undone g c = λ d at.
    let begun = (c.in_default.ensures.begins d at).comes in
    unless-mute (λ r. UndoneSo g.D.CardLink.is_at d r c.roll_back.new.dest) c.roll_back.result tt (λ heard.
    undone-so g.D.CardLink.is_at d c.roll_back.result c.roll_back.new.dest
    ((c.roll_back.ensures.rolls d
    (filling-ended g.D.CardLink.is_at d c.fill.result c.in-Err-fill.end c.fill.new.dest c.in-Err-fill.is (c.fill.ensures.fills d (record { db = d.committed; copies = begun.1 })) (λ mute. heard (c.roll_back.ensures.mute mute).0))).comes heard))

pub returns-in-Err-clause-copied : goal.returns-in-Err-clause-copied
returns-in-Err-clause-copied g c = λ s d rows gives at. record {
  copies = search rules;
  dest_moments = leaves-all g.D.CardLink.chip _ _ c.args.dest.now c.begin.new.dest (λ n left is. inl is) (c.begin.ensures.begins d at).moments;
}

pub returns-in-Err-clause-leaves : goal.returns-in-Err-clause-leaves
returns-in-Err-clause-leaves g c = record {
  causes = search rules;
  source_goes_on = record { marked = refl; kept = g.met.S.CardLink.keeps_same c.args.source.now; goes = g.met.S.CardLink.goes_on_same c.args.source.now };
  dest_goes_on = c.begin.ensures.leaves.rest;
  shows = record {
    rows = 0;
    counted = dest-counted (Unit {0}) g.D.CardLink.is_live g.D.CardLink.faults c.in-Err.end 0 c.args.dest.now c.begin.new.dest c.in-Err.ensures.leaves.ends;
    shows = shows-none g.P.Person.lost g.P.Person.shown c.args.person.now;
  };
}

pub returns-in-Err-fill-clause-leaves : goal.returns-in-Err-fill-clause-leaves
returns-in-Err-fill-clause-leaves g c = record {
  causes = search rules;
  source_goes_on = c.fill.ensures.leaves.source_rest;
  dest_goes_on =
      rest-both g.D.CardLink.mark g.D.CardLink.keeps g.D.CardLink.goes_on c.args.dest.now c.begin.new.dest c.roll_back.new.dest (g.met.D.CardLink.keeps_then c.args.dest.now c.begin.new.dest c.roll_back.new.dest)
      (g.met.D.CardLink.goes_on_then c.args.dest.now c.begin.new.dest c.roll_back.new.dest) c.begin.ensures.leaves.rest
      (rest-both g.D.CardLink.mark g.D.CardLink.keeps g.D.CardLink.goes_on c.begin.new.dest c.fill.new.dest c.roll_back.new.dest (g.met.D.CardLink.keeps_then c.begin.new.dest c.fill.new.dest c.roll_back.new.dest)
      (g.met.D.CardLink.goes_on_then c.begin.new.dest c.fill.new.dest c.roll_back.new.dest) c.fill.ensures.leaves.dest_rest c.roll_back.ensures.rest);
  shows = record {
    rows = c.fill.ensures.shows.rows;
    counted = unless-mute (λ r. IsCounted r c.fill.ensures.shows.rows) c.roll_back.result tt (λ heard.
        subst (λ r. IsCounted r c.fill.ensures.shows.rows) (sym (c.roll_back.ensures.same heard))
        (goes-counted ℕ g.S.CardLink.is_live g.S.CardLink.faults g.D.CardLink.is_live g.D.CardLink.faults c.in-Err-fill.end c.fill.ensures.shows.rows c.args.source.now c.fill.new.source c.begin.new.dest c.fill.new.dest c.in-Err-fill.ensures.leaves.ends));
    shows = c.fill.ensures.shows.shows;
  };
}
