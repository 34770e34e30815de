use Rattle.std.proofs.Common.{[], ◌∷◌, inl, rules}
use Rattle.card_link.specs.Link.{Holds, IsOneOf}
use Rattle.card_asking.proofs.Moments.{leaves-all, leaves-both}
use Rattle.table_copy.specs.Filling.{IsCommitted, IsFilled, commits_by}
use Rattle.table_copy.proofs.Turning.{fill-fills, fill-moment, fill-turns, reads-stayed, turns-ended}
use Rattle.table_copy.proofs.copying.fill.Goals as goal

pub returns-in-Ok : goal.returns-in-Ok
returns-in-Ok g c = record {
  turns = λ s d count total together.
      let f = c.in-Ok.ensures.turns s d count total together in
      record {
        comes =
            rw c.counted.ensures
            (fill-turns g.D.CardLink.is_at d count total c.in-Ok.rows c.insert_rows.new.dest c.commit.new.dest f c.commit.result (c.commit.ensures.commits d f.db f.copies).comes);
        moments =
            leaves-both g.D.CardLink.chip (IsOneOf (g.D.CardLink.mark c.args.dest.now) (d.committed ∷ commits_by total)) c.args.dest.now c.insert_rows.new.dest c.commit.new.dest
            (leaves-all g.D.CardLink.chip (Holds (g.D.CardLink.mark c.args.dest.now) d.committed) (IsOneOf (g.D.CardLink.mark c.args.dest.now) (d.committed ∷ commits_by total)) c.args.dest.now c.insert_rows.new.dest (λ n left is. inl is) (c.insert_rows.ensures.fills d (record { db = together.db; copies = together.copies })).moments)
            (leaves-all g.D.CardLink.chip (IsOneOf (g.D.CardLink.mark c.insert_rows.new.dest) (d.committed ∷ f.db ∷ [])) (IsOneOf (g.D.CardLink.mark c.args.dest.now) (d.committed ∷ commits_by total)) c.insert_rows.new.dest c.commit.new.dest
            (λ n left is. fill-moment (g.D.CardLink.mark c.args.dest.now) (g.D.CardLink.mark c.insert_rows.new.dest) d.committed f.db total n left c.insert_rows.ensures.leaves.dest_rest.marked f.made is)
            (c.commit.ensures.commits d f.db f.copies).moments);
      };
  reads = λ s fetching. record {
    reads = reads-stayed g.S.CardLink.is_at s c.counted.result c.insert_rows.new.source (c.in-Ok.ensures.reads s fetching).reads;
    still = (c.insert_rows.ensures.reads s fetching).still;
  };
  fills = λ d filling.
      let f = (c.in-Ok.ensures.fills d filling).fills (λ is. absurd cc) in
      rw c.counted.ensures
      (fill-fills g.D.CardLink.is_at d f.db c.in-Ok.rows c.commit.new.dest c.commit.result (c.commit.ensures.commits d f.db f.copies).comes);
  leaves = search rules;
  shows = search rules;
}

pub returns-in-Err : goal.returns-in-Err
returns-in-Err g c = record {
  turns = λ s d count total together.
      record {
        comes =
            turns-ended (λ number. IsFilled g.D.CardLink.is_at d count total number c.insert_rows.new.dest) (λ number. IsCommitted g.D.CardLink.is_at d count total number c.insert_rows.new.dest) total c.in-Err.end
            (c.in-Err.ensures.turns s d count total together);
        moments =
            leaves-all g.D.CardLink.chip (Holds (g.D.CardLink.mark c.args.dest.now) d.committed) (IsOneOf (g.D.CardLink.mark c.args.dest.now) (d.committed ∷ commits_by total)) c.args.dest.now c.insert_rows.new.dest (λ n left is. inl is) (c.insert_rows.ensures.fills d (record { db = together.db; copies = together.copies })).moments;
      };
  reads = search rules;
  fills = search rules;
  leaves = search rules;
  shows = search rules;
}
