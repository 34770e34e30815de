use Rattle.std.proofs.Common.{◌∷◌, refl, sym, ap, subst, inl, rules}
use Rattle.scql_model.specs.Database.{Database}
use Rattle.card_link.specs.Link.{Holds, IsOneOf, LeavesOpen}
use Rattle.card_asking.specs.Presenting.{presented}
use Rattle.card_asking.proofs.Calls.{rest-both}
use Rattle.card_asking.proofs.Moments.{leaves-all}
use Rattle.table_copy.specs.Copy.{Copy, copy}
use Rattle.table_copy.specs.Copying.{CopiesSo}
use Rattle.table_copy.proofs.Copied.{begun-moments}
use Rattle.copy_run.specs.Copies.{copy_to}
use Rattle.copy_run.proofs.Named.{copies-behind, copy_to-done, dest-refused}
use Rattle.copy_run.proofs.presenting.copy_to.Goals as goal

pub returns-in-Ok : goal.returns-in-Ok
returns-in-Ok g c = record {
  copied = λ s d source_at dest_at.
      let p = c.in-Ok.ensures.presents d dest_at in
      let made = (copy s (presented d c.args.names.now.dest_user).machine c.args.names.now.object c.args.names.now.table).commits in
      let copied = c.copy.ensures.copied s (presented d c.args.names.now.dest_user).machine source_at p.1.at in
      record {
        copies =
            subst (λ (x : Copy). CopiesSo g.D.CardLink.is_at d x c.copy.result c.copy.new.dest) (sym (copy_to-done s d c.args.names.now p.0))
            (copies-behind g.D.CardLink.is_at d (presented d c.args.names.now.dest_user).machine (copy s (presented d c.args.names.now.dest_user).machine c.args.names.now.object c.args.names.now.table) c.copy.result c.copy.new.dest p.1.like copied.copies);
        dest_moments =
            begun-moments g.D.CardLink.chip g.D.CardLink.mark d.committed (copy_to s d c.args.names.now).commits made c.args.dest.now c.present.new.link c.copy.new.dest (ap (λ (x : Copy). x.commits) (copy_to-done s d c.args.names.now p.0)) c.present.ensures.rest.marked
            (c.present.ensures.moments d dest_at)
            (subst (λ (db : Database). LeavesOpen (IsOneOf (g.D.CardLink.mark c.present.new.link) (db ∷ made)) (g.D.CardLink.chip c.present.new.link) (g.D.CardLink.chip c.copy.new.dest)) p.1.like.committed copied.dest_moments);
      };
  undone = search rules;
  read = search rules;
  leaves = record {
    causes = search rules;
    source_goes_on = c.copy.ensures.leaves.source_goes_on;
    dest_goes_on =
        rest-both g.D.CardLink.mark g.D.CardLink.keeps g.D.CardLink.goes_on c.args.dest.now c.present.new.link c.copy.new.dest (g.met.D.CardLink.keeps_then c.args.dest.now c.present.new.link c.copy.new.dest)
        (g.met.D.CardLink.goes_on_then c.args.dest.now c.present.new.link c.copy.new.dest) c.present.ensures.rest c.copy.ensures.leaves.dest_goes_on;
    shows = c.copy.ensures.leaves.shows;
  };
}

pub returns-in-Err-Refused : goal.returns-in-Err-Refused
returns-in-Err-Refused g c = record {
  copied = λ s d source_at dest_at.
      let p = rw c.in-Err-Refused.field-0-is at (c.in-Err-Refused.ensures.presents d dest_at) in
      record {
        copies = dest-refused g.D.CardLink.is_at s d c.args.names.now c.in-Err-Refused.word c.present.new.link p.0 p.1 p.2;
        dest_moments = leaves-all g.D.CardLink.chip (Holds (g.D.CardLink.mark c.args.dest.now) d.committed) _ c.args.dest.now c.present.new.link (λ n left is. inl is) (c.present.ensures.moments d dest_at);
      };
  undone = search rules;
  read = search rules;
  leaves = record {
    causes = search rules;
    source_goes_on = record { marked = refl; kept = g.met.S.CardLink.keeps_same c.args.source.now; goes = g.met.S.CardLink.goes_on_same c.args.source.now };
    dest_goes_on = c.present.ensures.rest;
    shows = search rules;
  };
}

pub returns-in-Err-Mute : goal.returns-in-Err-Mute
returns-in-Err-Mute g c = record {
  copied = λ s d source_at dest_at. record {
    copies = search rules;
    dest_moments = leaves-all g.D.CardLink.chip (Holds (g.D.CardLink.mark c.args.dest.now) d.committed) _ c.args.dest.now c.present.new.link (λ n left is. inl is) (c.present.ensures.moments d dest_at);
  };
  undone = search rules;
  read = search rules;
  leaves = record {
    causes = search rules;
    source_goes_on = record { marked = refl; kept = g.met.S.CardLink.keeps_same c.args.source.now; goes = g.met.S.CardLink.goes_on_same c.args.source.now };
    dest_goes_on = c.present.ensures.rest;
    shows = search rules;
  };
}
