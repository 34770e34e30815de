use Rattle.std.proofs.Common.{◌∷◌, refl, sym, subst, inl, rules}
use Rattle.card_link.specs.Link.{IsOneOf}
use Rattle.card_asking.proofs.Calls.{rest-both}
use Rattle.card_asking.proofs.Moments.{leaves-none}
use Rattle.table_copy.specs.Copy.{Copy}
use Rattle.table_copy.specs.Leaving.{CopiesOver}
use Rattle.copy_run.specs.Copies.{copy_for}
use Rattle.copy_run.proofs.Named.{copy_for-done, source-refused}
use Rattle.copy_run.proofs.presenting.copy_for.Goals as goal

pub returns-in-Ok : goal.returns-in-Ok
returns-in-Ok g c = record {
  copied = λ s d source_at dest_at.
      let p = c.in-Ok.ensures.presents s source_at in
      subst (λ (x : Copy). CopiesOver g.D.CardLink.is_at g.D.CardLink.mark g.D.CardLink.chip d x c.copy_to.result c.args.dest.now c.copy_to.new.dest) (sym (copy_for-done s d c.args.names.now p.0))
      (c.copy_to.ensures.copied _ d p.1.at dest_at);
  undone = search rules;
  read = search rules;
  leaves = record {
    causes = search rules;
    source_goes_on =
        rest-both g.S.CardLink.mark g.S.CardLink.keeps g.S.CardLink.goes_on c.args.source.now c.present.new.link c.copy_to.new.source (g.met.S.CardLink.keeps_then c.args.source.now c.present.new.link c.copy_to.new.source)
        (g.met.S.CardLink.goes_on_then c.args.source.now c.present.new.link c.copy_to.new.source) c.present.ensures.rest c.copy_to.ensures.leaves.source_goes_on;
    dest_goes_on = c.copy_to.ensures.leaves.dest_goes_on;
    shows = c.copy_to.ensures.leaves.shows;
  };
}

pub returns-in-Err-Refused : goal.returns-in-Err-Refused
returns-in-Err-Refused g c = record {
  copied = λ s d source_at dest_at.
      let p = rw c.in-Err-Refused.field-0-is at (c.in-Err-Refused.ensures.presents s source_at) in
      record {
        copies = source-refused g.D.CardLink.is_at s d c.args.names.now c.in-Err-Refused.word c.args.dest.now p.0 p.1 dest_at;
        dest_moments =
            leaves-none g.D.CardLink.chip g.D.CardLink.mark (IsOneOf (g.D.CardLink.mark c.args.dest.now) (d.committed ∷ (copy_for s d c.args.names.now).commits)) c.args.dest.now d.committed (g.met.D.CardLink.marks c.args.dest.now)
            (g.met.D.CardLink.opens c.args.dest.now d dest_at) (inl (refl, refl));
      };
  undone = search rules;
  read = search rules;
  leaves = record {
    causes = search rules;
    source_goes_on = c.present.ensures.rest;
    dest_goes_on = record { marked = refl; kept = g.met.D.CardLink.keeps_same c.args.dest.now; goes = g.met.D.CardLink.goes_on_same c.args.dest.now };
    shows = search rules;
  };
}

pub returns-in-Err-Mute : goal.returns-in-Err-Mute
returns-in-Err-Mute g c = record {
  copied = λ s d source_at dest_at. record {
    copies = search rules;
    dest_moments =
        leaves-none g.D.CardLink.chip g.D.CardLink.mark (IsOneOf (g.D.CardLink.mark c.args.dest.now) (d.committed ∷ (copy_for s d c.args.names.now).commits)) c.args.dest.now d.committed (g.met.D.CardLink.marks c.args.dest.now)
        (g.met.D.CardLink.opens c.args.dest.now d dest_at) (inl (refl, refl));
  };
  undone = search rules;
  read = search rules;
  leaves = record {
    causes = search rules;
    source_goes_on = c.present.ensures.rest;
    dest_goes_on = record { marked = refl; kept = g.met.D.CardLink.keeps_same c.args.dest.now; goes = g.met.D.CardLink.goes_on_same c.args.dest.now };
    shows = search rules;
  };
}
