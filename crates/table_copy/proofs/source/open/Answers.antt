use Rattle.std.proofs.Common.{◌≡◌, Ok, Err, sym, ◌∙◌, subst, rules}
use Rattle.card_link.specs.Link.{Holds}
use Rattle.card_asking.proofs.Moments.{leaves-all, leaves-both}
use Rattle.card_asking.specs.Giving.{behind_step}
use Rattle.table_copy.specs.Copy.{source_rows}
use Rattle.table_copy.specs.Filling.{OpensSo}
use Rattle.table_copy.specs.declared.copy_end.CopyEnd.TheVariants.{SourceMute}
use Rattle.table_copy.proofs.Opening.{fetching-first, opens-both, opens-one}
use Rattle.table_copy.proofs.source.open.Goals as goal

pub returns-in_err-advance-clause-opens : goal.returns-in_err-advance-clause-opens
returns-in_err-advance-clause-opens g c = λ s object is can at.
    let same : c.from_residual.result ≡ Err c.in_err-advance.field-0.0 = search rules in
    let fetching = fetching-first s object can (g.met.L.CardLink.valid c.args.source.now s at) g.L.CardLink.is_at (record { plan = c.next_into.new.self; step = c.next_into.new.step }) c.args.source.now (rw is at c.next_into.ensures.next) at in
    record {
      comes =
          subst (λ r. OpensSo g.L.CardLink.is_at s (source_rows s object) c.advance.new.fetching.plan c.advance.new.fetching.step r c.advance.new.source) (c.in_err-advance.was ∙ sym same)
          (opens-one s object can (g.met.L.CardLink.valid c.args.source.now s at) g.L.CardLink.is_at (record { plan = c.next_into.new.self; step = c.next_into.new.step }) (rw is at c.next_into.ensures.next) c.args.fetching.now.reply c.args.source.now c.advance.result c.advance.new.fetching.plan c.advance.new.fetching.step c.advance.new.fetching.reply
          c.advance.new.source at c.advance.ensures.advances);
      moments =
          c.advance.ensures.still s fetching.last fetching.closing fetching.rows fetching.gives;
    }

pub returns-clause-opens : goal.returns-clause-opens
returns-clause-opens g c = λ s object is can at.
    let fetching = fetching-first s object can (g.met.L.CardLink.valid c.args.source.now s at) g.L.CardLink.is_at (record { plan = c.next_into.new.self; step = c.next_into.new.step }) c.args.source.now (rw is at c.next_into.ensures.next) at in
    let heard : c.advance.result ≡ Err SourceMute → ⊥ = λ mute. let no : Ok tt ≡ Err SourceMute = sym c.in_ok-advance.was ∙ mute in cc in
    record {
      comes =
          opens-both s object can (g.met.L.CardLink.valid c.args.source.now s at) g.L.CardLink.is_at (record { plan = c.next_into.new.self; step = c.next_into.new.step }) (rw is at c.next_into.ensures.next) c.args.fetching.now.reply c.args.source.now c.advance.result c.advance.new.fetching.plan c.advance.new.fetching.step c.advance.new.fetching.reply
          c.advance.new.source at c.advance.ensures.advances
          c.in_ok-advance.was c.advance-2.result c.advance-2.new.fetching.plan c.advance-2.new.fetching.step c.advance-2.new.fetching.reply c.advance-2.new.source
          c.advance-2.ensures.advances;
      moments =
          leaves-both g.L.CardLink.chip (Holds (g.L.CardLink.mark c.args.source.now) s.committed) c.args.source.now c.advance.new.source c.advance-2.new.source (c.advance.ensures.still s fetching.last fetching.closing fetching.rows fetching.gives)
          (leaves-all g.L.CardLink.chip (Holds (g.L.CardLink.mark c.advance.new.source) s.committed) (Holds (g.L.CardLink.mark c.args.source.now) s.committed) c.advance.new.source c.advance-2.new.source (λ n left is. (is.0 ∙ c.advance.ensures.leaves.rest.marked, is.1))
          (c.advance-2.ensures.still s fetching.last fetching.closing (behind_step c.next_into.new.step fetching.rows) (c.advance.ensures.advances.gives s fetching.last fetching.closing fetching.rows fetching.gives heard)));
    }
