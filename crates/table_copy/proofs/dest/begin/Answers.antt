use Rattle.card_asking.proofs.Moments.{leaves-all}
use Rattle.table_copy.specs.Copy.{may_begin}
use Rattle.table_copy.specs.Filling.{BeginsSo}
use Rattle.card_asking.proofs.Moments.{one-alone}
use Rattle.table_copy.proofs.Ending.{unless-dest_mute}
use Rattle.table_copy.proofs.Transacting.{begin-sent, begin-silent, begins-so}
use Rattle.std.proofs.Common.{refl, rules}
use Rattle.table_copy.proofs.dest.begin.Goals as goal

pub put-requires : goal.put-requires
put-requires g c = record { live = search rules; sendable = rw c.asking.ensures begin-sent }

pub returns : goal.returns
returns g c = record {
  begins = λ d at.
      record {
        comes =
            unless-dest_mute (λ r. BeginsSo g.L.CardLink.is_at d (may_begin d) r c.put.new.dest) c.put.result tt (λ heard.
            begins-so g.L.CardLink.is_at d c.put.new.reply c.put.result c.put.new.dest (((rw c.asking.ensures at c.put.ensures.answers) d at).comes heard) (c.put.ensures.done heard) (g.met.L.CardLink.valid c.args.dest.now d at).basic);
        moments =
            leaves-all g.L.CardLink.chip _ _ c.args.dest.now c.put.new.dest (λ n left is. one-alone (g.L.CardLink.mark c.args.dest.now) d.committed d.committed _ n left (begin-silent d) refl is)
            ((rw c.asking.ensures at c.put.ensures.answers) d at).moments;
      };
  leaves = search rules;
}
