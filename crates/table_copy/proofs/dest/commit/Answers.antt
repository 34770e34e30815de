use Rattle.std.proofs.Common.{rules}
use Rattle.card_asking.proofs.Moments.{leaves-all}
use Rattle.table_copy.specs.Filling.{CommitsSo}
use Rattle.table_copy.proofs.Ending.{unless-dest_mute}
use Rattle.table_copy.proofs.Transacting.{commit-sent, commit-moment, commits-so}
use Rattle.table_copy.proofs.dest.commit.Goals as goal

pub put-requires : goal.put-requires
put-requires g c = record { live = search rules; sendable = rw c.asking.ensures commit-sent }

pub returns : goal.returns
returns g c = record {
  commits = λ d db copies.
      record {
        comes =
            unless-dest_mute (λ r. CommitsSo g.L.CardLink.is_at d db r c.put.new.dest) c.put.result tt (λ heard.
            commits-so d db copies.machine copies.copies g.L.CardLink.is_at c.put.new.reply c.put.new.dest c.put.result (((rw c.asking.ensures at c.put.ensures.answers) copies.machine copies.at).comes heard)
            (c.put.ensures.done heard));
        moments =
            leaves-all g.L.CardLink.chip _ _ c.args.dest.now c.put.new.dest (λ n left is. commit-moment d db copies.machine copies.copies (g.L.CardLink.mark c.args.dest.now) n left is)
            ((rw c.asking.ensures at c.put.ensures.answers) copies.machine copies.at).moments;
      };
  leaves = search rules;
}
