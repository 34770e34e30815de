use Rattle.std.proofs.Common.{refl}
use Rattle.card_asking.proofs.Moments.{leaves-all}
use Rattle.table_copy.proofs.Transacting.{rollback-sent, rollback-moment, rolls-so}
use Rattle.table_copy.proofs.dest.roll_back.Goals as goal

pub ask-requires-clause-sendable : goal.ask-requires-clause-sendable
ask-requires-clause-sendable g c = rw c.asking.ensures rollback-sent

pub returns-in-Ok-clause-rolls : goal.returns-in-Ok-clause-rolls
returns-in-Ok-clause-rolls g c = λ d filling.
    let asked = (rw c.asking.ensures at c.in-Ok.ensures.asks) filling.copies.machine filling.copies.at in
    record {
      comes = λ _. rolls-so d filling.db filling.copies.machine filling.copies.copies g.L.CardLink.is_at c.ask.new.reply c.ask.new.link asked.answered;
      moments = leaves-all g.L.CardLink.chip _ _ c.args.dest.now c.ask.new.link (λ n left is. rollback-moment d filling.db filling.copies.machine filling.copies.copies (g.L.CardLink.mark c.args.dest.now) n left is) asked.moments;
    }

pub returns-in-Err-clause-rolls : goal.returns-in-Err-clause-rolls
returns-in-Err-clause-rolls g c = λ d filling. record {
  comes = λ heard. absurd (heard refl);
  moments = leaves-all g.L.CardLink.chip _ _ c.args.dest.now c.ask.new.link (λ n left is. rollback-moment d filling.db filling.copies.machine filling.copies.copies (g.L.CardLink.mark c.args.dest.now) n left is)
      ((rw c.asking.ensures at c.ask.ensures.asks) filling.copies.machine filling.copies.at).moments;
}
