-- Lemmas, in specs/ since the ghost members of the desk cite them: output leaves the card at its machine, and the image at each moment.
use Rattle.std.proofs.Common.{Some, length, refl, ap, sym, subst, arith, length-append}
use Rattle.eeprom.proofs.Moments.{throughout-weaker}
use Rattle.card_link.specs.Link.{AfterOutput}
use Rattle.card.specs.Card.{Kept}
use Rattle.card.specs.CardLaws.{IsAt-given, IsReady-given, Opens-at}
use Rattle.card.specs.LiveCard.{IsReadyAt}
use Rattle.log_bench.specs.LogBench.{image_of as log_image}
use Rattle.log_bench.specs.declared.log_bench.LogBench.{LogBench}
use Rattle.line_bench.specs.LineBench.{chip_of, text_of}
use Rattle.line_bench.proofs.Told.{left-text}
use Rattle.card_c.specs.OnLog.{IsDeskAt, LeavesCard, OnLog, desk_chip, faults_of, is_live, mark_of}

pub gives-kept : (old new : OnLog) → LeavesCard old new → AfterOutput IsDeskAt is_live faults_of mark_of desk_chip old new
gives-kept old new left =
    let image = ap (λ (log : LogBench). Some (log_image log)) left.1.log in
    let size = ap (λ (log : LogBench). length (log_image log)) left.1.log in
    record {
      machine = λ m at. subst (λ (card : Kept). IsReadyAt card (chip_of new.bench) m) (sym left.0) (record {
        ready = IsReady-given old.card (chip_of old.bench) (chip_of new.bench) image size at.ready;
        at = IsAt-given old.card (chip_of old.bench) (chip_of new.bench) image m at.at;
      });
      live = ap (λ (card : Kept). card.live) left.0;
      faults = left.1.faults;
      later = omega (arith, ap length left.1.text, length-append (text_of old.bench) left.1.more);
      moments = λ m at. throughout-weaker (chip_of old.bench) (chip_of new.bench) _ _ (left-text old.bench new.bench left.1)
          (λ g left during. (m.committed, Opens-at old.card (chip_of old.bench) m at.ready at.at left (ap Some (sym during.2)), record { above = during.0; below = during.1; same = refl }));
    }
