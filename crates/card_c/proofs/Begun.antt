-- A card stays where it is when log and text are begun anew.
use Rattle.std.proofs.Common.{◌≡◌, ℕ, Some, ap, length, subst, sym}
use Rattle.card.specs.Card.{IsReady, Kept}
use Rattle.card.specs.CardLaws.{IsAt-given, IsReady-given}
use Rattle.card.specs.LiveCard.{IsReadyAt}
use Rattle.line_bench.specs.LineBench.{chip_of, image_of}
use Rattle.line_bench.specs.declared.line_bench.LineBench.{LineBench}
use Rattle.scql_model.specs.Machine.{Machine}
use Rattle.card_c.specs.OnLog.{IsBegun, IsDeskAt, OnLog}

pub ready-begun : (card : Kept) (old new : LineBench) → image_of new ≡ image_of old → IsReady card (chip_of old) → IsReady card (chip_of new)
ready-begun card old new same ready = IsReady-given card (chip_of old) (chip_of new) (ap Some same) (ap length same) ready

pub at-begun : {octets : ℕ} (old new : OnLog) (m : Machine) → IsBegun octets old new → IsDeskAt old m → IsDeskAt new m
at-begun old new m begun at = subst (λ (card : Kept). IsReadyAt card (chip_of new.bench) m) (sym begun.card) (record {
  ready = ready-begun old.card old.bench new.bench begun.bench.image at.ready;
  at = IsAt-given old.card (chip_of old.bench) (chip_of new.bench) (ap Some begun.bench.image) m at.at;
})
