-- A card together with the bench that it owns.
use Rattle.card.specs.Card.{Kept}

-- the card, and the bench as it is now
pub record InSlot (B : Type 0) : Type 0 where
  pub card : Kept
  pub bench : B
