-- A card in a link answers a command: the moments are those of the card that the link is seen to have.
use Rattle.std.proofs.Common.{◌≡◌, ◌∷◌, ℕ, List, subst}
use Rattle.eeprom.specs.Chip.{Chip}
use Rattle.scql_model.specs.Machine.{Machine}
use Rattle.scql_model.specs.Step.{step}
use Rattle.card_link.specs.Link.{IsOneOf, LeavesOpen}
use Rattle.record_table.specs.AtRest.{LeavesOneOf}
use Rattle.card.specs.Card.{Kept, IsAt}
use Rattle.card.specs.LiveCard.{IsReadyAt}
use Rattle.card.specs.LiveCardLaws.{opens-answered}

pub opens-seen : {L : Type 0} (card : L → Kept) (chip : L → Chip) (m : Machine) (octets : List ℕ) (seen old : L) (new : Chip) → seen ≡ old
    → (IsAt (card seen) (chip seen) m → LeavesOneOf (m.committed ∷ (step m octets).commits) (chip seen) new) → IsReadyAt (card old) (chip old) m
    → LeavesOpen (IsOneOf (chip old).still.mark (m.committed ∷ (step m octets).commits)) (chip old) new
opens-seen {L} card chip m octets seen old new is leaves at =
    opens-answered (m.committed ∷ (step m octets).commits) (chip old) new
    (subst (λ (l : L). IsAt (card l) (chip l) m → LeavesOneOf (m.committed ∷ (step m octets).commits) (chip l) new) is leaves at.at)
