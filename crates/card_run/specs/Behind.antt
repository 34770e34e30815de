-- What lies behind the image of a run's card.
use Rattle.std.specs.Prelude.{◌≡◌, ℕ, List, IsTrue}
use Rattle.eeprom.specs.Chip.{Chip}
use Rattle.card.specs.Behind.{KeepsBehind, own_cells}
use Rattle.card.specs.Card.{Kept}
use Rattle.card_run.specs.declared.words.Form.{Form}
use Rattle.card_run.specs.declared.words.Form.TheVariants.{New}

-- how many cells the card of a run of this form has: those that a new card is to have, or those that the image says that is there
abbrev pub run_cells : Form → List ℕ → ℕ
run_cells (New n) was = n
run_cells form was = own_cells was

-- A card that answers still has its number of cells, and nothing is written behind its image.
pub record StaysBehind (was now : Kept) (old new : Chip) : Type 0 where
  pub cells : IsTrue now.live → now.store.chains.cells ≡ was.store.chains.cells
  pub behind : KeepsBehind (λ image. was.store.chains.cells) old new
