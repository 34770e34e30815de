-- What lies behind the image of a card.
use Rattle.std.specs.Prelude.{◌≡◌, ℕ, List, drop, Some}
use Rattle.eeprom.specs.Chip.{Chip, Throughout}
use Rattle.eeprom.specs.StoreOf.{image_size, number_at}

-- the number of cells in the header of an image
abbrev pub own_cells : List ℕ → ℕ
own_cells image = number_at image 6

-- At each moment from old on to new the octets behind an image of so many cells, as the old image tells them, are as they were. Output may go out meanwhile.
abbrev pub KeepsBehind : (List ℕ → ℕ) → Chip → Chip → Type 0
KeepsBehind cells old new = Throughout old new (λ g left. (was : List ℕ) × (old.image ≡ Some was) × (drop (image_size (cells was)) left ≡ drop (image_size (cells was)) was))
