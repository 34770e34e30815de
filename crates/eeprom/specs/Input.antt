-- What a source has left.
use Rattle.std.specs.Prelude.{◌≡◌, ℕ, ◌≤◌, List, [], ◌++◌, length, take, Option}
use Rattle.eeprom.specs.Chip.{Becomes}

-- the next so many octets are taken into the front of a buffer, or there is nothing left to take
pub record TakesPiece (count : ℕ) (into : List ℕ) (old new : Option (List ℕ)) : Type 0 where
  pub fits : count ≤ length into
  pub octets : Becomes (λ before after. (before ≡ take count into ++ after) × (count ≡ 0 → before ≡ [])) old new
