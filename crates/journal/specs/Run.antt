-- Neighbouring numbers behind the header, which wait to be written together.
use Rattle.std.specs.Prelude.{◌≡◌, ℕ, ◌+◌, ◌*◌, List, length, take, drop}
use Rattle.eeprom.specs.Image.{overwrite}
use Rattle.eeprom.specs.StoreOf.{header_size}

-- numbers from this one on, in octets: that of the first slot is at 0, and the journal's follow on those of the directory
pub record Numbers : Type 0 where
  pub index : ℕ
  pub octets : List ℕ

-- where the octets of a run go
abbrev pub place_of : Numbers → ℕ
place_of run = header_size + 2 * run.index

-- where they end
abbrev pub end_of : Numbers → ℕ
end_of run = place_of run + length run.octets

-- the image once the octets of a run are written
abbrev pub promised : Numbers → List ℕ → List ℕ
promised run image = overwrite image (place_of run) run.octets

-- all octets before a place and from another on are as they were
pub record SameOutside (from to : ℕ) (was left : List ℕ) : Type 0 where
  pub size : length left ≡ length was
  pub before : take from left ≡ take from was
  pub behind : drop to left ≡ drop to was
