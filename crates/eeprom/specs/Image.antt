-- Octets of an image, and what a write makes of them.
use Rattle.std.specs.Prelude.{◌≡◌, ℕ, ◌+◌, List, ◌++◌, length, take, drop}

-- the image with these octets written at this place
abbrev pub overwrite : List ℕ → ℕ → List ℕ → List ℕ
overwrite image at octets = take at image ++ (octets ++ drop (at + length octets) image)

-- what a write that was cut short may leave: any octets in its range, the same elsewhere
pub record IsTorn (image : List ℕ) (at count : ℕ) (left : List ℕ) : Type 0 where
  pub octets : List ℕ
  pub count_is : length octets ≡ count
  pub is : left ≡ overwrite image at octets

-- all of an image but so many octets from a place on
abbrev pub outside : ℕ → ℕ → List ℕ → List ℕ × List ℕ
outside at count image = (take at image, drop (at + count) image)
