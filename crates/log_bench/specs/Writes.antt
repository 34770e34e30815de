-- Writes one after another: what they make of an image, and what is left where whoever makes them is cut off.
use Rattle.std.specs.Prelude.{◌≡◌, ◌⊎◌, ℕ, ◌+◌, ◌≤◌, suc, List, [], ◌∷◌, length, refl}
use Rattle.std.proofs.Common.{ap}
use Rattle.std.specs.Coded.{×_prop, Unit-prop, le_prop}
use Rattle.eeprom.specs.Chip.{Stretch, writing}
use Rattle.eeprom.specs.Image.{overwrite, IsTorn}

-- octets that were written at a place, and those that stood there
pub record Write : Type 0 where
  pub at : ℕ
  pub octets : List ℕ
  pub replaced : List ℕ

-- the image after these writes, in their order
abbrev pub applied : List Write → List ℕ → List ℕ
applied [] image = image
applied (w ∷ writes) image = applied writes (overwrite image w.at w.octets)

-- the image before them: what they replaced is put back, from the last to the first
abbrev pub undone : List Write → List ℕ → List ℕ
undone [] image = image
undone (w ∷ writes) image = overwrite (undone writes image) w.at w.replaced

-- Whoever makes these writes to an image, in their order, and is cut off at any moment may leave this: the image as it was, one with any octets
-- in the range of the first, or what is left of those behind it.
abbrev pub MayBeCutTo : List Write → List ℕ → List ℕ → Type 0
MayBeCutTo [] image left = left ≡ image
MayBeCutTo (w ∷ writes) image left =
    (left ≡ image) ⊎ (IsTorn image w.at (length w.octets) left ⊎ MayBeCutTo writes (overwrite image w.at w.octets) left)

-- each of them lies within an image of this size
abbrev pub AllFit : ℕ → List Write → Type 0
AllFit size [] = Unit {0}
AllFit size (w ∷ writes) = (w.at + length w.octets ≤ size) × AllFit size writes

pub AllFit-prop : (size : ℕ) (writes : List Write) → IsProp (AllFit size writes)
AllFit-prop size [] = Unit-prop
AllFit-prop size (w ∷ writes) = ×_prop le_prop (AllFit-prop size writes)

-- their stretches of time, from this image on, at a mark
abbrev pub stretches : ℕ → List Write → List ℕ → List Stretch
stretches mark [] image = []
stretches mark (w ∷ writes) image =
    writing (record { image = image; at = w.at; count = length w.octets; mark = mark }) ∷ stretches mark writes (overwrite image w.at w.octets)

-- each write has a stretch
pub length-stretches : (mark : ℕ) (writes : List Write) (image : List ℕ) → length (stretches mark writes image) ≡ length writes
length-stretches mark [] image = refl
length-stretches mark (w ∷ writes) image = ap suc (length-stretches mark writes (overwrite image w.at w.octets))
