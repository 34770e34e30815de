-- What a record of steps tells that keeps the octets which each write replaced: every image before the one that is there now.
use Rattle.std.specs.Prelude.{◌≡◌, ℕ, ◌+◌, suc, Bool, List, [], ◌∷◌, length, take, drop, if◌then◌else◌, Option, Some, None, refl}
use Rattle.std.proofs.Common.{ap}
use Rattle.eeprom.specs.Chip.{Stretch, writing, giving}
use Rattle.eeprom.specs.Image.{overwrite}
use Rattle.eeprom.specs.declared.steady_bench.Step.{Step}
use Rattle.eeprom.specs.declared.steady_bench.Step.TheVariants.{Write, Give}

-- how many octets these steps replaced
abbrev pub replacing : List Step → ℕ
replacing [] = 0
replacing (Write at count mark ∷ steps) = count + replacing steps
replacing (Give from to ∷ steps) = replacing steps

-- the image before these steps, whose replaced octets are put back from the last step to the first
abbrev pub image_before : List Step → List ℕ → List ℕ → List ℕ
image_before [] replaced image = image
image_before (Write at count mark ∷ steps) replaced image = overwrite (image_before steps (drop count replaced) image) at (take count replaced)
image_before (Give from to ∷ steps) replaced image = image_before steps replaced image

-- the stretches of time of these steps, which led to this image
abbrev pub stretches_of : List Step → List ℕ → List ℕ → List Stretch
stretches_of [] replaced image = []
stretches_of (Write at count mark ∷ steps) replaced image =
    writing (record { image = image_before (Write at count mark ∷ steps) replaced image; at = at; count = count; mark = mark }) ∷ stretches_of steps (drop count replaced) image
stretches_of (Give from to ∷ steps) replaced image = giving (image_before steps replaced image) from to ∷ stretches_of steps replaced image

-- the stretches, where neither the output nor the writes overran their room
abbrev pub told_past : Bool → Bool → List Step → List ℕ → List ℕ → Option (List Stretch)
told_past output_overrun writes_overrun steps replaced image = if output_overrun then None else (if writes_overrun then None else Some (stretches_of steps replaced image))

-- each step has a stretch
pub length-stretches_of : (steps : List Step) (replaced image : List ℕ) → length (stretches_of steps replaced image) ≡ length steps
length-stretches_of [] replaced image = refl
length-stretches_of (Write at count mark ∷ steps) replaced image = ap suc (length-stretches_of steps (drop count replaced) image)
length-stretches_of (Give from to ∷ steps) replaced image = ap suc (length-stretches_of steps replaced image)
