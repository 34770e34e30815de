-- What a record of writes and of output tells: the image that they made, and each stretch of time.
use Rattle.std.specs.Prelude.{◌≡◌, ℕ, ◌+◌, ◌≤◌, suc, List, [], ◌∷◌, length, refl}
use Rattle.std.proofs.Common.{ap}
use Rattle.std.specs.Coded.{×_prop, Unit-prop, le_prop}
use Rattle.eeprom.specs.Chip.{Stretch, writing, giving}
use Rattle.eeprom.specs.Image.{overwrite}
use Rattle.eeprom.specs.declared.recording.Event.{Event}
use Rattle.eeprom.specs.declared.recording.Event.TheVariants.{Write, Give}

-- the image after these events
abbrev pub replayed : List ℕ → List Event → List ℕ
replayed image [] = image
replayed image (Write w ∷ events) = replayed (overwrite image w.at w.octets.items) events
replayed image (Give from to ∷ events) = replayed image events

-- each write lies within an image of this size
abbrev pub AllFit : ℕ → List Event → Type 0
AllFit size [] = Unit {0}
AllFit size (Write w ∷ events) = (w.at + length w.octets.items ≤ size) × AllFit size events
AllFit size (Give from to ∷ events) = AllFit size events

pub AllFit-prop : (size : ℕ) (events : List Event) → IsProp (AllFit size events)
AllFit-prop size [] = Unit-prop
AllFit-prop size (Write w ∷ events) = ×_prop le_prop (AllFit-prop size events)
AllFit-prop size (Give from to ∷ events) = AllFit-prop size events

-- the stretches of time from this image on
abbrev pub past_of : List ℕ → List Event → List Stretch
past_of image [] = []
past_of image (Write w ∷ events) =
    writing (record { image = image; at = w.at; count = length w.octets.items; mark = w.mark }) ∷ past_of (overwrite image w.at w.octets.items) events
past_of image (Give from to ∷ events) = giving image from to ∷ past_of image events

-- each event has a stretch
pub length-past_of : (image : List ℕ) (events : List Event) → length (past_of image events) ≡ length events
length-past_of image [] = refl
length-past_of image (Write w ∷ events) = ap suc (length-past_of (overwrite image w.at w.octets.items) events)
length-past_of image (Give from to ∷ events) = ap suc (length-past_of image events)
