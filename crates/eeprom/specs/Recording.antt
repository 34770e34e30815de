-- What a recording tells.
use Rattle.std.specs.Prelude.{◌≡◌, ℕ, List, length, Result, OnOk, OnErr}
use Rattle.eeprom.specs.Recorded.{past_of}
use Rattle.eeprom.specs.Told.{Told}
use Rattle.eeprom.specs.declared.recording.Event.{Event}
use Rattle.eeprom.specs.declared.recording.Recording.{Recording}

-- what is told by the first image, the image now, the output and the events
abbrev pub tells : List ℕ → List ℕ → List ℕ → List Event → Told
tells first image output events = record { image = image; output = output; past = past_of first events; clock = length events }

abbrev pub told : Recording → Told
told r = tells r.first.items r.image.items r.output.items r.events.items

-- A step was recorded, or there was no room for its record and nothing was done.
pub record Records {T E : Type 0} (step : Told → Told) (old new : Recording) (result : Result T E) : Type 0 where
  pub ok : OnOk result (told new ≡ step (told old))
  pub err : OnErr result (told new ≡ told old)
