-- What a device in memory tells of itself, and what one more write or piece of output makes of it.
use Rattle.std.specs.Prelude.{ℕ, ◌+◌, List, [], ◌∷◌, ◌++◌, length, replicate, nat_lt, if◌then◌else◌, Option, Some, None}
use Rattle.eeprom.specs.Chip.{Chip, Stretch, Writing, writing, giving}
use Rattle.eeprom.specs.Image.{overwrite}

pub record Told : Type 0 where
  pub image : List ℕ
  pub output : List ℕ
  -- each stretch of time, and how many there are
  pub past : List Stretch
  pub clock : ℕ

-- nothing was written or given
abbrev pub untouched : List ℕ → Told
untouched image = record { image = image; output = []; past = []; clock = 0 }

-- these octets were written at this place
abbrev pub with_write : ℕ → List ℕ → Told → Told
with_write at octets old = record {
  image = overwrite old.image at octets;
  output = old.output;
  past = old.past ++ writing (record { image = old.image; at = at; count = length octets; mark = length old.output }) ∷ [];
  clock = old.clock + 1;
}

-- this piece of output was given
abbrev pub with_output : List ℕ → Told → Told
with_output octets old = record {
  image = old.image;
  output = old.output ++ octets;
  past = old.past ++ giving old.image (length old.output) (length (old.output ++ octets)) ∷ [];
  clock = old.clock + 1;
}

-- a count as far as it is kept, below the last value of a u128
abbrev pub told_count : ℕ → Option ℕ
told_count count = if nat_lt count 340282366920938463463374607431768211455 then Some count else None

-- the EEPROM of a device that tells this, after so many octets written and so many faults of its outlet
abbrev pub chip_from : Told → ℕ → ℕ → Chip
chip_from told written sink_faults = record {
  still = record { size = length told.image; mark = length told.output; given = Some told.output; sink_faults = sink_faults };
  image = Some told.image;
  written = told_count written;
  clock = told.clock;
  past = Some told.past;
}

-- the writes among the stretches of time
abbrev pub writes_of : List Stretch → List Writing
writes_of [] = []
writes_of (writing w ∷ past) = w ∷ writes_of past
writes_of (giving image from to ∷ past) = writes_of past

-- the image of a write with one octet in its whole range
abbrev pub filled : ℕ → Writing → List ℕ
filled octet w = overwrite w.image w.at (replicate w.count octet)
