-- What an EEPROM in memory tells of itself.
use Rattle.std.specs.Prelude.{ℕ, List, Some, None}
use Rattle.eeprom.specs.Chip.{Chip}
use Rattle.ram_card.specs.declared.ram.TheConstants.{RAM_SIZE}

-- its image, and no moments, beside an outlet that failed so often and doesn't tell what was given
abbrev pub ram_chip : List ℕ → ℕ → Chip
ram_chip image sink_faults = record {
  still = record { size = RAM_SIZE; mark = 0; given = None; sink_faults = sink_faults };
  image = Some image;
  written = None;
  clock = 0;
  past = None;
}
