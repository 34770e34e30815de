-- What a real file tells of itself as an EEPROM.
use Rattle.std.specs.Prelude.{ℕ, None}
use Rattle.eeprom.specs.Chip.{Chip}
use Rattle.file_bench.specs.declared.file_bench.TheConstants.{FILE_SIZE}

-- an EEPROM of fixed size that tells no contents, beside an outlet that failed so often
abbrev pub file_chip : ℕ → Chip
file_chip sink_faults = record {
  still = record { size = FILE_SIZE; mark = 0; given = None; sink_faults = sink_faults };
  image = None;
  written = None;
  clock = 0;
  past = None;
}
