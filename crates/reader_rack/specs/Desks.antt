-- A link and an outlet, of which no moments are told.
use Rattle.std.specs.Prelude.{None}
use Rattle.eeprom.specs.Chip.{Chip}

-- of this EEPROM nothing is told
abbrev pub untold : Chip
untold = record { still = record { size = 0; mark = 0; given = None; sink_faults = 0 }; image = None; written = None; clock = 0; past = None }
