-- What sources in memory have left, and how much of it a read takes.
use Rattle.std.specs.Prelude.{ℕ, min, List, drop, length}
use Rattle.eeprom.specs.Planned.{Planned, calls_of}
use Rattle.eeprom.specs.declared.sources.Pieces.{Pieces}
use Rattle.eeprom.specs.declared.sources.MemSource.{MemSource}
use Rattle.eeprom.specs.declared.sources.SteadySource.{SteadySource}

abbrev pub left_of : Pieces → List ℕ
left_of pieces = drop pieces.taken pieces.octets.items

-- what is left, and how many octets a read takes at most
pub record Supply : Type 0 where
  pub left : List ℕ
  pub piece : ℕ

abbrev pub supply_of : Pieces → Supply
supply_of pieces = record { left = left_of pieces; piece = pieces.piece }

-- how many octets a read takes that has so much room: all that are left, up to a piece
abbrev pub taken_into : ℕ → Supply → ℕ
taken_into room supply = min (min (length supply.left) supply.piece) room

abbrev pub mem_supply : MemSource → Supply
mem_supply source = supply_of source.pieces

abbrev pub mem_reads : MemSource → Planned
mem_reads source = calls_of source.reads

abbrev pub mem_faults : MemSource → ℕ
mem_faults source = source.faults

abbrev pub steady_supply : SteadySource → Supply
steady_supply source = supply_of source.pieces
