-- The records of a card in one pool of octets, by the places where they begin.
use Rattle.std.specs.Prelude.{◌≡◌, ℕ, ◌+◌, ◌*◌, ◌≤◌, List, length, Option, Some, option_map, slice_range}
use Rattle.std.specs.List.{filter_map, AllByRecursion}
use Rattle.card.specs.declared.kept_record.KeptRecord.{KeptRecord}
use Rattle.card.specs.declared.kept_records.RecordPlace.{RecordPlace}
use Rattle.card.specs.KeptRecords.{stamp_of}
use Rattle.card.specs.Opening.{record_in}

-- records, how many octets they have together, and for how many cells there is room
pub record Pool : Type 0 where
  pub items : List KeptRecord
  pub size : ℕ
  pub cells : ℕ

-- the record in a place of the pool
abbrev pub record_at : List ℕ → RecordPlace → Option KeptRecord
record_at octets place = record_in place.slot (slice_range octets place.start (place.start + place.length))

-- what a pool has
abbrev pub pool_of : List ℕ → List RecordPlace → ℕ → Pool
pool_of octets places cells = record { items = filter_map (record_at octets) places; size = length octets; cells = cells }

-- the place is within the pool, and has a record of its stamp
pub record IsPlaceIn (octets : List ℕ) (place : RecordPlace) : Type 0 where
  pub within : place.start + place.length ≤ length octets
  pub stamped : option_map stamp_of (record_at octets place) ≡ Some place.stamp

-- each place has a record, and there is room for those of all cells
pub record IsPool (octets : List ℕ) (places : List RecordPlace) (capacity cells : ℕ) : Type 0 where
  pub all : AllByRecursion (IsPlaceIn octets) places
  pub room : 30 * cells ≤ capacity
  pub few : cells ≤ 65535
