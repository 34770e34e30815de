-- What the records of a database must meet, of whatever kind: they have room, a length that a store takes, and stamps of their own.
use Rattle.std.specs.Prelude.{◌≡◌, ℕ, ◌+◌, ◌≤◌, nat_le, nat_lt, ◌&&◌, Bool, true, List, length}
use Rattle.std.specs.List.{list_all, sum_by}
use Rattle.eeprom.specs.StoreOf.{cells_for}
use Rattle.eeprom.specs.Slots.{AreApart}
use Rattle.scql_base.specs.declared.records.TheConstants.RowRecord.{LONGEST}

-- a record of any kind: its stamp, and the octets that it is stored as
pub record StoredRecord : Type 0 where
  pub stamp : ℕ
  pub octets : List ℕ

-- how many cells a record of these octets takes, and how many some records take together
abbrev pub cells_for_octets : List ℕ → ℕ
cells_for_octets octets = cells_for (length octets)

abbrev pub cells_of_records : List StoredRecord → ℕ
cells_of_records records = sum_by (λ (r : StoredRecord). cells_for_octets r.octets) records

-- a record has octets, and at most as many as that of a row may have
abbrev pub is_storable : StoredRecord → Bool
is_storable r = nat_le 1 (length r.octets) && nat_le (length r.octets) LONGEST

-- its stamp was given out: it is at least 1 and below the next
abbrev pub is_given_out : ℕ → StoredRecord → Bool
is_given_out next r = nat_le 1 r.stamp && nat_lt r.stamp next

-- The records stand in so many cells beside a counter, which takes some of the cells and gives out the next stamp.
pub record IsStored (cells counter_cells next : ℕ) (records : List StoredRecord) : Type 0 where
  -- the counter and all records have room
  pub room : counter_cells + cells_of_records records ≤ cells
  -- each record has a length that a store takes, and a stamp that was given out
  pub lengths : list_all is_storable records ≡ true
  pub stamped : list_all (is_given_out next) records ≡ true
  -- no two records have one stamp
  pub apart : AreApart (λ (r : StoredRecord). r.stamp) records
