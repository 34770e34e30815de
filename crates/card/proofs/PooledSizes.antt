-- The octets of records have room in their pool.
use Rattle.std.proofs.Common.{◌≡◌, ℕ, ◌+◌, ◌*◌, ◌≤◌, List, [], ◌∷◌, length, arith}
use Rattle.eeprom.specs.StoreOf.{cells_of, cells_for}
use Rattle.record_store.specs.Opening.{slot_with}

-- a cell has at most 30 octets of a record
cells-hold : (n : ℕ) → n ≤ 30 * cells_for n
cells-hold n = omega arith

slot-holds : (octets : List ℕ) → length octets ≤ 30 * cells_of (slot_with octets)
slot-holds [] = omega arith
slot-holds (octet ∷ octets) = cells-hold (length (octet ∷ octets))

pub fits-slot : (octets : List ℕ) (size weight weight' cells : ℕ) → weight' ≡ weight + cells_of (slot_with octets) → size ≤ 30 * weight → weight' ≤ cells → size + length octets ≤ 30 * cells
fits-slot octets size weight weight' cells more few within = let h = slot-holds octets in omega (arith, more, few, within)

pub size-next : (octets : List ℕ) (size size' weight weight' : ℕ) → size' ≤ size + length octets → weight' ≡ weight + cells_of (slot_with octets) → size ≤ 30 * weight → size' ≤ 30 * weight'
size-next octets size size' weight weight' less more few = let h = slot-holds octets in omega (arith, less, more, few)
