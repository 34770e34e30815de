-- The octets of a new store, in the order of the image.
use Rattle.std.specs.Prelude.{None, Some, ◌⊎◌, ◌≡◌, ℕ, ◌+◌, ◌-◌, ◌*◌, List, [], ◌∷◌, ◌++◌, length, replicate}
use Rattle.eeprom.specs.Chip.{Chip, Leaves}
use Rattle.eeprom.specs.StoreOf.{piece_size, two_octets, store_of, fresh_store}

-- 53 43 51 4C, which is `SCQL`
abbrev pub magic : List ℕ
magic = 0x53 ∷ 0x43 ∷ 0x51 ∷ 0x4C ∷ []

-- format 2 and an even version, the number of cells, a closed gate, and nothing else
abbrev pub fresh_header : ℕ → List ℕ
fresh_header n = (2 ∷ 0 ∷ two_octets n) ++ replicate 24 0

-- slot 0 at cell 0, slot 1 at cell 1, and the others empty; and a journal without entries
abbrev pub fresh_directory : ℕ → List ℕ
fresh_directory n = (0 ∷ 0 ∷ 0 ∷ 1 ∷ []) ++ (replicate (2 * n - 4) 0xFF ++ replicate (4 * n + 2) 0)

-- how many octets a record has at most that one cell holds
abbrev pub one_cell_record : ℕ
one_cell_record = piece_size - 2

-- a cell with no next one, that holds a record's length and octets
abbrev pub fresh_cell : List ℕ → List ℕ
fresh_cell octets = (0xFF ∷ 0xFF ∷ 0 ∷ length octets ∷ []) ++ (octets ++ replicate (one_cell_record - length octets) 0)

-- all but the magic, which comes before it
abbrev pub fresh_body : ℕ → List ℕ → List ℕ → List ℕ
fresh_body n first second =
    fresh_header n ++ (fresh_directory n ++ (fresh_cell first ++ (fresh_cell second ++ replicate (64 * n - 64) 0)))

abbrev pub fresh_image : ℕ → List ℕ → List ℕ → List ℕ
fresh_image n first second = magic ++ fresh_body n first second

-- the store of the image is what it was
abbrev pub HasOldStore : Chip → List ℕ → Type 0
HasOldStore old left = (was : List ℕ) × (old.image ≡ Some was) × (store_of left ≡ store_of was)

-- while the front is cleared, the store of the image is at each moment what it was, or none; nothing is given
abbrev pub LeavesCleared : Chip → Chip → Type 0
LeavesCleared old new = Leaves (λ left. HasOldStore old left ⊎ (store_of left ≡ None)) old new

-- while a store is made, the store of the image is at each moment what it was, or none, or the new one; nothing is given
abbrev pub LeavesFormatted : ℕ → List ℕ → List ℕ → Chip → Chip → Type 0
LeavesFormatted n first second old new =
    Leaves (λ left. HasOldStore old left ⊎ ((store_of left ≡ None) ⊎ (store_of left ≡ Some (fresh_store n first second)))) old new
