-- A run of neighbouring cells, of a first cell and a count, that a chain goes through one behind another.
use Rattle.std.specs.Prelude.{ℕ, zero, suc, ◌+◌, ◌*◌, Bool, true, List, [], ◌++◌, set, slice_range}
use Rattle.eeprom.specs.StoreOf.{two_octets, piece_size}

-- the first cell of a chain that goes through a run, and behind it on at the cell `after`
abbrev pub run_first : ℕ → ℕ → ℕ → ℕ
run_first cell zero after = after
run_first cell (suc rest) after = cell

-- the octets of the run: for each cell the number of the next one, and its piece of the payload
abbrev pub run_octets : ℕ → ℕ → ℕ → List ℕ → ℕ → List ℕ
run_octets cell zero after payload piece = []
run_octets cell (suc rest) after payload piece =
    (two_octets (run_first (cell + 1) rest after) ++ slice_range payload (piece_size * piece) (piece_size * piece + piece_size)) ++ run_octets (cell + 1) rest after payload (piece + 1)

-- the cells of the run are marked
abbrev pub run_marked : List Bool → ℕ → ℕ → List Bool
run_marked marks cell zero = marks
run_marked marks cell (suc rest) = set (run_marked marks (cell + 1) rest) cell true

-- each cell of the run is linked to the next one
abbrev pub run_linked : List ℕ → ℕ → ℕ → ℕ → List ℕ
run_linked links cell zero after = links
run_linked links cell (suc rest) after = set (run_linked links (cell + 1) rest after) cell (run_first (cell + 1) rest after)
