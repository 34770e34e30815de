-- Parts that are kept one behind the other.
use Rattle.std.specs.Prelude.{ℕ, List, [], ◌∷◌, take, drop}
use Rattle.std.specs.List.{sum_by}

-- octets, cut into parts of these sizes
abbrev pub cut_by : List ℕ → List ℕ → List (List ℕ)
cut_by [] octets = []
cut_by (size ∷ sizes) octets = take size octets ∷ cut_by sizes (drop size octets)

-- the octets that parts of these sizes have
abbrev pub total : List ℕ → ℕ
total sizes = sum_by (λ size. size) sizes
