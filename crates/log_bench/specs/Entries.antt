-- Which octets of a log are those of a write.
use Rattle.std.specs.Prelude.{ℕ, ◌≤◌, List, [], ◌∷◌}
use Rattle.std.specs.Coded.{Unit-prop, le_prop}
use Rattle.log_bench.specs.declared.log.Entry.{Entry}

-- the octets of each write are among so many
abbrev pub AllWithin : ℕ → List Entry → Type 0
AllWithin size [] = Unit {0}
AllWithin size (e ∷ entries) = (e.from ≤ e.to) × (e.to ≤ size) × AllWithin size entries

pub AllWithin-prop : (size : ℕ) (entries : List Entry) → IsProp (AllWithin size entries)
AllWithin-prop size [] = Unit-prop
AllWithin-prop size (e ∷ entries) = hlevel (le_prop, AllWithin-prop size entries)
