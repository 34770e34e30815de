-- The moments of writes and of a text that is given meanwhile.
use Rattle.std.specs.Prelude.{ℕ, ◌-◌, ◌≤◌, zero, suc, List, [], ◌∷◌, ◌++◌, length}
use Rattle.std.specs.Coded.{×_prop, le_prop}
use Rattle.eeprom.specs.Chip.{Stretch, writing, giving}
use Rattle.eeprom.specs.Image.{overwrite}
use Rattle.log_bench.specs.Writes.{Write}

-- Of each write it is known how many octets of the text stood before it. They never become fewer.
abbrev pub IsInTurn : ℕ → List ℕ → ℕ → Type 0
IsInTurn from [] now = from ≤ now
IsInTurn from (mark ∷ marks) now = (from ≤ mark) × IsInTurn mark marks now

pub IsInTurn-prop : (from : ℕ) (marks : List ℕ) (now : ℕ) → IsProp (IsInTurn from marks now)
IsInTurn-prop from [] now = le_prop
IsInTurn-prop from (mark ∷ marks) now = ×_prop le_prop (IsInTurn-prop mark marks now)

-- so many octets go out one after another, from a mark on, and the image stays
abbrev pub givings : List ℕ → ℕ → ℕ → List Stretch
givings image from zero = []
givings image from (suc count) = giving image from (suc from) ∷ givings image (suc from) count

-- The stretches of writes and of the text up to now. The mark of a text's start is 1: before it the log is begun.
abbrev pub spans : ℕ → List Write → List ℕ → List ℕ → ℕ → List Stretch
spans from [] marks image now = givings image (suc from) (now - from)
spans from (w ∷ log) [] image now = []
spans from (w ∷ log) (mark ∷ marks) image now =
    givings image (suc from) (mark - from) ++ writing (record { image = image; at = w.at; count = length w.octets; mark = suc mark }) ∷ spans mark log marks (overwrite image w.at w.octets) now
