-- Counts of faults of a device, which tell that a fault was the device's.
use Rattle.std.specs.Prelude.{◌≡◌, ◌⊎◌, ℕ, ◌<◌, ◌≤◌, Bool, true, false, Result, MatchResult}

-- the count rose, or stands at the last value of a u64
abbrev pub Rose : ℕ → ℕ → Type 0
Rose before after = (before < after) ⊎ (18446744073709551615 ≤ after)

-- an error that is a fault raises the count, and any other error leaves it
abbrev pub CountsError : Bool → ℕ → ℕ → Type 0
CountsError true before after = Rose before after
CountsError false before after = after ≡ before

-- The count over a call never falls: an answer Ok leaves it, and an error is counted where it is a fault.
abbrev pub CountsFaults : {T E : Type 0} → (E → Bool) → ℕ → ℕ → Result T E → Type 0
CountsFaults is_fault before after result = (before ≤ after) × MatchResult result (λ _. after ≡ before) (λ error. CountsError (is_fault error) before after)

-- of a device each error is a fault
abbrev pub each_error : {E : Type 0} → E → Bool
each_error error = true

-- the count over a call of a device
abbrev pub Counts : {T E : Type 0} → ℕ → ℕ → Result T E → Type 0
Counts before after result = CountsFaults each_error before after result
