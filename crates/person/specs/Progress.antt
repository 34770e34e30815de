-- How far a run has come, as a person is shown it on one line that is written again and again.
use Rattle.std.specs.Prelude.{ℕ, zero, suc, ◌%◌, ◌==◌, nat_le, List, [], ◌∷◌, ◌++◌, if◌then◌else◌, codes}
use Rattle.std.specs.Fmt.{decimal}

-- Words, and how many there are so far. The carriage return lets the line stand in place of the one before.
abbrev pub progress_line : List ℕ → ℕ → List ℕ
progress_line words count = 0x0D ∷ (words ++ decimal count)

-- it is written anew each so many
abbrev pub shown_at : List ℕ → ℕ → ℕ → List ℕ
shown_at words each count = if count % each == 0 then progress_line words count else []

-- what a step shows: nothing where there are as many as before it
abbrev pub step_shown : List ℕ → ℕ → ℕ → ℕ → List ℕ
step_shown words each before now = if now == before then [] else shown_at words each now

-- so many, one after another
abbrev pub counts_shown : List ℕ → ℕ → ℕ → List ℕ
counts_shown words each zero = []
counts_shown words each (suc count) = counts_shown words each count ++ shown_at words each (suc count)

-- it stands there from the first time that it is written, and only then is it ended
abbrev pub end_shown : ℕ → ℕ → List ℕ
end_shown each count = if nat_le each count then codes "\n" else []

-- so many in all
abbrev pub progress_text : List ℕ → ℕ → ℕ → List ℕ
progress_text words each count = counts_shown words each count ++ end_shown each count
