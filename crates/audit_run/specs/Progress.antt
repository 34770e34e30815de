-- What a person is shown of an audit.
use Rattle.std.specs.Prelude.{ℕ, ◌-◌, true, List, [], length, Option, Some, None, codes}
use Rattle.person.specs.Progress.{counts_shown, progress_text}
use Rattle.scql_model.specs.Lines.{lines}
use Rattle.audit_run.specs.declared.verdict.Verdict.{Verdict}
use Rattle.audit_run.specs.declared.verdict.Verdict.TheVariants.{NotACard, Malformed, Differs}

-- how many lines of the transcript the machine has gone through
abbrev pub words : List ℕ
words = codes "line "

-- it is told anew each 4,096 lines
abbrev pub each : ℕ
each = 4096

-- so many lines, one after another
abbrev pub lines_shown : ℕ → List ℕ
lines_shown count = counts_shown words each count

-- so many in all
abbrev pub passed_text : ℕ → List ℕ
passed_text count = progress_text words each count

-- the lines before the first that differs, or all of them
abbrev pub lines_passed : List ℕ → Option ℕ → ℕ
lines_passed transcript (Some number) = number - 1
lines_passed transcript None = length (lines transcript true)

-- how far the machine went where an audit comes to this verdict
abbrev pub watched_text : List ℕ → Verdict → List ℕ
watched_text transcript NotACard = []
watched_text transcript (Malformed number) = []
watched_text transcript (Differs number) = passed_text (lines_passed transcript (Some number))
watched_text transcript verdict = passed_text (lines_passed transcript None)
