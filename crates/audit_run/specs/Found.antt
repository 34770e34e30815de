-- What is found of an agreement: the first line that differs, or the machine behind the last one.
use Rattle.std.specs.Prelude.{◌≡◌, ℕ, Option, Some, None}
use Rattle.scql_model.specs.Machine.{Machine}
use Rattle.audit_run.specs.Verdicts.{Agreement, differs_at, agrees}

abbrev pub IsFound : (Machine → Type 0) → Agreement → Option ℕ → Type 0
IsFound stands (differs_at number) found = found ≡ Some number
IsFound stands (agrees m) found = (found ≡ None) × stands m
