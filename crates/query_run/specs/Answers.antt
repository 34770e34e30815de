-- What a query gives, and what is printed of it.
use Rattle.std.specs.Prelude.{ℕ, ◌≤◌, Bool, true, false, List, ◌++◌, length, Result, Ok, Err, codes}
use Rattle.planner.specs.declared.closing.Closing.TheVariants as closings
use Rattle.planner.specs.Text.{closing_text}
use Rattle.row_join.specs.Places.{all_rows}
use Rattle.query.specs.Asked.{Asked}
use Rattle.query_run.specs.declared.answer.Answer.{Answer}
use Rattle.query_run.specs.declared.answer.Answer.TheVariants.{Rows, TooMany, Refused}
use Rattle.query_run.specs.declared.unfetched.Unfetched.{Unfetched}
use Rattle.query_run.specs.declared.unfetched.Unfetched.TheVariants as unfetched
use Rattle.query_run.specs.QueryText.{most_combinations, row_texts}

-- what is printed of it
abbrev pub found_text : Asked → Answer → List ℕ
found_text query (Rows tables combinations) = row_texts query (all_rows tables.items combinations.items) ++ closing_text (closings.Rows (length combinations.items))
found_text query TooMany = codes "too many rows\n"
found_text query (Refused word) = closing_text (closings.Refused word)

-- the line is told as refused: there are no rows
abbrev pub is_refusal : Answer → Bool
is_refusal (Rows tables combinations) = false
is_refusal answer = true

-- there are no more objects and combinations than a query has
abbrev pub IsPrintable : Answer → Type 0
IsPrintable (Rows tables combinations) = (length tables.items ≤ 3) × (length combinations.items ≤ most_combinations)
IsPrintable answer = Unit {0}

-- an object that was refused is what a query gives, and without a card or memory it gives nothing
abbrev pub refused_by : Unfetched → Result Answer Unfetched
refused_by (unfetched.Refused word) = Ok (Refused word)
refused_by end = Err end
