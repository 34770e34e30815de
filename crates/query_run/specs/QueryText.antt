-- What a query prints, from what is shown.
use Rattle.std.specs.Prelude.{ℕ, nat_lt, List, [], ◌∷◌, ◌++◌, length, map, Result, Ok, Err, if◌then◌else◌, codes}
use Rattle.std.specs.List.{concat}
use Rattle.scql_base.specs.declared.words.StatusWord.{StatusWord}
use Rattle.scql_model.specs.Matching.{Values}
use Rattle.scql_model.specs.Refusals.{◌>>=◌}
use Rattle.scql_model.specs.Shown.{Shown}
use Rattle.planner.specs.declared.closing.Closing.TheVariants.{Rows, Refused}
use Rattle.planner.specs.Selecting.{select_shown}
use Rattle.planner.specs.Text.{closing_text, row_text}
use Rattle.row_join.specs.Joins.{Combination, kept, ordered, values_at}
use Rattle.query.specs.declared.query.AskedObject.{AskedObject}
use Rattle.query.specs.Asked.{Asked}

-- the rows that are shown of an object, or DECLARE's first refusal
abbrev pub rows_shown : Shown → AskedObject → Result (List Values) StatusWord
rows_shown s asked = do
  given ← select_shown s asked.object asked.columns []
  Ok given.rows

-- the rows of each object, or the first refusal in FROM's order
abbrev pub tables_shown : Shown → List AskedObject → Result (List (List Values)) StatusWord
tables_shown s [] = Ok []
tables_shown s (asked ∷ rest) = do
  rows ← rows_shown s asked
  tables ← tables_shown s rest
  Ok (rows ∷ tables)

-- of each combination a line with its selected values
abbrev pub row_texts : Asked → List Combination → List ℕ
row_texts query combinations = concat (map (λ rows. row_text (values_at query.selected rows)) combinations)

-- the combinations in their order, and then their number
abbrev pub printed : Asked → List Combination → List ℕ
printed query combinations = row_texts query (ordered query.order combinations) ++ closing_text (Rows (length combinations))

-- so many at most are printed
abbrev pub most_combinations : ℕ
most_combinations = 100000

abbrev pub kept_text : Asked → List Combination → List ℕ
kept_text query combinations = if nat_lt most_combinations (length combinations) then codes "too many rows\n" else printed query combinations

-- of all combinations of the objects' rows those that are kept, or the refusal
abbrev pub answer_text : Asked → Result (List (List Values)) StatusWord → List ℕ
answer_text query (Ok tables) = kept_text query (kept query.equalities tables)
answer_text query (Err word) = closing_text (Refused word)

-- what a query prints
unfoldable pub query_text : Shown → Asked → List ℕ
query_text s query = answer_text query (tables_shown s query.objects)
