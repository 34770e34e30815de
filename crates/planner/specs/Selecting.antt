-- What a SELECT on an open channel prints, and what is shown after it, from what is shown alone.
use Rattle.std.specs.Prelude.{◌≡◌, ℕ, true, List, [], ◌++◌, length, map, Some, Result, Ok, Err}
use Rattle.std.specs.List.{filter, concat}
use Rattle.scql_base.specs.declared.words.StatusWord.{StatusWord}
use Rattle.scql_base.specs.declared.condition.Condition.{Condition}
use Rattle.scql_model.specs.Refusals.{◌>>=◌}
use Rattle.scql_model.specs.Machine.{Machine}
use Rattle.scql_model.specs.Sessions.{is_channel_open}
use Rattle.scql_model.specs.Matching.{Columns, Values, matches}
use Rattle.scql_model.specs.Contents.{cut_to}
use Rattle.scql_model.specs.ReadingCommands.{wanted_of, named_among}
use Rattle.scql_model.specs.Shown.{ShownTable, at_end, ShownCursor, Shown, shown_on}
use Rattle.scql_model.specs.Reads.{table_called}
use Rattle.planner.specs.declared.closing.Closing.{Closing}
use Rattle.planner.specs.declared.closing.Closing.TheVariants.{Rows, Refused}
use Rattle.planner.specs.Meaning.{Meaning}
use Rattle.planner.specs.Text.{row_text, closing_text, meaning_text}

-- the rows of a shown table that meet the conditions, cut to the wanted columns
abbrev pub rows_shown : ShownTable → Columns → List Condition → List Values
rows_shown t columns conditions = map (cut_to t.columns (wanted_of t.columns columns)) (filter (matches t.columns conditions) t.rows)

-- the cursor behind those rows: at its end, and nothing pending
abbrev pub cursor_behind : List ℕ → ShownTable → Columns → List Condition → ShownCursor
cursor_behind object t columns conditions = record { object = Some object; columns = wanted_of t.columns columns; conditions = conditions; place = at_end; pending = Some [] }

-- what a SELECT gives of what is shown, or DECLARE's first refusal that applies
pub record ShownRows : Type 0 where
  pub rows : List Values
  pub cursor : ShownCursor

abbrev pub select_shown : Shown → List ℕ → Columns → List Condition → Result ShownRows StatusWord
select_shown s object columns conditions = do
  t ← table_called s.objects object
  _ ← named_among t.columns columns conditions
  Ok (record { rows = rows_shown t columns conditions; cursor = cursor_behind object t columns conditions })

-- the rows, of which a refusal gives none, and how the SELECT closes
abbrev pub rows_given : Result ShownRows StatusWord → List Values
rows_given (Ok given) = given.rows
rows_given (Err word) = []

abbrev pub closing_given : Result ShownRows StatusWord → Closing
closing_given (Ok given) = Rows (length given.rows)
closing_given (Err word) = Refused word

-- each row on a line, and then their number; or the refusal
abbrev pub rows_text : Result ShownRows StatusWord → List ℕ
rows_text given = concat (map row_text (rows_given given)) ++ closing_text (closing_given given)

-- the cursor stands behind the rows; a refusal leaves all as it was shown
abbrev pub shown_behind : Shown → Result ShownRows StatusWord → Shown
shown_behind s (Ok given) = record s { cursor = Some given.cursor }
shown_behind s (Err word) = s

-- the text of a SELECT, and what is shown after it
unfoldable pub read_select : Shown → List ℕ → Columns → List Condition → List ℕ
read_select s object columns conditions = rows_text (select_shown s object columns conditions)

unfoldable pub select_next : Shown → List ℕ → Columns → List Condition → Shown
select_next s object columns conditions = shown_behind s (select_shown s object columns conditions)

-- A meaning of a SELECT on a channel gives the rows, and closes and is printed, as it follows from what is shown there, and so does what is shown
-- there afterwards. The channel stays open. On every other channel is shown what was, the committed database and the transaction stay, and nothing
-- is committed.
pub record SelectsWhatIsShown (m : Machine) (channel : ℕ) (object : List ℕ) (columns : Columns) (conditions : List Condition) (x : Meaning) : Type 0 where
  pub rows : x.rows ≡ rows_given (select_shown (shown_on m channel) object columns conditions)
  pub closing : x.closing ≡ closing_given (select_shown (shown_on m channel) object columns conditions)
  pub text : meaning_text x ≡ read_select (shown_on m channel) object columns conditions
  pub after : shown_on x.machine channel ≡ select_next (shown_on m channel) object columns conditions
  pub opened : is_channel_open x.machine channel ≡ true
  pub others : (other : ℕ) → ¬ (channel ≡ other) → shown_on x.machine other ≡ shown_on m other
  pub committed : x.machine.committed ≡ m.committed
  pub transaction : x.machine.transaction ≡ m.transaction
  pub commits : x.commits ≡ []
  pub channel_stays : x.channel ≡ channel
