-- What each reading command answers, and what is shown after it, from what is shown alone: rows are found by their positions.
use Rattle.std.specs.Prelude.{ℕ, zero, suc, ◌+◌, Bool, true, false, List, [], ◌∷◌, Option, Some, None, option_map, Result, Ok, Err, slice_get, if◌then◌else◌}
use Rattle.std.specs.List.{find}
use Rattle.std.specs.Str.{bytes_eq}
use Rattle.scql_base.specs.declared.words.StatusWord.{StatusWord}
use Rattle.scql_base.specs.Words.{done, security_not_satisfied, conditions_not_satisfied, not_found, end_reached, record_not_found}
use Rattle.scql_model.specs.Replies.{Reply, said}
use Rattle.scql_model.specs.Refusals.{◌>>=◌, or_refused, provided}
use Rattle.scql_model.specs.Matching.{Values, matches}
use Rattle.scql_model.specs.Contents.{cut_to}
use Rattle.scql_model.specs.ReadingCommands.{ReadingCommand, declare, open_cursor, next, fetch, fetch_next, get_response, Move, or_stays, cut, fitting, wanted_of, named_among, row_octets}
use Rattle.scql_model.specs.Shown.{ShownTable, ShownObject, ShownPlace, not_open, hidden, on, at_end, ShownCursor, Shown}

-- the shown object of a name, and what it shows where it isn't closed
abbrev pub is_called : List ℕ → ShownObject → Bool
is_called name o = bytes_eq name o.name

abbrev pub table_called : List ShownObject → List ℕ → Result ShownTable StatusWord
table_called objects name = do
  o ← or_refused (find (is_called name) objects) not_found
  or_refused o.table security_not_satisfied

-- what the cursor's object shows, where it isn't gone or closed
abbrev pub table_under : Shown → ShownCursor → Result ShownTable StatusWord
table_under s c = do
  name ← or_refused c.object not_found
  table_called s.objects name

-- a cursor that was opened
abbrev pub is_opened_place : ShownPlace → Bool
is_opened_place not_open = false
is_opened_place hidden = true
is_opened_place (on before there) = true
is_opened_place at_end = true

abbrev pub opened_cursor : Option ShownCursor → Result ShownCursor StatusWord
opened_cursor cursor = do
  c ← or_refused cursor conditions_not_satisfied
  _ ← provided (is_opened_place c.place) conditions_not_satisfied
  Ok c

-- whether a row of the cursor's object meets the cursor's conditions
abbrev pub meets_cursor : ShownTable → ShownCursor → Values → Bool
meets_cursor t c values = matches t.columns c.conditions values

-- a row at a position, counted from 0
pub record PositionedRow : Type 0 where
  pub position : ℕ
  pub values : Values

abbrev pub one_further : PositionedRow → PositionedRow
one_further r = record r { position = suc r.position }

-- the row at the least position from one on that passes
abbrev pub least_from : ℕ → (Values → Bool) → List Values → Option PositionedRow
least_from from test [] = None
least_from zero test (values ∷ rows) = if test values then Some (record { position = 0; values = values }) else option_map one_further (least_from zero test rows)
least_from (suc from) test (values ∷ rows) = option_map one_further (least_from from test rows)

-- where the next row is looked for: behind the cursor's row, or at its position where that row is gone
abbrev pub position_behind : ℕ → Bool → ℕ
position_behind before there = if there then before + 1 else before

-- the next row behind a place that passes; behind the end there is none
abbrev pub least_behind : ShownPlace → (Values → Bool) → List Values → Option PositionedRow
least_behind not_open test rows = None
least_behind hidden test rows = None
least_behind (on before there) test rows = least_from (position_behind before there) test rows
least_behind at_end test rows = None

-- values, if they pass
abbrev pub if_passes : (Values → Bool) → Option Values → Option Values
if_passes test None = None
if_passes test (Some values) = if test values then Some values else None

-- the row at a position, if there is one and it passes
abbrev pub row_on : ℕ → Bool → (Values → Bool) → List Values → Option Values
row_on before there test rows = if there then if_passes test (slice_get rows before) else None

-- the cursor stands at a place, and nothing is pending
abbrev pub stands_at : ShownPlace → Shown → ShownCursor → StatusWord → Move Shown
stands_at place s c word = record { reply = said word; after = record s { cursor = Some (record c { place = place; pending = Some [] }) } }

-- the cursor stands at a place, and octets are given as far as Le allows; the rest is pending
abbrev pub gives_at : ShownPlace → Shown → ShownCursor → ℕ → List ℕ → Move Shown
gives_at place s c le octets = record { reply = (cut octets le).reply; after = record s { cursor = Some (record c { place = place; pending = Some (cut octets le).rest }) } }

-- OPEN and NEXT: the cursor goes to the row that was found, or to its end
abbrev pub goes_to : Shown → ShownCursor → Option PositionedRow → Move Shown
goes_to s c None = stands_at at_end s c end_reached
goes_to s c (Some r) = stands_at (on r.position true) s c done

-- FETCH NEXT: the cursor goes to the row that was found and gives it, or goes to its end
abbrev pub gives_next : Shown → ShownTable → ShownCursor → ℕ → Option PositionedRow → Result (Move Shown) StatusWord
gives_next s t c le None = Ok (stands_at at_end s c end_reached)
gives_next s t c le (Some r) = do
  octets ← fitting le (row_octets (cut_to t.columns c.columns r.values))
  Ok (gives_at (on r.position true) s c le octets)

-- FETCH: the row at the cursor's place is given
abbrev pub gives_row : Shown → ShownTable → ShownCursor → ℕ → ShownPlace → Result (Move Shown) StatusWord
gives_row s t c le not_open = Err conditions_not_satisfied
gives_row s t c le hidden = Err conditions_not_satisfied
gives_row s t c le at_end = Ok (stands_at at_end s c end_reached)
gives_row s t c le (on before there) = do
  values ← or_refused (row_on before there (meets_cursor t c) t.rows) record_not_found
  octets ← fitting le (row_octets (cut_to t.columns c.columns values))
  Ok (gives_at (on before there) s c le octets)

-- GET RESPONSE: what is pending is given
abbrev pub gives_more : Shown → ShownCursor → ℕ → Option (List ℕ) → Result (Move Shown) StatusWord
gives_more s c le None = Err conditions_not_satisfied
gives_more s c le (Some []) = Err conditions_not_satisfied
gives_more s c le (Some (octet ∷ octets)) = Ok (gives_at c.place s c le (octet ∷ octets))

-- each reading command, with its refusals in their order
abbrev pub read : Shown → ReadingCommand → Result (Move Shown) StatusWord
read s (declare object columns conditions) = do
  t ← table_called s.objects object
  _ ← named_among t.columns columns conditions
  Ok (stands_at not_open s (record { object = Some object; columns = wanted_of t.columns columns; conditions = conditions; place = not_open; pending = Some [] }) done)
read s open_cursor = do
  c ← or_refused s.cursor conditions_not_satisfied
  t ← table_under s c
  Ok (goes_to s c (least_from 0 (meets_cursor t c) t.rows))
read s next = do
  c ← opened_cursor s.cursor
  t ← table_under s c
  Ok (goes_to s c (least_behind c.place (meets_cursor t c) t.rows))
read s (fetch le) = do
  c ← opened_cursor s.cursor
  t ← table_under s c
  gives_row s t c le c.place
read s (fetch_next le) = do
  c ← opened_cursor s.cursor
  t ← table_under s c
  gives_next s t c le (least_behind c.place (meets_cursor t c) t.rows)
read s (get_response le) = do
  c ← or_refused s.cursor conditions_not_satisfied
  t ← table_under s c
  gives_more s c le c.pending

-- the answer to a reading command, and what is shown after it; a refusal leaves all as it was shown
unfoldable pub read_move : Shown → ReadingCommand → Move Shown
read_move s command = or_stays s (read s command)

abbrev pub read_reply : Shown → ReadingCommand → Reply
read_reply s command = (read_move s command).reply

abbrev pub read_next : Shown → ReadingCommand → Shown
read_next s command = (read_move s command).after
