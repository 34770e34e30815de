-- What each reading command answers, and what it makes of the cursor and the pending octets of its session.
use Rattle.std.specs.Prelude.{ℕ, ◌==◌, nat_lt, Bool, true, false, List, [], ◌∷◌, Option, Some, None, Result, Ok, Err}
use Rattle.std.specs.List.{find}
use Rattle.scql_base.specs.declared.words.Actor.{Actor}
use Rattle.scql_base.specs.declared.words.StatusWord.{StatusWord}
use Rattle.scql_base.specs.declared.cursor.Cursor.{Cursor}
use Rattle.scql_base.specs.declared.cursor.Place.{Place}
use Rattle.scql_base.specs.declared.cursor.Place.TheVariants.{NotOpen, At, End}
use Rattle.scql_base.specs.declared.records.Object.{Object}
use Rattle.scql_base.specs.Words.{done, end_reached, security_not_satisfied, conditions_not_satisfied, record_not_found, not_found}
use Rattle.scql_model.specs.Database.{Database}
use Rattle.scql_model.specs.Machine.{Reading}
use Rattle.scql_model.specs.Refusals.{◌>>=◌, or_refused, provided}
use Rattle.scql_model.specs.Rights.{select_privilege, holds, seen_named, seen_stamped}
use Rattle.scql_model.specs.Objects.{StampedRow}
use Rattle.scql_model.specs.Contents.{Contents, narrowed, contents_of}
use Rattle.scql_model.specs.Replies.{said}
use Rattle.scql_model.specs.ReadingCommands.{ReadingCommand, declare, open_cursor, next, fetch, fetch_next, get_response, Move, or_stays, cut, fitting, wanted_of, named_among, row_octets}

-- the contents of an object, where the actor may select from it
abbrev pub selected : Database → Actor → Object → Result Contents StatusWord
selected db actor o = do
  _ ← provided (holds db actor o select_privilege) security_not_satisfied
  Ok (contents_of db o.stamp)

-- a cursor that was opened
abbrev pub is_opened : Place → Bool
is_opened NotOpen = false
is_opened (At stamp) = true
is_opened End = true

abbrev pub opened : Option Cursor → Result Cursor StatusWord
opened cursor = do
  c ← or_refused cursor conditions_not_satisfied
  _ ← provided (is_opened c.place) conditions_not_satisfied
  Ok c

-- the rows of a cursor's object that meet the cursor's conditions, cut to the cursor's columns
abbrev pub chosen : Contents → Cursor → List StampedRow
chosen contents c = narrowed c.columns c.conditions contents

-- those rows, where the object appears to the actor, and the actor may select from it
abbrev pub rows_under : Database → Actor → Cursor → Result (List StampedRow) StatusWord
rows_under db actor c = do
  o ← or_refused (seen_stamped db actor c.object) not_found
  contents ← selected db actor o
  Ok (chosen contents c)

abbrev pub first_row : List StampedRow → Option StampedRow
first_row [] = None
first_row (r ∷ rows) = Some r

-- the first row behind a place; behind the end there is none
abbrev pub row_behind : Place → List StampedRow → Option StampedRow
row_behind NotOpen rows = None
row_behind (At stamp) rows = find (λ (r : StampedRow). nat_lt stamp r.stamp) rows
row_behind End rows = None

-- the row of a stamp
abbrev pub row_at : ℕ → List StampedRow → Option StampedRow
row_at stamp rows = find (λ (r : StampedRow). r.stamp == stamp) rows

-- the cursor stands at a place, and nothing is pending
abbrev pub moved_to : Place → Cursor → StatusWord → Move Reading
moved_to place c word = record { reply = said word; after = record { cursor = Some (record c { place = place }); pending = [] } }

-- the cursor stands at a place, and octets are given as far as Le allows; the rest is pending
abbrev pub giving : Place → Cursor → ℕ → List ℕ → Move Reading
giving place c le octets = record { reply = (cut octets le).reply; after = record { cursor = Some (record c { place = place }); pending = (cut octets le).rest } }

-- OPEN and NEXT: the cursor goes to the row that was found, or to its end
abbrev pub went_to : Cursor → Option StampedRow → Move Reading
went_to c None = moved_to End c end_reached
went_to c (Some r) = moved_to (At r.stamp) c done

-- FETCH NEXT: the cursor goes to the row that was found and gives it, or goes to its end
abbrev pub gave_next : Cursor → ℕ → Option StampedRow → Result (Move Reading) StatusWord
gave_next c le None = Ok (moved_to End c end_reached)
gave_next c le (Some r) = do
  octets ← fitting le (row_octets r.values)
  Ok (giving (At r.stamp) c le octets)

-- FETCH: the row at the cursor's place is given
abbrev pub gave : Cursor → ℕ → Place → List StampedRow → Result (Move Reading) StatusWord
gave c le NotOpen rows = Err conditions_not_satisfied
gave c le End rows = Ok (moved_to End c end_reached)
gave c le (At stamp) rows = do
  r ← or_refused (row_at stamp rows) record_not_found
  octets ← fitting le (row_octets r.values)
  Ok (giving (At stamp) c le octets)

-- GET RESPONSE: what is pending is given
abbrev pub gave_more : Cursor → ℕ → List ℕ → Result (Move Reading) StatusWord
gave_more c le [] = Err conditions_not_satisfied
gave_more c le (octet ∷ octets) = Ok (giving c.place c le (octet ∷ octets))

-- each reading command, with its refusals in their order
abbrev pub moved : Database → Actor → Reading → ReadingCommand → Result (Move Reading) StatusWord
moved db actor reading (declare object columns conditions) = do
  o ← or_refused (seen_named db actor object) not_found
  contents ← selected db actor o
  _ ← named_among contents.columns columns conditions
  Ok (moved_to NotOpen (record { object = o.stamp; columns = wanted_of contents.columns columns; conditions = conditions; place = NotOpen }) done)
moved db actor reading open_cursor = do
  c ← or_refused reading.cursor conditions_not_satisfied
  rows ← rows_under db actor c
  Ok (went_to c (first_row rows))
moved db actor reading next = do
  c ← opened reading.cursor
  rows ← rows_under db actor c
  Ok (went_to c (row_behind c.place rows))
moved db actor reading (fetch le) = do
  c ← opened reading.cursor
  rows ← rows_under db actor c
  gave c le c.place rows
moved db actor reading (fetch_next le) = do
  c ← opened reading.cursor
  rows ← rows_under db actor c
  gave_next c le (row_behind c.place rows)
moved db actor reading (get_response le) = do
  c ← or_refused reading.cursor conditions_not_satisfied
  _ ← rows_under db actor c
  gave_more c le reading.pending

-- the answer to a reading command, and the cursor and pending octets after it; a refusal leaves both as they were
unfoldable pub move_of : Database → Actor → Reading → ReadingCommand → Move Reading
move_of db actor reading command = or_stays reading (moved db actor reading command)
