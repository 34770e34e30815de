-- How a cursor moves over its rows, what comes of it, and what it reads.
use Rattle.std.specs.Prelude.{◌≡◌, ℕ, Bool, true, IsTrue, List, Option, Result}
use Rattle.scql_base.specs.declared.cursor.Cursor.{Cursor}
use Rattle.scql_base.specs.declared.cursor.Place.{Place}
use Rattle.scql_base.specs.declared.cursor.Place.TheVariants.{At}
use Rattle.scql_base.specs.declared.words.StatusWord.{StatusWord}
use Rattle.scql_model.specs.Machine.{Reading}
use Rattle.scql_model.specs.Matching.{Values}
use Rattle.scql_model.specs.Moves.{first_row, gave, gave_next, is_opened, moved_to, row_behind, went_to}
use Rattle.scql_model.specs.Objects.{StampedRow}
use Rattle.scql_model.specs.ReadBound.{is_at, is_passed, place_reached}
use Rattle.scql_model.specs.ReadingCommands as commands
use Rattle.scql_model.specs.ReadingCommands.{ReadingCommand, Move}
use Rattle.cursor.specs.Costs.{Cost, cost_at, cost_between, least_read}
use Rattle.cursor.specs.Moved.{fetched, refuses}
use Rattle.db_read.specs.Answered.{answered, given}
use Rattle.db_read.specs.declared.motion.Motion.{Motion}
use Rattle.db_read.specs.declared.motion.Motion.TheVariants.{Open, Next, Fetch, FetchNext}

-- the command of a motion
abbrev pub command_of : Motion → ReadingCommand
command_of Open = commands.open_cursor
command_of Next = commands.next
command_of (Fetch le) = commands.fetch le
command_of (FetchNext le) = commands.fetch_next le

-- what a command answers, by a word, the cursor then, and a row that was handed out
abbrev pub answer_of : Motion → StatusWord → Option Cursor → Values → Result (Move Reading) StatusWord
answer_of Open word cursor values = answered word cursor
answer_of Next word cursor values = answered word cursor
answer_of (Fetch le) word cursor values = given le word cursor values
answer_of (FetchNext le) word cursor values = given le word cursor values

-- a motion between two places over rows, with its word and what was handed out, is the model's
abbrev pub Goes : Motion → Place → Place → StatusWord → Values → List StampedRow → Cursor → Type 0
Goes Open from to word values rows c = moved_to to c word ≡ went_to c (first_row rows)
Goes Next from to word values rows c = moved_to to c word ≡ went_to c (row_behind from rows)
Goes (Fetch le) from to word values rows c = fetched from c le word values ≡ gave c le from rows
Goes (FetchNext le) from to word values rows c = fetched to c le word values ≡ gave_next c le (row_behind from rows)

-- where the place stays, whatever the rows are: FETCH never moves it, FETCH NEXT not where it is refused
abbrev pub KeepsPlace : Motion → Place → Place → StatusWord → Type 0
KeepsPlace Open from to word = Unit {0}
KeepsPlace Next from to word = Unit {0}
KeepsPlace (Fetch le) from to word = to ≡ from
KeepsPlace (FetchNext le) from to word = IsTrue (refuses word) → to ≡ from

-- what reading the rows may cost
abbrev pub cost_by : Motion → Place → Place → List StampedRow → List Cost → ℕ
cost_by Open from to rows costs = cost_between (At 0) to costs
cost_by Next from to rows costs = cost_between from to costs
cost_by (Fetch le) from to rows costs = cost_at from costs
cost_by (FetchNext le) from to rows costs = cost_between from (place_reached (row_behind from rows)) costs

-- a row that is given was read
abbrev pub least_by : Motion → StatusWord → Values → ℕ
least_by Open word values = 0
least_by Next word values = 0
least_by (Fetch le) word values = least_read word values
least_by (FetchNext le) word values = least_read word values

-- the stamps of the rows that are passed and reached
abbrev pub is_on_way : Motion → Place → List StampedRow → ℕ → Bool
is_on_way Open from rows = is_passed (At 0) (place_reached (row_behind (At 0) rows))
is_on_way Next from rows = is_passed from (place_reached (row_behind from rows))
is_on_way (Fetch le) from rows = is_at from
is_on_way (FetchNext le) from rows = is_passed from (place_reached (row_behind from rows))

-- only a cursor that was opened is moved otherwise than by OPEN
abbrev pub asks_opened : Motion → Place → Bool
asks_opened Open place = true
asks_opened Next place = is_opened place
asks_opened (Fetch le) place = is_opened place
asks_opened (FetchNext le) place = is_opened place
