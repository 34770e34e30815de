-- What a statement does: the rows that it gives, how it ends, the next machine, and the databases that are committed in turn.
use Rattle.std.specs.Prelude.{ℕ, zero, suc, ◌+◌, List, [], ◌∷◌, ◌++◌, length, map, Option, Some, None, Result, Ok, Err, if◌then◌else◌}
use Rattle.scql_base.specs.declared.words.Actor.{Actor}
use Rattle.scql_base.specs.declared.words.StatusWord.{StatusWord}
use Rattle.scql_base.specs.declared.condition.Condition.{Condition}
use Rattle.scql_base.specs.declared.cursor.Cursor.{Cursor}
use Rattle.scql_base.specs.declared.cursor.Place.{Place}
use Rattle.scql_base.specs.declared.cursor.Place.TheVariants.{At, End}
use Rattle.scql_base.specs.declared.operation.Command.{Command}
use Rattle.scql_base.specs.declared.operation.Operation.{Operation}
use Rattle.scql_base.specs.declared.operation.Operation.TheVariants.{Update, Delete, OpenChannel, CloseChannel}
use Rattle.scql_base.specs.Words.{done, channel_not_supported, conditions_not_satisfied, not_found}
use Rattle.scql_model.specs.Refusals.{◌>>=◌, or_refused}
use Rattle.scql_model.specs.Replies.{said}
use Rattle.scql_model.specs.Database.{Database}
use Rattle.scql_model.specs.Machine.{Machine, Session, Transaction, reset, base, actor}
use Rattle.scql_model.specs.Sessions.{changing_session, without_chain, without_cursor, reading_so, is_channel_open}
use Rattle.scql_model.specs.Transactions.{own_transaction}
use Rattle.scql_model.specs.Rights.{seen_named}
use Rattle.scql_model.specs.Matching.{Columns, Values}
use Rattle.scql_model.specs.Objects.{StampedRow}
use Rattle.scql_model.specs.Contents.{narrowed}
use Rattle.scql_model.specs.Moves.{selected}
use Rattle.scql_model.specs.ReadingCommands.{wanted_of, named_among}
use Rattle.scql_model.specs.Edits.{with_edits}
use Rattle.scql_model.specs.Changing.{edits_of, transaction_after}
use Rattle.scql_model.specs.Spelling.{part_octets, part_count}
use Rattle.scql_model.specs.Step.{Answer, step}
use Rattle.script.specs.declared.statement.Statement.{Statement}
use Rattle.script.specs.declared.statement.Statement.TheVariants.{Blank, Single, Select, UpdateRows, DeleteRows, OpenNumber, CloseNumber, UseNumber, Reset}
use Rattle.script.specs.Commands.{asking}
use Rattle.planner.specs.declared.closing.Closing.{Closing}
use Rattle.planner.specs.declared.closing.Closing.TheVariants.{Nothing, Fine, Rows, Refused}
use Rattle.planner.specs.Words.{is_done, closing_of}

-- the channel is the one on which the terminal goes on
pub record Meaning : Type 0 where
  pub rows : List Values
  pub closing : Closing
  pub machine : Machine
  pub commits : List Database
  pub channel : ℕ

-- no rows are given, and nothing is committed
abbrev pub ended : Closing → Machine → ℕ → Meaning
ended closing m channel = record { rows = []; closing = closing; machine = m; commits = []; channel = channel }

-- A single operation is the steps of its command's parts in turn, up to the first word other than 9000.

abbrev pub parts_from : ℕ → ℕ → Command → List (List ℕ)
parts_from place zero c = []
parts_from place (suc count) c = part_octets c place ∷ parts_from (place + 1) count c

abbrev pub parts_of : Command → List (List ℕ)
parts_of c = parts_from 0 (part_count c) c

abbrev pub followed_by : Answer → Answer → Answer
followed_by answer next = if is_done answer.reply.word then record next { commits = answer.commits ++ next.commits } else answer

abbrev pub in_turn : Machine → List ℕ → List (List ℕ) → Answer
in_turn m octets [] = step m octets
in_turn m octets (next ∷ rest) = followed_by (step m octets) (in_turn (step m octets).machine next rest)

-- each command has a part
abbrev pub all_in_turn : Machine → List (List ℕ) → Answer
all_in_turn m [] = record { reply = said done; machine = m; commits = [] }
all_in_turn m (octets ∷ rest) = in_turn m octets rest

-- the answer to a command
unfoldable pub answer_to : Machine → Command → Answer
answer_to m c = all_in_turn m (parts_of c)

abbrev pub single : Machine → ℕ → Command → Meaning
single m channel c =
    let answer = answer_to m c in
    record { rows = []; closing = closing_of answer.reply.word; machine = answer.machine; commits = answer.commits; channel = channel }

-- A cursor is declared: the cursor, and the rows under it in rising order of their stamps, or the first refusal that applies.
pub record Declared : Type 0 where
  pub cursor : Cursor
  pub rows : List StampedRow

abbrev pub cursor_on : ℕ → Columns → List Condition → Cursor
cursor_on object columns conditions = record { object = object; columns = columns; conditions = conditions; place = End }

unfoldable pub declared : Machine → ℕ → List ℕ → Columns → List Condition → Result Declared StatusWord
declared m channel object columns conditions = do
  o ← or_refused (seen_named (base m channel) (actor m channel) object) not_found
  contents ← selected (base m channel) (actor m channel) o
  _ ← named_among contents.columns columns conditions
  Ok (record { cursor = cursor_on o.stamp (wanted_of contents.columns columns) conditions; rows = narrowed (wanted_of contents.columns columns) conditions contents })

-- what the commands of a statement leave of a session: its cursor at a place, nothing pending, and no parts of a command
abbrev pub standing : Place → Cursor → Session → Session
standing place c s = reading_so (record { cursor = Some (record c { place = place }); pending = [] }) (without_chain s)

-- the machine stays, but that the channel has no parts of a command any more
abbrev pub refused_on : Machine → ℕ → StatusWord → Meaning
refused_on m channel word = ended (Refused word) (changing_session without_chain m channel) channel

-- SELECT: all rows under the cursor, which then is at its end
abbrev pub selects_all : Machine → ℕ → Result Declared StatusWord → Meaning
selects_all m channel (Err word) = refused_on m channel word
selects_all m channel (Ok d) =
    record (ended (Rows (length d.rows)) (changing_session (standing End d.cursor) m channel) channel) { rows = map (λ (r : StampedRow). r.values) d.rows }

-- UPDATE and DELETE FROM: the rows under the cursor are changed in turn in a transaction, up to the first refusal.
pub record Changed : Type 0 where
  pub transaction : Transaction
  pub place : Place
  pub refusal : Option StatusWord

abbrev pub at_stamp : ℕ → Cursor → Cursor
at_stamp stamp c = record c { place = At stamp }

unfoldable pub row_changed : Database → Actor → Operation → Cursor → Transaction → Result Transaction StatusWord
row_changed committed actor operation c t = do
  edits ← edits_of t.working actor (Some c) operation
  db ← with_edits t.working edits
  Ok (transaction_after committed t edits db)

abbrev pub once_changed : ℕ → Transaction → (Transaction → Changed) → Result Transaction StatusWord → Changed
once_changed stamp t rest (Err word) = record { transaction = t; place = At stamp; refusal = Some word }
once_changed stamp t rest (Ok next) = rest next

abbrev pub all_changed : Database → Actor → Operation → Cursor → List StampedRow → Transaction → Changed
all_changed committed actor operation c [] t = record { transaction = t; place = End; refusal = None }
all_changed committed actor operation c (r ∷ rows) t =
    once_changed r.stamp t (λ next. all_changed committed actor operation c rows next) (row_changed committed actor operation (at_stamp r.stamp c) t)

abbrev pub changed_in : Machine → ℕ → Operation → Declared → Transaction → Changed
changed_in m channel operation d t = all_changed m.committed (actor m channel) operation d.cursor d.rows t

-- in the channel's transaction: the rows so far stay changed, and the cursor is at its end, or at the row that was refused
abbrev pub closing_after : ℕ → Option StatusWord → Closing
closing_after count None = Rows count
closing_after count (Some word) = Refused word

abbrev pub changed_inside : Machine → ℕ → Operation → Transaction → Result Declared StatusWord → Meaning
changed_inside m channel operation t (Err word) = refused_on m channel word
changed_inside m channel operation t (Ok d) =
    let c = changed_in m channel operation d t in
    ended (closing_after (length d.rows) c.refusal) (changing_session (standing c.place d.cursor) (record m { transaction = Some c.transaction }) channel) channel

-- in a transaction of its own: all rows are changed in one commit, or the database is as before and the channel has no cursor
abbrev pub begun : Machine → ℕ → Transaction
begun m channel = record { channel = channel; working = m.committed; touched = [] }

abbrev pub rolled_back : Machine → ℕ → StatusWord → Meaning
rolled_back m channel word = ended (Refused word) (changing_session (λ s. without_cursor (without_chain s)) m channel) channel

abbrev pub committed_after : Machine → ℕ → Declared → Changed → Option StatusWord → Meaning
committed_after m channel d c (Some word) = rolled_back m channel word
committed_after m channel d c None =
    record (ended (Rows (length d.rows)) (changing_session (standing End d.cursor) (record m { committed = c.transaction.working }) channel) channel) { commits = c.transaction.working ∷ [] }

abbrev pub changed_at_once : Machine → ℕ → Operation → Result Declared StatusWord → Meaning
changed_at_once m channel operation (Err word) = rolled_back m channel word
changed_at_once m channel operation (Ok d) =
    let c = changed_in m channel operation d (begun m channel) in
    committed_after m channel d c c.refusal

-- outside of its own transaction a statement begins one, which another channel's stands against
abbrev pub changed_outside : Machine → ℕ → Operation → Result Declared StatusWord → Option Transaction → Meaning
changed_outside m channel operation d (Some t) = refused_on m channel conditions_not_satisfied
changed_outside m channel operation d None = changed_at_once m channel operation d

abbrev pub changed_by : Machine → ℕ → Operation → Result Declared StatusWord → Option Transaction → Meaning
changed_by m channel operation d (Some t) = changed_inside m channel operation t d
changed_by m channel operation d None = changed_outside m channel operation d m.transaction

abbrev pub changes_all : Machine → ℕ → Operation → Result Declared StatusWord → Meaning
changes_all m channel operation d = changed_by m channel operation d (own_transaction m.transaction channel)

-- nothing is read or changed on a channel that isn't open
abbrev pub on_open : Machine → ℕ → Meaning → Meaning
on_open m channel meaning = if is_channel_open m channel then meaning else ended (Refused channel_not_supported) m channel

-- The meaning of a statement on a channel of the machine.
unfoldable pub meaning : Machine → ℕ → Statement → Meaning
meaning m channel Blank = ended Nothing m channel
meaning m channel (Single operation) = single m channel (asking channel operation)
meaning m channel (Select object columns conditions) = on_open m channel (selects_all m channel (declared m channel object columns conditions))
meaning m channel (UpdateRows object changes conditions) = on_open m channel (changes_all m channel (Update changes) (declared m channel object [] conditions))
meaning m channel (DeleteRows object conditions) = on_open m channel (changes_all m channel Delete (declared m channel object [] conditions))
meaning m channel (OpenNumber number) = single m channel (asking 0 (OpenChannel number))
meaning m channel (CloseNumber number) = single m channel (asking 0 (CloseChannel number))
meaning m channel (UseNumber number) = ended Fine m number
meaning m channel Reset = ended Fine (reset m) 0
