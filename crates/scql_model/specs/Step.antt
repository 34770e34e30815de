-- A step of the table machine: the answer to a command, the next machine, and the databases that are committed in turn.
use Rattle.std.specs.Prelude.{ℕ, zero, suc, ◌-◌, ◌==◌, not, List, [], ◌∷◌, Option, Some, None, is_some, Result, Ok, Err, if◌then◌else◌}
use Rattle.std.specs.Option.{option_map_or}
use Rattle.std.specs.Str.{bytes_eq}
use Rattle.scql_base.specs.declared.records.TheConstants.User.{ALL_TRIES}
use Rattle.scql_base.specs.declared.words.StatusWord.{StatusWord}
use Rattle.scql_base.specs.declared.operation.Command.{Command}
use Rattle.scql_base.specs.declared.operation.Operation.{Operation}
use Rattle.scql_base.specs.declared.operation.Operation.TheVariants.{DeleteUser, Begin, Commit, Rollback, PresentUser, Verify, OpenChannel, CloseChannel}
use Rattle.scql_base.specs.declared.records.User.{User}
use Rattle.scql_base.specs.Words.{done, channel_not_supported, authentication_blocked, conditions_not_satisfied, function_not_supported, not_found, tries_left}
use Rattle.scql_model.specs.Replies.{Reply, said}
use Rattle.scql_model.specs.Refusals.{◌>>=◌, or_refused, provided}
use Rattle.scql_model.specs.Database.{Database, public_name, user_named, user_stamped}
use Rattle.scql_model.specs.Machine.{Machine, Session, Transaction, new_session, session_for, open_channels, base, actor}
use Rattle.scql_model.specs.Sessions.{with_session, changing_session, command_chain, without_chain, with_part, reading_of, cursor_of, reading_so, without_pending, without_cursor, user_of, presented, proving, without_user, is_channel_open, least_closed}
use Rattle.scql_model.specs.Transactions.{own_transaction, waits, is_kept_waiting}
use Rattle.scql_model.specs.Operations.{operations, kind_of}
use Rattle.scql_model.specs.Form.{Form, refused, refused_on, part_on, a_command, form_of}
use Rattle.scql_model.specs.ReadingCommands.{ReadingCommand, reading_command}
use Rattle.scql_model.specs.Moves.{move_of}
use Rattle.scql_model.specs.Edits.{Edit, of_user, changing, applied}
use Rattle.scql_model.specs.Changing.{edits_of, with_edits, transaction_after}

pub record Answer : Type 0 where
  pub reply : Reply
  pub machine : Machine
  pub commits : List Database

-- a refusal leaves all as it was
abbrev pub answered : Machine → Result Answer StatusWord → Answer
answered m (Ok answer) = answer
answered m (Err word) = record { reply = said word; machine = m; commits = [] }

-- a command of a channel is done, and these databases are committed; nothing is pending on the channel any more
abbrev pub done_with : Machine → ℕ → List Database → Answer
done_with m channel commits = record { reply = said done; machine = changing_session without_pending m channel; commits = commits }

-- A reading command moves over what its channel reads, for whom it acts.
abbrev pub reading_done : Machine → ℕ → ReadingCommand → Answer
reading_done m channel command =
    let move = move_of (base m channel) (actor m channel) (reading_of m channel) command in
    record { reply = move.reply; machine = changing_session (reading_so move.after) m channel; commits = [] }

-- A change is one of the working database where there is a transaction, and is committed at once where there is none.
abbrev pub changed_to : Machine → ℕ → List Edit → Database → Option Transaction → Answer
changed_to m channel edits db None = done_with (record m { committed = db }) channel (db ∷ [])
changed_to m channel edits db (Some t) =
    done_with (record m { transaction = Some (transaction_after m.committed t edits db) }) channel []

abbrev pub changed : Machine → ℕ → Operation → Result Answer StatusWord
changed m channel operation = do
  edits ← edits_of (base m channel) (actor m channel) (cursor_of m channel) operation
  db ← with_edits (base m channel) edits
  Ok (changed_to m channel edits db (own_transaction m.transaction channel))

-- DELETE USER: besides, each session that presented the user has neither user nor cursor any more
abbrev pub user_and_sessions_deleted : Machine → ℕ → List ℕ → Result Answer StatusWord
user_and_sessions_deleted m channel name = do
  answer ← changed m channel (DeleteUser name)
  u ← or_refused (user_named (base m channel).users name) not_found
  Ok (record answer { machine = without_user answer.machine u.stamp })

-- BEGIN: the working database begins as the committed one
abbrev pub transaction_begun : Machine → ℕ → Result Answer StatusWord
transaction_begun m channel = do
  _ ← provided (not (is_some m.transaction)) conditions_not_satisfied
  Ok (done_with (record m { transaction = Some (record { channel = channel; working = m.committed; touched = [] }) }) channel [])

-- COMMIT: the working database is committed
abbrev pub transaction_committed : Machine → ℕ → Result Answer StatusWord
transaction_committed m channel = do
  t ← or_refused (own_transaction m.transaction channel) conditions_not_satisfied
  Ok (done_with (record m { committed = t.working; transaction = None }) channel (t.working ∷ []))

-- ROLLBACK: the working database is dropped, and so is the channel's cursor
abbrev pub transaction_rolled_back : Machine → ℕ → Result Answer StatusWord
transaction_rolled_back m channel = do
  _ ← or_refused (own_transaction m.transaction channel) conditions_not_satisfied
  Ok (done_with (changing_session without_cursor (record m { transaction = None }) channel) channel [])

-- PRESENT USER: the session is a new one of the named user, or of nobody where the name is PUBLIC
abbrev pub session_named : Database → List ℕ → Result Session StatusWord
session_named db name =
    if bytes_eq name public_name then Ok new_session
    else (do
      u ← or_refused (user_named db.users name) not_found
      Ok (session_for (Some (presented u))))

abbrev pub user_presented : Machine → ℕ → List ℕ → Result Answer StatusWord
user_presented m channel name = do
  session ← session_named (base m channel) name
  Ok (done_with (with_session m channel (Some session)) channel [])

-- VERIFY: one try less is committed before the secret is compared; the right one gives all tries back, and proves the user.
abbrev pub with_tries : Database → User → ℕ → Database
with_tries db u tries = applied db (changing (of_user (record u { tries = tries })) ∷ [])

-- a wrong secret leaves one try less
abbrev pub secret_wrong : Machine → User → Answer
secret_wrong m u =
    let lowered = with_tries m.committed u (u.tries - 1) in
    record { reply = said (tries_left (u.tries - 1)); machine = record m { committed = lowered }; commits = lowered ∷ [] }

abbrev pub secret_right : Machine → ℕ → User → Answer
secret_right m channel u =
    let restored = with_tries m.committed u ALL_TRIES in
    done_with (changing_session proving (record m { committed = restored }) channel) channel (with_tries m.committed u (u.tries - 1) ∷ restored ∷ [])

abbrev pub compared : Machine → ℕ → List ℕ → User → Answer
compared m channel secret u = if bytes_eq secret u.secret then secret_right m channel u else secret_wrong m u

abbrev pub verified : Machine → ℕ → List ℕ → Result Answer StatusWord
verified m channel secret = do
  p ← or_refused (user_of m channel) conditions_not_satisfied
  _ ← provided (not p.proved) conditions_not_satisfied
  u ← or_refused (user_stamped m.committed.users p.stamp) conditions_not_satisfied
  _ ← provided (not (u.tries == 0)) authentication_blocked
  Ok (compared m channel secret u)

-- MANAGE CHANNEL (ISO/IEC 7816-4): a channel is opened, the one that is named or the least that is closed, whose number is answered
abbrev pub channel_opened : Machine → ℕ → ℕ → Result Answer StatusWord
channel_opened m channel zero = do
  number ← or_refused (least_closed m) function_not_supported
  Ok (record (done_with (with_session m number (Some new_session)) channel []) { reply = record { body = number ∷ []; word = done } })
channel_opened m channel (suc n) = do
  _ ← provided (not (is_channel_open m (suc n))) conditions_not_satisfied
  Ok (done_with (with_session m (suc n) (Some new_session)) channel [])

-- a channel is closed, unless it has the open transaction
abbrev pub channel_closed : Machine → ℕ → ℕ → Result Answer StatusWord
channel_closed m channel number = do
  _ ← provided (is_channel_open m number) channel_not_supported
  _ ← provided (not (is_some (own_transaction m.transaction number))) conditions_not_satisfied
  Ok (done_with (with_session m number None) channel [])

-- what an operation does that doesn't read
abbrev pub operated : Machine → ℕ → Operation → Result Answer StatusWord
operated m channel Begin = transaction_begun m channel
operated m channel Commit = transaction_committed m channel
operated m channel Rollback = transaction_rolled_back m channel
operated m channel (PresentUser name) = user_presented m channel name
operated m channel (DeleteUser name) = user_and_sessions_deleted m channel name
operated m channel (Verify secret) = verified m channel secret
operated m channel (OpenChannel number) = channel_opened m channel number
operated m channel (CloseChannel number) = channel_closed m channel (if number == 0 then channel else number)
operated m channel operation = changed m channel operation

-- A command: an open transaction may stand against it; else it reads, or does what its operation does.
abbrev pub carried_out : Machine → Command → Result Answer StatusWord
carried_out m c = do
  _ ← provided (not (is_kept_waiting (waits (kind_of c.operation)) m.transaction c.channel)) conditions_not_satisfied
  option_map_or (λ command. Ok (reading_done m c.channel command)) (reading_command c.operation c.le) (operated m c.channel c.operation)

-- Every command but a part leaves its channel without a chain, and so does each refusal that comes after the channel is known.
abbrev pub stepped : Machine → Form → Answer
stepped m (refused word) = answered m (Err word)
stepped m (refused_on channel word) = answered (changing_session without_chain m channel) (Err word)
stepped m (part_on channel kind octets) = done_with (changing_session (with_part kind octets) m channel) channel []
stepped m (a_command c) =
    let ended = changing_session without_chain m c.channel in
    answered ended (carried_out ended c)

-- the step to octets
unfoldable pub step : Machine → List ℕ → Answer
step m octets = stepped m (form_of operations octets (open_channels m) (command_chain m) m.committed.limit)
