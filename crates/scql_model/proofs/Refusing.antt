-- A command that isn't accepted leaves the machine, but for the parts of a command, and commits nothing.
use Rattle.std.proofs.Common.{◌≡◌, ◌⊎◌, ℕ, zero, suc, ◌-◌, ◌==◌, Bool, true, false, List, [], ◌∷◌, length, drop, Option, Some, None, option_map, Result, Ok, Err, not, is_some, if◌then◌else◌, refl, ap, ◌∙◌, inl, inr}
use Rattle.std.specs.Prelude.{IfOk, IfSome}
use Rattle.std.specs.Option.{option_map_or}
use Rattle.std.specs.Str.{bytes_eq}
use Rattle.scql_base.specs.declared.words.StatusWord.{StatusWord}
use Rattle.scql_base.specs.declared.words.Actor.{Actor}
use Rattle.scql_base.specs.declared.cursor.Cursor.{Cursor}
use Rattle.scql_base.specs.declared.cursor.Place.{Place}
use Rattle.scql_base.specs.declared.cursor.Place.TheVariants.{NotOpen, At, End}
use Rattle.scql_base.specs.declared.records.User.{User}
use Rattle.scql_base.specs.declared.operation.Command.{Command}
use Rattle.scql_base.specs.declared.operation.Operation.{Operation}
use Rattle.scql_base.specs.declared.operation.Operation.TheVariants.{DeleteUser, Begin, Commit, Rollback, PresentUser, Verify, OpenChannel, CloseChannel}
use Rattle.scql_base.specs.Words.{authentication_blocked, channel_not_supported, conditions_not_satisfied, function_not_supported, not_found, record_not_found}
use Rattle.scql_model.specs.Refusals.{◌>>=◌, or_refused, provided}
use Rattle.scql_model.specs.Database.{Database}
use Rattle.scql_model.specs.Rules.{user_named, user_stamped}
use Rattle.scql_model.specs.Machine.{Machine, Session, Reading, Transaction, open_channels, base, actor, session_of, no_reading}
use Rattle.scql_model.specs.Sessions.{changing_session, command_chain, cursor_of, reading_of, reading_so, without_chain, user_of, is_channel_open, least_closed, without_user}
use Rattle.scql_model.specs.Transactions.{own_transaction, waits, is_kept_waiting}
use Rattle.scql_model.specs.Operations.{kind_of, operations}
use Rattle.scql_model.specs.Form.{Form, refused, refused_on, part_on, a_command, form_of}
use Rattle.scql_model.specs.Objects.{StampedRow}
use Rattle.scql_model.specs.ReadingCommands.{ReadingCommand, declare, open_cursor, next, fetch, fetch_next, get_response, reading_command, Move, or_stays, rest_word, fitting, row_octets, named_among}
use Rattle.scql_model.specs.Moves.{selected, opened, rows_under, first_row, row_behind, row_at, went_to, gave_next, gave, gave_more, moved, move_of}
use Rattle.scql_model.specs.Rights.{seen_named}
use Rattle.scql_model.specs.Edits.{Edit}
use Rattle.scql_model.specs.Changing.{edits_of, with_edits}
use Rattle.scql_model.specs.Accepting.{Accepts, is_done, at_its_end, has_more, costs_a_try, channel_named, AcceptsOrLeaves}
use Rattle.scql_model.specs.Step.{Answer, answered, reading_done, changed_to, changed, user_and_sessions_deleted, session_named, secret_right, secret_wrong, verified, channel_opened, channel_closed, operated, carried_out, stepped, step}
use Rattle.scql_model.proofs.ChangingSessions.{changing_session-same}
use Rattle.scql_model.proofs.FormedParts.{read_on, IfSome-read_on-named}
use Rattle.scql_model.proofs.LastCommits.{of_outcome}

-- Reading commands that aren't refused.
abbrev Moves : Move Reading → Type 0
Moves move = Accepts move.reply.word

accepts-rest : (rest : List ℕ) → Accepts (rest_word rest)
accepts-rest [] = is_done
accepts-rest (octet ∷ octets) = has_more (length (octet ∷ octets))

moves-went_to : (c : Cursor) (found : Option StampedRow) → Moves (went_to c found)
moves-went_to c None = at_its_end
moves-went_to c (Some r) = is_done

moves-gave_next : (c : Cursor) (le : ℕ) (found : Option StampedRow) → IfOk (gave_next c le found) Moves
moves-gave_next c le None = at_its_end
moves-gave_next c le (Some r) = of_outcome Moves (fitting le (row_octets r.values)) _ (λ octets. accepts-rest (drop le octets))

moves-gave : (c : Cursor) (le : ℕ) (place : Place) (rows : List StampedRow) → IfOk (gave c le place rows) Moves
moves-gave c le NotOpen rows = tt
moves-gave c le End rows = at_its_end
moves-gave c le (At stamp) rows =
    of_outcome Moves (or_refused (row_at stamp rows) record_not_found) _ (λ r.
    of_outcome Moves (fitting le (row_octets r.values)) _ (λ octets. accepts-rest (drop le octets)))

moves-gave_more : (c : Cursor) (le : ℕ) (pending : List ℕ) → IfOk (gave_more c le pending) Moves
moves-gave_more c le [] = tt
moves-gave_more c le (octet ∷ octets) = accepts-rest (drop le (octet ∷ octets))

moves-moved : (db : Database) (actor : Actor) (reading : Reading) (command : ReadingCommand) → IfOk (moved db actor reading command) Moves
moves-moved db actor reading (declare object columns conditions) =
    of_outcome Moves (or_refused (seen_named db actor object) not_found) _ (λ o.
    of_outcome Moves (selected db actor o) _ (λ contents.
    of_outcome Moves (named_among contents.columns columns conditions) _ (λ _. is_done)))
moves-moved db actor reading open_cursor =
    of_outcome Moves (or_refused reading.cursor conditions_not_satisfied) _ (λ c.
    of_outcome Moves (rows_under db actor c) _ (λ rows. moves-went_to c (first_row rows)))
moves-moved db actor reading next =
    of_outcome Moves (opened reading.cursor) _ (λ c.
    of_outcome Moves (rows_under db actor c) _ (λ rows. moves-went_to c (row_behind c.place rows)))
moves-moved db actor reading (fetch le) =
    of_outcome Moves (opened reading.cursor) _ (λ c.
    of_outcome Moves (rows_under db actor c) _ (λ rows. moves-gave c le c.place rows))
moves-moved db actor reading (fetch_next le) =
    of_outcome Moves (opened reading.cursor) _ (λ c.
    of_outcome Moves (rows_under db actor c) _ (λ rows. moves-gave_next c le (row_behind c.place rows)))
moves-moved db actor reading (get_response le) =
    of_outcome Moves (or_refused reading.cursor conditions_not_satisfied) _ (λ c.
    of_outcome Moves (rows_under db actor c) _ (λ _. moves-gave_more c le reading.pending))

-- An answer accepts the command, or leaves the machine.
abbrev AcceptsOrStays : Machine → Answer → Type 0
AcceptsOrStays m answer = Accepts answer.reply.word ⊎ ((answer.commits ≡ []) × (answer.machine ≡ m))

-- what a channel reads is what its session has
same_reading : (session : Option Session) → option_map (reading_so (option_map_or (λ (s : Session). s.reading) session no_reading)) session ≡ session
same_reading None = refl
same_reading (Some s) = refl

stays-has_read : (m : Machine) (channel : ℕ) (command : ReadingCommand) → AcceptsOrStays m (reading_done m channel command)
unfolding move_of
stays-has_read m channel command = go (moved (base m channel) (actor m channel) (reading_of m channel) command) (moves-moved (base m channel) (actor m channel) (reading_of m channel) command)
  where
    go : (move : Result (Move Reading) StatusWord) → IfOk move Moves
        → AcceptsOrStays m (record {
          reply = (or_stays (reading_of m channel) move).reply;
          machine = changing_session (reading_so (or_stays (reading_of m channel) move).after) m channel;
          commits = [];
        })
    go (Ok move) moves = inl moves
    go (Err word) moves = inr (refl, changing_session-same (reading_so (reading_of m channel)) m channel (same_reading (session_of m channel)))

-- Each other operation accepts, or is refused before it changes anything.
abbrev pub Accepted : Answer → Type 0
Accepted answer = Accepts answer.reply.word

accepted-changed_to : (m : Machine) (channel : ℕ) (edits : List Edit) (db : Database) (t : Option Transaction) → Accepted (changed_to m channel edits db t)
accepted-changed_to m channel edits db None = is_done
accepted-changed_to m channel edits db (Some t) = is_done

accepted-changed : (m : Machine) (channel : ℕ) (operation : Operation) → IfOk (changed m channel operation) Accepted
accepted-changed m channel operation =
    of_outcome Accepted (edits_of (base m channel) (actor m channel) (cursor_of m channel) operation) _ (λ edits.
    of_outcome Accepted (with_edits (base m channel) edits) _ (λ db. accepted-changed_to m channel edits db (own_transaction m.transaction channel)))

accepted-deleted : (m : Machine) (channel : ℕ) (name : List ℕ) → IfOk (user_and_sessions_deleted m channel name) Accepted
accepted-deleted m channel name = go (changed m channel (DeleteUser name)) (accepted-changed m channel (DeleteUser name))
  where
    go : (r : Result Answer StatusWord) → IfOk r Accepted
        → IfOk (r >>= λ (answer : Answer). or_refused (user_named (base m channel).users name) not_found >>= λ (u : User). Ok (record answer { machine = without_user answer.machine u.stamp })) Accepted
    go (Err word) accepted = tt
    go (Ok answer) accepted = of_outcome Accepted (or_refused (user_named (base m channel).users name) not_found) _ (λ u. accepted)

accepted-if : (b : Bool) (x y : Answer) → Accepted x → Accepted y → Accepted (if b then x else y)
accepted-if true x y first second = first
accepted-if false x y first second = second

accepted-verified : (m : Machine) (channel : ℕ) (secret : List ℕ) → IfOk (verified m channel secret) Accepted
accepted-verified m channel secret =
    of_outcome Accepted (or_refused (user_of m channel) conditions_not_satisfied) _ (λ p.
    of_outcome Accepted (provided (not p.proved) conditions_not_satisfied) _ (λ _.
    of_outcome Accepted (or_refused (user_stamped m.committed.users p.stamp) conditions_not_satisfied) _ (λ u.
    of_outcome Accepted (provided (not (u.tries == 0)) authentication_blocked) _ (λ _.
    accepted-if (bytes_eq secret u.secret) (secret_right m channel u) (secret_wrong m u) is_done (costs_a_try (u.tries - 1))))))

accepted-opened : (m : Machine) (channel number : ℕ) → IfOk (channel_opened m channel number) Accepted
accepted-opened m channel zero = of_outcome Accepted (or_refused (least_closed m) function_not_supported) _ (λ number. is_done)
accepted-opened m channel (suc n) = of_outcome Accepted (provided (not (is_channel_open m (suc n))) conditions_not_satisfied) _ (λ _. is_done)

accepted-closed : (m : Machine) (channel number : ℕ) → IfOk (channel_closed m channel number) Accepted
accepted-closed m channel number =
    of_outcome Accepted (provided (is_channel_open m number) channel_not_supported) _ (λ _.
    of_outcome Accepted (provided (not (is_some (own_transaction m.transaction number))) conditions_not_satisfied) _ (λ _. is_done))

pub accepted-operated : (m : Machine) (channel : ℕ) (operation : Operation) → IfOk (operated m channel operation) Accepted
accepted-operated m channel Begin = of_outcome Accepted (provided (not (is_some m.transaction)) conditions_not_satisfied) _ (λ _. is_done)
accepted-operated m channel Commit = of_outcome Accepted (or_refused (own_transaction m.transaction channel) conditions_not_satisfied) _ (λ t. is_done)
accepted-operated m channel Rollback = of_outcome Accepted (or_refused (own_transaction m.transaction channel) conditions_not_satisfied) _ (λ t. is_done)
accepted-operated m channel (PresentUser name) = of_outcome Accepted (session_named (base m channel) name) _ (λ session. is_done)
accepted-operated m channel (DeleteUser name) = accepted-deleted m channel name
accepted-operated m channel (Verify secret) = accepted-verified m channel secret
accepted-operated m channel (OpenChannel number) = accepted-opened m channel number
accepted-operated m channel (CloseChannel number) = accepted-closed m channel (if number == 0 then channel else number)
accepted-operated m channel operation = accepted-changed m channel operation

-- what an outcome makes of a machine
stays-answered : (m : Machine) (outcome : Result Answer StatusWord) → IfOk outcome (AcceptsOrStays m) → AcceptsOrStays m (answered m outcome)
stays-answered m (Ok answer) accepts = accepts
stays-answered m (Err word) accepts = inr (refl, refl)

or_stays-accepted : (m : Machine) (outcome : Result Answer StatusWord) → IfOk outcome Accepted → IfOk outcome (AcceptsOrStays m)
or_stays-accepted m (Ok answer) accepted = inl accepted
or_stays-accepted m (Err word) accepted = tt

stays-carried_out : (m : Machine) (c : Command) → IfOk (carried_out m c) (AcceptsOrStays m)
stays-carried_out m c =
    of_outcome (AcceptsOrStays m) (provided (not (is_kept_waiting (waits (kind_of c.operation)) m.transaction c.channel)) conditions_not_satisfied) _
    (λ _. either (reading_command c.operation c.le))
  where
    either : (command : Option ReadingCommand) → IfOk (option_map_or (λ command. Ok (reading_done m c.channel command)) command (operated m c.channel c.operation)) (AcceptsOrStays m)
    either None = or_stays-accepted m (operated m c.channel c.operation) (accepted-operated m c.channel c.operation)
    either (Some command) = stays-has_read m c.channel command

-- A step accepts, or leaves the machine but for the parts of a command.
leaves-ended : (m : Machine) (octets : List ℕ) (channel : ℕ) (answer : Answer) → channel ≡ channel_named octets
    → AcceptsOrStays (changing_session without_chain m channel) answer → AcceptsOrLeaves m octets answer
leaves-ended m octets channel answer named (inl accepts) = inl accepts
leaves-ended m octets channel answer named (inr stays) = inr (stays.0, inr (stays.1 ∙ ap (changing_session without_chain m) named))

leaves-stepped : (m : Machine) (octets : List ℕ) (form : Form) → IfSome (read_on form) (λ channel. channel ≡ channel_named octets) → AcceptsOrLeaves m octets (stepped m form)
leaves-stepped m octets (refused word) named = inr (refl, inl refl)
leaves-stepped m octets (refused_on channel word) named = inr (refl, inr (ap (changing_session without_chain m) named))
leaves-stepped m octets (part_on channel kind part) named = inl is_done
leaves-stepped m octets (a_command c) named =
    let ended : Machine = changing_session without_chain m c.channel in
    leaves-ended m octets c.channel (answered ended (carried_out ended c)) named (stays-answered ended (carried_out ended c) (stays-carried_out ended c))

pub step-accepts_or_leaves : (m : Machine) (octets : List ℕ) → AcceptsOrLeaves m octets (step m octets)
unfolding step
step-accepts_or_leaves m octets =
    leaves-stepped m octets (form_of operations octets (open_channels m) (command_chain m) m.committed.limit)
    (IfSome-read_on-named operations octets (open_channels m) (command_chain m) m.committed.limit)
