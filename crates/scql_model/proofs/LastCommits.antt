-- A step ends at the last database that it commits, and where it commits none at the one with which it began.
use Rattle.std.proofs.Common.{◌≡◌, ℕ, zero, suc, ◌==◌, Bool, true, false, List, length, Option, Some, None, Result, Ok, Err, not, is_some, if◌then◌else◌, refl}
use Rattle.std.specs.Prelude.{IfOk}
use Rattle.std.specs.Option.{option_map_or}
use Rattle.std.specs.Str.{bytes_eq}
use Rattle.scql_base.specs.declared.words.StatusWord.{StatusWord}
use Rattle.scql_base.specs.declared.records.User.{User}
use Rattle.scql_base.specs.declared.operation.Command.{Command}
use Rattle.scql_base.specs.declared.operation.Operation.{Operation}
use Rattle.scql_base.specs.declared.operation.Operation.TheVariants.{DeleteUser, Begin, Commit, Rollback, PresentUser, Verify, OpenChannel, CloseChannel}
use Rattle.scql_base.specs.Words.{authentication_blocked, channel_not_supported, conditions_not_satisfied, function_not_supported, not_found}
use Rattle.scql_model.specs.Refusals.{◌>>=◌, or_refused, provided}
use Rattle.scql_model.specs.Database.{Database, user_named, user_stamped}
use Rattle.scql_model.specs.Machine.{Machine, Transaction, open_channels, base, actor}
use Rattle.scql_model.specs.Sessions.{changing_session, command_chain, cursor_of, without_chain, user_of, is_channel_open, least_closed}
use Rattle.scql_model.specs.Transactions.{own_transaction, waits, is_kept_waiting}
use Rattle.scql_model.specs.Operations.{kind_of, operations}
use Rattle.scql_model.specs.Form.{Form, refused, refused_on, part_on, a_command, form_of}
use Rattle.scql_model.specs.ReadingCommands.{ReadingCommand, reading_command}
use Rattle.scql_model.specs.Edits.{Edit}
use Rattle.scql_model.specs.Changing.{edits_of, with_edits}
use Rattle.scql_model.specs.Heard.{after_commits}
use Rattle.scql_model.specs.Step.{Answer, answered, reading_done, changed_to, changed, user_and_sessions_deleted, session_named, secret_right, secret_wrong, compared, verified, channel_opened, channel_closed, operated, carried_out, stepped, step}

abbrev pub IsLast : Database → Answer → Type 0
IsLast db answer = after_commits db answer.commits (length answer.commits) ≡ answer.machine.committed

-- what comes of a value, whatever it is, comes of an outcome
pub of_outcome : {A B : Type 0} (P : B → Type 0) (r : Result A StatusWord) (f : A → Result B StatusWord) → ((x : A) → IfOk (f x) P) → IfOk (r >>= f) P
of_outcome P (Ok x) f each = each x
of_outcome P (Err word) f each = tt

last-changed_to : (m : Machine) (channel : ℕ) (edits : List Edit) (db : Database) (t : Option Transaction) → IsLast m.committed (changed_to m channel edits db t)
last-changed_to m channel edits db None = refl
last-changed_to m channel edits db (Some t) = refl

last-changed : (m : Machine) (channel : ℕ) (operation : Operation) → IfOk (changed m channel operation) (IsLast m.committed)
last-changed m channel operation =
    of_outcome (IsLast m.committed) (edits_of (base m channel) (actor m channel) (cursor_of m channel) operation) _ (λ edits.
    of_outcome (IsLast m.committed) (with_edits (base m channel) edits) _ (λ db. last-changed_to m channel edits db (own_transaction m.transaction channel)))

-- an answer whose sessions alone are other ones
of_answer : (db : Database) (r : Result Answer StatusWord) (f : Answer → Result Answer StatusWord) → IfOk r (IsLast db)
    → ((answer : Answer) → IsLast db answer → IfOk (f answer) (IsLast db)) → IfOk (r >>= f) (IsLast db)
of_answer db (Ok answer) f last each = each answer last
of_answer db (Err word) f last each = tt

last-deleted : (m : Machine) (channel : ℕ) (name : List ℕ) → IfOk (user_and_sessions_deleted m channel name) (IsLast m.committed)
last-deleted m channel name =
    of_answer m.committed (changed m channel (DeleteUser name)) _ (last-changed m channel (DeleteUser name)) (λ answer last.
    of_outcome (IsLast m.committed) (or_refused (user_named (base m channel).users name) not_found) _ (λ u. last))

last-if : (db : Database) (b : Bool) (x y : Answer) → IsLast db x → IsLast db y → IsLast db (if b then x else y)
last-if db true x y first second = first
last-if db false x y first second = second

last-compared : (m : Machine) (channel : ℕ) (secret : List ℕ) (u : User) → IsLast m.committed (compared m channel secret u)
last-compared m channel secret u = last-if m.committed (bytes_eq secret u.secret) (secret_right m channel u) (secret_wrong m u) refl refl

last-verified : (m : Machine) (channel : ℕ) (secret : List ℕ) → IfOk (verified m channel secret) (IsLast m.committed)
last-verified m channel secret =
    of_outcome (IsLast m.committed) (or_refused (user_of m channel) conditions_not_satisfied) _ (λ p.
    of_outcome (IsLast m.committed) (provided (not p.proved) conditions_not_satisfied) _ (λ _.
    of_outcome (IsLast m.committed) (or_refused (user_stamped m.committed.users p.stamp) conditions_not_satisfied) _ (λ u.
    of_outcome (IsLast m.committed) (provided (not (u.tries == 0)) authentication_blocked) _ (λ _. last-compared m channel secret u))))

last-opened : (m : Machine) (channel number : ℕ) → IfOk (channel_opened m channel number) (IsLast m.committed)
last-opened m channel zero = of_outcome (IsLast m.committed) (or_refused (least_closed m) function_not_supported) _ (λ number. refl)
last-opened m channel (suc n) = of_outcome (IsLast m.committed) (provided (not (is_channel_open m (suc n))) conditions_not_satisfied) _ (λ _. refl)

last-closed : (m : Machine) (channel number : ℕ) → IfOk (channel_closed m channel number) (IsLast m.committed)
last-closed m channel number =
    of_outcome (IsLast m.committed) (provided (is_channel_open m number) channel_not_supported) _ (λ _.
    of_outcome (IsLast m.committed) (provided (not (is_some (own_transaction m.transaction number))) conditions_not_satisfied) _ (λ _. refl))

last-operated : (m : Machine) (channel : ℕ) (operation : Operation) → IfOk (operated m channel operation) (IsLast m.committed)
last-operated m channel Begin = of_outcome (IsLast m.committed) (provided (not (is_some m.transaction)) conditions_not_satisfied) _ (λ _. refl)
last-operated m channel Commit = of_outcome (IsLast m.committed) (or_refused (own_transaction m.transaction channel) conditions_not_satisfied) _ (λ t. refl)
last-operated m channel Rollback = of_outcome (IsLast m.committed) (or_refused (own_transaction m.transaction channel) conditions_not_satisfied) _ (λ t. refl)
last-operated m channel (PresentUser name) = of_outcome (IsLast m.committed) (session_named (base m channel) name) _ (λ session. refl)
last-operated m channel (DeleteUser name) = last-deleted m channel name
last-operated m channel (Verify secret) = last-verified m channel secret
last-operated m channel (OpenChannel number) = last-opened m channel number
last-operated m channel (CloseChannel number) = last-closed m channel (if number == 0 then channel else number)
last-operated m channel operation = last-changed m channel operation

last-carried_out : (m : Machine) (c : Command) → IfOk (carried_out m c) (IsLast m.committed)
last-carried_out m c =
    of_outcome (IsLast m.committed) (provided (not (is_kept_waiting (waits (kind_of c.operation)) m.transaction c.channel)) conditions_not_satisfied) _
    (λ _. either (reading_command c.operation c.le))
  where
    either : (command : Option ReadingCommand) → IfOk (option_map_or (λ command. Ok (reading_done m c.channel command)) command (operated m c.channel c.operation)) (IsLast m.committed)
    either None = last-operated m c.channel c.operation
    either (Some command) = refl

last-answered : (m : Machine) (result : Result Answer StatusWord) → IfOk result (IsLast m.committed) → IsLast m.committed (answered m result)
last-answered m (Ok answer) last = last
last-answered m (Err word) last = refl

last-stepped : (m : Machine) (form : Form) → IsLast m.committed (stepped m form)
last-stepped m (refused word) = refl
last-stepped m (refused_on channel word) = refl
last-stepped m (part_on channel kind octets) = refl
last-stepped m (a_command c) =
    let ended : Machine = changing_session without_chain m c.channel in
    last-answered ended (carried_out ended c) (last-carried_out ended c)

pub last-step : (m : Machine) (octets : List ℕ) → IsLast m.committed (step m octets)
unfolding step
last-step m octets = last-stepped m (form_of operations octets (open_channels m) (command_chain m) m.committed.limit)
