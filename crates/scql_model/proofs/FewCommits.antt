-- VERIFY commits two databases at most, and every other command one.
use Rattle.std.proofs.Common.{◌≡◌, ◌≤◌, ◌∷◌, ℕ, zero, suc, ◌==◌, Bool, true, false, List, length, Option, Some, None, Result, Ok, Err, not, is_some, if◌then◌else◌, refl, ap, lit≤, arith}
use Rattle.std.specs.Prelude.{IfOk}
use Rattle.std.specs.Option.{option_map_or}
use Rattle.std.specs.Str.{bytes_eq}
use Rattle.scql_base.specs.declared.words.StatusWord.{StatusWord}
use Rattle.scql_base.specs.declared.records.User.{User}
use Rattle.scql_base.specs.declared.operation.Command.{Command}
use Rattle.scql_base.specs.declared.operation.Operation.{Operation}
use Rattle.scql_base.specs.declared.operation.Operation.TheVariants.{DeleteUser, Begin, Commit, Rollback, PresentUser, Verify, OpenChannel, CloseChannel}
use Rattle.scql_base.specs.Words.{authentication_blocked, channel_not_supported, conditions_not_satisfied, function_not_supported, not_found}
use Rattle.scql_model.specs.Refusals.{◌>>=◌, or_refused, provided}
use Rattle.scql_model.specs.Database.{Database, user_named, user_stamped}
use Rattle.scql_model.specs.Machine.{Machine, Transaction, open_channels, base, actor}
use Rattle.scql_model.specs.Sessions.{changing_session, command_chain, cursor_of, without_chain, user_of, is_channel_open, least_closed}
use Rattle.scql_model.specs.Transactions.{own_transaction, waits, is_kept_waiting}
use Rattle.scql_model.specs.Operations.{kind_of, operations}
use Rattle.scql_model.specs.Form.{Form, refused, refused_on, part_on, a_command, form_of}
use Rattle.scql_model.specs.ReadingCommands.{ReadingCommand, reading_command}
use Rattle.scql_model.specs.Edits.{Edit}
use Rattle.scql_model.specs.Changing.{edits_of, with_edits}
use Rattle.scql_model.specs.Step.{Answer, answered, reading_done, changed_to, changed, session_named, compared, secret_right, secret_wrong, verified, channel_opened, channel_closed, operated, carried_out, stepped, step}
use Rattle.scql_model.proofs.LastCommits.{of_outcome}

-- an answer that commits at most one, and at most two
abbrev pub CommitsOne : Answer → Type 0
CommitsOne answer = length answer.commits ≤ 1

abbrev pub CommitsTwo : Answer → Type 0
CommitsTwo answer = length answer.commits ≤ 2

one-changed_to : (m : Machine) (channel : ℕ) (edits : List Edit) (db : Database) (t : Option Transaction) → CommitsOne (changed_to m channel edits db t)
one-changed_to m channel edits db None = lit≤ tt
one-changed_to m channel edits db (Some t) = lit≤ tt

one-changed : (m : Machine) (channel : ℕ) (operation : Operation) → IfOk (changed m channel operation) CommitsOne
one-changed m channel operation =
    of_outcome CommitsOne (edits_of (base m channel) (actor m channel) (cursor_of m channel) operation) _ (λ edits.
    of_outcome CommitsOne (with_edits (base m channel) edits) _ (λ db. one-changed_to m channel edits db (own_transaction m.transaction channel)))

-- an answer with the same commits
of_answer : (r : Result Answer StatusWord) (f : Answer → Result Answer StatusWord) → IfOk r CommitsOne
    → ((answer : Answer) → CommitsOne answer → IfOk (f answer) CommitsOne) → IfOk (r >>= f) CommitsOne
of_answer (Ok answer) f one each = each answer one
of_answer (Err word) f one each = tt

two-compared : (m : Machine) (channel : ℕ) (secret : List ℕ) (u : User) → CommitsTwo (compared m channel secret u)
two-compared m channel secret u = go (bytes_eq secret u.secret)
  where
    go : (b : Bool) → CommitsTwo (if b then secret_right m channel u else secret_wrong m u)
    go true = lit≤ tt
    go false = lit≤ tt

two-verified : (m : Machine) (channel : ℕ) (secret : List ℕ) → IfOk (verified m channel secret) CommitsTwo
two-verified m channel secret =
    of_outcome CommitsTwo (or_refused (user_of m channel) conditions_not_satisfied) _ (λ p.
    of_outcome CommitsTwo (provided (not p.proved) conditions_not_satisfied) _ (λ _.
    of_outcome CommitsTwo (or_refused (user_stamped m.committed.users p.stamp) conditions_not_satisfied) _ (λ u.
    of_outcome CommitsTwo (provided (not (u.tries == 0)) authentication_blocked) _ (λ _. two-compared m channel secret u))))

one-opened : (m : Machine) (channel number : ℕ) → IfOk (channel_opened m channel number) CommitsOne
one-opened m channel zero = of_outcome CommitsOne (or_refused (least_closed m) function_not_supported) _ (λ number. lit≤ tt)
one-opened m channel (suc n) = of_outcome CommitsOne (provided (not (is_channel_open m (suc n))) conditions_not_satisfied) _ (λ _. lit≤ tt)

one-closed : (m : Machine) (channel number : ℕ) → IfOk (channel_closed m channel number) CommitsOne
one-closed m channel number =
    of_outcome CommitsOne (provided (is_channel_open m number) channel_not_supported) _ (λ _.
    of_outcome CommitsOne (provided (not (is_some (own_transaction m.transaction number))) conditions_not_satisfied) _ (λ _. lit≤ tt))

one-operated : (m : Machine) (channel : ℕ) (operation : Operation) → ((secret : List ℕ) → operation ≡ Verify secret → ⊥) → IfOk (operated m channel operation) CommitsOne
one-operated m channel Begin other = of_outcome CommitsOne (provided (not (is_some m.transaction)) conditions_not_satisfied) _ (λ _. lit≤ tt)
one-operated m channel Commit other = of_outcome CommitsOne (or_refused (own_transaction m.transaction channel) conditions_not_satisfied) _ (λ t. lit≤ tt)
one-operated m channel Rollback other = of_outcome CommitsOne (or_refused (own_transaction m.transaction channel) conditions_not_satisfied) _ (λ t. lit≤ tt)
one-operated m channel (PresentUser name) other = of_outcome CommitsOne (session_named (base m channel) name) _ (λ session. lit≤ tt)
one-operated m channel (DeleteUser name) other =
    of_answer (changed m channel (DeleteUser name)) _ (one-changed m channel (DeleteUser name)) (λ answer one.
    of_outcome CommitsOne (or_refused (user_named (base m channel).users name) not_found) _ (λ u. one))
one-operated m channel (Verify secret) other = absurd (other secret refl)
one-operated m channel (OpenChannel number) other = one-opened m channel number
one-operated m channel (CloseChannel number) other = one-closed m channel (if number == 0 then channel else number)
one-operated m channel operation other = one-changed m channel operation

one-carried_out : (m : Machine) (c : Command) → ((secret : List ℕ) → c.operation ≡ Verify secret → ⊥) → IfOk (carried_out m c) CommitsOne
one-carried_out m c other =
    of_outcome CommitsOne (provided (not (is_kept_waiting (waits (kind_of c.operation)) m.transaction c.channel)) conditions_not_satisfied) _
    (λ _. either (reading_command c.operation c.le))
  where
    either : (command : Option ReadingCommand) → IfOk (option_map_or (λ command. Ok (reading_done m c.channel command)) command (operated m c.channel c.operation)) CommitsOne
    either None = one-operated m c.channel c.operation other
    either (Some command) = lit≤ tt

-- so VERIFY alone commits a second one,
pub one-answered : (m : Machine) (c : Command) (first second : Database) (rest : List Database) → ((secret : List ℕ) → c.operation ≡ Verify secret → ⊥) → (answered m (carried_out m c)).commits ≡ first ∷ second ∷ rest → ⊥
one-answered m c first second rest other is = go (carried_out m c) (one-carried_out m c other) is
  where
    go : (r : Result Answer StatusWord) → IfOk r CommitsOne → (answered m r).commits ≡ first ∷ second ∷ rest → ⊥
    go (Ok answer) one is = let many : length answer.commits ≡ suc (suc (length rest)) = ap length is in omega (arith, one, many)
    go (Err word) one is = cc

-- and nothing commits a third
two-carried_out : (m : Machine) (c : Command) → IfOk (carried_out m c) CommitsTwo
two-carried_out m c =
    of_outcome CommitsTwo (provided (not (is_kept_waiting (waits (kind_of c.operation)) m.transaction c.channel)) conditions_not_satisfied) _
    (λ _. either (reading_command c.operation c.le))
  where
    fewer : (r : Result Answer StatusWord) → IfOk r CommitsOne → IfOk r CommitsTwo
    fewer (Ok answer) one = omega (arith, one)
    fewer (Err word) one = tt

    of : (operation : Operation) → IfOk (operated m c.channel operation) CommitsTwo
    of (Verify secret) = two-verified m c.channel secret
    of operation = fewer (operated m c.channel operation) (one-operated m c.channel operation (λ secret is. cc))

    either : (command : Option ReadingCommand) → IfOk (option_map_or (λ command. Ok (reading_done m c.channel command)) command (operated m c.channel c.operation)) CommitsTwo
    either None = of c.operation
    either (Some command) = lit≤ tt

two-stepped : (m : Machine) (form : Form) → CommitsTwo (stepped m form)
two-stepped m (refused word) = lit≤ tt
two-stepped m (refused_on channel word) = lit≤ tt
two-stepped m (part_on channel kind octets) = lit≤ tt
two-stepped m (a_command c) =
    let ended : Machine = changing_session without_chain m c.channel in
    go ended (carried_out ended c) (two-carried_out ended c)
  where
    go : (m : Machine) (r : Result Answer StatusWord) → IfOk r CommitsTwo → CommitsTwo (answered m r)
    go m (Ok answer) two = two
    go m (Err word) two = lit≤ tt

pub two-step : (m : Machine) (octets : List ℕ) → CommitsTwo (step m octets)
unfolding step
two-step m octets = two-stepped m (form_of operations octets (open_channels m) (command_chain m) m.committed.limit)
