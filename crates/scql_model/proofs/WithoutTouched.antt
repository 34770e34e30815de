-- No answer goes by the records that a transaction touched.
use Rattle.std.proofs.Common.{◌≡◌, ℕ, zero, suc, ◌==◌, Bool, true, false, List, [], Option, Some, None, Result, Ok, Err, not, is_some, if◌then◌else◌, refl, ap, ◌∙◌}
use Rattle.std.specs.Option.{option_map_or}
use Rattle.std.specs.Str.{bytes_eq}
use Rattle.scql_base.specs.declared.words.StatusWord.{StatusWord}
use Rattle.scql_base.specs.declared.records.User.{User}
use Rattle.scql_base.specs.declared.operation.Command.{Command}
use Rattle.scql_base.specs.declared.operation.Operation.{Operation}
use Rattle.scql_base.specs.declared.operation.Operation.TheVariants.{DeleteUser, Begin, Commit, Rollback, PresentUser, Verify, OpenChannel, CloseChannel}
use Rattle.scql_base.specs.Words.{authentication_blocked, channel_not_supported, conditions_not_satisfied, function_not_supported, not_found}
use Rattle.scql_model.specs.Refusals.{◌>>=◌, or_refused, provided}
use Rattle.scql_model.specs.Database.{Database, user_named, user_stamped}
use Rattle.scql_model.specs.Machine.{Machine, Session, Transaction, open_channels, base, actor, reset}
use Rattle.scql_model.specs.Sessions.{changing_session, command_chain, cursor_of, without_chain, user_of, is_channel_open, least_closed, without_user}
use Rattle.scql_model.specs.Transactions.{Waits, for_none, for_others, for_any, waits, is_kept_waiting}
use Rattle.scql_model.specs.Operations.{kind_of, operations}
use Rattle.scql_model.specs.Form.{Form, refused, refused_on, part_on, a_command, form_of}
use Rattle.scql_model.specs.ReadingCommands.{ReadingCommand, reading_command}
use Rattle.scql_model.specs.Edits.{Edit}
use Rattle.scql_model.specs.Changing.{edits_of, with_edits}
use Rattle.scql_model.specs.Step.{Answer, answered, reading_done, changed_to, changed, user_and_sessions_deleted, session_named, secret_right, secret_wrong, verified, channel_opened, channel_closed, operated, carried_out, stepped, step}
use Rattle.scql_model.specs.Touched.{without_touched}

-- Answers and outcomes, but for what is touched in the machines that they leave.
abbrev pub forgetting : Answer → Answer
forgetting answer = record answer { machine = without_touched answer.machine }

abbrev outcome_forgetting : Result Answer StatusWord → Result Answer StatusWord
outcome_forgetting (Ok answer) = Ok (forgetting answer)
outcome_forgetting (Err word) = Err word

-- two outcomes are the same but for that
abbrev AreAlike : Result Answer StatusWord → Result Answer StatusWord → Type 0
AreAlike r s = outcome_forgetting r ≡ outcome_forgetting s

-- what comes alike of each value comes alike of an outcome
alike-value : {A : Type 0} (r : Result A StatusWord) (f g : A → Result Answer StatusWord) → ((x : A) → AreAlike (f x) (g x)) → AreAlike (r >>= f) (r >>= g)
alike-value (Ok x) f g each = each x
alike-value (Err word) f g each = refl

-- a machine with an open transaction, and the transaction when nothing is touched
abbrev within : Database → List (Option Session) → Transaction → Machine
within db sessions t = record { committed = db; transaction = Some t; sessions = sessions }

abbrev fresh_in : Transaction → Transaction
fresh_in t = record t { touched = [] }

alike-changed : (db : Database) (sessions : List (Option Session)) (t : Transaction) (channel : ℕ) (operation : Operation)
    → AreAlike (changed (within db sessions t) channel operation) (changed (within db sessions (fresh_in t)) channel operation)
alike-changed db sessions t channel operation =
    let m : Machine = within db sessions t in
    alike-value (edits_of (base m channel) (actor m channel) (cursor_of m channel) operation) _ _ (λ edits.
    alike-value (with_edits (base m channel) edits) _ _ (λ next. go edits next (t.channel == channel)))
  where
    go : (edits : List Edit) (next : Database) (own : Bool)
        → AreAlike (Ok (changed_to (within db sessions t) channel edits next (if own then Some t else None)))
        (Ok (changed_to (within db sessions (fresh_in t)) channel edits next (if own then Some (fresh_in t) else None)))
    go edits next true = refl
    go edits next false = refl

-- DELETE USER changes sessions besides, whatever is touched
alike-deleted : (db : Database) (sessions : List (Option Session)) (t : Transaction) (channel : ℕ) (name : List ℕ)
    → AreAlike (user_and_sessions_deleted (within db sessions t) channel name) (user_and_sessions_deleted (within db sessions (fresh_in t)) channel name)
alike-deleted db sessions t channel name =
    go (changed (within db sessions t) channel (DeleteUser name)) (changed (within db sessions (fresh_in t)) channel (DeleteUser name))
    (alike-changed db sessions t channel (DeleteUser name))
  where
    left : Result User StatusWord
    left = or_refused (user_named (base (within db sessions t) channel).users name) not_found

    go : (r s : Result Answer StatusWord) → AreAlike r s
        → AreAlike (r >>= λ (answer : Answer). left >>= λ (u : User). Ok (record answer { machine = without_user answer.machine u.stamp }))
        (s >>= λ (answer : Answer). left >>= λ (u : User). Ok (record answer { machine = without_user answer.machine u.stamp }))
    go (Ok answer) (Ok other) alike =
        let same : forgetting answer ≡ forgetting other = cc in
        alike-value left _ _ (λ u. ap (λ (a : Answer). Ok (record a { machine = without_user a.machine u.stamp })) same)
    go (Ok answer) (Err word) alike = absurd cc
    go (Err word) (Ok other) alike = absurd cc
    go (Err word) (Err other) alike = cc

alike-verified : (db : Database) (sessions : List (Option Session)) (t : Transaction) (channel : ℕ) (secret : List ℕ)
    → AreAlike (verified (within db sessions t) channel secret) (verified (within db sessions (fresh_in t)) channel secret)
alike-verified db sessions t channel secret =
    let m : Machine = within db sessions t in
    alike-value (or_refused (user_of m channel) conditions_not_satisfied) _ _ (λ p.
    alike-value (provided (not p.proved) conditions_not_satisfied) _ _ (λ _.
    alike-value (or_refused (user_stamped db.users p.stamp) conditions_not_satisfied) _ _ (λ u.
    alike-value (provided (not (u.tries == 0)) authentication_blocked) _ _ (λ _. go (bytes_eq secret u.secret) u))))
  where
    go : (right : Bool) (u : User)
        → AreAlike (Ok (if right then secret_right (within db sessions t) channel u else secret_wrong (within db sessions t) u))
        (Ok (if right then secret_right (within db sessions (fresh_in t)) channel u else secret_wrong (within db sessions (fresh_in t)) u))
    go true u = refl
    go false u = refl

alike-opened : (db : Database) (sessions : List (Option Session)) (t : Transaction) (channel number : ℕ)
    → AreAlike (channel_opened (within db sessions t) channel number) (channel_opened (within db sessions (fresh_in t)) channel number)
alike-opened db sessions t channel zero = alike-value (or_refused (least_closed (within db sessions t)) function_not_supported) _ _ (λ _. refl)
alike-opened db sessions t channel (suc n) = alike-value (provided (not (is_channel_open (within db sessions t) (suc n))) conditions_not_satisfied) _ _ (λ _. refl)

-- Whether a transaction is a channel's own, and whether a command waits for it, doesn't go by what it touched.
alike-own : (own : Bool) (t : Transaction) (f g : Transaction → Result Answer StatusWord) → AreAlike (f t) (g (fresh_in t))
    → AreAlike (or_refused (if own then Some t else None) conditions_not_satisfied >>= f) (or_refused (if own then Some (fresh_in t) else None) conditions_not_satisfied >>= g)
alike-own true t f g alike = alike
alike-own false t f g alike = refl

same-own : (own : Bool) (t : Transaction) → is_some (if own then Some t else None) ≡ is_some (if own then Some (fresh_in t) else None)
same-own true t = refl
same-own false t = refl

same-waiting : (w : Waits) (t : Transaction) (channel : ℕ) → is_kept_waiting w (Some t) channel ≡ is_kept_waiting w (Some (fresh_in t)) channel
same-waiting for_none t channel = refl
same-waiting for_others t channel = refl
same-waiting for_any t channel = refl

-- both are refused, or what comes behind is alike
alike-provided : (b c : Bool) (word : StatusWord) (f g : Unit {0} → Result Answer StatusWord) → b ≡ c → AreAlike (f tt) (g tt) → AreAlike (provided b word >>= f) (provided c word >>= g)
alike-provided true true word f g same alike = alike
alike-provided true false word f g same alike = absurd cc
alike-provided false true word f g same alike = absurd cc
alike-provided false false word f g same alike = refl

alike-closed : (db : Database) (sessions : List (Option Session)) (t : Transaction) (channel number : ℕ)
    → AreAlike (channel_closed (within db sessions t) channel number) (channel_closed (within db sessions (fresh_in t)) channel number)
alike-closed db sessions t channel number =
    alike-value (provided (is_channel_open (within db sessions t) number) channel_not_supported) _ _ (λ _.
    alike-provided _ _ conditions_not_satisfied _ _ (ap not (same-own (t.channel == number) t)) refl)

alike-operated : (db : Database) (sessions : List (Option Session)) (t : Transaction) (channel : ℕ) (operation : Operation)
    → AreAlike (operated (within db sessions t) channel operation) (operated (within db sessions (fresh_in t)) channel operation)
alike-operated db sessions t channel Begin = refl
alike-operated db sessions t channel Commit = alike-own (t.channel == channel) t _ _ refl
alike-operated db sessions t channel Rollback = alike-own (t.channel == channel) t _ _ refl
alike-operated db sessions t channel (PresentUser name) = alike-value (session_named (base (within db sessions t) channel) name) _ _ (λ _. refl)
alike-operated db sessions t channel (DeleteUser name) = alike-deleted db sessions t channel name
alike-operated db sessions t channel (Verify secret) = alike-verified db sessions t channel secret
alike-operated db sessions t channel (OpenChannel number) = alike-opened db sessions t channel number
alike-operated db sessions t channel (CloseChannel number) = alike-closed db sessions t channel (if number == 0 then channel else number)
alike-operated db sessions t channel operation = alike-changed db sessions t channel operation

alike-carried_out : (db : Database) (sessions : List (Option Session)) (t : Transaction) (c : Command)
    → AreAlike (carried_out (within db sessions t) c) (carried_out (within db sessions (fresh_in t)) c)
alike-carried_out db sessions t c =
    alike-provided _ _ conditions_not_satisfied _ _ (ap not (same-waiting (waits (kind_of c.operation)) t c.channel)) (either (reading_command c.operation c.le))
  where
    either : (command : Option ReadingCommand)
        → AreAlike (option_map_or (λ command. Ok (reading_done (within db sessions t) c.channel command)) command (operated (within db sessions t) c.channel c.operation))
        (option_map_or (λ command. Ok (reading_done (within db sessions (fresh_in t)) c.channel command)) command (operated (within db sessions (fresh_in t)) c.channel c.operation))
    either None = alike-operated db sessions t c.channel c.operation
    either (Some command) = refl

-- what alike outcomes make of a machine
alike-answered : (db : Database) (sessions : List (Option Session)) (t : Transaction) (r s : Result Answer StatusWord) → AreAlike r s
    → forgetting (answered (within db sessions t) r) ≡ forgetting (answered (within db sessions (fresh_in t)) s)
alike-answered db sessions t (Ok answer) (Ok other) alike = cc
alike-answered db sessions t (Ok answer) (Err word) alike = absurd cc
alike-answered db sessions t (Err word) (Ok other) alike = absurd cc
alike-answered db sessions t (Err word) (Err other) alike =
    let same : word ≡ other = cc in
    ap (λ w. forgetting (answered (within db sessions t) (Err w))) same

alike-stepped : (db : Database) (sessions : List (Option Session)) (t : Transaction) (form : Form)
    → forgetting (stepped (within db sessions t) form) ≡ forgetting (stepped (within db sessions (fresh_in t)) form)
alike-stepped db sessions t (refused word) = refl
alike-stepped db sessions t (refused_on channel word) = refl
alike-stepped db sessions t (part_on channel kind octets) = refl
alike-stepped db sessions t (a_command c) =
    let ended : List (Option Session) = (changing_session without_chain (within db sessions t) c.channel).sessions in
    alike-answered db ended t (carried_out (within db ended t) c) (carried_out (within db ended (fresh_in t)) c) (alike-carried_out db ended t c)

-- A step goes by nothing that is touched.
forgetting-step : (m : Machine) (octets : List ℕ) → forgetting (step m octets) ≡ forgetting (step (without_touched m) octets)
unfolding step
forgetting-step m octets = go m.transaction
  where
    go : (transaction : Option Transaction)
        → forgetting (step (record m { transaction = transaction }) octets) ≡ forgetting (step (without_touched (record m { transaction = transaction })) octets)
    go None = refl
    go (Some t) = alike-stepped m.committed m.sessions t (form_of operations octets (open_channels m) (command_chain m) m.committed.limit)

pub step-without_touched : (m n : Machine) (octets : List ℕ) → without_touched m ≡ n → forgetting (step m octets) ≡ forgetting (step n octets)
step-without_touched m n octets same = forgetting-step m octets ∙ ap (λ other. forgetting (step other octets)) same

pub reset-without_touched : (m n : Machine) → without_touched m ≡ n → without_touched (reset m) ≡ reset n
reset-without_touched m n same = ap reset same
