-- Nothing is written for what is refused, for what reads, and outside of a transaction for what commits nothing.
use Rattle.std.proofs.Common.{◌≡◌, ◌⊎◌, ℕ, ◌*◌, List, [], ◌∷◌, length, Option, Some, None, Result, Ok, Err, not, refl, sym, subst, inl, inr, arith}
use Rattle.std.specs.Prelude.{IfOk}
use Rattle.std.specs.Option.{option_map_or}
use Rattle.std.proofs.lemmas.Option.{none-some}
use Rattle.scql_base.specs.declared.words.StatusWord.{StatusWord}
use Rattle.scql_base.specs.declared.records.User.{User}
use Rattle.scql_base.specs.declared.operation.Command.{Command}
use Rattle.scql_base.specs.declared.operation.Operation.{Operation}
use Rattle.scql_base.specs.declared.operation.Operation.TheVariants.{DeclareCursor, OpenCursor, Next, Fetch, FetchNext, GetResponse, DeleteUser, Begin, Commit, Rollback, PresentUser, Verify, OpenChannel, CloseChannel}
use Rattle.scql_base.specs.declared.cursor.PresentedUser.{PresentedUser}
use Rattle.scql_base.specs.Words.{conditions_not_satisfied, not_found}
use Rattle.scql_model.specs.Refusals.{◌>>=◌, or_refused, provided}
use Rattle.scql_model.specs.Database.{Database, user_named, user_stamped}
use Rattle.scql_model.specs.Machine.{Machine, Transaction, open_channels, base, actor}
use Rattle.scql_model.specs.Sessions.{changing_session, command_chain, cursor_of, without_chain, without_user, user_of}
use Rattle.scql_model.specs.Transactions.{own_transaction, waits, is_kept_waiting}
use Rattle.scql_model.specs.Operations.{kind_of, operations}
use Rattle.scql_model.specs.Form.{Form, refused, refused_on, part_on, a_command, form_of}
use Rattle.scql_model.specs.ReadingCommands.{ReadingCommand, reading_command}
use Rattle.scql_model.specs.Edits.{Edit, of_user, changing, octets_for}
use Rattle.scql_model.specs.Changing.{edits_of, with_edits}
use Rattle.scql_model.specs.Users.{user_deleted}
use Rattle.scql_model.specs.Accepting.{Accepts}
use Rattle.scql_model.specs.Step.{Answer, answered, reading_done, changed_to, changed, user_and_sessions_deleted, verified, operated, carried_out, stepped, step}
use Rattle.scql_model.specs.Bound.{octets_for_change, octets_changed, octets_verified, octets_operated, octets_carried_out, or_nothing, octets_stepped, octets_bound}
use Rattle.scql_model.proofs.Refusing.{Accepted, accepted-operated}

-- so many octets for an outcome: none for a refusal, and none where there is no transaction and nothing is committed
abbrev NoneFor : Option Transaction → Result Answer StatusWord → ℕ → Type 0
NoneFor t (Ok answer) n = t ≡ None → answer.commits ≡ [] → n ≡ 0
NoneFor t (Err word) n = n ≡ 0

none-zero : (t : Option Transaction) (outcome : Result Answer StatusWord) → NoneFor t outcome 0
none-zero t (Ok answer) = λ none empty. refl
none-zero t (Err word) = refl

-- a refusal stands in the way of both
none-bound : {A : Type 0} (t : Option Transaction) (r : Result A StatusWord) (f : A → Result Answer StatusWord) (g : A → Result ℕ StatusWord)
    → ((x : A) → NoneFor t (f x) (or_nothing (g x))) → NoneFor t (r >>= f) (or_nothing (r >>= g))
none-bound t (Ok x) f g each = each x
none-bound t (Err word) f g each = refl

none-changed_to : (m : Machine) (channel : ℕ) (edits : List Edit) (db : Database)
    → NoneFor m.transaction (Ok (changed_to m channel edits db (own_transaction m.transaction channel))) (octets_for_change (own_transaction m.transaction channel) edits)
none-changed_to m channel edits db = go m.transaction
  where
    go : (t : Option Transaction) → t ≡ None → (changed_to m channel edits db (own_transaction t channel)).commits ≡ [] → octets_for_change (own_transaction t channel) edits ≡ 0
    go None none empty = absurd cc
    go (Some t) none empty = absurd cc

none-changed : (m : Machine) (channel : ℕ) (operation : Operation) → NoneFor m.transaction (changed m channel operation) (or_nothing (octets_changed m channel operation))
none-changed m channel operation =
    none-bound m.transaction (edits_of (base m channel) (actor m channel) (cursor_of m channel) operation) _ _ (λ edits.
    none-bound m.transaction (with_edits (base m channel) edits) _ _ (λ db. none-changed_to m channel edits db))

-- the sessions of the user who was found are other ones; nothing else is
abbrev left_by_user : Option User → Answer → Result Answer StatusWord
left_by_user found answer = or_refused found not_found >>= λ (u : User). Ok (record answer { machine = without_user answer.machine u.stamp })

none-left : (t : Option Transaction) (u : User) (r : Result Answer StatusWord) (n : ℕ) → NoneFor t r n → NoneFor t (r >>= left_by_user (Some u)) n
none-left t u (Ok answer) n none = none
none-left t u (Err word) n none = none

none-deleted : (m : Machine) (channel : ℕ) (name : List ℕ) → NoneFor m.transaction (user_and_sessions_deleted m channel name) (or_nothing (octets_changed m channel (DeleteUser name)))
unfolding edits_of user_deleted
none-deleted m channel name = of_user (user_named (base m channel).users name) refl
  where
    of_user : (found : Option User) → user_named (base m channel).users name ≡ found
        → NoneFor m.transaction (changed m channel (DeleteUser name) >>= left_by_user (user_named (base m channel).users name)) (or_nothing (octets_changed m channel (DeleteUser name)))
    of_user None is = rw is refl
    of_user (Some u) is =
        subst (λ (found : Option User). NoneFor m.transaction (changed m channel (DeleteUser name) >>= left_by_user found) (or_nothing (octets_changed m channel (DeleteUser name)))) (sym is)
        (none-left m.transaction u (changed m channel (DeleteUser name)) (or_nothing (octets_changed m channel (DeleteUser name))) (none-changed m channel (DeleteUser name)))

-- each commit counts
none-verified : (m : Machine) (channel : ℕ) (secret : List ℕ) → NoneFor m.transaction (verified m channel secret) (or_nothing (octets_verified m channel secret))
none-verified m channel secret = of_answer (verified m channel secret)
  where
    of_users : (n : ℕ) (p : Result PresentedUser StatusWord) (found : PresentedUser → Result User StatusWord) → n ≡ 0
        → or_nothing (p >>= λ (p : PresentedUser). found p >>= λ (u : User). Ok (n * octets_for (changing (of_user u) ∷ []))) ≡ 0
    of_users n (Err word) found zero = refl
    of_users n (Ok p) found zero = of_found (found p)
      where
        of_found : (r : Result User StatusWord) → or_nothing (r >>= λ (u : User). Ok (n * octets_for (changing (of_user u) ∷ []))) ≡ 0
        of_found (Err word) = refl
        of_found (Ok u) = rw zero (omega arith)

    of_answer : (r : Result Answer StatusWord)
        → NoneFor m.transaction r (or_nothing (r >>= λ (answer : Answer). or_refused (user_of m channel) conditions_not_satisfied
        >>= λ (p : PresentedUser). or_refused (user_stamped m.committed.users p.stamp) conditions_not_satisfied
        >>= λ (u : User). Ok (length answer.commits * octets_for (changing (of_user u) ∷ []))))
    of_answer (Err word) = refl
    of_answer (Ok answer) = λ none empty.
        of_users (length answer.commits) (or_refused (user_of m channel) conditions_not_satisfied) (λ p. or_refused (user_stamped m.committed.users p.stamp) conditions_not_satisfied) (rw empty refl)

none-operated : (m : Machine) (channel : ℕ) (operation : Operation) → NoneFor m.transaction (operated m channel operation) (or_nothing (octets_operated m channel operation))
unfolding edits_of
none-operated m channel Begin = none-zero m.transaction (operated m channel Begin)
none-operated m channel Commit = none-bound m.transaction (or_refused (own_transaction m.transaction channel) conditions_not_satisfied) _ _ (λ t none empty. absurd cc)
none-operated m channel Rollback = none-zero m.transaction (operated m channel Rollback)
none-operated m channel (PresentUser name) = none-zero m.transaction (operated m channel (PresentUser name))
none-operated m channel (DeleteUser name) = none-deleted m channel name
none-operated m channel (Verify secret) = none-verified m channel secret
none-operated m channel (OpenChannel number) = none-zero m.transaction (operated m channel (OpenChannel number))
none-operated m channel (CloseChannel number) = none-zero m.transaction (operated m channel (CloseChannel number))
none-operated m channel operation = none-changed m channel operation

-- what reads has no edits
none-reading : (m : Machine) (channel : ℕ) (operation : Operation) (le : Option ℕ) (command : ReadingCommand) → reading_command operation le ≡ Some command
    → or_nothing (octets_operated m channel operation) ≡ 0
unfolding edits_of
none-reading m channel (DeclareCursor object columns conditions) le command is = refl
none-reading m channel OpenCursor le command is = refl
none-reading m channel Next le command is = refl
none-reading m channel Fetch le command is = refl
none-reading m channel FetchNext le command is = refl
none-reading m channel GetResponse le command is = refl
none-reading m channel operation le command is = absurd (none-some command is)

-- An answer accepts, or nothing is written for it.
abbrev AcceptsOrNone : Answer → ℕ → Type 0
AcceptsOrNone answer n = Accepts answer.reply.word ⊎ (n ≡ 0)

accepts-outcome : (m : Machine) (outcome : Result Answer StatusWord) (n : ℕ) → NoneFor m.transaction outcome n → IfOk outcome Accepted → AcceptsOrNone (answered m outcome) n
accepts-outcome m (Ok answer) n none accepted = inl accepted
accepts-outcome m (Err word) n none accepted = inr none

none-outcome : (m : Machine) (outcome : Result Answer StatusWord) (n : ℕ) → NoneFor m.transaction outcome n → m.transaction ≡ None → (answered m outcome).commits ≡ [] → n ≡ 0
none-outcome m (Ok answer) n none outside empty = none outside empty
none-outcome m (Err word) n none outside empty = none

-- what is so of an outcome with its octets, where it is so of refusals, of what reads and of what operates
of_carried_out : (P : Result Answer StatusWord → ℕ → Type 0) (m : Machine) (c : Command) → ((word : StatusWord) → P (Err word) 0) → ((answer : Answer) → P (Ok answer) 0)
    → P (operated m c.channel c.operation) (or_nothing (octets_operated m c.channel c.operation)) → P (carried_out m c) (or_nothing (octets_carried_out m c))
of_carried_out P m c refusal reads operates = asked (provided (not (is_kept_waiting (waits (kind_of c.operation)) m.transaction c.channel)) conditions_not_satisfied)
  where
    either : (command : Option ReadingCommand) → reading_command c.operation c.le ≡ command
        → P (option_map_or (λ command. Ok (reading_done m c.channel command)) command (operated m c.channel c.operation)) (or_nothing (octets_operated m c.channel c.operation))
    either None is = operates
    either (Some command) is = rw (none-reading m c.channel c.operation c.le command is) (reads (reading_done m c.channel command))

    asked : (r : Result (Unit {0}) StatusWord)
        → P (r >>= λ _. option_map_or (λ command. Ok (reading_done m c.channel command)) (reading_command c.operation c.le) (operated m c.channel c.operation))
        (or_nothing (r >>= λ _. octets_operated m c.channel c.operation))
    asked (Ok x) = either (reading_command c.operation c.le) refl
    asked (Err word) = refusal word

none-stepped : (m : Machine) (form : Form) → m.transaction ≡ None → (stepped m form).commits ≡ [] → octets_stepped m form ≡ 0
none-stepped m (refused word) outside empty = refl
none-stepped m (refused_on channel word) outside empty = refl
none-stepped m (part_on channel kind octets) outside empty = refl
none-stepped m (a_command c) outside empty =
    let ended : Machine = changing_session without_chain m c.channel in
    none-outcome ended (carried_out ended c) (or_nothing (octets_carried_out ended c))
    (of_carried_out (NoneFor m.transaction) ended c (λ word. refl) (λ answer none empty. refl) (none-operated ended c.channel c.operation)) outside empty

accepts-stepped : (m : Machine) (form : Form) → AcceptsOrNone (stepped m form) (octets_stepped m form)
accepts-stepped m (refused word) = inr refl
accepts-stepped m (refused_on channel word) = inr refl
accepts-stepped m (part_on channel kind octets) = inr refl
accepts-stepped m (a_command c) =
    let ended : Machine = changing_session without_chain m c.channel in
    of_carried_out (λ outcome n. AcceptsOrNone (answered ended outcome) n) ended c (λ word. inr refl) (λ answer. inr refl)
    (accepts-outcome ended (operated ended c.channel c.operation) (or_nothing (octets_operated ended c.channel c.operation)) (none-operated ended c.channel c.operation) (accepted-operated ended c.channel c.operation))

-- Outside of a transaction nothing is written for what commits nothing.
pub octets_bound-none : (m : Machine) (octets : List ℕ) → m.transaction ≡ None → (step m octets).commits ≡ [] → octets_bound m octets ≡ 0
unfolding step octets_bound
octets_bound-none m octets outside empty = none-stepped m (form_of operations octets (open_channels m) (command_chain m) m.committed.limit) outside empty

-- Nothing is written for what isn't accepted.
pub octets_bound-accepts : (m : Machine) (octets : List ℕ) → AcceptsOrNone (step m octets) (octets_bound m octets)
unfolding step octets_bound
octets_bound-accepts m octets = accepts-stepped m (form_of operations octets (open_channels m) (command_chain m) m.committed.limit)

-- And nothing for what reads.
pub octets_stepped-reading : (m : Machine) (c : Command) (command : ReadingCommand) → reading_command c.operation c.le ≡ Some command → octets_stepped m (a_command c) ≡ 0
octets_stepped-reading m c command is =
    let ended : Machine = changing_session without_chain m c.channel in
    asked (provided (not (is_kept_waiting (waits (kind_of c.operation)) m.transaction c.channel)) conditions_not_satisfied) (none-reading ended c.channel c.operation c.le command is)
  where
    asked : (r : Result (Unit {0}) StatusWord) → or_nothing (octets_operated (changing_session without_chain m c.channel) c.channel c.operation) ≡ 0
        → or_nothing (r >>= λ _. octets_operated (changing_session without_chain m c.channel) c.channel c.operation) ≡ 0
    asked (Ok x) none = none
    asked (Err word) none = refl
