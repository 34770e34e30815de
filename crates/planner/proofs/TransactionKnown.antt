-- Which channel has the open transaction after a statement.
use Rattle.std.proofs.Common.{◌≡◌, ℕ, zero, suc, ◌==◌, not, Bool, true, false, List, [], ◌∷◌, Option, Some, None, is_some, Result, Ok, Err, if◌then◌else◌, refl, sym, ◌∙◌, ap, subst, inl, inr, ◌⊎◌}
use Rattle.std.specs.Prelude.{IfOk, option_map}
use Rattle.std.specs.Option.{option_map_or}
use Rattle.std.specs.Str.{bytes_eq}
use Rattle.std.proofs.lemmas.Option.{none-some, same_Some}
use Rattle.std.proofs.lemmas.Bool.{false≢true, cases_Bool}
use Rattle.scql_base.specs.declared.words.Actor.{Actor}
use Rattle.scql_base.specs.declared.words.StatusWord.{StatusWord}
use Rattle.scql_base.specs.declared.cursor.Cursor.{Cursor}
use Rattle.scql_base.specs.declared.records.User.{User}
use Rattle.scql_base.specs.declared.operation.Command.{Command}
use Rattle.scql_base.specs.declared.operation.Operation.{Operation}
use Rattle.scql_base.specs.declared.operation.Operation.TheVariants.{Begin, Commit, Rollback, PresentUser, DeleteUser, Verify, OpenChannel, CloseChannel}
use Rattle.scql_base.specs.declared.operation.OperationKind.{OperationKind}
use Rattle.scql_base.specs.declared.operation.OperationKind.TheVariants as kind
use Rattle.scql_base.specs.Words.{done, authentication_blocked, channel_not_supported, conditions_not_satisfied, function_not_supported, not_found}
use Rattle.scql_model.specs.Database.{Database, user_named, user_stamped}
use Rattle.scql_model.specs.Machine.{Machine, Session, Transaction, open_channels, session_of, base, actor}
use Rattle.scql_model.specs.Sessions.{changing_session, command_chain, cursor_of, without_chain, user_of, is_channel_open, least_closed}
use Rattle.scql_model.specs.Transactions.{own_transaction, waits, is_kept_waiting}
use Rattle.scql_model.specs.Objects.{StampedRow}
use Rattle.scql_model.specs.Operations.{operations, has_secrets, comes_in_parts, kind_of}
use Rattle.scql_model.specs.Refusals.{◌>>=◌, or_refused, provided}
use Rattle.scql_model.specs.Form.{Form, refused, refused_on, part_on, a_command, form_of}
use Rattle.scql_model.specs.ReadingCommands.{ReadingCommand, reading_command}
use Rattle.scql_model.specs.Edits.{Edit}
use Rattle.scql_model.specs.Changing.{edits_of, with_edits, transaction_after}
use Rattle.scql_model.specs.Spelling.{IsTaken, field_of, part_octets, part_by}
use Rattle.scql_model.specs.Step.{Answer, answered, reading_done, changed_to, changed, user_and_sessions_deleted, session_named, secret_right, secret_wrong, compared, verified, channel_opened, channel_closed, operated, carried_out, stepped, step}
use Rattle.scql_model.proofs.FormedCommands.{bound, same_Ok}
use Rattle.scql_model.proofs.LastCommits.{of_outcome}
use Rattle.scql_model.proofs.LinesFound.{HasLine-operations}
use Rattle.scql_model.proofs.TakenFields.{Lined-field}
use Rattle.script.specs.declared.statement.Statement.{Statement}
use Rattle.script.specs.declared.statement.Statement.TheVariants.{Blank, Single, Select, UpdateRows, DeleteRows, OpenNumber, CloseNumber, UseNumber, Reset}
use Rattle.script.specs.Commands.{asking, IsSendable, CanBeSent}
use Rattle.planner.specs.declared.closing.Closing.{Closing}
use Rattle.planner.specs.declared.closing.Closing.TheVariants.{Fine}
use Rattle.planner.specs.Words.{closing_of}
use Rattle.planner.specs.Meaning.{Meaning, answer_to, all_changed, once_changed, row_changed, at_stamp, meaning}
use Rattle.planner.specs.Held.{transaction_channel, held_by, held_when, TellsWhoHolds}
use Rattle.planner.proofs.Asking.{answer-whole}
use Rattle.planner.proofs.Closed.{answer-closed}
use Rattle.planner.proofs.InTurn.{answer-holds}
use Rattle.planner.proofs.KindsRead.{kind-read}
use Rattle.planner.proofs.OfRows.{HoldsOfRows, of-rows}
use Rattle.planner.specs.Running.{IsOfRows}

-- BEGIN, COMMIT and ROLLBACK
abbrev pub transacts : OperationKind → Bool
transacts kind.Begin = true
transacts kind.Commit = true
transacts kind.Rollback = true
transacts kind = false

-- No other command changes which channel has the open transaction.
abbrev pub Keeps : Machine → Machine → Type 0
Keeps m n = transaction_channel n ≡ transaction_channel m

abbrev pub IsKept : Machine → Answer → Type 0
IsKept m answer = Keeps m answer.machine

own-channel : (t : Option Transaction) (channel : ℕ) (own : Transaction) → own_transaction t channel ≡ Some own → Some own.channel ≡ option_map (λ (t : Transaction). t.channel) t
own-channel None channel own is = absurd (none-some own is)
own-channel (Some t) channel own is = go (t.channel == channel) is
  where
    go : (b : Bool) → (let x : Option Transaction = if b then Some t else None in x) ≡ Some own → Some own.channel ≡ Some t.channel
    go true is = ap (λ (t : Transaction). Some t.channel) (sym (same_Some t own is))
    go false is = absurd (none-some own is)

kept-changed : (m : Machine) (channel : ℕ) (operation : Operation) → IfOk (changed m channel operation) (IsKept m)
kept-changed m channel operation =
    of_outcome (IsKept m) (edits_of (base m channel) (actor m channel) (cursor_of m channel) operation) _ (λ edits.
    of_outcome (IsKept m) (with_edits (base m channel) edits) _ (λ db. go edits db (own_transaction m.transaction channel) refl))
  where
    go : (edits : List Edit) (db : Database) (t : Option Transaction) → own_transaction m.transaction channel ≡ t → IsKept m (changed_to m channel edits db t)
    go edits db None is = refl
    go edits db (Some t) is = own-channel m.transaction channel t is

-- an answer whose sessions alone are other ones
kept-then : (m : Machine) (r : Result Answer StatusWord) (f : Answer → Result Answer StatusWord) → IfOk r (IsKept m) → ((answer : Answer) → IsKept m answer → IfOk (f answer) (IsKept m)) → IfOk (r >>= f) (IsKept m)
kept-then m (Ok answer) f kept each = each answer kept
kept-then m (Err word) f kept each = tt

kept-deleted : (m : Machine) (channel : ℕ) (name : List ℕ) → IfOk (user_and_sessions_deleted m channel name) (IsKept m)
kept-deleted m channel name =
    kept-then m (changed m channel (DeleteUser name)) _ (kept-changed m channel (DeleteUser name)) (λ answer kept.
    of_outcome (IsKept m) (or_refused (user_named (base m channel).users name) not_found) _ (λ u. kept))

kept-compared : (m : Machine) (channel : ℕ) (secret : List ℕ) (u : User) → IsKept m (compared m channel secret u)
kept-compared m channel secret u = go (bytes_eq secret u.secret)
  where
    go : (b : Bool) → IsKept m (if b then secret_right m channel u else secret_wrong m u)
    go true = refl
    go false = refl

kept-verified : (m : Machine) (channel : ℕ) (secret : List ℕ) → IfOk (verified m channel secret) (IsKept m)
kept-verified m channel secret =
    of_outcome (IsKept m) (or_refused (user_of m channel) conditions_not_satisfied) _ (λ p.
    of_outcome (IsKept m) (provided (not p.proved) conditions_not_satisfied) _ (λ _.
    of_outcome (IsKept m) (or_refused (user_stamped m.committed.users p.stamp) conditions_not_satisfied) _ (λ u.
    of_outcome (IsKept m) (provided (not (u.tries == 0)) authentication_blocked) _ (λ _. kept-compared m channel secret u))))

kept-opened : (m : Machine) (channel number : ℕ) → IfOk (channel_opened m channel number) (IsKept m)
kept-opened m channel zero = of_outcome (IsKept m) (or_refused (least_closed m) function_not_supported) _ (λ number. refl)
kept-opened m channel (suc n) = of_outcome (IsKept m) (provided (not (is_channel_open m (suc n))) conditions_not_satisfied) _ (λ _. refl)

kept-closed : (m : Machine) (channel number : ℕ) → IfOk (channel_closed m channel number) (IsKept m)
kept-closed m channel number =
    of_outcome (IsKept m) (provided (is_channel_open m number) channel_not_supported) _ (λ _.
    of_outcome (IsKept m) (provided (not (is_some (own_transaction m.transaction number))) conditions_not_satisfied) _ (λ _. refl))

kept-operated : (m : Machine) (channel : ℕ) (operation : Operation) → transacts (kind_of operation) ≡ false → IfOk (operated m channel operation) (IsKept m)
kept-operated m channel Begin other = absurd (false≢true (sym other))
kept-operated m channel Commit other = absurd (false≢true (sym other))
kept-operated m channel Rollback other = absurd (false≢true (sym other))
kept-operated m channel (PresentUser name) other = of_outcome (IsKept m) (session_named (base m channel) name) _ (λ session. refl)
kept-operated m channel (DeleteUser name) other = kept-deleted m channel name
kept-operated m channel (Verify secret) other = kept-verified m channel secret
kept-operated m channel (OpenChannel number) other = kept-opened m channel number
kept-operated m channel (CloseChannel number) other = kept-closed m channel (if number == 0 then channel else number)
kept-operated m channel operation other = kept-changed m channel operation

kept-carried_out : (m : Machine) (c : Command) → transacts (kind_of c.operation) ≡ false → IfOk (carried_out m c) (IsKept m)
kept-carried_out m c other =
    of_outcome (IsKept m) (provided (not (is_kept_waiting (waits (kind_of c.operation)) m.transaction c.channel)) conditions_not_satisfied) _
    (λ _. either (reading_command c.operation c.le))
  where
    either : (command : Option ReadingCommand) → IfOk (option_map_or (λ command. Ok (reading_done m c.channel command)) command (operated m c.channel c.operation)) (IsKept m)
    either None = kept-operated m c.channel c.operation other
    either (Some command) = refl

kept-answered : (m n : Machine) (result : Result Answer StatusWord) → Keeps m n → IfOk result (IsKept n) → IsKept m (answered n result)
kept-answered m n (Ok answer) same kept = kept ∙ same
kept-answered m n (Err word) same kept = same

pub kept-stepped : (m : Machine) (form : Form) → ((c : Command) → form ≡ a_command c → transacts (kind_of c.operation) ≡ false) → IsKept m (stepped m form)
kept-stepped m (refused word) other = refl
kept-stepped m (refused_on channel word) other = refl
kept-stepped m (part_on channel kind octets) other = refl
kept-stepped m (a_command c) other =
    let ended : Machine = changing_session without_chain m c.channel in
    kept-answered m ended (carried_out ended c) refl (kept-carried_out ended c (other c refl))

kept-part : (m : Machine) (c : Command) (place : ℕ) → IsSendable c → transacts (kind_of c.operation) ≡ false → IsKept m (step m (part_octets c place))
unfolding step part_octets
kept-part m c place can other =
    let lined = Lined-field c.operation c.le can.formed.form can.formed.wanted in
    rw lined.found
    (kept-stepped m (form_of operations (part_by lined.line c.channel c.le (field_of c.operation) place) (open_channels m) (command_chain m) m.committed.limit) (λ read is.
    ap transacts (kind-read lined.line _ _ _ _ _ (open_channels m) (command_chain m) m.committed.limit read (HasLine-operations (kind_of c.operation) lined.line lined.found) is ∙ lined.kind) ∙ other))

pub answer-kept : (m : Machine) (c : Command) → IsSendable c → transacts (kind_of c.operation) ≡ false → Keeps m (answer_to m c).machine
answer-kept m c can other = answer-holds IsKept c (λ n place. kept-part n c place can other) (λ n place next kept. kept ∙ kept-part n c place can other) m

-- BEGIN, COMMIT and ROLLBACK change it where they are done, and else they are refused.
abbrev pub Turns : Machine → ℕ → Operation → Answer → Type 0
Turns m channel operation answer =
    ((answer.reply.word ≡ done) × (transaction_channel answer.machine ≡ held_by operation channel (transaction_channel m)))
    ⊎ ((answer.reply.word ≡ conditions_not_satisfied) × IsKept m answer)

abbrev pub outcome_of : Machine → Command → Answer
outcome_of m c = answered m (carried_out m c)

turns-begun : (m : Machine) (channel : ℕ) (le : Option ℕ) (t : Option Transaction) → m.transaction ≡ t
    → (let c : Command = record { channel = channel; operation = Begin; le = le } in Turns m channel Begin (outcome_of m c))
turns-begun m channel le None is = inl (rw is (refl, refl))
turns-begun m channel le (Some t) is = elim (cases_Bool (t.channel == channel)) [
  | inl own ↦ inr (rw (is, own) (refl, refl))
  | inr other ↦ inr (rw (is, other) (refl, refl))
]

turns-committed : (m : Machine) (channel : ℕ) (le : Option ℕ) (t : Option Transaction) → m.transaction ≡ t
    → (let c : Command = record { channel = channel; operation = Commit; le = le } in Turns m channel Commit (outcome_of m c))
turns-committed m channel le None is = inr (rw is (refl, refl))
turns-committed m channel le (Some t) is = elim (cases_Bool (t.channel == channel)) [
  | inl own ↦ inl (rw (is, own) (refl, refl))
  | inr other ↦ inr (rw (is, other) (refl, refl))
]

turns-rolled_back : (m : Machine) (channel : ℕ) (le : Option ℕ) (t : Option Transaction) → m.transaction ≡ t
    → (let c : Command = record { channel = channel; operation = Rollback; le = le } in Turns m channel Rollback (outcome_of m c))
turns-rolled_back m channel le None is = inr (rw is (refl, refl))
turns-rolled_back m channel le (Some t) is = elim (cases_Bool (t.channel == channel)) [
  | inl own ↦ inl (rw (is, own) (refl, refl))
  | inr other ↦ inr (rw (is, other) (refl, refl))
]

pub turns-so : (m : Machine) (channel : ℕ) (operation : Operation) (le : Option ℕ) → transacts (kind_of operation) ≡ true
    → (let c : Command = record { channel = channel; operation = operation; le = le } in Turns m channel operation (outcome_of m c))
turns-so m channel Begin le is = turns-begun m channel le m.transaction refl
turns-so m channel Commit le is = turns-committed m channel le m.transaction refl
turns-so m channel Rollback le is = turns-rolled_back m channel le m.transaction refl
turns-so m channel operation le is = absurd (false≢true is)

abbrev Tells : Machine → ℕ → Operation → Answer → Type 0
Tells m channel operation answer = transaction_channel answer.machine ≡ held_when (closing_of answer.reply.word) (held_by operation channel (transaction_channel m)) (transaction_channel m)

tells-turn : (m : Machine) (channel : ℕ) (operation : Operation) (answer : Answer) → Turns m channel operation answer → Tells m channel operation answer
tells-turn m channel operation answer (inl (word, turned)) =
    turned ∙ ap (λ (w : StatusWord). held_when (closing_of w) (held_by operation channel (transaction_channel m)) (transaction_channel m)) (sym word)
tells-turn m channel operation answer (inr (word, kept)) =
    kept ∙ ap (λ (w : StatusWord). held_when (closing_of w) (held_by operation channel (transaction_channel m)) (transaction_channel m)) (sym word)

-- on a channel that isn't open they are refused
told-alone : (m : Machine) (channel : ℕ) (operation : Operation) → IsSendable (asking channel operation) → comes_in_parts (kind_of operation) ≡ false → IsTaken (has_secrets operations) m.committed.limit operation
    → transacts (kind_of operation) ≡ true → Tells m channel operation (answer_to m (asking channel operation))
told-alone m channel operation can alone taken turns = go (session_of m channel) refl
  where
    go : (s : Option Session) → session_of m channel ≡ s → Tells m channel operation (answer_to m (asking channel operation))
    go (Some s) is =
        let ended : Machine = changing_session without_chain m channel in
        subst (Tells m channel operation) (sym (answer-whole m (asking channel operation) s can alone taken is))
        (tells-turn ended channel operation (outcome_of ended (asking channel operation)) (turns-so ended channel operation None turns))
    go None is = subst (Tells m channel operation) (sym (answer-closed m (asking channel operation) can alone (ap (λ (s : Option Session). is_some s) is))) refl

-- A single operation.
pub held_by-same : (operation : Operation) (channel : ℕ) (held : Option ℕ) → transacts (kind_of operation) ≡ false → held_by operation channel held ≡ held
held_by-same Begin channel held other = absurd (false≢true (sym other))
held_by-same Commit channel held other = absurd (false≢true (sym other))
held_by-same Rollback channel held other = absurd (false≢true (sym other))
held_by-same operation channel held other = refl

held_when-same : (closing : Closing) (held : Option ℕ) → held_when closing held held ≡ held
held_when-same Fine held = refl
held_when-same closing held = refl

told-single : (m : Machine) (channel : ℕ) (operation : Operation) → IsSendable (asking channel operation) → Tells m channel operation (answer_to m (asking channel operation))
told-single m channel Begin can = told-alone m channel Begin can refl tt refl
told-single m channel Commit can = told-alone m channel Commit can refl tt refl
told-single m channel Rollback can = told-alone m channel Rollback can refl tt refl
told-single m channel operation can = answer-kept m (asking channel operation) can refl ∙ sym (held_when-same (closing_of (answer_to m (asking channel operation)).reply.word) (transaction_channel m))

-- UPDATE and DELETE FROM stay in their transaction.
same-row : (committed : Database) (a : Actor) (operation : Operation) (c : Cursor) (t next : Transaction) → row_changed committed a operation c t ≡ Ok next → next.channel ≡ t.channel
unfolding row_changed
same-row committed a operation c t next is =
    bound (edits_of t.working a (Some c) operation) _ next is (λ edits _ is.
    bound (with_edits t.working edits) _ next is (λ db _ same.
    ap (λ (t : Transaction). t.channel) (sym (same_Ok (transaction_after committed t edits db) next same))))

same-rows : (committed : Database) (a : Actor) (operation : Operation) (c : Cursor) (rows : List StampedRow) (t : Transaction) → (all_changed committed a operation c rows t).transaction.channel ≡ t.channel
same-rows committed a operation c [] t = refl
same-rows committed a operation c (r ∷ rows) t = go (row_changed committed a operation (at_stamp r.stamp c) t) refl (λ next. same-rows committed a operation c rows next)
  where
    go : (result : Result Transaction StatusWord) → row_changed committed a operation (at_stamp r.stamp c) t ≡ result
        → ((next : Transaction) → (all_changed committed a operation c rows next).transaction.channel ≡ next.channel)
        → (once_changed r.stamp t (λ next. all_changed committed a operation c rows next) result).transaction.channel ≡ t.channel
    go (Err word) is rest = refl
    go (Ok next) is rest = rest next ∙ same-row committed a operation (at_stamp r.stamp c) t next is

kept-rows : (m : Machine) (channel : ℕ) → HoldsOfRows (λ x. Keeps m x.machine) m channel
kept-rows m channel = record {
  closed = refl;
  refused = λ word. refl;
  selected = λ d. refl;
  inside = λ operation t d is. ap Some (same-rows m.committed (actor m channel) operation d.cursor d.rows t) ∙ own-channel m.transaction channel t is;
  rolled = λ word. refl;
  committed = λ operation d none. refl;
}

-- Every statement.
kept-told : (m : Machine) (x : Meaning) → Keeps m x.machine → transaction_channel x.machine ≡ held_when x.closing (transaction_channel m) (transaction_channel m)
kept-told m x kept = kept ∙ sym (held_when-same x.closing (transaction_channel m))

told-rows : (m : Machine) (channel : ℕ) (s : Statement) → IsOfRows s
    → transaction_channel (meaning m channel s).machine ≡ held_when (meaning m channel s).closing (transaction_channel m) (transaction_channel m)
told-rows m channel s is = kept-told m (meaning m channel s) (of-rows (λ x. Keeps m x.machine) m channel (kept-rows m channel) s is)

pub transaction-told : (m : Machine) (channel : ℕ) (s : Statement) → CanBeSent channel s → TellsWhoHolds m channel s (meaning m channel s)
unfolding meaning
transaction-told m channel Blank can = refl
transaction-told m channel (Single operation) can = told-single m channel operation can.commands.0
transaction-told m channel (OpenNumber number) can = kept-told m (meaning m channel (OpenNumber number)) (answer-kept m (asking 0 (OpenChannel number)) can.commands.0 refl)
transaction-told m channel (CloseNumber number) can = kept-told m (meaning m channel (CloseNumber number)) (answer-kept m (asking 0 (CloseChannel number)) can.commands.0 refl)
transaction-told m channel (UseNumber number) can = refl
transaction-told m channel Reset can = refl
transaction-told m channel (Select object columns conditions) can = told-rows m channel (Select object columns conditions) tt
transaction-told m channel (UpdateRows object changes conditions) can = told-rows m channel (UpdateRows object changes conditions) tt
transaction-told m channel (DeleteRows object conditions) can = told-rows m channel (DeleteRows object conditions) tt
