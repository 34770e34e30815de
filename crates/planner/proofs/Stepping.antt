-- The answers to BEGIN, COMMIT, ROLLBACK, UPDATE, DELETE and INSERT.
use Rattle.std.proofs.Common.{◌≡◌, ℕ, ◌≤◌, ◌==◌, nat_le, true, false, List, [], ◌∷◌, Option, Some, None, Result, Ok, Err, if◌then◌else◌, refl, ◌∙◌, ap}
use Rattle.std.specs.Prelude.{option_and_then}
use Rattle.std.specs.Option.{option_map_or}
use Rattle.scql_base.specs.declared.words.Actor.{Actor}
use Rattle.scql_base.specs.declared.words.Actor.TheVariants.{Public}
use Rattle.scql_base.specs.declared.words.StatusWord.{StatusWord}
use Rattle.scql_base.specs.declared.cursor.Cursor.{Cursor}
use Rattle.scql_base.specs.declared.operation.Operation.{Operation}
use Rattle.scql_base.specs.declared.operation.Operation.TheVariants.{Insert, Update, Delete, Begin, Commit, Rollback}
use Rattle.scql_base.specs.Row.{row_size}
use Rattle.scql_base.specs.Words.{done, conditions_not_satisfied, wrong_data}
use Rattle.scql_model.specs.Refusals.{◌>>=◌}
use Rattle.scql_model.specs.Replies.{said}
use Rattle.scql_model.specs.Database.{Database}
use Rattle.scql_model.specs.Matching.{Values}
use Rattle.scql_model.specs.Machine.{Machine, Session, Transaction, no_reading, session_of, base, actor_of, actor}
use Rattle.scql_model.specs.Sessions.{changing_session, cursor_of, without_chain, without_pending, without_cursor}
use Rattle.scql_model.specs.Transactions.{own_transaction}
use Rattle.scql_model.specs.Operations.{operations, comes_in_parts, kind_of, has_secrets}
use Rattle.scql_model.specs.Form.{a_command}
use Rattle.scql_model.specs.Spelling.{IsTaken}
use Rattle.scql_model.specs.Edits.{Edit, with_edits}
use Rattle.scql_model.specs.Changing.{edits_of, transaction_after}
use Rattle.scql_model.specs.ReadingCommands.{ReadingCommand, reading_command}
use Rattle.scql_model.specs.Moves.{move_of}
use Rattle.scql_model.specs.Step.{Answer, answered, done_with, changed_to, changed, carried_out, stepped}
use Rattle.scql_model.proofs.ChangingSessions.{changing_session-set}
use Rattle.script.specs.Commands.{asking, IsSendable}
use Rattle.script.proofs.Sendable.{asked-sent}
use Rattle.planner.specs.Meaning.{answer_to, begun, row_changed}
use Rattle.planner.proofs.Asking.{set-there, answer-whole, in_session, moved_answer, answer-read}
use Rattle.planner.proofs.Parts.{answer-in_parts, answer-beyond}

-- UPDATE and DELETE
abbrev pub ChangesRow : Operation → Type 0
ChangesRow (Update changes) = Unit {0}
ChangesRow Delete = Unit {0}
ChangesRow operation = ⊥

-- for whom a session acts on a database
abbrev pub who_in : Database → Session → Actor
who_in db s = option_map_or (actor_of db) s.user Public

module _ (m : Machine) (channel : ℕ) (s : Session) (near : channel ≤ 3) (there : session_of m channel ≡ Some s) where
  -- the machine with this transaction, and with this session of the channel
  abbrev pub machine_with : Option Transaction → Session → Machine
  machine_with t x = in_session (record m { transaction = t }) channel x

  now : (t : Option Transaction) (x : Session) → session_of (machine_with t x) channel ≡ Some x
  now t x = set-there m.sessions channel s x there

  -- what a command that was read does, from the machine without the parts of a command
  abbrev outcome : Operation → Option Transaction → Session → Answer
  outcome operation t x = answered (machine_with t x) (carried_out (machine_with t x) (asking channel operation))

  ended-outcome : (operation : Operation) (t : Option Transaction) (x : Session) → stepped (machine_with t x) (a_command (asking channel operation)) ≡ outcome operation t (without_chain x)
  ended-outcome operation t x =
      ap (λ (n : Machine). answered n (carried_out n (asking channel operation))) (changing_session-set without_chain (record m { transaction = t }) channel (Some x))

  answer-alone : (operation : Operation) (t : Option Transaction) (x : Session) → comes_in_parts (kind_of operation) ≡ false → IsSendable (asking channel operation)
      → IsTaken (has_secrets operations) m.committed.limit operation → answer_to (machine_with t x) (asking channel operation) ≡ outcome operation t (without_chain x)
  answer-alone operation t x alone can taken = answer-whole (machine_with t x) (asking channel operation) x can alone taken (now t x) ∙ ended-outcome operation t x

  -- the session after a command that is done
  settled : (t : Option Transaction) (x : Session) (commits : List Database) → done_with (machine_with t x) channel commits ≡ record { reply = said done; machine = machine_with t (without_pending x); commits = commits }
  settled t x commits =
      ap (λ (n : Machine). let a : Answer = record { reply = said done; machine = n; commits = commits } in a) (changing_session-set without_pending (record m { transaction = t }) channel (Some x))

  -- BEGIN
  pub answer-begun : (x : Session)
      → answer_to (machine_with None x) (asking channel Begin) ≡ record { reply = said done; machine = machine_with (Some (begun m channel)) (without_pending (without_chain x)); commits = [] }
  answer-begun x =
      answer-alone Begin None x refl (asked-sent channel Begin near refl refl tt refl) tt
      ∙ settled (Some (begun m channel)) (without_chain x) []

  pub answer-waits : (t : Transaction) (x : Session) → (t.channel == channel) ≡ false
      → answer_to (machine_with (Some t) x) (asking channel Begin) ≡ record { reply = said conditions_not_satisfied; machine = machine_with (Some t) (without_chain x); commits = [] }
  answer-waits t x other =
      answer-alone Begin (Some t) x refl (asked-sent channel Begin near refl refl tt refl) tt ∙ rw other refl

  -- COMMIT and ROLLBACK
  pub answer-committed : (t : Transaction) (x : Session) → (t.channel == channel) ≡ true
      → answer_to (machine_with (Some t) x) (asking channel Commit)
      ≡ record { reply = said done; machine = in_session (record m { committed = t.working; transaction = None }) channel (without_pending (without_chain x)); commits = t.working ∷ [] }
  answer-committed t x own =
      answer-alone Commit (Some t) x refl (asked-sent channel Commit near refl refl tt refl) tt
      ∙ (commits ∙ ap (λ (n : Machine). let a : Answer = record { reply = said done; machine = n; commits = t.working ∷ [] } in a)
      (changing_session-set without_pending (record m { committed = t.working; transaction = None }) channel (Some (without_chain x))))
    where
      commits : outcome Commit (Some t) (without_chain x) ≡ done_with (record (machine_with None (without_chain x)) { committed = t.working }) channel (t.working ∷ [])
      commits = rw own refl

  pub answer-rolled_back : (t : Transaction) (x : Session) → (t.channel == channel) ≡ true
      → answer_to (machine_with (Some t) x) (asking channel Rollback) ≡ record { reply = said done; machine = machine_with None (without_cursor (without_chain x)); commits = [] }
  answer-rolled_back t x own =
      answer-alone Rollback (Some t) x refl (asked-sent channel Rollback near refl refl tt refl) tt
      ∙ (rolls ∙ (ap (λ (n : Machine). done_with n channel []) (changing_session-set without_cursor (record m { transaction = None }) channel (Some (without_chain x)))
      ∙ settled None (without_cursor (without_chain x)) []))
    where
      rolls : outcome Rollback (Some t) (without_chain x) ≡ done_with (changing_session without_cursor (machine_with None (without_chain x)) channel) channel []
      rolls = rw own refl

  -- a reading command in the channel's transaction
  pub answer-reads : (t : Transaction) (x : Session) (operation : Operation) (command : ReadingCommand) → (t.channel == channel) ≡ true → IsSendable (asking channel operation)
      → reading_command operation None ≡ Some command
      → answer_to (machine_with (Some t) x) (asking channel operation)
      ≡ moved_answer (record m { transaction = Some t }) channel x (move_of t.working (who_in t.working x) x.reading command)
  answer-reads t x operation command own can is =
      answer-read (record m { transaction = Some t }) (asking channel operation) s x command can is there
      ∙ ap (λ mine. let db : Database = if mine then t.working else m.committed in
      moved_answer (record m { transaction = Some t }) channel x (move_of db (who_in db x) x.reading command)) own

  -- what changes rows is done in the transaction, or refused
  abbrev pub change_answer : Transaction → Session → Result Transaction StatusWord → Answer
  change_answer t x (Ok next) = record { reply = said done; machine = machine_with (Some next) x; commits = [] }
  change_answer t x (Err word) = record { reply = said word; machine = machine_with (Some t) x; commits = [] }

  -- nothing is pending at such a session, and no part of a command came
  abbrev pub waiting : Option Cursor → Session
  waiting cursor = record { user = s.user; reading = record { cursor = cursor; pending = [] }; chain = None }

  abbrev pub resting : Cursor → Session
  resting c = waiting (Some c)

  abbrev pub changed_so : Operation → Transaction → Option Cursor → Result Transaction StatusWord
  changed_so operation t cursor = do
    edits ← edits_of t.working (who_in t.working s) cursor operation
    db ← with_edits t.working edits
    Ok (transaction_after m.committed t edits db)

  change-outcome : (operation : Operation) (t : Transaction) (cursor : Option Cursor) → (t.channel == channel) ≡ true
      → answered (machine_with (Some t) (waiting cursor)) (changed (machine_with (Some t) (waiting cursor)) channel operation)
      ≡ change_answer t (waiting cursor) (changed_so operation t cursor)
  change-outcome operation t cursor own =
      let x : Session = waiting cursor in
      let n : Machine = machine_with (Some t) x in
      let F : Database → Actor → Option Cursor → Option Transaction → Answer =
      λ db a cursor mine. answered n (edits_of db a cursor operation >>= λ edits. (with_edits db edits >>= λ new. Ok (changed_to n channel edits new mine))) in
      let acts : actor n channel ≡ who_in (base n channel) x =
      ap (λ (session : Option Session). option_map_or (actor_of (base n channel)) (option_and_then (λ (y : Session). y.user) session) Public) (now (Some t) x) in
      let points : cursor_of n channel ≡ cursor =
      ap (λ (session : Option Session). (option_map_or (λ (y : Session). y.reading) session no_reading).cursor) (now (Some t) x) in
      ap (λ (a : Actor). F (base n channel) a (cursor_of n channel) (own_transaction (Some t) channel)) acts
      ∙ (ap (λ (at : Option Cursor). F (base n channel) (who_in (base n channel) x) at (own_transaction (Some t) channel)) points
      ∙ (ap (λ mine. let db : Database = if mine then t.working else m.committed in
      let own : Option Transaction = if mine then Some t else None in
      F db (who_in db x) cursor own) own
      ∙ made (edits_of t.working (who_in t.working s) cursor operation)))
    where
      room : (edits : List Edit) (new : Result Database StatusWord)
          → answered (machine_with (Some t) (waiting cursor)) (new >>= λ db. Ok (changed_to (machine_with (Some t) (waiting cursor)) channel edits db (Some t)))
          ≡ change_answer t (waiting cursor) (new >>= λ db. Ok (transaction_after m.committed t edits db))
      room edits (Err word) = refl
      room edits (Ok db) = settled (Some (transaction_after m.committed t edits db)) (waiting cursor) []

      made : (edits : Result (List Edit) StatusWord)
          → answered (machine_with (Some t) (waiting cursor)) (edits >>= λ edits. (with_edits t.working edits >>= λ new. Ok (changed_to (machine_with (Some t) (waiting cursor)) channel edits new (Some t))))
          ≡ change_answer t (waiting cursor) (edits >>= λ edits. (with_edits t.working edits >>= λ db. Ok (transaction_after m.committed t edits db)))
      made (Err word) = refl
      made (Ok edits) = room edits (with_edits t.working edits)

  -- UPDATE and DELETE: the row at the cursor is changed
  pub answer-changed : (operation : Operation) (t : Transaction) (c : Cursor) → ChangesRow operation → IsSendable (asking channel operation) → (t.channel == channel) ≡ true
      → answer_to (machine_with (Some t) (resting c)) (asking channel operation) ≡ change_answer t (resting c) (row_changed m.committed (who_in t.working s) operation c t)
  unfolding row_changed
  answer-changed (Update changes) t c is can own =
      answer-in_parts (record m { transaction = Some t }) channel s there s.user (Some c) (Update changes) refl can tt
      ∙ (ended-outcome (Update changes) (Some t) (resting c) ∙ (goes ∙ change-outcome (Update changes) t (Some c) own))
    where
      goes : outcome (Update changes) (Some t) (resting c) ≡ answered (machine_with (Some t) (resting c)) (changed (machine_with (Some t) (resting c)) channel (Update changes))
      goes = rw own refl
  answer-changed Delete t c is can own =
      answer-alone Delete (Some t) (resting c) refl can tt ∙ (goes ∙ change-outcome Delete t (Some c) own)
    where
      goes : outcome Delete (Some t) (resting c) ≡ answered (machine_with (Some t) (resting c)) (changed (machine_with (Some t) (resting c)) channel Delete)
      goes = rw own refl
  answer-changed operation t c is can own = absurd is

  -- INSERT: a row within the limit is added, and one beyond it is refused
  pub answer-inserted : (table : List ℕ) (row : Values) (t : Transaction) (cursor : Option Cursor) → IsSendable (asking channel (Insert table row)) → (t.channel == channel) ≡ true
      → nat_le (row_size row) m.committed.limit ≡ true
      → answer_to (machine_with (Some t) (waiting cursor)) (asking channel (Insert table row)) ≡ change_answer t (waiting cursor) (changed_so (Insert table row) t cursor)
  answer-inserted table row t cursor can own short =
      answer-in_parts (record m { transaction = Some t }) channel s there s.user cursor (Insert table row) refl can short
      ∙ (ended-outcome (Insert table row) (Some t) (waiting cursor) ∙ (goes ∙ change-outcome (Insert table row) t cursor own))
    where
      goes : outcome (Insert table row) (Some t) (waiting cursor) ≡ answered (machine_with (Some t) (waiting cursor)) (changed (machine_with (Some t) (waiting cursor)) channel (Insert table row))
      goes = rw own refl

  pub answer-too_long : (table : List ℕ) (row : Values) (t : Transaction) (cursor : Option Cursor) → IsSendable (asking channel (Insert table row)) → nat_le (row_size row) m.committed.limit ≡ false
      → answer_to (machine_with (Some t) (waiting cursor)) (asking channel (Insert table row)) ≡ change_answer t (waiting cursor) (Err wrong_data)
  answer-too_long table row t cursor can long = answer-beyond (record m { transaction = Some t }) channel s there s.user cursor (Insert table row) refl can table row refl long
