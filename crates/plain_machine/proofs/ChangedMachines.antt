-- A change at a machine, but for what it touches.
use Rattle.std.proofs.Common.{◌≡◌, ℕ, List, Option, Some, None, Result, Ok, Err, refl, ap, sym, ◌∙◌}
use Rattle.scql_base.specs.declared.operation.Operation.{Operation}
use Rattle.scql_base.specs.declared.operation.Operation.TheVariants.{DeleteUser}
use Rattle.scql_base.specs.declared.records.User.{User}
use Rattle.scql_base.specs.declared.words.StatusWord.{StatusWord}
use Rattle.scql_base.specs.Words.{done, not_found}
use Rattle.scql_model.specs.Changing.{change_of, edits_of, with_edits}
use Rattle.scql_model.specs.Database.{Database, user_named}
use Rattle.scql_model.specs.Edits.{Edit}
use Rattle.scql_model.specs.Machine.{Machine, Transaction, actor, base}
use Rattle.scql_model.specs.ReadingCommands.{Move}
use Rattle.scql_model.specs.Refusals.{◌>>=◌, or_refused}
use Rattle.scql_model.specs.Replies.{Reply, said}
use Rattle.scql_model.specs.Sessions.{changing_session, cursor_of, without_pending, without_user}
use Rattle.scql_model.specs.Step.{Answer, changed, changed_to, user_and_sessions_deleted}
use Rattle.scql_model.specs.Touched.{without_touched}
use Rattle.scql_model.specs.Transactions.{own_transaction}
use Rattle.scql_model.specs.Users.{user_deleted}
use Rattle.plain_machine.specs.Answers.{base_changed, left_by_answer, outcome_left, with_base}

-- a command of a channel is done at a machine
abbrev done_at : ℕ → Machine → Move Machine
done_at channel next = record { reply = said done; after = changing_session without_pending next channel }

abbrev done_after : ℕ → Result Machine StatusWord → Result (Move Machine) StatusWord
done_after channel outcome = outcome >>= λ (next : Machine). Ok (done_at channel next)

-- What comes of a change is the machine with the new database, where a command is done.
changed-based : (m : Machine) (channel : ℕ) (operation : Operation) → outcome_left (changed m channel operation) ≡ done_after channel (base_changed m channel operation)
unfolding change_of
changed-based m channel operation = of_edits (edits_of (base m channel) (actor m channel) (cursor_of m channel) operation)
  where
    own : Option Transaction
    own = own_transaction m.transaction channel

    of_own : (edits : List Edit) (db : Database) (t : Option Transaction) → left_by_answer (changed_to m channel edits db t) ≡ done_at channel (without_touched (with_base m t db))
    of_own edits db None = refl
    of_own edits db (Some t) = refl

    of_database : (edits : List Edit) (r : Result Database StatusWord)
        → outcome_left (r >>= λ (db : Database). Ok (changed_to m channel edits db (own_transaction m.transaction channel)))
        ≡ done_after channel (r >>= λ (db : Database). Ok (without_touched (with_base m (own_transaction m.transaction channel) db)))
    of_database edits (Err word) = refl
    of_database edits (Ok db) = ap Ok (of_own edits db (own_transaction m.transaction channel))

    of_edits : (e : Result (List Edit) StatusWord)
        → outcome_left (e >>= λ (edits : List Edit). with_edits (base m channel) edits >>= λ (db : Database). Ok (changed_to m channel edits db (own_transaction m.transaction channel)))
        ≡ done_after channel ((e >>= with_edits (base m channel)) >>= λ (db : Database). Ok (without_touched (with_base m (own_transaction m.transaction channel) db)))
    of_edits (Err word) = refl
    of_edits (Ok edits) = of_database edits (with_edits (base m channel) edits)

-- So a refusal of the one is that of the other,
pub changed-refused : (m : Machine) (channel : ℕ) (operation : Operation) (word : StatusWord) → Err word ≡ base_changed m channel operation → Err word ≡ outcome_left (changed m channel operation)
changed-refused m channel operation word is = ap (done_after channel) is ∙ sym (changed-based m channel operation)

-- and a machine that is done is what is left.
pub changed-done : (m next after : Machine) (channel : ℕ) (operation : Operation) (reply : Reply) → Ok next ≡ base_changed m channel operation
    → reply ≡ said done → after ≡ changing_session without_pending next channel
    → (let move : Move Machine = record { reply = reply; after = after } in Ok move ≡ outcome_left (changed m channel operation))
changed-done m next after channel operation reply is says leaves =
    let move : Move Machine = record { reply = reply; after = after } in
    let same : move ≡ done_at channel next = cc in
    ap Ok same ∙ (ap (done_after channel) is ∙ sym (changed-based m channel operation))

-- DELETE USER of nobody is refused,
pub deleted-nobody : (m : Machine) (channel : ℕ) (name : List ℕ) (users : List User) → users ≡ (base m channel).users → None ≡ user_named users name
    → Err not_found ≡ outcome_left (user_and_sessions_deleted m channel name)
unfolding edits_of user_deleted
deleted-nobody m channel name users are none =
    let there : user_named (base m channel).users name ≡ None = ap (λ (users : List User). user_named users name) (sym are) ∙ sym none in
    rw there refl

-- and that of a user is the change, behind which the sessions of the user are left.
abbrev leaving : ℕ → Result (Move Machine) StatusWord → Result (Move Machine) StatusWord
leaving stamp outcome = outcome >>= λ (move : Move Machine). Ok (record move { after = without_user move.after stamp })

deleted-left : (m : Machine) (channel : ℕ) (name : List ℕ) (u : User) → user_named (base m channel).users name ≡ Some u
    → outcome_left (user_and_sessions_deleted m channel name) ≡ leaving u.stamp (outcome_left (changed m channel (DeleteUser name)))
deleted-left m channel name u is =
    ap (λ (found : Option User). outcome_left (changed m channel (DeleteUser name) >>= λ (answer : Answer). or_refused found not_found >>= λ (u : User). Ok (record answer { machine = without_user answer.machine u.stamp }))) is
    ∙ go (changed m channel (DeleteUser name))
  where
    go : (r : Result Answer StatusWord) → outcome_left (r >>= λ (answer : Answer). Ok (record answer { machine = without_user answer.machine u.stamp })) ≡ leaving u.stamp (outcome_left r)
    go (Ok answer) = refl
    go (Err word) = refl

module _ (m : Machine) (channel : ℕ) (name : List ℕ) (u : User) (users : List User) (operation : Operation) (are : users ≡ (base m channel).users) (named : Some u ≡ user_named users name)
    (deletes : operation ≡ DeleteUser name) where
  deleted-so : outcome_left (user_and_sessions_deleted m channel name) ≡ leaving u.stamp (outcome_left (changed m channel operation))
  deleted-so =
      deleted-left m channel name u (ap (λ (users : List User). user_named users name) (sym are) ∙ sym named)
      ∙ ap (λ (operation : Operation). leaving u.stamp (outcome_left (changed m channel operation))) (sym deletes)

  pub deleted-refused : (word : StatusWord) → Err word ≡ outcome_left (changed m channel operation) → Err word ≡ outcome_left (user_and_sessions_deleted m channel name)
  deleted-refused word is = ap (leaving u.stamp) is ∙ sym deleted-so

  pub deleted-done : (next after : Machine) (reply : Reply) → (let move : Move Machine = record { reply = reply; after = next } in Ok move ≡ outcome_left (changed m channel operation))
      → without_user next u.stamp ≡ after → (let move : Move Machine = record { reply = reply; after = after } in Ok move ≡ outcome_left (user_and_sessions_deleted m channel name))
  deleted-done next after reply is leaves =
      ap (λ (after : Machine). let move : Move Machine = record { reply = reply; after = after } in let outcome : Result (Move Machine) StatusWord = Ok move in outcome) (sym leaves)
      ∙ (ap (leaving u.stamp) is ∙ sym deleted-so)
