-- 6282 comes exactly of a cursor without a further row, and 63CX exactly of a wrong secret; and what they change.
use Rattle.std.proofs.Common.{◌≡◌, ◌⊎◌, ◌-◌, ◌==◌, ℕ, Bool, true, false, List, [], ◌∷◌, drop, Option, Some, None, option_map, Result, Ok, Err, not, is_some, if◌then◌else◌, refl, sym, ap, subst, ◌∙◌, inl, inr}
use Rattle.std.specs.Prelude.{IfSome}
use Rattle.std.specs.Option.{option_map_or}
use Rattle.std.specs.Result.{result_ok}
use Rattle.std.specs.Str.{bytes_eq}
use Rattle.std.proofs.lemmas.Bool.{ne_eqb, false≢true}
use Rattle.scql_base.specs.declared.words.StatusWord.{StatusWord}
use Rattle.scql_base.specs.declared.words.Actor.{Actor}
use Rattle.scql_base.specs.declared.cursor.Cursor.{Cursor}
use Rattle.scql_base.specs.declared.cursor.Place.{Place}
use Rattle.scql_base.specs.declared.cursor.PresentedUser.{PresentedUser}
use Rattle.scql_base.specs.declared.cursor.Place.TheVariants.{NotOpen, At, End}
use Rattle.scql_base.specs.declared.records.User.{User}
use Rattle.scql_base.specs.declared.operation.Command.{Command}
use Rattle.scql_base.specs.declared.operation.Operation.{Operation}
use Rattle.scql_base.specs.declared.operation.Operation.TheVariants.{DeleteUser, Begin, Commit, Rollback, PresentUser, Verify, OpenChannel, CloseChannel}
use Rattle.scql_base.specs.Words.{end_reached, tries_left, authentication_blocked, conditions_not_satisfied, not_found, record_not_found}
use Rattle.scql_model.specs.Replies.{Reply}
use Rattle.scql_model.specs.Refusals.{◌>>=◌, or_refused, provided}
use Rattle.scql_model.specs.Database.{Database, user_named, user_stamped}
use Rattle.scql_model.specs.Machine.{Machine, Session, Reading, Transaction, open_channels, base, actor, session_of}
use Rattle.scql_model.specs.Sessions.{with_session, changing_session, command_chain, cursor_of, without_user, reading_of, reading_so, without_chain, user_of}
use Rattle.scql_model.specs.Transactions.{own_transaction, waits, is_kept_waiting}
use Rattle.scql_model.specs.Operations.{kind_of, operations}
use Rattle.scql_model.specs.Form.{Form, refused, refused_on, part_on, a_command, form_of}
use Rattle.scql_model.specs.Objects.{StampedRow}
use Rattle.scql_model.specs.ReadingCommands.{ReadingCommand, declare, open_cursor, next, fetch, fetch_next, get_response, reading_command, Move, or_stays, fitting, row_octets, named_among}
use Rattle.scql_model.specs.Moves.{selected, is_opened, opened, rows_under, first_row, row_behind, row_at, moved_to, went_to, gave_next, gave, gave_more, moved, move_of}
use Rattle.scql_model.specs.Rights.{seen_named}
use Rattle.scql_model.specs.Edits.{Edit}
use Rattle.scql_model.specs.Changing.{edits_of, with_edits}
use Rattle.scql_model.specs.Accepting.{channel_named, ended_at, EndsCursor, CostsTry}
use Rattle.scql_model.specs.Step.{Answer, answered, reading_done, changed_to, changed, user_and_sessions_deleted, session_named, secret_right, secret_wrong, verified, operated, carried_out, stepped, step}
use Rattle.scql_model.proofs.ChangingSessions.{changing_session-set}
use Rattle.scql_model.proofs.FormedCommands.{refused-not, not_refused, not_unless}
use Rattle.scql_model.proofs.FormedParts.{read_on, IfSome-read_on-named}
use Rattle.scql_model.proofs.ReadingSteps.{ended-user, ended-actor, ended-reading}
use Rattle.std.proofs.lemmas.Option.{same_Some}
use Rattle.scql_model.specs.Answering.{IsTriesLeft, AreCommand, FindsNone, ComesToEnd, ComparesWrong}
use Rattle.scql_model.proofs.ReadingSteps.{stepped-reading}
use Rattle.scql_model.proofs.OperationLaws.{gives-edits_of}
use Rattle.scql_model.proofs.RefusalWords.{IsPlain, plain-done, plain-rest, end-not_try, plain-refusal, OrRefuses, behind, or_word, if_word, asked, there, gives-selected, gives-rows, gives-opened, gives-fitting, gives-named_among, Plain, gives-with_edits, gives-session_named, plain-opened, plain-closed, RefusedSo, refused-form_of}

-- A move to a cursor's end.
record MovesToEnd (db : Database) (actor : Actor) (reading : Reading) (command : ReadingCommand) (move : Move Reading) : Type 0 where
  cursor : Cursor
  stood : reading.cursor ≡ Some cursor
  rows : List StampedRow
  listed : rows_under db actor cursor ≡ Ok rows
  none : FindsNone command cursor.place rows
  is : move ≡ moved_to End cursor end_reached

-- an opened cursor was declared
pub opened-parts : (cursor : Option Cursor) (c : Cursor) → opened cursor ≡ Ok c → (cursor ≡ Some c) × (is_opened c.place ≡ true)
opened-parts None c is = refused-not conditions_not_satisfied c is
opened-parts (Some d) c is = go (is_opened d.place) refl is
  where
    go : (b : Bool) → is_opened d.place ≡ b → (provided b conditions_not_satisfied >>= λ _. Ok d) ≡ Ok c → (Some d ≡ Some c) × (is_opened c.place ≡ true)
    go true at is = (ap result_ok is, ap (λ (c : Cursor). is_opened c.place) (sym (same_Some d c (ap result_ok is))) ∙ at)
    go false at is = refused-not conditions_not_satisfied c is

module _ (db : Database) (actor : Actor) (reading : Reading) (command : ReadingCommand) where
  abbrev Tells : Move Reading → Type 0
  Tells move = IsPlain move.reply.word ⊎ MovesToEnd db actor reading command move

  abbrev Ended : Cursor → List StampedRow → Type 0
  Ended c rows = (reading.cursor ≡ Some c) × ((rows_under db actor c ≡ Ok rows) × FindsNone command c.place rows)

  ends : (c : Cursor) (rows : List StampedRow) → Ended c rows → Tells (moved_to End c end_reached)
  ends c rows ended = inr (record { cursor = c; stood = ended.0; rows = rows; listed = ended.1.0; none = ended.1.1; is = refl })

  tells-went_to : (c : Cursor) (rows : List StampedRow) (found : Option StampedRow) → (found ≡ None → Ended c rows) → Tells (went_to c found)
  tells-went_to c rows None ended = ends c rows (ended refl)
  tells-went_to c rows (Some r) ended = inl plain-done

  tells-gave_next : (c : Cursor) (le : ℕ) (rows : List StampedRow) (found : Option StampedRow) → (found ≡ None → Ended c rows) → OrRefuses Tells (gave_next c le found)
  tells-gave_next c le rows None ended = ends c rows (ended refl)
  tells-gave_next c le rows (Some r) ended = behind Tells (fitting le (row_octets r.values)) _ (gives-fitting le (row_octets r.values)) (λ octets _. inl (plain-rest (drop le octets)))

  tells-gave : (c : Cursor) (le : ℕ) (rows : List StampedRow) (place : Place) → (place ≡ End → Ended c rows) → OrRefuses Tells (gave c le place rows)
  tells-gave c le rows NotOpen ended = refl
  tells-gave c le rows End ended = ends c rows (ended refl)
  tells-gave c le rows (At stamp) ended =
      behind Tells (or_refused (row_at stamp rows) record_not_found) _ (or_word (row_at stamp rows) record_not_found refl) (λ r _.
      behind Tells (fitting le (row_octets r.values)) _ (gives-fitting le (row_octets r.values)) (λ octets _. inl (plain-rest (drop le octets))))

  tells-gave_more : (c : Cursor) (le : ℕ) (pending : List ℕ) → OrRefuses Tells (gave_more c le pending)
  tells-gave_more c le [] = refl
  tells-gave_more c le (octet ∷ octets) = inl (plain-rest (drop le (octet ∷ octets)))

no_first : (rows : List StampedRow) → first_row rows ≡ None → rows ≡ []
no_first [] is = refl
no_first (r ∷ rows) is = absurd cc

tells-moved : (db : Database) (actor : Actor) (reading : Reading) (command : ReadingCommand) → OrRefuses (Tells db actor reading command) (moved db actor reading command)
tells-moved db actor reading (declare object columns conditions) =
    let P = Tells db actor reading (declare object columns conditions) in
    behind P (or_refused (seen_named db actor object) not_found) _ (or_word (seen_named db actor object) not_found refl) (λ o _.
    behind P (selected db actor o) _ (gives-selected db actor o) (λ contents _.
    behind P (named_among contents.columns columns conditions) _ (gives-named_among contents.columns columns conditions) (λ _ _. inl plain-done)))
tells-moved db actor reading open_cursor =
    let P = Tells db actor reading open_cursor in
    behind P (or_refused reading.cursor conditions_not_satisfied) _ (or_word reading.cursor conditions_not_satisfied refl) (λ c at.
    behind P (rows_under db actor c) _ (gives-rows db actor c) (λ rows listed.
    tells-went_to db actor reading open_cursor c rows (first_row rows) (λ none. (not_refused reading.cursor conditions_not_satisfied c at, (listed, no_first rows none)))))
tells-moved db actor reading next =
    let P = Tells db actor reading next in
    behind P (opened reading.cursor) _ (gives-opened reading.cursor) (λ c at.
    behind P (rows_under db actor c) _ (gives-rows db actor c) (λ rows listed.
    let parts = opened-parts reading.cursor c at in
    tells-went_to db actor reading next c rows (row_behind c.place rows) (λ none. (parts.0, (listed, record { opened = parts.1; none = none })))))
tells-moved db actor reading (fetch le) =
    let P = Tells db actor reading (fetch le) in
    behind P (opened reading.cursor) _ (gives-opened reading.cursor) (λ c at.
    behind P (rows_under db actor c) _ (gives-rows db actor c) (λ rows listed.
    tells-gave db actor reading (fetch le) c le rows c.place (λ ended. ((opened-parts reading.cursor c at).0, (listed, ended)))))
tells-moved db actor reading (fetch_next le) =
    let P = Tells db actor reading (fetch_next le) in
    behind P (opened reading.cursor) _ (gives-opened reading.cursor) (λ c at.
    behind P (rows_under db actor c) _ (gives-rows db actor c) (λ rows listed.
    let parts = opened-parts reading.cursor c at in
    tells-gave_next db actor reading (fetch_next le) c le rows (row_behind c.place rows) (λ none. (parts.0, (listed, record { opened = parts.1; none = none })))))
tells-moved db actor reading (get_response le) =
    let P = Tells db actor reading (get_response le) in
    behind P (or_refused reading.cursor conditions_not_satisfied) _ (or_word reading.cursor conditions_not_satisfied refl) (λ c _.
    behind P (rows_under db actor c) _ (gives-rows db actor c) (λ _ _. tells-gave_more db actor reading (get_response le) c le reading.pending))

-- which of the two that is
no_row : (command : ReadingCommand) (place : Place) (rows : List StampedRow) → FindsNone command place rows → (rows ≡ []) ⊎ (row_behind place rows ≡ None)
no_row (declare object columns conditions) place rows none = absurd none
no_row open_cursor place rows none = inl none
no_row next place rows none = inr none.none
no_row (fetch le) place rows none = inr (ap (λ (place : Place). row_behind place rows) none)
no_row (fetch_next le) place rows none = inr none.none
no_row (get_response le) place rows none = absurd none

-- What an answer says of the machine before the command.
abbrev TellsBefore : Machine → Command → Answer → Type 0
TellsBefore m c answer = IsPlain answer.reply.word ⊎ ((ComesToEnd m c × EndsCursor m c.channel answer) ⊎ (ComparesWrong m c × CostsTry m c.channel answer))

-- operations that change the database
plain-changed : (m : Machine) (channel : ℕ) (operation : Operation) → OrRefuses Plain (changed m channel operation)
plain-changed m channel operation =
    behind Plain (edits_of (base m channel) (actor m channel) (cursor_of m channel) operation) _ (gives-edits_of (base m channel) (actor m channel) (cursor_of m channel) operation) (λ edits _.
    behind Plain (with_edits (base m channel) edits) _ (gives-with_edits (base m channel) edits) (λ db _. go edits db (own_transaction m.transaction channel)))
  where
    go : (edits : List Edit) (db : Database) (t : Option Transaction) → Plain (changed_to m channel edits db t)
    go edits db None = plain-done
    go edits db (Some t) = plain-done

plain-deleted : (m : Machine) (channel : ℕ) (name : List ℕ) → OrRefuses Plain (user_and_sessions_deleted m channel name)
plain-deleted m channel name = go (changed m channel (DeleteUser name)) (plain-changed m channel (DeleteUser name))
  where
    go : (r : Result Answer StatusWord) → OrRefuses Plain r
        → OrRefuses Plain (r >>= λ (answer : Answer). or_refused (user_named (base m channel).users name) not_found >>= λ (u : User). Ok (record answer { machine = without_user answer.machine u.stamp }))
    go (Err word) plain = plain
    go (Ok answer) plain = behind Plain (or_refused (user_named (base m channel).users name) not_found) _ (or_word (user_named (base m channel).users name) not_found refl) (λ _ _. plain)

plain-answers : (m : Machine) (c : Command) (r : Result Answer StatusWord) → OrRefuses Plain r → OrRefuses (TellsBefore m c) r
plain-answers m c (Ok answer) plain = inl plain
plain-answers m c (Err word) is = is

module _ (m : Machine) (c : Command) where
  abbrev channel : ℕ
  channel = c.channel

  abbrev ended : Machine
  ended = changing_session without_chain m channel

  came_to_end : (c : Cursor) → changing_session (reading_so (record { cursor = Some (record c { place = End }); pending = [] })) ended channel ≡ changing_session (ended_at c) m channel
  came_to_end c =
      changing_session-set (reading_so (record { cursor = Some (record c { place = End }); pending = [] })) m channel (option_map without_chain (session_of m channel))
      ∙ ap (with_session m channel) (go (session_of m channel))
    where
      go : (s : Option Session) → option_map (reading_so (record { cursor = Some (record c { place = End }); pending = [] })) (option_map without_chain s) ≡ option_map (ended_at c) s
      go None = refl
      go (Some s) = refl

  answers-reading : (command : ReadingCommand) → reading_command c.operation c.le ≡ Some command → TellsBefore m c (reading_done ended channel command)
  unfolding move_of
  answers-reading command reads =
      go (moved (base m channel) (actor ended channel) (reading_of ended channel) command) (tells-moved (base m channel) (actor ended channel) (reading_of ended channel) command)
    where
      go : (r : Result (Move Reading) StatusWord) → OrRefuses (Tells (base m channel) (actor ended channel) (reading_of ended channel) command) r
          → TellsBefore m c (record {
            reply = (or_stays (reading_of ended channel) r).reply;
            machine = changing_session (reading_so (or_stays (reading_of ended channel) r).after) ended channel;
            commits = [];
          })
      go (Err word) is = inl (plain-refusal word is)
      go (Ok move) (inl plain) = inl plain
      go (Ok move) (inr ends) =
          let stood = sym (ap (λ (reading : Reading). reading.cursor) (ended-reading m channel)) ∙ ends.stood in
          let listed = ap (λ (who : Actor). rows_under (base m channel) who ends.cursor) (sym (ended-actor m channel)) ∙ ends.listed in
          inr (inl (
            record { reading = command; reads = reads; cursor = ends.cursor; stood = stood; rows = ends.rows; listed = listed; none = ends.none },
            record {
              cursor = ends.cursor;
              stood = stood;
              rows = ends.rows;
              listed = listed;
              none = no_row command ends.cursor.place ends.rows ends.none;
              reply = ap (λ (move : Move Reading). move.reply) ends.is;
              machine = ap (λ (move : Move Reading). changing_session (reading_so move.after) ended channel) ends.is ∙ came_to_end ends.cursor;
              commits = refl;
            },
          ))

  answers-verified : (secret : List ℕ) → c.operation ≡ Verify secret → m.transaction ≡ None → OrRefuses (TellsBefore m c) (verified ended channel secret)
  answers-verified secret verifies outside =
      behind (TellsBefore m c) (or_refused (user_of ended channel) conditions_not_satisfied) _ (or_word (user_of ended channel) conditions_not_satisfied refl) (λ p at.
      behind (TellsBefore m c) (provided (not p.proved) conditions_not_satisfied) _ (if_word (not p.proved) conditions_not_satisfied refl) (λ y unproved.
      behind (TellsBefore m c) (or_refused (user_stamped m.committed.users p.stamp) conditions_not_satisfied) _ (or_word (user_stamped m.committed.users p.stamp) conditions_not_satisfied refl) (λ u stored.
      behind (TellsBefore m c) (provided (not (u.tries == 0)) authentication_blocked) _ (if_word (not (u.tries == 0)) authentication_blocked refl) (λ x had.
      go p u (sym (ended-user m channel) ∙ not_refused (user_of ended channel) conditions_not_satisfied p at)
      (not-true p.proved (not_unless (not p.proved) conditions_not_satisfied y unproved))
      (not_refused (user_stamped m.committed.users p.stamp) conditions_not_satisfied u stored)
      (not_unless (not (u.tries == 0)) authentication_blocked x had) (bytes_eq secret u.secret) refl))))
    where
      not-true : (b : Bool) → not b ≡ true → b ≡ false
      not-true true is = absurd (false≢true is)
      not-true false is = refl

      go : (p : PresentedUser) (u : User) → user_of m channel ≡ Some p → p.proved ≡ false → user_stamped m.committed.users p.stamp ≡ Some u → not (u.tries == 0) ≡ true
          → (b : Bool) → bytes_eq secret u.secret ≡ b → TellsBefore m c (if b then secret_right ended channel u else secret_wrong ended u)
      go p u at unproved stored had true is = inl plain-done
      go p u at unproved stored had false is =
          let had_tries = λ (none : u.tries ≡ 0). false≢true (ap (λ (n : ℕ). not (n == 0)) (sym none) ∙ had) in
          inr (inr (
            record {
              secret = secret;
              verifies = verifies;
              outside = outside;
              who = p;
              presented = at;
              unproved = unproved;
              user = u;
              stored = stored;
              had_tries = had_tries;
              wrong = is;
            },
            record { who = p; presented = at; user = u; stored = stored; had_tries = had_tries; reply = refl; machine = refl; commits = refl },
          ))

  -- VERIFY waits for every transaction
  answers-operated : (operation : Operation) → c.operation ≡ operation → is_kept_waiting (waits (kind_of operation)) m.transaction channel ≡ false
      → OrRefuses (TellsBefore m c) (operated ended channel operation)
  answers-operated Begin is free = plain-answers m c (operated ended channel Begin) (asked Plain (not (is_some m.transaction)) conditions_not_satisfied _ refl plain-done)
  answers-operated Commit is free = plain-answers m c (operated ended channel Commit) (there Plain (own_transaction m.transaction channel) conditions_not_satisfied _ refl (λ _. plain-done))
  answers-operated Rollback is free = plain-answers m c (operated ended channel Rollback) (there Plain (own_transaction m.transaction channel) conditions_not_satisfied _ refl (λ _. plain-done))
  answers-operated (PresentUser name) is free =
      plain-answers m c (operated ended channel (PresentUser name)) (behind Plain (session_named (base m channel) name) _ (gives-session_named (base m channel) name) (λ _ _. plain-done))
  answers-operated (DeleteUser name) is free = plain-answers m c (operated ended channel (DeleteUser name)) (plain-deleted ended channel name)
  answers-operated (Verify secret) is free = answers-verified secret is (without_transaction m.transaction free)
    where
      without_transaction : (t : Option Transaction) → is_kept_waiting (waits (kind_of (Verify secret))) t channel ≡ false → t ≡ None
      without_transaction None free = refl
      without_transaction (Some t) free = absurd (false≢true (sym free))
  answers-operated (OpenChannel number) is free = plain-answers m c (operated ended channel (OpenChannel number)) (plain-opened ended channel number)
  answers-operated (CloseChannel number) is free = plain-answers m c (operated ended channel (CloseChannel number)) (plain-closed ended channel (if number == 0 then channel else number))
  answers-operated operation is free = plain-answers m c (changed ended channel operation) (plain-changed ended channel operation)

answers-carried_out : (m : Machine) (c : Command) → OrRefuses (TellsBefore m c) (carried_out (changing_session without_chain m c.channel) c)
answers-carried_out m c = free (is_kept_waiting (waits (kind_of c.operation)) m.transaction c.channel) refl
  where
    either : (command : Option ReadingCommand) → reading_command c.operation c.le ≡ command → is_kept_waiting (waits (kind_of c.operation)) m.transaction c.channel ≡ false
        → OrRefuses (TellsBefore m c) (option_map_or (λ command. Ok (reading_done (changing_session without_chain m c.channel) c.channel command)) command (operated (changing_session without_chain m c.channel) c.channel c.operation))
    either None reads free = answers-operated m c c.operation refl free
    either (Some command) reads free = answers-reading m c command reads

    free : (b : Bool) → is_kept_waiting (waits (kind_of c.operation)) m.transaction c.channel ≡ b
        → OrRefuses (TellsBefore m c) (provided (not b) conditions_not_satisfied >>= λ _.
        option_map_or (λ command. Ok (reading_done (changing_session without_chain m c.channel) c.channel command)) (reading_command c.operation c.le) (operated (changing_session without_chain m c.channel) c.channel c.operation))
    free true is = refl
    free false is = either (reading_command c.operation c.le) refl is

-- A step: its answer is plain, or that of a command.
abbrev AnswersTo : Machine → Form → Answer → Type 0
AnswersTo m form answer = IsPlain answer.reply.word ⊎ ((c : Command) × ((form ≡ a_command c) × TellsBefore m c answer))

answers-answered : (m before : Machine) (c : Command) (r : Result Answer StatusWord) → OrRefuses (TellsBefore m c) r → TellsBefore m c (answered before r)
answers-answered m before c (Ok answer) gives = gives
answers-answered m before c (Err word) is = inl (plain-refusal word is)

answers-stepped : (m : Machine) (form : Form) → RefusedSo form → AnswersTo m form (stepped m form)
answers-stepped m (refused word) is = inl (plain-refusal word is)
answers-stepped m (refused_on number word) is = inl (plain-refusal word is)
answers-stepped m (part_on number kind part) is = inl plain-done
answers-stepped m (a_command c) is =
    inr (c, (refl, answers-answered m (changing_session without_chain m c.channel) c (carried_out (changing_session without_chain m c.channel) c) (answers-carried_out m c)))

module _ (m : Machine) (octets : List ℕ) where
  abbrev form : Form
  form = form_of operations octets (open_channels m) (command_chain m) m.committed.limit

  answers-step : AnswersTo m form (step m octets)
  unfolding step
  answers-step = answers-stepped m form (refused-form_of operations octets (open_channels m) (command_chain m) m.committed.limit)

  on_channel : (c : Command) → form ≡ a_command c → c.channel ≡ channel_named octets
  on_channel c read = subst (λ (form : Form). IfSome (read_on form) (λ channel. channel ≡ channel_named octets)) read (IfSome-read_on-named operations octets (open_channels m) (command_chain m) m.committed.limit)

  -- 6282, and why it came
  step-came : (step m octets).reply.word ≡ end_reached → (c : Command) × ((form ≡ a_command c) × (ComesToEnd m c × EndsCursor m c.channel (step m octets)))
  step-came is = go answers-step
    where
      go : AnswersTo m form (step m octets) → (c : Command) × ((form ≡ a_command c) × (ComesToEnd m c × EndsCursor m c.channel (step m octets)))
      go (inl plain) = absurd (plain.0 is)
      go (inr (c, (read, inl plain))) = absurd (plain.0 is)
      go (inr (c, (read, inr (inl ends)))) = (c, (read, ends))
      go (inr (c, (read, inr (inr costs)))) = absurd (end-not_try (costs.1.user.tries - 1) (sym is ∙ ap (λ (reply : Reply). reply.word) costs.1.reply))

  pub step-ends : (step m octets).reply.word ≡ end_reached → EndsCursor m (channel_named octets) (step m octets)
  step-ends is =
      let came = step-came is in
      subst (λ (channel : ℕ). EndsCursor m channel (step m octets)) (on_channel came.0 came.1.0) came.1.1.1

  -- 63CX, and why it came
  step-tried : (n : ℕ) → (step m octets).reply.word ≡ tries_left n → (c : Command) × ((form ≡ a_command c) × (ComparesWrong m c × CostsTry m c.channel (step m octets)))
  step-tried n is = go answers-step
    where
      go : AnswersTo m form (step m octets) → (c : Command) × ((form ≡ a_command c) × (ComparesWrong m c × CostsTry m c.channel (step m octets)))
      go (inl plain) = absurd (plain.1 n is)
      go (inr (c, (read, inl plain))) = absurd (plain.1 n is)
      go (inr (c, (read, inr (inl ends)))) = absurd (end-not_try n (sym (ap (λ (reply : Reply). reply.word) ends.1.reply) ∙ is))
      go (inr (c, (read, inr (inr costs)))) = (c, (read, costs))

  pub step-costs : (n : ℕ) → (step m octets).reply.word ≡ tries_left n → CostsTry m (channel_named octets) (step m octets)
  step-costs n is =
      let tried = step-tried n is in
      subst (λ (channel : ℕ). CostsTry m channel (step m octets)) (on_channel tried.0 tried.1.0) tried.1.1.1

  -- and nothing else has these answers
  pub step-comes_to_end : (step m octets).reply.word ≡ end_reached → AreCommand m octets ComesToEnd
  step-comes_to_end is = let came = step-came is in record { command = came.0; read = came.1.0; is = came.1.1.0 }

  pub step-compares_wrong : IsTriesLeft (step m octets).reply.word → AreCommand m octets ComparesWrong
  step-compares_wrong (n, is) = let tried = step-tried n is in record { command = tried.0; read = tried.1.0; is = tried.1.1.0 }

-- The other way: a command that comes to the end, or compares a wrong secret, is answered so.
moved-none : (db : Database) (actor : Actor) (reading : Reading) (command : ReadingCommand) (c : Cursor) (rows : List StampedRow) → reading.cursor ≡ Some c → rows_under db actor c ≡ Ok rows
    → FindsNone command c.place rows → moved db actor reading command ≡ Ok (moved_to End c end_reached)
moved-none db actor reading (declare object columns conditions) c rows stood listed none = absurd none
moved-none db actor reading open_cursor c rows stood listed none = rw (stood, listed, none) refl
moved-none db actor reading next c rows stood listed none = rw (stood, none.opened, listed, none.none) refl
moved-none db actor reading (fetch le) c rows stood listed none = rw (stood, none, listed) refl
moved-none db actor reading (fetch_next le) c rows stood listed none = rw (stood, none.opened, listed, none.none) refl
moved-none db actor reading (get_response le) c rows stood listed none = absurd none

stepped-comes_to_end : (m : Machine) (c : Command) → ComesToEnd m c → (stepped m (a_command c)).reply.word ≡ end_reached
unfolding move_of
stepped-comes_to_end m c comes =
    ap (λ (answer : Answer). answer.reply.word) (stepped-reading m c comes.reading comes.reads)
    ∙ ap (λ (move : Result (Move Reading) StatusWord). (or_stays (reading_of (ended m c) c.channel) move).reply.word)
    (moved-none (base m c.channel) (actor (ended m c) c.channel) (reading_of (ended m c) c.channel) comes.reading comes.cursor comes.rows
    (ap (λ (reading : Reading). reading.cursor) (ended-reading m c.channel) ∙ comes.stood)
    (ap (λ (who : Actor). rows_under (base m c.channel) who comes.cursor) (ended-actor m c.channel) ∙ comes.listed) comes.none)

carried_out-verifies : (m : Machine) (c : Command) (secret : List ℕ) → c.operation ≡ Verify secret → m.transaction ≡ None → carried_out m c ≡ verified m c.channel secret
carried_out-verifies m c secret verifies outside = rw (verifies, outside) refl

stepped-compares_wrong : (m : Machine) (c : Command) (wrong : ComparesWrong m c) → (stepped m (a_command c)).reply.word ≡ tries_left (wrong.user.tries - 1)
stepped-compares_wrong m c wrong =
    ap (λ (outcome : Result Answer StatusWord). (answered (ended m c) outcome).reply.word) (carried_out-verifies (ended m c) c wrong.secret wrong.verifies wrong.outside ∙ compares)
  where
    left : not (wrong.user.tries == 0) ≡ true
    left = ap not (ne_eqb wrong.user.tries 0 wrong.had_tries)

    compares : verified (ended m c) c.channel wrong.secret ≡ Ok (secret_wrong (ended m c) wrong.user)
    compares = rw (ended-user m c.channel, wrong.presented, wrong.unproved, wrong.stored, left, wrong.wrong) refl

pub end-step : (m : Machine) (octets : List ℕ) → AreCommand m octets ComesToEnd → (step m octets).reply.word ≡ end_reached
unfolding step
end-step m octets are = ap (λ (form : Form). (stepped m form).reply.word) are.read ∙ stepped-comes_to_end m are.command are.is

pub try-step : (m : Machine) (octets : List ℕ) → AreCommand m octets ComparesWrong → IsTriesLeft (step m octets).reply.word
unfolding step
try-step m octets are = (are.is.user.tries - 1, ap (λ (form : Form). (stepped m form).reply.word) are.read ∙ stepped-compares_wrong m are.command are.is)
