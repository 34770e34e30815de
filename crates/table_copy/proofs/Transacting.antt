-- What the destination answers: to BEGIN, and in the transaction to INSERT, COMMIT and ROLLBACK.
use Rattle.std.proofs.Common.{◌≡◌, ℕ, ◌==◌, nat_le, Bool, true, false, List, [], ◌∷◌, length, Option, Some, None, is_some, option_map, Result, Ok, Err, if◌then◌else◌, refl, sym, ◌∙◌, ap, subst, inl, inr, lit≤}
use Rattle.std.specs.Option.{option_map_or}
use Rattle.scql_base.specs.declared.words.Actor.{Actor}
use Rattle.scql_base.specs.declared.words.Actor.TheVariants.{Public, User as a_user}
use Rattle.scql_base.specs.declared.words.StatusWord.{StatusWord}
use Rattle.scql_base.specs.declared.cursor.Cursor.{Cursor}
use Rattle.scql_base.specs.declared.cursor.PresentedUser.{PresentedUser}
use Rattle.scql_base.specs.declared.operation.Operation.TheVariants.{Insert, Begin, Commit, Rollback}
use Rattle.scql_base.specs.declared.records.RowRecord.{RowRecord}
use Rattle.scql_base.specs.declared.records.User.{User}
use Rattle.scql_base.specs.Row.{row_size}
use Rattle.scql_base.specs.Words.{done, conditions_not_satisfied, security_not_satisfied, not_found, no_space, wrong_data}
use Rattle.scql_model.specs.Refusals.{◌>>=◌}
use Rattle.scql_model.specs.Replies.{Reply, said}
use Rattle.scql_model.specs.Database.{Database, is_table, user_stamped}
use Rattle.scql_model.specs.Machine.{Machine, Session, Transaction, session_of, actor}
use Rattle.scql_model.specs.Matching.{Values}
use Rattle.scql_model.specs.Objects.{columns_of}
use Rattle.scql_model.specs.Rights.{insert_privilege, holds, seen_named}
use Rattle.std.proofs.lemmas.Bool.{false≢true}
use Rattle.scql_model.specs.Sessions.{changing_session, is_channel_open, without_chain, without_cursor, without_pending}
use Rattle.scql_model.specs.Defining.{of_kind}
use Rattle.scql_model.specs.Edits.{Edit, of_row, making, with_edits, applied, lacks_room}
use Rattle.scql_model.specs.Changing.{edits_of, change_of, transaction_after}
use Rattle.scql_model.specs.Form.{a_command}
use Rattle.scql_model.specs.Step.{Answer, answered, stepped}
use Rattle.scql_model.specs.Writing.{row_inserted}
use Rattle.scql_model.proofs.KeepsRows.{inserted-outcome}
use Rattle.scql_model.proofs.Outcomes.{gives-outcome}
use Rattle.scql_model.proofs.RefusalWords.{OrRefuses, Anything, there, asked, gives-with_edits, not_done-refusal}
use Rattle.card_link.specs.Link.{Answered, Holds, IsOneOf}
use Rattle.script.specs.Commands.{asking, IsSendable}
use Rattle.script.proofs.Sendable.{asked-sent}
use Rattle.planner.specs.Held.{transaction_channel}
use Rattle.planner.specs.Meaning.{answer_to, begun}
use Rattle.planner.specs.Words.{is_done}
use Rattle.planner.proofs.Asking.{set-there, answer-whole, in_session}
use Rattle.planner.proofs.Closed.{answer-closed}
use Rattle.planner.proofs.Selected.{in_session-same}
use Rattle.planner.proofs.Stepping.{answer-begun, answer-committed, answer-rolled_back, answer-inserted, answer-too_long, change_answer, changed_so}
use Rattle.card_asking.specs.Giving.{IsLike}
use Rattle.table_copy.specs.Copy.{may_begin, row_copied}
use Rattle.table_copy.specs.Copying.{StaysAt}
use Rattle.table_copy.specs.Filling.{Piece, done_by, acting, IsCopying, IsFilling, BeginsSo, InsertsSo, CommitsSo}
use Rattle.table_copy.specs.declared.copy_end.CopyEnd.TheVariants.{Copied, SourceRefused, DestRefused, SourceMute, DestMute}

-- what is asked can be sent
pub begin-sent : IsSendable (asking 0 Begin)
begin-sent = asked-sent 0 Begin (lit≤ tt) refl refl tt refl

pub commit-sent : IsSendable (asking 0 Commit)
commit-sent = asked-sent 0 Commit (lit≤ tt) refl refl tt refl

pub rollback-sent : IsSendable (asking 0 Rollback)
rollback-sent = asked-sent 0 Rollback (lit≤ tt) refl refl tt refl

-- what a word says of a piece
refused-so : (r : Piece (Unit {0})) (word said : StatusWord) → r ≡ done_by word → word ≡ said → is_done said ≡ false → r ≡ Err (DestRefused said)
refused-so r word said is same other = is ∙ (ap done_by same ∙ ap (λ b. let r : Piece (Unit {0}) = if b then Ok tt else Err (DestRefused said) in r) other)

done-so : (r : Piece (Unit {0})) (word : StatusWord) → r ≡ done_by word → word ≡ done → r ≡ Ok tt
done-so r word is same = is ∙ ap done_by same

-- a machine as it is with its transaction and the session of channel 0
same-machine : (m : Machine) (t : Option Transaction) (s : Session) → m.transaction ≡ t → session_of m 0 ≡ Some s → in_session (record m { transaction = t }) 0 s ≡ m
same-machine m t s is there = ap (λ (t : Option Transaction). in_session (record m { transaction = t }) 0 s) (sym is) ∙ in_session-same m 0 s there

-- BEGIN where a transaction is open already, and on a channel as it is
answer-busy : (d : Machine) (s : Session) (t : Transaction) → session_of d 0 ≡ Some s → d.transaction ≡ Some t
    → answer_to d (asking 0 Begin) ≡ record { reply = said conditions_not_satisfied; machine = changing_session without_chain d 0; commits = [] }
answer-busy d s t there busy = answer-whole d (asking 0 Begin) s begin-sent refl tt there ∙ waits (t.channel == 0) refl
  where
    waits : (own : Bool) → (t.channel == 0) ≡ own → stepped d (a_command (asking 0 Begin)) ≡ record { reply = said conditions_not_satisfied; machine = changing_session without_chain d 0; commits = [] }
    waits true own = rw (busy, own) refl
    waits false own = rw (busy, own) refl

answer-free : (d : Machine) (s : Session) → session_of d 0 ≡ Some s → d.transaction ≡ None
    → answer_to d (asking 0 Begin) ≡ record { reply = said done; machine = in_session (record d { transaction = Some (begun d 0) }) 0 (without_pending (without_chain s)); commits = [] }
answer-free d s there free = ap (λ (m : Machine). answer_to m (asking 0 Begin)) (sym (same-machine d None s free there)) ∙ answer-begun d 0 s (lit≤ tt) there s

-- BEGIN commits nothing
pub begin-silent : (d : Machine) → (answer_to d (asking 0 Begin)).commits ≡ []
begin-silent d = go (session_of d 0) (d.transaction) refl refl
  where
    go : (session : Option Session) (t : Option Transaction) → session_of d 0 ≡ session → d.transaction ≡ t → (answer_to d (asking 0 Begin)).commits ≡ []
    go None t there is =
        let closed : is_some (session_of d 0) ≡ false = rw there refl in
        ap (λ (a : Answer). a.commits) (answer-closed d (asking 0 Begin) begin-sent refl closed)
    go (Some s) None there is = ap (λ (a : Answer). a.commits) (answer-free d s there is)
    go (Some s) (Some t) there is = ap (λ (a : Answer). a.commits) (answer-busy d s t there is)

-- BEGIN
module _ {L : Type 0} (is_at : L → Machine → Type 0) (d : Machine) (heard : Reply) (r : Piece (Unit {0})) (now : L) (answered : Answered is_at (answer_to d (asking 0 Begin)) heard now) (is : r ≡ done_by heard.word) where
  refused-begin : (word : StatusWord) (n : Machine) → answer_to d (asking 0 Begin) ≡ record { reply = said word; machine = n; commits = [] } → is_done word ≡ false → may_begin d ≡ Err word → IsLike d n → BeginsSo is_at d (may_begin d) r now
  refused-begin word n a other may like =
      subst (λ (r : Piece (Unit {0})). BeginsSo is_at d (may_begin d) r now)
      (sym (refused-so r heard.word word is (ap (λ (reply : Reply). reply.word) answered.reply ∙ ap (λ (a : Answer). a.reply.word) a) other))
      (may, record { machine = n; at = subst (is_at now) (ap (λ (a : Answer). a.machine) a) answered.at; like = like })

  begun-so : (s : Session) → session_of d 0 ≡ Some s → d.transaction ≡ None → BeginsSo is_at d (may_begin d) r now
  begun-so s there free =
      let x : Session = without_pending (without_chain s) in
      let n : Machine = in_session (record d { transaction = Some (begun d 0) }) 0 x in
      let a : answer_to d (asking 0 Begin) ≡ record { reply = said done; machine = n; commits = [] } =
      answer-free d s there free in
      subst (λ (r : Piece (Unit {0})). BeginsSo is_at d (may_begin d) r now)
      (sym (done-so r heard.word is (ap (λ (reply : Reply). reply.word) answered.reply ∙ ap (λ (a : Answer). a.reply.word) a))) (
        rw free refl,
        record {
          machine = n;
          at = subst (is_at now) (ap (λ (a : Answer). a.machine) a) answered.at;
          copies = record {
            committed = refl;
            free = free;
            transaction = begun d 0;
            began = refl;
            own = refl;
            working = refl;
            session = x;
            there = set-there d.sessions 0 s x there;
            unchained = refl;
            nothing_pending = refl;
            acts = rw (there, free) refl;
          };
        },
      )

  pub begins-so : is_channel_open d 0 ≡ true → BeginsSo is_at d (may_begin d) r now
  begins-so basic = go (session_of d 0) (d.transaction) refl refl
    where
      go : (session : Option Session) (t : Option Transaction) → session_of d 0 ≡ session → d.transaction ≡ t → BeginsSo is_at d (may_begin d) r now
      go None t there is = absurd (false≢true (sym (ap (λ (session : Option Session). is_some session) there) ∙ basic))
      go (Some s) None there is = begun-so s there is
      go (Some s) (Some t) there is =
          refused-begin conditions_not_satisfied (changing_session without_chain d 0) (answer-busy d s t there is) refl (rw is refl) (record { committed = refl; transaction = refl })

-- In the transaction.
waiting-same : (s : Session) → s.chain ≡ None → s.reading.pending ≡ [] → record { user = s.user; reading = record { cursor = s.reading.cursor; pending = [] }; chain = None } ≡ s
waiting-same s unchained none = let whole : record { user = s.user; reading = record { cursor = s.reading.cursor; pending = [] }; chain = None } ≡ s = rw (sym unchained, sym none) refl in whole

module _ (d : Machine) (db : Database) (m : Machine) (c : IsCopying d db m) where
  -- the machine as it is in its transaction
  waits-same : in_session (record m { transaction = Some c.transaction }) 0 (record { user = c.session.user; reading = record { cursor = c.session.reading.cursor; pending = [] }; chain = None }) ≡ m
  waits-same = ap (in_session (record m { transaction = Some c.transaction }) 0) (waiting-same c.session c.unchained c.nothing_pending) ∙ same-machine m (Some c.transaction) c.session c.began c.there

  pub answer-commit : answer_to m (asking 0 Commit)
      ≡ record { reply = said done; machine = in_session (record m { committed = c.transaction.working; transaction = None }) 0 (without_pending (without_chain c.session)); commits = c.transaction.working ∷ [] }
  answer-commit =
      ap (λ (n : Machine). answer_to n (asking 0 Commit)) (sym (same-machine m (Some c.transaction) c.session c.began c.there))
      ∙ answer-committed m 0 c.session (lit≤ tt) c.there c.transaction c.session c.own

  pub answer-rollback : answer_to m (asking 0 Rollback)
      ≡ record { reply = said done; machine = in_session (record m { transaction = None }) 0 (without_cursor (without_chain c.session)); commits = [] }
  answer-rollback =
      ap (λ (n : Machine). answer_to n (asking 0 Rollback)) (sym (same-machine m (Some c.transaction) c.session c.began c.there))
      ∙ answer-rolled_back m 0 c.session (lit≤ tt) c.there c.transaction c.session c.own

  none-open : transaction_channel d ≡ None
  none-open = ap (λ (t : Option Transaction). option_map (λ (t : Transaction). t.channel) t) c.free

  module _ {L : Type 0} (is_at : L → Machine → Type 0) (heard : Reply) (now : L) where
    pub commits-so : (r : Piece (Unit {0})) → Answered is_at (answer_to m (asking 0 Commit)) heard now → r ≡ done_by heard.word → CommitsSo is_at d db r now
    commits-so r answered is =
        subst (λ (r : Piece (Unit {0})). CommitsSo is_at d db r now)
        (sym (done-so r heard.word is (ap (λ (reply : Reply). reply.word) answered.reply ∙ ap (λ (a : Answer). a.reply.word) answer-commit)))
        (record {
          machine = in_session (record m { committed = c.transaction.working; transaction = None }) 0 (without_pending (without_chain c.session));
          at = subst (is_at now) (ap (λ (a : Answer). a.machine) answer-commit) answered.at;
          like = record { committed = c.working; transaction = sym none-open };
        })

    pub rolls-so : Answered is_at (answer_to m (asking 0 Rollback)) heard now → StaysAt is_at d now
    rolls-so answered = record {
      machine = in_session (record m { transaction = None }) 0 (without_cursor (without_chain c.session));
      at = subst (is_at now) (ap (λ (a : Answer). a.machine) answer-rollback) answered.at;
      like = record { committed = c.committed; transaction = sym none-open };
    }

  -- the databases that may be committed meanwhile
  pub commit-moment : (mark g : ℕ) (left : Database) → IsOneOf mark (m.committed ∷ (answer_to m (asking 0 Commit)).commits) g left → IsOneOf mark (d.committed ∷ db ∷ []) g left
  commit-moment mark g left is =
      let commits : (answer_to m (asking 0 Commit)).commits ≡ db ∷ [] = ap (λ (a : Answer). a.commits) answer-commit ∙ ap (λ (x : Database). x ∷ []) c.working in
      rw (commits, c.committed) at is

  pub rollback-moment : (mark g : ℕ) (left : Database) → IsOneOf mark (m.committed ∷ (answer_to m (asking 0 Rollback)).commits) g left → Holds mark d.committed g left
  rollback-moment mark g left is = only (rw (ap (λ (a : Answer). a.commits) answer-rollback, c.committed) at is)
    where
      only : IsOneOf mark (d.committed ∷ []) g left → Holds mark d.committed g left
      only (inl holds) = holds
      only (inr none) = absurd none

-- An INSERT leaves the users.
made-by : (db : Database) (a : Actor) (table : List ℕ) (row : Values) → OrRefuses (λ (edits : List Edit). (r : RowRecord) × (edits ≡ making db (of_row r))) (row_inserted db a table row)
unfolding row_inserted
made-by db a table row =
    let P : List Edit → Type 0 = λ edits. (r : RowRecord) × (edits ≡ making db (of_row r)) in
    there P (of_kind is_table (seen_named db a table)) not_found _ refl (λ o.
    asked P (holds db a o insert_privilege) security_not_satisfied _ refl
    (asked P (length row == length (columns_of o.kind)) wrong_data _ refl (record { stamp = db.next; table = o.stamp; row = row }, refl)))

-- for whom a session acts, by the users alone
acting-same : (s : Session) (db next : Database) → next.users ≡ db.users → acting next s ≡ acting db s
acting-same s db next same =
    ap (λ (users : List User). option_map_or (λ (p : PresentedUser). if p.proved then option_map_or (λ (u : User). a_user u.stamp u.profile) (user_stamped users p.stamp) Public else Public) s.user Public) same

users-same : (db next : Database) (a : Actor) (table : List ℕ) (row : Values) (edits : List Edit) → row_inserted db a table row ≡ Ok edits → with_edits db edits ≡ Ok next → next.users ≡ db.users
users-same db next a table row edits is with_room =
    let made : (r : RowRecord) × (edits ≡ making db (of_row r)) =
    subst (OrRefuses (λ (edits : List Edit). (r : RowRecord) × (edits ≡ making db (of_row r)))) is (made-by db a table row) in
    ap (λ (db : Database). db.users) (go (lacks_room db edits) with_room) ∙ ap (λ (edits : List Edit). (applied db edits).users) made.1
  where
    go : (lacks : Bool) → (if lacks then Err no_space else Ok (applied db edits)) ≡ Ok next → next ≡ applied db edits
    go true is = absurd cc
    go false is = cc

-- INSERT in the transaction
module _ (d : Machine) (db : Database) (m : Machine) (c : IsCopying d db m) (table : List ℕ) (row : Values) (can : IsSendable (asking 0 (Insert table row))) where
  abbrev cursor : Option Cursor
  cursor = c.session.reading.cursor

  abbrev waiting : Session
  waiting = record { user = c.session.user; reading = record { cursor = cursor; pending = [] }; chain = None }

  -- in the transaction after it, or still in this one
  abbrev machine_in : Transaction → Machine
  machine_in t = in_session (record m { transaction = Some t }) 0 waiting

  abbrev answered_by : Result Transaction StatusWord → Answer
  answered_by (Ok next) = record { reply = said done; machine = machine_in next; commits = [] }
  answered_by (Err word) = record { reply = said word; machine = machine_in c.transaction; commits = [] }

  abbrev after_edits : Result (List Edit) StatusWord → Result Transaction StatusWord
  after_edits edits = edits >>= λ edits. (with_edits db edits >>= λ next. Ok (transaction_after m.committed c.transaction edits next))

  changed-is : changed_so m 0 c.session (lit≤ tt) c.there (Insert table row) c.transaction cursor ≡ after_edits (row_inserted db (actor d 0) table row)
  unfolding edits_of
  changed-is =
      ap (λ (base : Database). let r : Result Transaction StatusWord = row_inserted base (acting base c.session) table row
      >>= λ edits. (with_edits base edits >>= λ next. Ok (transaction_after m.committed c.transaction edits next)) in r) c.working
      ∙ ap (λ (a : Actor). after_edits (row_inserted db a table row)) c.acts

  -- within the limit it is a change of the database
  copied-is : nat_le (row_size row) d.committed.limit ≡ true → row_copied d.committed.limit (actor d 0) table db row ≡ (row_inserted db (actor d 0) table row >>= λ edits. with_edits db edits)
  unfolding change_of edits_of
  copied-is short = rw short refl

  limit-same : (fits : Bool) → nat_le (row_size row) d.committed.limit ≡ fits → nat_le (row_size row) m.committed.limit ≡ fits
  limit-same fits is = ap (λ (db : Database). nat_le (row_size row) db.limit) c.committed ∙ is

  asked-here : (a : Answer) → answer_to (machine_in c.transaction) (asking 0 (Insert table row)) ≡ a → answer_to m (asking 0 (Insert table row)) ≡ a
  asked-here a is = ap (λ (n : Machine). answer_to n (asking 0 (Insert table row))) (sym (waits-same d db m c)) ∙ is

  module _ {L : Type 0} (is_at : L → Machine → Type 0) (heard : Reply) (r : Piece (Unit {0})) (now : L) (answered : Answered is_at (answer_to m (asking 0 (Insert table row))) heard now) (is : r ≡ done_by heard.word) where
    refused-insert : (word : StatusWord) → answer_to m (asking 0 (Insert table row)) ≡ answered_by (Err word) → is_done word ≡ false → InsertsSo is_at d db (Err word) r now
    refused-insert word a other =
        subst (λ (r : Piece (Unit {0})). InsertsSo is_at d db (Err word) r now)
        (sym (refused-so r heard.word word is (ap (λ (reply : Reply). reply.word) answered.reply ∙ ap (λ (a : Answer). a.reply.word) a) other))
        (refl, record { machine = m; at = subst (is_at now) (ap (λ (a : Answer). a.machine) a ∙ waits-same d db m c) answered.at; copies = c })

    done-insert : (next : Database) (edits : List Edit) → row_inserted db (actor d 0) table row ≡ Ok edits → with_edits db edits ≡ Ok next
        → answer_to m (asking 0 (Insert table row)) ≡ answered_by (Ok (transaction_after m.committed c.transaction edits next)) → InsertsSo is_at d db (Ok next) r now
    done-insert next edits made with_room a =
        subst (λ (r : Piece (Unit {0})). InsertsSo is_at d db (Ok next) r now)
        (sym (done-so r heard.word is (ap (λ (reply : Reply). reply.word) answered.reply ∙ ap (λ (a : Answer). a.reply.word) a))) (
          next,
          refl,
          record {
            machine = machine_in (transaction_after m.committed c.transaction edits next);
            at = subst (is_at now) (ap (λ (a : Answer). a.machine) a) answered.at;
            copies = record {
              committed = c.committed;
              free = c.free;
              transaction = transaction_after m.committed c.transaction edits next;
              began = refl;
              own = c.own;
              working = refl;
              session = waiting;
              there = set-there m.sessions 0 c.session waiting c.there;
              unchained = refl;
              nothing_pending = refl;
              acts = acting-same c.session db next (users-same db next (actor d 0) table row edits made with_room) ∙ c.acts;
            };
          },
        )

    by-edits : (edits : Result (List Edit) StatusWord) → row_inserted db (actor d 0) table row ≡ edits → answer_to m (asking 0 (Insert table row)) ≡ answered_by (after_edits edits)
        → InsertsSo is_at d db (edits >>= λ edits. with_edits db edits) r now
    by-edits (Err word) made a = refused-insert word a (not_done-refusal word (subst (OrRefuses Anything) made (gives-outcome (row_inserted db (actor d 0) table row) (inserted-outcome db (actor d 0) table row))))
    by-edits (Ok edits) made a = room (with_edits db edits) refl a
      where
        room : (next : Result Database StatusWord) → with_edits db edits ≡ next
            → answer_to m (asking 0 (Insert table row)) ≡ answered_by (next >>= λ next. Ok (transaction_after m.committed c.transaction edits next)) → InsertsSo is_at d db next r now
        room (Err word) is a = refused-insert word a (not_done-refusal word (subst (OrRefuses Anything) is (gives-with_edits db edits)))
        room (Ok next) is a = done-insert next edits made is a

    pub inserts-so : InsertsSo is_at d db (row_copied d.committed.limit (actor d 0) table db row) r now
    inserts-so = go (nat_le (row_size row) d.committed.limit) refl
      where
        go : (fits : Bool) → nat_le (row_size row) d.committed.limit ≡ fits → InsertsSo is_at d db (row_copied d.committed.limit (actor d 0) table db row) r now
        go true short =
            subst (λ (added : Result Database StatusWord). InsertsSo is_at d db added r now) (sym (copied-is short))
            (by-edits (row_inserted db (actor d 0) table row) refl
            (asked-here _ (answer-inserted m 0 c.session (lit≤ tt) c.there table row c.transaction cursor can c.own (limit-same true short) ∙ by-change _ _ changed-is)))
          where
            by-change : (x y : Result Transaction StatusWord) → x ≡ y → change_answer m 0 c.session (lit≤ tt) c.there c.transaction waiting x ≡ answered_by y
            by-change (Ok next) y is = rw (sym is) refl
            by-change (Err word) y is = rw (sym is) refl
        go false long =
            subst (λ (added : Result Database StatusWord). InsertsSo is_at d db added r now) (let out : Err wrong_data ≡ row_copied d.committed.limit (actor d 0) table db row = rw long refl in out)
            (refused-insert wrong_data
            (asked-here _ (answer-too_long m 0 c.session (lit≤ tt) c.there table row c.transaction cursor can (limit-same false long))) refl)

  -- nothing is committed, whether it is done or refused
  pub insert-silent : (answer_to m (asking 0 (Insert table row))).commits ≡ []
  insert-silent = go (nat_le (row_size row) m.committed.limit) refl
    where
      none : (x : Result Transaction StatusWord) → (change_answer m 0 c.session (lit≤ tt) c.there c.transaction waiting x).commits ≡ []
      none (Ok next) = refl
      none (Err word) = refl

      go : (fits : Bool) → nat_le (row_size row) m.committed.limit ≡ fits → (answer_to m (asking 0 (Insert table row))).commits ≡ []
      go true short =
          ap (λ (a : Answer). a.commits) (asked-here _ (answer-inserted m 0 c.session (lit≤ tt) c.there table row c.transaction cursor can c.own short))
          ∙ none (changed_so m 0 c.session (lit≤ tt) c.there (Insert table row) c.transaction cursor)
      go false long = ap (λ (a : Answer). a.commits) (asked-here _ (answer-too_long m 0 c.session (lit≤ tt) c.there table row c.transaction cursor can long))

-- behind an INSERT the destination still has its transaction
pub filling-after : {L : Type 0} (is_at : L → Machine → Type 0) (d : Machine) (db : Database) (added : Result Database StatusWord) (r : Piece (Unit {0})) (now : L) → InsertsSo is_at d db added r now → (r ≡ Err DestMute → ⊥) → IsFilling is_at d now
filling-after is_at d db added (Ok x) now so heard = record { db = so.0; copies = so.2 }
filling-after is_at d db added (Err (DestRefused word)) now so heard = record { db = db; copies = so.1 }
filling-after is_at d db added (Err DestMute) now so heard = absurd (heard refl)
filling-after is_at d db added (Err (Copied rows)) now so heard = absurd so
filling-after is_at d db added (Err (SourceRefused word)) now so heard = absurd so
filling-after is_at d db added (Err SourceMute) now so heard = absurd so
