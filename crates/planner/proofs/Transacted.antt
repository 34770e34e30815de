-- UPDATE and DELETE FROM run to their meaning, within the transaction of their channel and in one of their own.
use Rattle.std.proofs.Common.{◌≡◌, ℕ, suc, ◌≤◌, ◌==◌, true, false, List, [], ◌∷◌, length, Option, Some, None, option_map, Result, Ok, Err, if◌then◌else◌, refl, sym, ◌∙◌, ap, subst}
use Rattle.std.specs.Prelude.{option_and_then}
use Rattle.std.specs.Option.{option_map_or}
use Rattle.std.proofs.lemmas.Bool.{eq-eqb}
use Rattle.scql_base.specs.declared.words.Actor.{Actor}
use Rattle.scql_base.specs.declared.words.Actor.TheVariants.{Public}
use Rattle.scql_base.specs.declared.words.StatusWord.{StatusWord}
use Rattle.scql_base.specs.declared.condition.Condition.{Condition}
use Rattle.scql_base.specs.declared.cursor.Place.TheVariants.{NotOpen, At, End}
use Rattle.scql_base.specs.declared.operation.Command.{Command}
use Rattle.scql_base.specs.declared.operation.Operation.{Operation}
use Rattle.scql_base.specs.declared.operation.Operation.TheVariants.{DeclareCursor, Begin, Commit, Rollback}
use Rattle.scql_base.specs.Words.{done, end_reached, conditions_not_satisfied}
use Rattle.scql_model.specs.Replies.{Reply, said}
use Rattle.scql_model.specs.Database.{Database}
use Rattle.scql_model.specs.Machine.{Machine, Session, Reading, Chain, Transaction, session_of, base_of, base, actor_of, actor}
use Rattle.scql_model.specs.Sessions.{with_session, changing_session, without_chain, without_cursor}
use Rattle.scql_model.specs.ReadingCommands.{declare}
use Rattle.scql_model.specs.ReadingLaws.{IsReadable}
use Rattle.scql_model.specs.Moves.{rows_under, move_of}
use Rattle.script.specs.declared.statement.Statement.{Statement}
use Rattle.script.specs.Commands.{asking, IsSendable}
use Rattle.planner.specs.declared.closing.Closing.TheVariants.{Rows, Refused}
use Rattle.planner.specs.declared.stage.Stage.{Stage}
use Rattle.planner.specs.declared.stage.Stage.TheVariants.{Start, Beginning, Declaring, Changing, Committing, RollingBack, Ended}
use Rattle.planner.specs.declared.step.Step.TheVariants.{Send}
use Rattle.planner.specs.Words.{is_refusal}
use Rattle.planner.specs.Meaning.{Declared, Changed, declared, begun, changed_in, changed_inside, changed_at_once, committed_after, closing_after, rolled_back, refused_on, standing, answer_to}
use Rattle.planner.specs.Planned.{Planned, Turn, next_of, asks, finishes, refuses, accepts}
use Rattle.planner.specs.Running.{Ran, run, taken, answered_by, committing, shown}
use Rattle.planner.proofs.Asking.{in_session, reads_so, moved_answer}
use Rattle.planner.proofs.Changed.{ChangesBy, plan_at, machine_at, opened-run}
use Rattle.planner.proofs.Selecting.{more, SelectEnds, sends-ends, done-ends, at}
use Rattle.planner.proofs.Selected.{Declares, declares_so, IsDeclared, declares, in_session-same}
use Rattle.planner.proofs.Stepping.{who_in, machine_with, answer-begun, answer-waits, answer-committed, answer-rolled_back, answer-reads}

-- a command that commits
commits-ends : (m next : Machine) (last : Option Reply) (reply : Reply) (commits : List Database) (p q : Planned) (c : Command) (ran : Ran) → next_of last p ≡ record { plan = q; step = Send c }
    → answer_to m c ≡ record { reply = reply; machine = next; commits = commits } → SelectEnds next (Some reply) q ran → SelectEnds m last p (committing commits ran)
commits-ends m next last reply commits p q c ran is-turn is-answer e = record {
  steps = suc e.steps;
  runs = λ n.
      ap (λ (turn : Turn). taken (λ x r y. run (more e.steps n) x r y) m turn.plan turn.step) is-turn
      ∙ (ap (answered_by (λ x r y. run (more e.steps n) x r y) q) is-answer ∙ ap (committing commits) (e.runs n));
}

module _ (m : Machine) (channel : ℕ) (s : Session) (near : channel ≤ 3) (there : session_of m channel ≡ Some s)
    (statement : Statement) (object : List ℕ) (conditions : List Condition) (operation : Operation) (by : ChangesBy statement object conditions operation)
    (can : IsSendable (asking channel operation)) (can_declare : IsSendable (asking channel (DeclareCursor object [] conditions))) where
  abbrev me : Actor
  me = actor m channel

  abbrev outcome : Result Declared StatusWord
  outcome = declared m channel object [] conditions

  acts-in : who_in (base m channel) s ≡ me
  acts-in = sym (ap (λ (session : Option Session). option_map_or (actor_of (base m channel)) (option_and_then (λ (x : Session). x.user) session) Public) there)

  -- the session may have anything pending, and parts of a command
  abbrev session_with : Reading → Option Chain → Session
  session_with reading chain = record { user = s.user; reading = reading; chain = chain }

  changed-session : (t : Option Transaction) (committed : Database) (change : Session → Session)
      → in_session (record m { committed = committed; transaction = t }) channel (change s) ≡ changing_session change (record m { committed = committed; transaction = t }) channel
  changed-session t committed change = sym (ap (λ (session : Option Session). with_session (record m { committed = committed; transaction = t }) channel (option_map change session)) there)

  machine-is : (t : Option Transaction) → m.transaction ≡ t → machine_with m channel s near there t s ≡ m
  machine-is t is = ap (λ (t : Option Transaction). machine_with m channel s near there t s) (sym is) ∙ in_session-same m channel s there

  declares-here : IsReadable (base m channel) → (reading : Reading) → Declares (base m channel) me reading object [] conditions outcome
  unfolding declared
  declares-here readable reading = declares (base m channel) me reading object [] conditions readable

  asked-answer : (t : Transaction) (reading : Reading) (chain : Option Chain) (d : Result Declared StatusWord) → (t.channel == channel) ≡ true → t.working ≡ base m channel
      → Declares (base m channel) me reading object [] conditions d
      → answer_to (machine_with m channel s near there (Some t) (session_with reading chain)) (asking channel (DeclareCursor object [] conditions))
      ≡ record { reply = (declares_so reading d).reply; machine = machine_at m channel s near there statement object conditions operation by can false t (declares_so reading d).after; commits = [] }
  asked-answer t reading chain d own works d-is =
      answer-reads m channel s near there t (session_with reading chain) (DeclareCursor object [] conditions) (declare object [] conditions) own can_declare refl
      ∙ ap (moved_answer (record m { transaction = Some t }) channel (session_with reading chain))
      (ap (λ (db : Database). move_of db (who_in db s) reading (declare object [] conditions)) works
      ∙ (ap (λ (a : Actor). move_of (base m channel) a reading (declare object [] conditions)) acts-in ∙ d-is.moves))

  abbrev pub CountsFew : Result Declared StatusWord → Type 0
  CountsFew (Err word) = Unit {0}
  CountsFew (Ok d) = length d.rows ≤ 2048

  -- Within the channel's transaction.
  module _ (t : Transaction) (is : m.transaction ≡ Some t) (own : (t.channel == channel) ≡ true) where
    abbrev plan : Stage → ℕ → Planned
    plan stage rows = plan_at m channel s near there statement object conditions operation by can false stage rows

    abbrev machine : Transaction → Reading → Machine
    machine t reading = machine_at m channel s near there statement object conditions operation by can false t reading

    works : t.working ≡ base m channel
    works = sym (ap (λ (t : Option Transaction). base_of t m.committed channel) is ∙ ap (λ mine. if mine then t.working else m.committed) own)

    module _ (d : Declared) where
      abbrev ran_of : Changed → Ran
      ran_of c = record { rows = []; closing = closing_after (length d.rows) c.refusal; machine = machine c.transaction (at d.cursor c.place []); commits = [] }

      ended-inside : (t : Transaction) (last : Stage) → (t.channel == channel) ≡ true → next_of (Some (said end_reached)) (plan last (length d.rows)) ≡ finishes (plan last (length d.rows))
          → SelectEnds (machine t (at d.cursor End [])) (Some (said end_reached)) (plan last (length d.rows)) (ran_of (record { transaction = t; place = End; refusal = None }))
      ended-inside t last own finishing =
          done-ends (machine t (at d.cursor End [])) (Some (said end_reached)) (plan last (length d.rows)) (plan (Ended (Rows (length d.rows))) (length d.rows)) (Rows (length d.rows)) finishing

      refused-inside : (t : Transaction) (stamp count : ℕ) (word : StatusWord) → (t.channel == channel) ≡ true → is_refusal word ≡ true
          → SelectEnds (machine t (at d.cursor (At stamp) [])) (Some (said word)) (plan Changing count) (ran_of (record { transaction = t; place = At stamp; refusal = Some word }))
      refused-inside t stamp count word own refuses' =
          done-ends (machine t (at d.cursor (At stamp) [])) (Some (said word)) (plan Changing count) (plan (Ended (Refused word)) count) (Refused word)
          (ap (λ refused. if refused then refuses Changing word (plan Changing count) else accepts Changing word [] (plan Changing count)) refuses')

    declared-inside : (result : Result Declared StatusWord) → IsDeclared (base m channel) me result → CountsFew result
        → SelectEnds (machine t (declares_so s.reading result).after) (Some (declares_so s.reading result).reply) (plan Declaring 0) (shown (changed_inside m channel operation t result))
    declared-inside (Err word) refuses' few =
        let P : Machine → Type 0 = λ n. SelectEnds (machine t s.reading) (Some (said word)) (plan Declaring 0) (record { rows = []; closing = Refused word; machine = n; commits = [] }) in
        subst P (changed-session (Some t) m.committed without_chain ∙ ap (λ (t : Option Transaction). changing_session without_chain (record m { transaction = t }) channel) (sym is))
        (done-ends (machine t s.reading) (Some (said word)) (plan Declaring 0) (plan (Ended (Refused word)) 0) (Refused word)
        (ap (λ refused. if refused then refuses Declaring word (plan Declaring 0) else accepts Declaring word [] (plan Declaring 0)) refuses'))
    declared-inside (Ok d) of_rows few =
        let c : Changed = changed_in m channel operation d t in
        let P : Machine → Type 0 = λ n. SelectEnds (machine t (at d.cursor NotOpen [])) (Some (said done)) (plan Declaring 0) (record { rows = []; closing = closing_after (length d.rows) c.refusal; machine = n; commits = [] }) in
        subst P (changed-session (Some c.transaction) m.committed (standing c.place d.cursor))
        (opened-run m channel s near there statement object conditions operation by can false d.cursor me (length d.rows) few (ran_of d) (ended-inside d) (refused-inside d) t d.rows own
        (ap (λ (db : Database). who_in db s) works ∙ acts-in) (ap (λ (db : Database). rows_under db me d.cursor) works ∙ of_rows.0) of_rows.1 refl)

    pub runs-inside : IsReadable (base m channel) → CountsFew outcome
        → SelectEnds m None (record { statement = statement; channel = channel; own = false; stage = Start; rows = 0; responses = 0; row = [] }) (shown (changed_inside m channel operation t outcome))
    runs-inside readable few =
        let d = declares-here readable s.reading in
        subst (λ (n : Machine). SelectEnds n None (plan Start 0) (shown (changed_inside m channel operation t outcome))) (machine-is (Some t) is)
        (sends-ends (machine_with m channel s near there (Some t) s) (machine t (declares_so s.reading outcome).after) None (declares_so s.reading outcome).reply
        (plan Start 0) (plan Declaring 0) (asking channel (DeclareCursor object [] conditions)) (shown (changed_inside m channel operation t outcome))
        (by.begins (plan Start 0) ∙ by.declares (plan Start 0)) (asked-answer t s.reading s.chain outcome own works d) (declared-inside outcome d.is few))

  -- Outside of it: in a transaction of its own.
  module _ (none : m.transaction ≡ None) where
    abbrev plan_outside : Stage → ℕ → Planned
    plan_outside stage rows = plan_at m channel s near there statement object conditions operation by can true stage rows

    abbrev machine_outside : Transaction → Reading → Machine
    machine_outside t reading = machine_at m channel s near there statement object conditions operation by can true t reading

    own-begun : ((begun m channel).channel == channel) ≡ true
    own-begun = eq-eqb channel channel refl

    works-committed : m.committed ≡ base m channel
    works-committed = sym (ap (λ (t : Option Transaction). base_of t m.committed channel) none)

    -- after a refusal the transaction is rolled back
    abbrev rolled : StatusWord → Ran
    rolled word = record { rows = []; closing = Refused word; machine = machine_with m channel s near there None (without_cursor (without_chain s)); commits = [] }

    rolls-back : (t : Transaction) (reading : Reading) (last : Stage) (count : ℕ) (word : StatusWord) → (t.channel == channel) ≡ true
        → next_of (Some (said word)) (plan_outside last count) ≡ asks (RollingBack word) Rollback (plan_outside last count)
        → SelectEnds (machine_outside t reading) (Some (said word)) (plan_outside last count) (rolled word)
    rolls-back t reading last count word own rolling =
        sends-ends (machine_outside t reading) (machine_with m channel s near there None (without_cursor (without_chain s))) (Some (said word)) (said done)
        (plan_outside last count) (plan_outside (RollingBack word) count) (asking channel Rollback) (rolled word) rolling (answer-rolled_back m channel s near there t (reads_so s reading) own)
        (done-ends (machine_with m channel s near there None (without_cursor (without_chain s))) (Some (said done)) (plan_outside (RollingBack word) count) (plan_outside (Ended (Refused word)) count) (Refused word) refl)

    rolled-is : (word : StatusWord) → rolled word ≡ shown (rolled_back m channel word)
    rolled-is word =
        ap (λ (n : Machine). let ran : Ran = record { rows = []; closing = Refused word; machine = n; commits = [] } in ran)
        (changed-session None m.committed (λ (x : Session). without_cursor (without_chain x))
        ∙ ap (λ (t : Option Transaction). changing_session (λ (x : Session). without_cursor (without_chain x)) (record m { transaction = t }) channel) (sym none))

    module _ (d : Declared) where
      abbrev finished : Transaction → Ran
      finished t = record {
        rows = [];
        closing = Rows (length d.rows);
        machine = in_session (record m { committed = t.working; transaction = None }) channel (reads_so s (at d.cursor End []));
        commits = t.working ∷ [];
      }

      abbrev ran_so : Transaction → Option StatusWord → Ran
      ran_so t None = finished t
      ran_so t (Some word) = rolled word

      abbrev ran_outside : Changed → Ran
      ran_outside c = ran_so c.transaction c.refusal

      ended-outside : (t : Transaction) (last : Stage) → (t.channel == channel) ≡ true → next_of (Some (said end_reached)) (plan_outside last (length d.rows)) ≡ finishes (plan_outside last (length d.rows))
          → SelectEnds (machine_outside t (at d.cursor End [])) (Some (said end_reached)) (plan_outside last (length d.rows)) (ran_outside (record { transaction = t; place = End; refusal = None }))
      ended-outside t last own finishing =
          let after : Machine = in_session (record m { committed = t.working; transaction = None }) channel (reads_so s (at d.cursor End [])) in
          commits-ends (machine_outside t (at d.cursor End [])) after (Some (said end_reached)) (said done) (t.working ∷ []) (plan_outside last (length d.rows)) (plan_outside Committing (length d.rows))
          (asking channel Commit) (record { rows = []; closing = Rows (length d.rows); machine = after; commits = [] }) finishing (answer-committed m channel s near there t (reads_so s (at d.cursor End [])) own)
          (done-ends after (Some (said done)) (plan_outside Committing (length d.rows)) (plan_outside (Ended (Rows (length d.rows))) (length d.rows)) (Rows (length d.rows)) refl)

      refused-outside : (t : Transaction) (stamp count : ℕ) (word : StatusWord) → (t.channel == channel) ≡ true → is_refusal word ≡ true
          → SelectEnds (machine_outside t (at d.cursor (At stamp) [])) (Some (said word)) (plan_outside Changing count) (ran_outside (record { transaction = t; place = At stamp; refusal = Some word }))
      refused-outside t stamp count word own refuses' =
          rolls-back t (at d.cursor (At stamp) []) Changing count word own
          (ap (λ refused. if refused then refuses Changing word (plan_outside Changing count) else accepts Changing word [] (plan_outside Changing count)) refuses')

      ran-is : (c : Changed) → ran_outside c ≡ shown (committed_after m channel d c c.refusal)
      ran-is c = go c.refusal
        where
          go : (refusal : Option StatusWord) → ran_so c.transaction refusal ≡ shown (committed_after m channel d c refusal)
          go None =
              ap (λ (n : Machine). let ran : Ran = record { rows = []; closing = Rows (length d.rows); machine = n; commits = c.transaction.working ∷ [] } in ran)
              (changed-session None c.transaction.working (standing End d.cursor)
              ∙ ap (λ (t : Option Transaction). changing_session (standing End d.cursor) (record m { committed = c.transaction.working; transaction = t }) channel) (sym none))
          go (Some word) = rolled-is word

    declared-outside : (reading : Reading) (result : Result Declared StatusWord) → IsDeclared (base m channel) me result → CountsFew result
        → SelectEnds (machine_outside (begun m channel) (declares_so reading result).after) (Some (declares_so reading result).reply) (plan_outside Declaring 0) (shown (changed_at_once m channel operation result))
    declared-outside reading (Err word) refuses' few =
        subst (SelectEnds (machine_outside (begun m channel) reading) (Some (said word)) (plan_outside Declaring 0)) (rolled-is word)
        (rolls-back (begun m channel) reading Declaring 0 word own-begun
        (ap (λ refused. if refused then refuses Declaring word (plan_outside Declaring 0) else accepts Declaring word [] (plan_outside Declaring 0)) refuses'))
    declared-outside reading (Ok d) of_rows few =
        subst (SelectEnds (machine_outside (begun m channel) (at d.cursor NotOpen [])) (Some (said done)) (plan_outside Declaring 0)) (ran-is d (changed_in m channel operation d (begun m channel)))
        (opened-run m channel s near there statement object conditions operation by can true d.cursor me (length d.rows) few (ran_outside d) (ended-outside d) (refused-outside d) (begun m channel) d.rows own-begun
        (ap (λ (db : Database). who_in db s) works-committed ∙ acts-in) (ap (λ (db : Database). rows_under db me d.cursor) works-committed ∙ of_rows.0) of_rows.1 refl)

    pub runs-outside : IsReadable (base m channel) → CountsFew outcome
        → SelectEnds m None (record { statement = statement; channel = channel; own = true; stage = Start; rows = 0; responses = 0; row = [] }) (shown (changed_at_once m channel operation outcome))
    runs-outside readable few =
        let reading : Reading = record { cursor = s.reading.cursor; pending = [] } in
        let d = declares-here readable reading in
        subst (λ (n : Machine). SelectEnds n None (plan_outside Start 0) (shown (changed_at_once m channel operation outcome))) (machine-is None none)
        (sends-ends (machine_with m channel s near there None s) (machine_outside (begun m channel) reading) None (said done)
        (plan_outside Start 0) (plan_outside Beginning 0) (asking channel Begin) (shown (changed_at_once m channel operation outcome))
        (by.begins (plan_outside Start 0)) (answer-begun m channel s near there s)
        (sends-ends (machine_outside (begun m channel) reading) (machine_outside (begun m channel) (declares_so reading outcome).after) (Some (said done)) (declares_so reading outcome).reply
        (plan_outside Beginning 0) (plan_outside Declaring 0) (asking channel (DeclareCursor object [] conditions)) (shown (changed_at_once m channel operation outcome))
        (by.declares (plan_outside Beginning 0)) (asked-answer (begun m channel) reading None outcome own-begun works-committed d) (declared-outside reading outcome d.is few)))

  -- another channel's transaction stands against it
  pub runs-against : (t : Transaction) → m.transaction ≡ Some t → (t.channel == channel) ≡ false
      → SelectEnds m None (record { statement = statement; channel = channel; own = true; stage = Start; rows = 0; responses = 0; row = [] }) (shown (refused_on m channel conditions_not_satisfied))
  runs-against t is other =
      let before : Planned = plan_at m channel s near there statement object conditions operation by can true Start 0 in
      let waiting : Planned = plan_at m channel s near there statement object conditions operation by can true Beginning 0 in
      let after : Machine = machine_with m channel s near there (Some t) (without_chain s) in
      let ran : Machine → Ran = λ n. record { rows = []; closing = Refused conditions_not_satisfied; machine = n; commits = [] } in
      subst (λ (n : Machine). SelectEnds n None before (shown (refused_on m channel conditions_not_satisfied))) (machine-is (Some t) is)
      (subst (λ (n : Machine). SelectEnds (machine_with m channel s near there (Some t) s) None before (ran n))
      (changed-session (Some t) m.committed without_chain ∙ ap (λ (t : Option Transaction). changing_session without_chain (record m { transaction = t }) channel) (sym is))
      (sends-ends (machine_with m channel s near there (Some t) s) after None (said conditions_not_satisfied) before waiting (asking channel Begin) (ran after)
      (by.begins before) (answer-waits m channel s near there t s other)
      (done-ends after (Some (said conditions_not_satisfied)) waiting (plan_at m channel s near there statement object conditions operation by can true (Ended (Refused conditions_not_satisfied)) 0) (Refused conditions_not_satisfied) refl)))
