-- The run of an UPDATE or a DELETE FROM is its meaning.
use Rattle.std.proofs.Common.{◌≡◌, ℕ, ◌+◌, ◌≤◌, ◌<◌, ◌==◌, Bool, true, List, [], ◌∷◌, length, Option, Some, None, Result, Ok, Err, if◌then◌else◌, refl, sym, ◌∙◌, ap, subst, arith}
use Rattle.std.proofs.lemmas.Bool.{lt-ltb}
use Rattle.eeprom.specs.Slots.{Rises}
use Rattle.scql_base.specs.declared.words.Actor.{Actor}
use Rattle.scql_base.specs.declared.words.StatusWord.{StatusWord}
use Rattle.scql_base.specs.declared.condition.Condition.{Condition}
use Rattle.scql_base.specs.declared.cursor.Cursor.{Cursor}
use Rattle.scql_base.specs.declared.cursor.Place.TheVariants.{NotOpen, At, End}
use Rattle.scql_base.specs.declared.operation.Operation.{Operation}
use Rattle.scql_base.specs.declared.operation.Operation.TheVariants.{DeclareCursor, OpenCursor, Next}
use Rattle.scql_base.specs.Words.{done, end_reached}
use Rattle.scql_model.specs.Refusals.{◌>>=◌}
use Rattle.scql_model.specs.Replies.{said}
use Rattle.scql_model.specs.Database.{Database}
use Rattle.scql_model.specs.Machine.{Machine, Session, Reading, Transaction, session_of}
use Rattle.scql_model.specs.Objects.{StampedRow}
use Rattle.scql_model.specs.ReadingCommands.{open_cursor, or_stays}
use Rattle.scql_model.specs.ReadingCommands.{next as forward}
use Rattle.scql_model.specs.Moves.{rows_under, first_row, row_behind, went_to, move_of}
use Rattle.scql_model.specs.Step.{Answer}
use Rattle.script.specs.declared.statement.Statement.{Statement}
use Rattle.script.specs.Commands.{asking, IsSendable}
use Rattle.script.proofs.Sendable.{asked-sent}
use Rattle.planner.specs.declared.stage.Stage.{Stage}
use Rattle.planner.specs.declared.stage.Stage.TheVariants.{Declaring, Opening, Changing, Moving}
use Rattle.planner.specs.Words.{is_refusal}
use Rattle.planner.specs.Meaning.{Changed, at_stamp, row_changed, once_changed, all_changed, answer_to}
use Rattle.planner.specs.Planned.{Planned, next_of, asks, finishes, refuses, changes_row, begins_with}
use Rattle.planner.specs.Planned as planned
use Rattle.planner.specs.Running.{Ran}
use Rattle.planner.proofs.Above.{stamp_of, above, behind-first, above-next, above-opened, listed}
use Rattle.planner.proofs.Asking.{reads_so, moved_answer}
use Rattle.planner.proofs.Changing.{Follows, changed-follows, refusal-of}
use Rattle.planner.proofs.Selecting.{SelectEnds, sends-ends, at, open-move}
use Rattle.planner.proofs.Stepping.{ChangesRow, who_in, machine_with, answer-reads, change_answer, resting, answer-changed}
use Rattle.scql_model.proofs.RefusalWords.{OrRefuses}

-- a statement that changes rows, by the operation that changes one
pub record ChangesBy (s : Statement) (object : List ℕ) (conditions : List Condition) (operation : Operation) : Type 0 where
  pub begins : (p : Planned) → planned.begins s p ≡ begins_with p
  pub declares : (p : Planned) → planned.declares_over s p ≡ asks Declaring (DeclareCursor object [] conditions) p
  pub reaches : (p : Planned) → planned.reaches s p ≡ changes_row operation p
  pub changes : ChangesRow operation

-- NEXT goes to the first row behind the place
behind-move : (db : Database) (a : Actor) (c : Cursor) (stamp : ℕ) (rows : List StampedRow) → rows_under db a c ≡ Ok rows
    → move_of db a (at c (At stamp) []) forward ≡ went_to c (row_behind (At stamp) rows)
unfolding move_of
behind-move db a c stamp rows listed =
    ap (λ (found : Result (List StampedRow) StatusWord). or_stays (at c (At stamp) []) (found >>= λ rows. Ok (went_to c (row_behind (At stamp) rows)))) listed

module _ (m : Machine) (channel : ℕ) (s : Session) (near : channel ≤ 3) (there : session_of m channel ≡ Some s)
    (statement : Statement) (object : List ℕ) (conditions : List Condition) (operation : Operation) (by : ChangesBy statement object conditions operation)
    (can : IsSendable (asking channel operation)) (own : Bool) where
  -- the plan, and the machine by the transaction and what the session reads
  abbrev pub plan_at : Stage → ℕ → Planned
  plan_at stage rows = record { statement = statement; channel = channel; own = own; stage = stage; rows = rows; responses = 0; row = [] }

  abbrev pub machine_at : Transaction → Reading → Machine
  machine_at t reading = machine_with m channel s near there (Some t) (reads_so s reading)

  abbrev IsOwn : Transaction → Type 0
  IsOwn t = (t.channel == channel) ≡ true

  -- the rows under the cursor are changed in turn: what comes of it is the same in the channel's transaction and in one of its own, but for the end
  module _ (c : Cursor) (a : Actor) (most : ℕ) (few : most ≤ 2048) (final : Changed → Ran)
      (at_end : (t : Transaction) (last : Stage) → IsOwn t → next_of (Some (said end_reached)) (plan_at last most) ≡ finishes (plan_at last most)
      → SelectEnds (machine_at t (at c End [])) (Some (said end_reached)) (plan_at last most) (final (record { transaction = t; place = End; refusal = None })))
      (refused : (t : Transaction) (stamp count : ℕ) (word : StatusWord) → IsOwn t → is_refusal word ≡ true
      → SelectEnds (machine_at t (at c (At stamp) [])) (Some (said word)) (plan_at Changing count) (final (record { transaction = t; place = At stamp; refusal = Some word }))) where
    abbrev changed : List StampedRow → Transaction → Changed
    changed rows t = all_changed m.committed a operation c rows t

    -- a transaction acts for the same user, and these are the rows under the cursor
    record Stands (t : Transaction) (rows : List StampedRow) : Type 0 where
      mine : IsOwn t
      acts : who_in t.working s ≡ a
      listed : rows_under t.working a c ≡ Ok rows

    follows : (stamp : ℕ) (t next : Transaction) (rows : List StampedRow) → Stands t rows → Follows stamp t next → (after : List StampedRow) × Stands next after × (above stamp_of stamp after ≡ above stamp_of stamp rows)
    follows stamp t next rows stands f =
        let l = listed stamp t.working f.leaves.rows f.leaves.same a c rows stands.listed in (
          l.after,
          record {
            mine = ap (λ n. n == channel) f.channel ∙ stands.mine;
            acts = ap (λ (db : Database). who_in db s) f.leaves.is ∙ stands.acts;
            listed = ap (λ (db : Database). rows_under db a c) f.leaves.is ∙ l.is;
          },
          l.above_same,
        )

    -- one row, with what comes of the NEXT behind it
    row-run : (r : StampedRow) (rest rows : List StampedRow) (t : Transaction) (last : Stage) (count : ℕ)
        → next_of (Some (said done)) (plan_at last count) ≡ planned.reaches statement (plan_at last count) → Stands t rows → above stamp_of r.stamp rows ≡ rest → count < 2048
        → ((next : Transaction) (after : List StampedRow) → Stands next after → above stamp_of r.stamp after ≡ rest
        → SelectEnds (machine_at next (went_to c (first_row rest)).after) (Some (went_to c (first_row rest)).reply) (plan_at Moving (count + 1)) (final (changed rest next)))
        → SelectEnds (machine_at t (at c (At r.stamp) [])) (Some (said done)) (plan_at last count) (final (changed (r ∷ rest) t))
    row-run r rest rows t last count reaching stands is_above room after =
        go (row_changed m.committed a operation (at_stamp r.stamp c) t) refl (changed-follows m.committed a operation c r.stamp t by.changes)
      where
        asks-change : next_of (Some (said done)) (plan_at last count) ≡ asks Changing operation (plan_at last (count + 1))
        asks-change =
            reaching ∙ (by.reaches (plan_at last count)
            ∙ ap (λ few. if few then asks Changing operation (plan_at last (count + 1)) else finishes (plan_at last count)) (lt-ltb count 2048 room))

        is-answer : (result : Result Transaction StatusWord) → row_changed m.committed a operation (at_stamp r.stamp c) t ≡ result
            → answer_to (machine_at t (at c (At r.stamp) [])) (asking channel operation) ≡ change_answer m channel s near there t (resting m channel s near there (at_stamp r.stamp c)) result
        is-answer result is =
            answer-changed m channel s near there operation t (at_stamp r.stamp c) by.changes can stands.mine
            ∙ (ap (λ (a : Actor). change_answer m channel s near there t (resting m channel s near there (at_stamp r.stamp c)) (row_changed m.committed a operation (at_stamp r.stamp c) t)) stands.acts
            ∙ ap (change_answer m channel s near there t (resting m channel s near there (at_stamp r.stamp c))) is)

        goes-next : (next : Transaction) (rows : List StampedRow) → Stands next rows → above stamp_of r.stamp rows ≡ rest
            → answer_to (machine_at next (at c (At r.stamp) [])) (asking channel Next)
            ≡ record { reply = (went_to c (first_row rest)).reply; machine = machine_at next (went_to c (first_row rest)).after; commits = [] }
        goes-next next rows stands is_above =
            answer-reads m channel s near there next (reads_so s (at c (At r.stamp) [])) Next forward stands.mine (asked-sent channel Next near refl refl tt refl) refl
            ∙ ap (moved_answer (record m { transaction = Some next }) channel (reads_so s (at c (At r.stamp) [])))
            (ap (λ (a : Actor). move_of next.working a (at c (At r.stamp) []) forward) stands.acts
            ∙ (behind-move next.working a c r.stamp rows stands.listed
            ∙ ap (went_to c) (behind-first r.stamp rows ∙ ap first_row is_above)))

        go : (result : Result Transaction StatusWord) → row_changed m.committed a operation (at_stamp r.stamp c) t ≡ result → OrRefuses (Follows r.stamp t) result
            → SelectEnds (machine_at t (at c (At r.stamp) [])) (Some (said done)) (plan_at last count) (final (once_changed r.stamp t (λ next. changed rest next) result))
        go (Err word) is refuses =
            sends-ends (machine_at t (at c (At r.stamp) [])) (machine_at t (at c (At r.stamp) [])) (Some (said done)) (said word) (plan_at last count) (plan_at Changing (count + 1)) (asking channel operation)
            (final (record { transaction = t; place = At r.stamp; refusal = Some word })) asks-change (is-answer (Err word) is)
            (refused t r.stamp (count + 1) word stands.mine (refusal-of word refuses))
        go (Ok next) is f =
            let then' = follows r.stamp t next rows stands f in
            let over : above stamp_of r.stamp then'.0 ≡ rest = then'.2 ∙ is_above in
            sends-ends (machine_at t (at c (At r.stamp) [])) (machine_at next (at c (At r.stamp) [])) (Some (said done)) (said done) (plan_at last count) (plan_at Changing (count + 1)) (asking channel operation)
            (final (changed rest next)) asks-change (is-answer (Ok next) is)
            (sends-ends (machine_at next (at c (At r.stamp) [])) (machine_at next (went_to c (first_row rest)).after) (Some (said done)) (went_to c (first_row rest)).reply
            (plan_at Changing (count + 1)) (plan_at Moving (count + 1)) (asking channel Next) (final (changed rest next)) refl (goes-next next then'.0 then'.1 over) (after next then'.0 then'.1 over))

    rows-run : (rest : List StampedRow) (r : StampedRow) (rows : List StampedRow) (t : Transaction) (last : Stage) (count : ℕ)
        → next_of (Some (said done)) (plan_at last count) ≡ planned.reaches statement (plan_at last count) → Stands t rows → above stamp_of r.stamp rows ≡ rest → Rises stamp_of (r ∷ rest)
        → count + length (r ∷ rest) ≡ most
        → SelectEnds (machine_at t (at c (At r.stamp) [])) (Some (said done)) (plan_at last count) (final (changed (r ∷ rest) t))
    rows-run [] r rows t last count reaching stands is_above rises counts =
        row-run r [] rows t last count reaching stands is_above (omega (arith, counts, few)) (λ next after stands over.
        let all : count + 1 ≡ most = omega (arith, counts) in
        subst (λ n. SelectEnds (machine_at next (at c End [])) (Some (said end_reached)) (plan_at Moving n) (final (record { transaction = next; place = End; refusal = None }))) (sym all)
        (at_end next Moving stands.mine refl))
    rows-run (x ∷ rest) r rows t last count reaching stands is_above rises counts =
        row-run r (x ∷ rest) rows t last count reaching stands is_above (omega (arith, counts, few)) (λ next after stands over.
        rows-run rest x after next Moving (count + 1) refl stands (above-next r.stamp x rest after rises.0.0 rises.1 over) rises.1 (omega (arith, counts)))

    -- from the answer to DECLARE on
    pub opened-run : (t : Transaction) (rows : List StampedRow) → IsOwn t → who_in t.working s ≡ a → rows_under t.working a c ≡ Ok rows → Rises stamp_of rows → length rows ≡ most
        → SelectEnds (machine_at t (at c NotOpen [])) (Some (said done)) (plan_at Declaring 0) (final (changed rows t))
    opened-run t rows own_t acts listed rises counts = go rows refl counts
      where
        answer : answer_to (machine_at t (at c NotOpen [])) (asking channel OpenCursor)
            ≡ record { reply = (went_to c (first_row rows)).reply; machine = machine_at t (went_to c (first_row rows)).after; commits = [] }
        answer =
            answer-reads m channel s near there t (reads_so s (at c NotOpen [])) OpenCursor open_cursor own_t (asked-sent channel OpenCursor near refl refl tt refl) refl
            ∙ ap (moved_answer (record m { transaction = Some t }) channel (reads_so s (at c NotOpen [])))
            (ap (λ (a : Actor). move_of t.working a (at c NotOpen []) open_cursor) acts ∙ open-move t.working a c rows listed [])

        opens : (found : Option StampedRow) → first_row rows ≡ found → (ran : Ran)
            → SelectEnds (machine_at t (went_to c found).after) (Some (went_to c found).reply) (plan_at Opening 0) ran → SelectEnds (machine_at t (at c NotOpen [])) (Some (said done)) (plan_at Declaring 0) ran
        opens found is ran ends =
            sends-ends (machine_at t (at c NotOpen [])) (machine_at t (went_to c found).after) (Some (said done)) (went_to c found).reply (plan_at Declaring 0) (plan_at Opening 0) (asking channel OpenCursor) ran refl
            (answer ∙ ap (λ (found : Option StampedRow). let a : Answer = record { reply = (went_to c found).reply; machine = machine_at t (went_to c found).after; commits = [] } in a) is) ends

        go : (all : List StampedRow) → rows ≡ all → length all ≡ most → SelectEnds (machine_at t (at c NotOpen [])) (Some (said done)) (plan_at Declaring 0) (final (changed all t))
        go [] is counts =
            opens None (ap first_row is) (final (changed [] t))
            (subst (λ n. SelectEnds (machine_at t (at c End [])) (Some (said end_reached)) (plan_at Opening n) (final (changed [] t))) (sym counts) (at_end t Opening own_t refl))
        go (r ∷ rest) is counts =
            opens (Some r) (ap first_row is) (final (changed (r ∷ rest) t))
            (rows-run rest r rows t Opening 0 refl (record { mine = own_t; acts = acts; listed = listed }) (above-opened r rest rows rises is) (subst (Rises stamp_of) is rises) (omega (arith, counts)))
