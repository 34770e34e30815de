-- The run of a SELECT is its meaning.
use Rattle.std.proofs.Common.{◌≡◌, ℕ, zero, suc, ◌+◌, ◌-◌, ◌*◌, ◌≤◌, ◌<◌, ◌==◌, nat_le, Bool, true, false, ◌&&◌, List, [], ◌∷◌, ◌++◌, length, take, drop, map, Option, Some, None, is_some, option_map, Result, Ok, Err, if◌then◌else◌, refl, sym, ◌∙◌, ap, subst, append_assoc, lit≤, arith}
use Rattle.std.specs.List.{filter, list_all, AllByRecursion}
use Rattle.std.specs.Prelude.{option_and_then}
use Rattle.std.specs.Option.{option_map_or}
use Rattle.std.proofs.lemmas.Bool.{and_parts, lt-ltb, leb-true, ne_eqb}
use Rattle.std.proofs.lemmas.List.{append-nil, take-append-drop, length-append, length-drop, length-map}
use Rattle.std.proofs.lemmas.Simd.{map-map}
use Rattle.eeprom.specs.Slots.{Rises}
use Rattle.scql_base.specs.declared.words.Actor.{Actor}
use Rattle.scql_base.specs.declared.words.Actor.TheVariants.{Public}
use Rattle.scql_base.specs.declared.words.StatusWord.{StatusWord}
use Rattle.scql_base.specs.declared.condition.Condition.{Condition}
use Rattle.scql_base.specs.declared.cursor.Cursor.{Cursor}
use Rattle.scql_base.specs.declared.cursor.Place.{Place}
use Rattle.scql_base.specs.declared.cursor.Place.TheVariants.{NotOpen, At, End}
use Rattle.scql_base.specs.declared.operation.Command.{Command}
use Rattle.scql_base.specs.declared.operation.Operation.TheVariants.{DeclareCursor, OpenCursor, Fetch, FetchNext, GetResponse}
use Rattle.scql_base.specs.declared.records.Object.{Object}
use Rattle.scql_base.specs.Row.{row_size, is_narrow}
use Rattle.scql_base.specs.Words.{done, end_reached, more_left, not_found, security_not_satisfied, channel_not_supported}
use Rattle.scql_base.proofs.Splitting.{params_of-again}
use Rattle.scql_base.proofs.RowOctets.{row_size-spelled}
use Rattle.scql_model.specs.Refusals.{◌>>=◌, or_refused, provided}
use Rattle.scql_model.specs.Replies.{Reply, said}
use Rattle.scql_model.specs.Database.{Database, are_named_among}
use Rattle.scql_model.specs.Machine.{Machine, Session, Reading, session_of, base, actor_of, actor}
use Rattle.scql_model.specs.Sessions.{with_session, changing_session, without_chain, is_channel_open}
use Rattle.scql_model.specs.Records as records
use Rattle.scql_model.specs.Rights.{select_privilege, holds, seen_named}
use Rattle.scql_model.specs.Matching.{Columns, Values, matches}
use Rattle.scql_model.specs.Objects.{StampedRow}
use Rattle.scql_model.specs.Contents.{Contents, contents_of, cut_to, narrowed}
use Rattle.scql_model.specs.ReadingCommands.{declare, open_cursor, fetch, fetch_next, get_response, Move, or_stays, cut, rest_word, row_octets, wanted_of, named_among}
use Rattle.scql_model.specs.ReadingLaws.{IsReadable}
use Rattle.scql_model.specs.Moves.{selected, chosen, rows_under, first_row, row_behind, row_at, went_to, moved_to, move_of}
use Rattle.scql_model.proofs.FoundAgain.{seen_stamped-named}
use Rattle.scql_model.proofs.ContentsRise.{Rises-map, Rises-contents_of}
use Rattle.scql_model.proofs.ChangedLists.{Rises-filter}
use Rattle.scql_model.proofs.ChangingSessions.{changing_session-same}
use Rattle.script.specs.declared.statement.Statement.TheVariants.{Select}
use Rattle.script.specs.Commands.{asking, wanting, CanBeSent}
use Rattle.script.proofs.Sendable.{asked-sent, wanted-sent}
use Rattle.planner.specs.declared.closing.Closing.TheVariants.{Rows, Refused}
use Rattle.planner.specs.declared.stage.Stage.{Stage}
use Rattle.planner.specs.declared.stage.Stage.TheVariants.{Declaring, Opening, Fetching, Ended}
use Rattle.planner.specs.Words.{is_refusal}
use Rattle.planner.specs.Meaning.{Declared, cursor_on, declared, answer_to, meaning, selects_all, standing, ended, Meaning}
use Rattle.planner.specs.Planned.{Planned, is_row, row_before, started, refuses, accepts}
use Rattle.planner.specs.Running.{Ran, giving, shown, AreRows, RunsTo}
use Rattle.planner.proofs.Asking.{who, in_session, reads_so, moved_answer, answer-read}
use Rattle.planner.proofs.Settled.{runs-to}
use Rattle.planner.proofs.Selecting.{SelectEnds, sends-ends, row-ends, done-ends, more-accepted, more-not_end, find-behind, row_at-first, stamp_of, at, open-move, fetch-move, next-move, more-move, takes-row, takes-piece, fetching-next}

-- the octets of a row
record IsGiven (octets : List ℕ) : Type 0 where
  row : is_row octets ≡ true
  short : length octets ≤ 1020

given-of : (values : Values) → records.is_row values ≡ true → IsGiven (row_octets values)
given-of values is =
    let parts = and_parts (records.is_count_of_columns (length values) && list_all is_narrow values) (nat_le (row_size values) 1020) is in
    let fronts = and_parts (records.is_count_of_columns (length values)) (list_all is_narrow values) parts.0 in
    let counts = and_parts (nat_le 1 (length values)) (nat_le (length values) 15) fronts.0 in
    record {
      row = rw (params_of-again values, counts.1, fronts.1, parts.1) (lt-ltb 0 (length values) (omega (arith, leb-true 1 (length values) counts.0)));
      short = rw (row_size-spelled values) (leb-true (row_size values) 1020 parts.1);
    }

module _ (m : Machine) (channel : ℕ) (s : Session) (few : channel ≤ 3) (there : session_of m channel ≡ Some s) (object : List ℕ) (columns : Columns) (conditions : List Condition) where
  -- the plan, and the machine by what the session reads
  abbrev plan_at : Stage → ℕ → ℕ → List ℕ → Planned
  plan_at stage rows responses row =
      record { statement = Select object columns conditions; channel = channel; own = false; stage = stage; rows = rows; responses = responses; row = row }

  abbrev machine_at : Reading → Machine
  machine_at reading = in_session m channel (reads_so s reading)

  abbrev db : Database
  db = base m channel

  abbrev me : Actor
  me = who m channel s

  module _ (c : Cursor) (rows : List StampedRow) (listed : rows_under db me c ≡ Ok rows) where
    -- what comes of the FETCH NEXT behind a row
    record After (place : Place) (count : ℕ) (whole : List ℕ) (ran : Ran) : Type 0 where
      reply : Reply
      next : Machine
      answer : answer_to (machine_at (at c place [])) (wanting channel FetchNext) ≡ record { reply = reply; machine = next; commits = [] }
      ends : SelectEnds next (Some reply) (plan_at Fetching (count + 1) 0 whole) ran

    -- a piece of a row, and what comes of what is left behind it
    piece : (octets pre whole acc : List ℕ) (k count : ℕ) (place : Place) (ran : Ran)
        → (if k == 0 then [] else acc) ≡ pre → pre ++ octets ≡ whole → IsGiven whole → count < 2048 → After place count whole ran
        → ((x : ℕ) (xs : List ℕ) → drop 256 octets ≡ x ∷ xs
        → SelectEnds (machine_at (at c place (x ∷ xs))) (Some (record { body = take 256 octets; word = more_left (length (x ∷ xs)) })) (plan_at Fetching count k acc) (giving whole ran))
        → SelectEnds (machine_at (at c place (drop 256 octets))) (Some (record { body = take 256 octets; word = rest_word (drop 256 octets) })) (plan_at Fetching count k acc) (giving whole ran)
    piece octets pre whole acc k count place ran before joined given room after again = go (drop 256 octets) refl
      where
        go : (rest : List ℕ) → drop 256 octets ≡ rest
            → SelectEnds (machine_at (at c place rest)) (Some (record { body = take 256 octets; word = rest_word rest })) (plan_at Fetching count k acc) (giving whole ran)
        go [] is =
            let all : take 256 octets ≡ octets = sym (append-nil (take 256 octets)) ∙ (ap (λ back. take 256 octets ++ back) (sym is) ∙ take-append-drop 256 octets) in
            let body : row_before (plan_at Fetching count k acc) ++ take 256 octets ≡ whole = ap (λ front. front ++ take 256 octets) before ∙ (ap (λ back. pre ++ back) all ∙ joined) in
            row-ends (machine_at (at c place [])) after.next (Some (record { body = take 256 octets; word = done })) after.reply (plan_at Fetching count k acc) (plan_at Fetching (count + 1) 0 whole) (wanting channel FetchNext) ran
            (fetching-next (plan_at Fetching count k acc) done (take 256 octets) refl refl ∙ takes-row (plan_at Fetching count k acc) (take 256 octets) whole body given.short given.row room) after.answer after.ends
        go (x ∷ xs) is = again x xs is

    front-fits : (octets pre whole : List ℕ) → pre ++ octets ≡ whole → length whole ≤ 1020 → length (pre ++ take 256 octets) ≤ 1020
    front-fits octets pre whole joined short =
        let parts : length pre + length octets ≡ length whole = sym (length-append pre octets) ∙ ap length joined in
        let split : length (take 256 octets) + length (drop 256 octets) ≡ length octets = sym (length-append (take 256 octets) (drop 256 octets)) ∙ ap length (take-append-drop 256 octets) in
        rw (length-append pre (take 256 octets)) (omega (arith, parts, split, short))

    -- a row comes in pieces, of which the first is here
    gather : (j : ℕ) (octets pre whole acc : List ℕ) (k count : ℕ) (place : Place) (ran : Ran)
        → length octets ≤ 256 * (j + 1) → k + j ≤ 3 → (if k == 0 then [] else acc) ≡ pre → pre ++ octets ≡ whole → IsGiven whole → count < 2048
        → After place count whole ran
        → SelectEnds (machine_at (at c place (drop 256 octets))) (Some (record { body = take 256 octets; word = rest_word (drop 256 octets) })) (plan_at Fetching count k acc) (giving whole ran)
    gather zero octets pre whole acc k count place ran size fuel before joined given room after =
        piece octets pre whole acc k count place ran before joined given room after
        (λ x xs is.
        let left : length (drop 256 octets) ≡ length octets - 256 = length-drop 256 octets in
        let some : length (drop 256 octets) ≡ length xs + 1 = ap length is ∙ omega arith in
        absurd (omega (arith, left, some, size)))
    gather (suc j) octets pre whole acc k count place ran size fuel before joined given room after =
        piece octets pre whole acc k count place ran before joined given room after
        (λ x xs is.
        let longer : List ℕ = pre ++ take 256 octets in
        let left : length (x ∷ xs) ≡ length octets - 256 = sym (ap length is) ∙ length-drop 256 octets in
        sends-ends (machine_at (at c place (x ∷ xs))) (machine_at (at c place (drop 256 (x ∷ xs)))) (Some (record { body = take 256 octets; word = more_left (length (x ∷ xs)) })) (cut (x ∷ xs) 256).reply
        (plan_at Fetching count k acc) (plan_at Fetching count (k + 1) longer) (wanting channel GetResponse) (giving whole ran)
        (fetching-next (plan_at Fetching count k acc) (more_left (length (x ∷ xs))) (take 256 octets) (more-accepted (length (x ∷ xs))) (more-not_end (length (x ∷ xs)))
        ∙ takes-piece (plan_at Fetching count k acc) (length (x ∷ xs)) (take 256 octets) longer (ap (λ front. front ++ take 256 octets) before) (front-fits octets pre whole joined given.short) (omega (arith, fuel)))
        (answer-read m (wanting channel GetResponse) s (reads_so s (at c place (x ∷ xs))) (get_response 256) (wanted-sent channel GetResponse few refl tt refl) refl there
        ∙ ap (moved_answer m channel (reads_so s (at c place (x ∷ xs)))) (more-move db me c rows listed place x xs))
        (gather j (x ∷ xs) longer whole longer (k + 1) count place ran (omega (arith, left, size)) (omega (arith, fuel))
        (ap (λ none. if none then [] else longer) (ne_eqb (k + 1) 0 (λ e. omega (arith, e))))
        (append_assoc pre (take 256 octets) (x ∷ xs) ∙ (ap (λ back. pre ++ back) (ap (λ back. take 256 octets ++ back) (sym is) ∙ take-append-drop 256 octets) ∙ joined))
        given room after))

    -- what is given of rows, where there are so many in all
    abbrev all_given : List StampedRow → ℕ → Ran
    all_given given count = record { rows = map (λ (r : StampedRow). row_octets r.values) given; closing = Rows count; machine = machine_at (at c End []); commits = [] }

    abbrev AreGiven : List StampedRow → Type 0
    AreGiven given = AllByRecursion (λ (r : StampedRow). IsGiven (row_octets r.values)) given

    rows-run : (before : List StampedRow) (r : StampedRow) (rest : List StampedRow) (count all : ℕ) (acc : List ℕ)
        → rows ≡ before ++ r ∷ rest → Rises stamp_of rows → AreGiven (r ∷ rest) → count + length (r ∷ rest) ≡ all → all ≤ 2048
        → SelectEnds (machine_at (at c (At r.stamp) (drop 256 (row_octets r.values)))) (Some (cut (row_octets r.values) 256).reply) (plan_at Fetching count 0 acc) (all_given (r ∷ rest) all)
    rows-run before r [] count all acc split rises given counts most =
        gather 3 (row_octets r.values) [] (row_octets r.values) acc 0 count (At r.stamp) (all_given [] all) (omega (arith, given.0.short)) (lit≤ tt) refl refl given.0 (omega (arith, counts, most))
        (record {
          reply = said end_reached;
          next = machine_at (at c End []);
          answer =
              answer-read m (wanting channel FetchNext) s (reads_so s (at c (At r.stamp) [])) (fetch_next 256) (wanted-sent channel FetchNext few refl tt refl) refl there
              ∙ ap (moved_answer m channel (reads_so s (at c (At r.stamp) [])))
              (next-move db me c rows listed r.stamp None [] (ap (row_behind (At r.stamp)) split ∙ find-behind before r [] (subst (Rises stamp_of) split rises)));
          ends = subst (λ n. SelectEnds (machine_at (at c End [])) (Some (said end_reached)) (plan_at Fetching (count + 1) 0 (row_octets r.values)) (all_given [] n)) counts
              (done-ends (machine_at (at c End [])) (Some (said end_reached)) (plan_at Fetching (count + 1) 0 (row_octets r.values)) (plan_at (Ended (Rows (count + 1))) (count + 1) 0 (row_octets r.values)) (Rows (count + 1)) refl);
        })
    rows-run before r (x ∷ rest) count all acc split rises given counts most =
        gather 3 (row_octets r.values) [] (row_octets r.values) acc 0 count (At r.stamp) (all_given (x ∷ rest) all) (omega (arith, given.0.short)) (lit≤ tt) refl refl given.0 (omega (arith, counts, most))
        (record {
          reply = (cut (row_octets x.values) 256).reply;
          next = machine_at (at c (At x.stamp) (drop 256 (row_octets x.values)));
          answer =
              answer-read m (wanting channel FetchNext) s (reads_so s (at c (At r.stamp) [])) (fetch_next 256) (wanted-sent channel FetchNext few refl tt refl) refl there
              ∙ ap (moved_answer m channel (reads_so s (at c (At r.stamp) [])))
              (next-move db me c rows listed r.stamp (Some x) [] (ap (row_behind (At r.stamp)) split ∙ find-behind before r (x ∷ rest) (subst (Rises stamp_of) split rises)));
          ends = rows-run (before ++ r ∷ []) x rest (count + 1) all (row_octets r.values) (split ∙ sym (append_assoc before (r ∷ []) (x ∷ rest))) rises given.1 (omega (arith, counts)) most;
        })

    opened-run : Rises stamp_of rows → AreGiven rows → length rows ≤ 2048
        → SelectEnds (machine_at (at c NotOpen [])) (Some (said done)) (plan_at Declaring 0 0 []) (all_given rows (length rows))
    opened-run rises given most = go rows refl given most
      where
        answer : answer_to (machine_at (at c NotOpen [])) (asking channel OpenCursor) ≡ moved_answer m channel (reads_so s (at c NotOpen [])) (went_to c (first_row rows))
        answer =
            answer-read m (asking channel OpenCursor) s (reads_so s (at c NotOpen [])) open_cursor (asked-sent channel OpenCursor few refl refl tt refl) refl there
            ∙ ap (moved_answer m channel (reads_so s (at c NotOpen []))) (open-move db me c rows listed [])

        go : (all : List StampedRow) → rows ≡ all → AreGiven all → length all ≤ 2048 → SelectEnds (machine_at (at c NotOpen [])) (Some (said done)) (plan_at Declaring 0 0 []) (all_given all (length all))
        go [] is given most =
            sends-ends (machine_at (at c NotOpen [])) (machine_at (at c End [])) (Some (said done)) (said end_reached) (plan_at Declaring 0 0 []) (plan_at Opening 0 0 []) (asking channel OpenCursor) (all_given [] 0) refl
            (answer ∙ ap (λ all. moved_answer m channel (reads_so s (at c NotOpen [])) (went_to c (first_row all))) is)
            (done-ends (machine_at (at c End [])) (Some (said end_reached)) (plan_at Opening 0 0 []) (plan_at (Ended (Rows 0)) 0 0 []) (Rows 0) refl)
        go (r ∷ rest) is given most =
            sends-ends (machine_at (at c NotOpen [])) (machine_at (at c (At r.stamp) [])) (Some (said done)) (said done) (plan_at Declaring 0 0 []) (plan_at Opening 0 0 []) (asking channel OpenCursor) (all_given (r ∷ rest) (length (r ∷ rest))) refl
            (answer ∙ ap (λ all. moved_answer m channel (reads_so s (at c NotOpen [])) (went_to c (first_row all))) is)
            (sends-ends (machine_at (at c (At r.stamp) [])) (machine_at (at c (At r.stamp) (drop 256 (row_octets r.values)))) (Some (said done)) (cut (row_octets r.values) 256).reply (plan_at Opening 0 0 []) (plan_at Fetching 0 0 []) (wanting channel Fetch) (all_given (r ∷ rest) (length (r ∷ rest))) refl
            (answer-read m (wanting channel Fetch) s (reads_so s (at c (At r.stamp) [])) (fetch 256) (wanted-sent channel Fetch few refl tt refl) refl there
            ∙ ap (moved_answer m channel (reads_so s (at c (At r.stamp) []))) (fetch-move db me c rows listed r.stamp r [] (ap (row_at r.stamp) is ∙ row_at-first r rest)))
            (rows-run [] r rest 0 (length (r ∷ rest)) [] is rises given (omega arith) most))

-- DECLARE: what the machine's move is by the cursor that is declared.
abbrev pub declares_so : Reading → Result Declared StatusWord → Move Reading
declares_so reading (Err word) = record { reply = said word; after = reading }
declares_so reading (Ok d) = moved_to NotOpen d.cursor done

-- a refusal is one, and else the rows are those under the cursor
abbrev pub IsDeclared : Database → Actor → Result Declared StatusWord → Type 0
IsDeclared database a (Err word) = is_refusal word ≡ true
IsDeclared database a (Ok d) = (rows_under database a d.cursor ≡ Ok d.rows) × Rises stamp_of d.rows

pub record Declares (db : Database) (a : Actor) (reading : Reading) (object : List ℕ) (columns : Columns) (conditions : List Condition) (d : Result Declared StatusWord) : Type 0 where
  pub moves : move_of db a reading (declare object columns conditions) ≡ declares_so reading d
  pub is : IsDeclared db a d

module _ (db : Database) (a : Actor) (reading : Reading) (object : List ℕ) (columns : Columns) (conditions : List Condition) (readable : IsReadable db) where
  abbrev cursor_of : Object → Cursor
  cursor_of o = cursor_on o.stamp (wanted_of (contents_of db o.stamp).columns columns) conditions

  -- each ladder from its second rung on
  abbrev contents_if : Object → Bool → Result Contents StatusWord
  contents_if o may = provided may security_not_satisfied >>= λ _. Ok (contents_of db o.stamp)

  abbrev declared_if : Object → Bool → Result Declared StatusWord
  declared_if o may =
      contents_if o may >>= λ contents. (named_among contents.columns columns conditions
      >>= λ _. Ok (record { cursor = cursor_on o.stamp (wanted_of contents.columns columns) conditions; rows = narrowed (wanted_of contents.columns columns) conditions contents }))

  abbrev moved_if : Object → Bool → Result (Move Reading) StatusWord
  moved_if o may =
      contents_if o may >>= λ contents. (named_among contents.columns columns conditions
      >>= λ _. Ok (moved_to NotOpen (record { object = o.stamp; columns = wanted_of contents.columns columns; conditions = conditions; place = NotOpen }) done))

  abbrev Agree : Result (Move Reading) StatusWord → Result Declared StatusWord → Type 0
  Agree move d = (or_stays reading move ≡ declares_so reading d) × IsDeclared db a d

  abbrev pub declared_from : Option Object → Result Declared StatusWord
  declared_from found = or_refused found not_found >>= λ o. declared_if o (holds db a o select_privilege)

  abbrev moved_from : Option Object → Result (Move Reading) StatusWord
  moved_from found = or_refused found not_found >>= λ o. moved_if o (holds db a o select_privilege)

  listed-again : (o : Object) → seen_named db a object ≡ Some o → holds db a o select_privilege ≡ true → rows_under db a (cursor_of o) ≡ Ok (chosen (contents_of db o.stamp) (cursor_of o))
  listed-again o seen may =
      ap (λ (found : Option Object). let listed : Result (List StampedRow) StatusWord = or_refused found not_found >>= λ o₂. (selected db a o₂ >>= λ contents. Ok (chosen contents (cursor_of o))) in listed)
      (seen_stamped-named db a object o readable seen)
      ∙ ap (λ may. let listed : Result (List StampedRow) StatusWord = contents_if o may >>= λ contents. Ok (chosen contents (cursor_of o)) in listed) may

  rises-again : (o : Object) → Rises stamp_of (chosen (contents_of db o.stamp) (cursor_of o))
  rises-again o =
      Rises-map stamp_of (λ (r : StampedRow). record r { values = cut_to (contents_of db o.stamp).columns (wanted_of (contents_of db o.stamp).columns columns) r.values })
      (filter (λ (r : StampedRow). matches (contents_of db o.stamp).columns conditions r.values) (contents_of db o.stamp).rows)
      (Rises-filter (λ (r : StampedRow). matches (contents_of db o.stamp).columns conditions r.values) stamp_of (contents_of db o.stamp).rows (Rises-contents_of db o.stamp readable))

  agree-named : (o : Object) (named : Bool) → seen_named db a object ≡ Some o → holds db a o select_privilege ≡ true
      → Agree (provided named not_found >>= λ _. Ok (moved_to NotOpen (cursor_of o) done))
      (provided named not_found >>= λ _. Ok (record { cursor = cursor_of o; rows = chosen (contents_of db o.stamp) (cursor_of o) }))
  agree-named o false seen may = (refl, refl)
  agree-named o true seen may = (refl, (listed-again o seen may, rises-again o))

  agree-may : (o : Object) (may : Bool) → seen_named db a object ≡ Some o → holds db a o select_privilege ≡ may → Agree (moved_if o may) (declared_if o may)
  agree-may o false seen is = (refl, refl)
  agree-may o true seen is = agree-named o (are_named_among (contents_of db o.stamp).columns columns conditions) seen is

  agree : (found : Option Object) → seen_named db a object ≡ found → Agree (moved_from found) (declared_from found)
  agree None seen = (refl, refl)
  agree (Some o) seen = agree-may o (holds db a o select_privilege) seen refl

  pub declares : Declares db a reading object columns conditions (declared_from (seen_named db a object))
  unfolding move_of
  declares = let x = agree (seen_named db a object) refl in record { moves = x.0; is = x.1 }

-- the machine as it is with a channel's session
pub in_session-same : (m : Machine) (channel : ℕ) (s : Session) → session_of m channel ≡ Some s → in_session m channel s ≡ m
in_session-same m channel s there =
    sym (ap (λ (session : Option Session). with_session m channel (option_map (λ (x : Session). x) session)) there)
    ∙ changing_session-same (λ (x : Session). x) m channel (same (session_of m channel))
  where
    same : (session : Option Session) → option_map (λ (x : Session). x) session ≡ session
    same None = refl
    same (Some x) = refl

given-all : (rows : List StampedRow) → AllByRecursion (λ (values : Values). records.is_row values ≡ true) (map (λ (r : StampedRow). r.values) rows)
    → AllByRecursion (λ (r : StampedRow). IsGiven (row_octets r.values)) rows
given-all [] are = tt
given-all (r ∷ rows) are = (given-of r.values are.0, given-all rows are.1)

-- a SELECT on an open channel runs to its meaning
module _ (m : Machine) (channel : ℕ) (s : Session) (there : session_of m channel ≡ Some s) (object : List ℕ) (columns : Columns) (conditions : List Condition) (inside : Bool)
    (can : CanBeSent channel (Select object columns conditions)) (readable : IsReadable (base m channel)) where
  abbrev plan_in : Stage → Planned
  plan_in stage = plan_at m channel s can.within there object columns conditions stage 0 0 []

  abbrev asked : Command
  asked = asking channel (DeclareCursor object columns conditions)

  asked-answer : (d : Result Declared StatusWord) → Declares (base m channel) (who m channel s) s.reading object columns conditions d
      → answer_to m asked ≡ moved_answer m channel s (declares_so s.reading d)
  asked-answer d declares =
      ap (λ (n : Machine). answer_to n asked) (sym (in_session-same m channel s there))
      ∙ (answer-read m asked s s (declare object columns conditions) can.commands.0 refl there ∙ ap (moved_answer m channel s) declares.moves)

  changed-session : (change : Session → Session) → in_session m channel (change s) ≡ changing_session change m channel
  changed-session change = sym (ap (λ (session : Option Session). with_session m channel (option_map change session)) there)

  declared-run : (d : Result Declared StatusWord) → Declares (base m channel) (who m channel s) s.reading object columns conditions d → AreRows (selects_all m channel d).rows
      → SelectEnds m None (started (Select object columns conditions) channel inside) (shown (selects_all m channel d))
  declared-run (Err word) declares rows =
      let P : Machine → Type 0 = λ n. SelectEnds m None (started (Select object columns conditions) channel inside) (record { rows = []; closing = Refused word; machine = n; commits = [] }) in
      subst P (changed-session without_chain)
      (sends-ends m (in_session m channel (without_chain s)) None (said word) (started (Select object columns conditions) channel inside) (plan_in Declaring) asked
      (record { rows = []; closing = Refused word; machine = in_session m channel (without_chain s); commits = [] }) refl (asked-answer (Err word) declares)
      (done-ends (in_session m channel (without_chain s)) (Some (said word)) (plan_in Declaring) (plan_in (Ended (Refused word))) (Refused word)
      (ap (λ refused. if refused then refuses Declaring word (plan_in Declaring) else accepts Declaring word [] (plan_in Declaring)) declares.is)))
  declared-run (Ok d) declares rows =
      let P : Machine → Type 0 =
      λ n. SelectEnds m None (started (Select object columns conditions) channel inside) (record { rows = map (λ (r : StampedRow). row_octets r.values) d.rows; closing = Rows (length d.rows); machine = n; commits = [] }) in
      let Q : List (List ℕ) → Type 0 =
      λ given. SelectEnds m None (started (Select object columns conditions) channel inside)
      (record { rows = given; closing = Rows (length d.rows); machine = changing_session (standing End d.cursor) m channel; commits = [] }) in
      let few : length d.rows ≤ 2048 = subst (λ n. n ≤ 2048) (length-map d.rows (λ (r : StampedRow). r.values)) rows.few in
      subst Q (sym (map-map row_octets (λ (r : StampedRow). r.values) d.rows)) (subst P (changed-session (standing End d.cursor))
      (sends-ends m (in_session m channel (reads_so s (at d.cursor NotOpen []))) None (said done) (started (Select object columns conditions) channel inside) (plan_in Declaring) asked
      (record { rows = map (λ (r : StampedRow). row_octets r.values) d.rows; closing = Rows (length d.rows); machine = in_session m channel (reads_so s (at d.cursor End [])); commits = [] }) refl
      (asked-answer (Ok d) declares)
      (opened-run m channel s can.within there object columns conditions d.cursor d.rows declares.is.0 declares.is.1 (given-all d.rows rows.formed) few)))

  select-runs : AreRows (meaning m channel (Select object columns conditions)).rows
      → SelectEnds m None (started (Select object columns conditions) channel inside) (shown (meaning m channel (Select object columns conditions)))
  unfolding meaning declared
  select-runs rows =
      let f : Actor → Result Declared StatusWord = λ a. declared_from (base m channel) a s.reading object columns conditions readable (seen_named (base m channel) a object) in
      let acts : actor m channel ≡ who m channel s = ap (λ (session : Option Session). option_map_or (actor_of (base m channel)) (option_and_then (λ (x : Session). x.user) session) Public) there in
      let P : Meaning → Type 0 = λ x. AreRows x.rows → SelectEnds m None (started (Select object columns conditions) channel inside) (shown x) in
      let is : meaning m channel (Select object columns conditions) ≡ selects_all m channel (f (who m channel s)) =
      ap (λ (session : Option Session). if is_some session then selects_all m channel (f (actor m channel)) else ended (Refused channel_not_supported) m channel) there
      ∙ ap (λ (a : Actor). selects_all m channel (f a)) acts in
      subst P (sym is) (declared-run (f (who m channel s)) (declares (base m channel) (who m channel s) s.reading object columns conditions readable)) rows

-- the same, of a channel that is open
pub select-open : (m : Machine) (channel : ℕ) (object : List ℕ) (columns : Columns) (conditions : List Condition) (inside : Bool) → is_channel_open m channel ≡ true
    → CanBeSent channel (Select object columns conditions) → IsReadable (base m channel) → AreRows (meaning m channel (Select object columns conditions)).rows
    → RunsTo m (started (Select object columns conditions) channel inside) (shown (meaning m channel (Select object columns conditions)))
select-open m channel object columns conditions inside is_open can readable rows = go (session_of m channel) refl is_open
  where
    go : (session : Option Session) → session_of m channel ≡ session → is_some session ≡ true
        → RunsTo m (started (Select object columns conditions) channel inside) (shown (meaning m channel (Select object columns conditions)))
    go None there is = absurd (cc)
    go (Some s) there is = runs-to m (started (Select object columns conditions) channel inside) (shown (meaning m channel (Select object columns conditions))) (select-runs m channel s there object columns conditions inside can readable rows)
