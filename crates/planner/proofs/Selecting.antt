-- The run of a SELECT: each row is given once, in parts where it needs them.
use Rattle.std.proofs.Common.{◌≡◌, ℕ, zero, suc, ◌+◌, ◌/◌, ◌≤◌, ◌<◌, ◌==◌, nat_le, nat_lt, Bool, true, false, not, ◌||◌, List, [], ◌∷◌, ◌++◌, length, Option, Some, None, Result, Ok, Err, if◌then◌else◌, refl, sym, ◌∙◌, ap, subst, lit<, arith}
use Rattle.std.specs.List.{find, AllByRecursion}
use Rattle.std.proofs.lemmas.Bool.{lt-ltb, le-ltb, ltb-true, ne_eqb, eq-eqb, or_right}
use Rattle.std.proofs.lemmas.List.{length-append}
use Rattle.eeprom.specs.Slots.{Rises}
use Rattle.scql_base.specs.declared.words.Actor.{Actor}
use Rattle.scql_base.specs.declared.words.StatusWord.{StatusWord}
use Rattle.scql_base.specs.declared.cursor.Cursor.{Cursor}
use Rattle.scql_base.specs.declared.cursor.Place.{Place}
use Rattle.scql_base.specs.declared.cursor.Place.TheVariants.{NotOpen, At, End}
use Rattle.scql_base.specs.declared.operation.Command.{Command}
use Rattle.scql_base.specs.declared.operation.Operation.TheVariants.{GetResponse}
use Rattle.scql_base.specs.Words.{done, end_reached, record_not_found, more_left, wrong_le, in_sw2}
use Rattle.scql_model.specs.Refusals.{◌>>=◌, or_refused}
use Rattle.scql_model.specs.Replies.{Reply}
use Rattle.scql_model.specs.Database.{Database}
use Rattle.scql_model.specs.Machine.{Machine, Reading}
use Rattle.scql_model.specs.Objects.{StampedRow}
use Rattle.scql_model.specs.ReadingCommands.{open_cursor, fetch, fetch_next, get_response, Move, or_stays, fitting, row_octets}
use Rattle.scql_model.specs.Moves.{rows_under, first_row, row_behind, row_at, moved_to, giving, went_to, gave, gave_next, move_of}
use Rattle.planner.specs.declared.closing.Closing.{Closing}
use Rattle.planner.specs.declared.stage.Stage.TheVariants.{Fetching}
use Rattle.planner.specs.declared.step.Step.TheVariants.{Send, Row, Done}
use Rattle.planner.specs.Words.{is_end, has_more, is_refusal}
use Rattle.planner.specs.Meaning.{answer_to}
use Rattle.planner.specs.Planned.{Planned, Turn, next_of, goes_on, accepts, refuses, finishes, cuts, takes, gathers, gives_row, ends_row, asks_for_rest, wants, row_before, is_row}
use Rattle.planner.specs.Running.{Ran, run, taken, answered_by}
use Rattle.planner.specs.Running as running

-- so many steps, and then more
abbrev pub more : ℕ → ℕ → ℕ
more zero n = n
more (suc k) n = suc (more k n)

-- a run ends so within some number of steps
pub record SelectEnds (m : Machine) (last : Option Reply) (p : Planned) (ran : Ran) : Type 0 where
  pub steps : ℕ
  pub runs : (n : ℕ) → run (more steps n) m last p ≡ ran

pub sends-ends : (m next : Machine) (last : Option Reply) (reply : Reply) (p q : Planned) (c : Command) (ran : Ran) → next_of last p ≡ record { plan = q; step = Send c }
    → answer_to m c ≡ record { reply = reply; machine = next; commits = [] } → SelectEnds next (Some reply) q ran → SelectEnds m last p ran
sends-ends m next last reply p q c ran is-turn is-answer e = record {
  steps = suc e.steps;
  runs = λ n.
      ap (λ (turn : Turn). taken (λ x r y. run (more e.steps n) x r y) m turn.plan turn.step) is-turn
      ∙ (ap (answered_by (λ x r y. run (more e.steps n) x r y) q) is-answer ∙ e.runs n);
}

pub row-ends : (m next : Machine) (last : Option Reply) (reply : Reply) (p q : Planned) (c : Command) (ran : Ran) → next_of last p ≡ record { plan = q; step = Row c }
    → answer_to m c ≡ record { reply = reply; machine = next; commits = [] } → SelectEnds next (Some reply) q ran → SelectEnds m last p (running.giving q.row ran)
row-ends m next last reply p q c ran is-turn is-answer e = record {
  steps = suc e.steps;
  runs = λ n.
      ap (λ (turn : Turn). taken (λ x r y. run (more e.steps n) x r y) m turn.plan turn.step) is-turn
      ∙ ap (running.giving q.row) (ap (answered_by (λ x r y. run (more e.steps n) x r y) q) is-answer ∙ e.runs n);
}

pub done-ends : (m : Machine) (last : Option Reply) (p q : Planned) (closing : Closing) → next_of last p ≡ record { plan = q; step = Done closing }
    → SelectEnds m last p (record { rows = []; closing = closing; machine = m; commits = [] })
done-ends m last p q closing is-turn = record {
  steps = 1;
  runs = λ n. ap (λ (turn : Turn). taken (λ x r y. run n x r y) m turn.plan turn.step) is-turn;
}

-- words
sw2-small : (n : ℕ) → in_sw2 n < 256
sw2-small n = go (nat_lt n 256) refl
  where
    go : (small : Bool) → nat_lt n 256 ≡ small → (if small then n else 0) < 256
    go true is = ltb-true n 256 is
    go false is = lit< tt

more-more : (n : ℕ) → has_more (more_left n) ≡ true
more-more n = quotient (in_sw2 n) (sw2-small n)
  where
    quotient : (k : ℕ) → k < 256 → (0x6100 + k) / 256 == 0x61 ≡ true
    quotient k small = eq-eqb ((0x6100 + k) / 256) 0x61 (omega (arith, small))

pub more-not_end : (n : ℕ) → is_end (more_left n) ≡ false
more-not_end n = other (in_sw2 n) (sw2-small n)
  where
    other : (k : ℕ) → k < 256 → 0x6100 + k == 0x6282 ≡ false
    other k small = ne_eqb (0x6100 + k) 0x6282 (λ is. omega (arith, is, small))

pub more-accepted : (n : ℕ) → is_refusal (more_left n) ≡ false
more-accepted n = ap (λ has. not (0x6100 + in_sw2 n == 0x9000 || 0x6100 + in_sw2 n == 0x6282 || has)) (more-more n) ∙ ap not (or_right (0x6100 + in_sw2 n == 0x9000 || 0x6100 + in_sw2 n == 0x6282) true refl)

-- Le 256 fits each row
fitting-256 : (octets : List ℕ) → fitting 256 octets ≡ Ok octets
fitting-256 octets = ap (λ fits. let r : Result (List ℕ) StatusWord = if fits then Ok octets else Err (wrong_le (length octets)) in r) (or_right (nat_le (length octets) 256) true refl)

-- the rows behind one of rising stamps
all-behind : (P : StampedRow → Type 0) (before : List StampedRow) (r : StampedRow) (rest : List StampedRow) → AllByRecursion P (before ++ r ∷ rest) → P r
all-behind P [] r rest all = all.0
all-behind P (b ∷ before) r rest all = all-behind P before r rest all.1

abbrev pub stamp_of : StampedRow → ℕ
stamp_of r = r.stamp

pub find-behind : (before : List StampedRow) (r : StampedRow) (rest : List StampedRow) → Rises stamp_of (before ++ r ∷ rest)
    → find (λ (x : StampedRow). nat_lt r.stamp x.stamp) (before ++ r ∷ rest) ≡ first_row rest
find-behind [] r [] rises = rw (le-ltb r.stamp r.stamp (omega arith)) refl
find-behind [] r (x ∷ rest) rises = rw (le-ltb r.stamp r.stamp (omega arith), lt-ltb r.stamp x.stamp rises.0.0) refl
find-behind (b ∷ before) r rest rises =
    let below : b.stamp < r.stamp = all-behind (λ (x : StampedRow). b.stamp < x.stamp) before r rest rises.0 in
    rw (le-ltb r.stamp b.stamp (omega (arith, below))) (find-behind before r rest rises.1)

pub row_at-first : (r : StampedRow) (rest : List StampedRow) → row_at r.stamp (r ∷ rest) ≡ Some r
row_at-first r rest = rw (eq-eqb r.stamp r.stamp refl) refl

-- Moves of an opened cursor over rows.
abbrev pub at : Cursor → Place → List ℕ → Reading
at c place pending = record { cursor = Some (record c { place = place }); pending = pending }

abbrev next_given : Cursor → Option StampedRow → Move Reading
next_given c None = moved_to End c end_reached
next_given c (Some r) = giving (At r.stamp) c 256 (row_octets r.values)

module _ (db : Database) (a : Actor) (c : Cursor) (rows : List StampedRow) (listed : rows_under db a c ≡ Ok rows) where
  pub open-move : (pending : List ℕ) → move_of db a (at c NotOpen pending) open_cursor ≡ went_to c (first_row rows)
  unfolding move_of
  open-move pending =
      ap (λ (found : Result (List StampedRow) StatusWord). or_stays (at c NotOpen pending) (found >>= λ rows. Ok (went_to c (first_row rows)))) listed

  pub fetch-move : (stamp : ℕ) (r : StampedRow) (pending : List ℕ) → row_at stamp rows ≡ Some r → move_of db a (at c (At stamp) pending) (fetch 256) ≡ giving (At stamp) c 256 (row_octets r.values)
  unfolding move_of
  fetch-move stamp r pending found =
      ap (λ (found : Result (List StampedRow) StatusWord). or_stays (at c (At stamp) pending) (found >>= λ rows. gave (record c { place = At stamp }) 256 (At stamp) rows)) listed
      ∙ (ap (λ (found : Option StampedRow). or_stays (at c (At stamp) pending) (or_refused found record_not_found >>= λ r. (fitting 256 (row_octets r.values) >>= λ octets. Ok (giving (At stamp) c 256 octets)))) found
      ∙ ap (λ (fits : Result (List ℕ) StatusWord). or_stays (at c (At stamp) pending) (fits >>= λ octets. Ok (giving (At stamp) c 256 octets))) (fitting-256 (row_octets r.values)))

  pub next-move : (stamp : ℕ) (x : Option StampedRow) (pending : List ℕ) → row_behind (At stamp) rows ≡ x → move_of db a (at c (At stamp) pending) (fetch_next 256) ≡ next_given c x
  unfolding move_of
  next-move stamp x pending found =
      ap (λ (found : Result (List StampedRow) StatusWord). or_stays (at c (At stamp) pending) (found >>= λ rows. gave_next (record c { place = At stamp }) 256 (row_behind (At stamp) rows))) listed
      ∙ (ap (λ (found : Option StampedRow). or_stays (at c (At stamp) pending) (gave_next (record c { place = At stamp }) 256 found)) found ∙ given x)
    where
      given : (x : Option StampedRow) → or_stays (at c (At stamp) pending) (gave_next (record c { place = At stamp }) 256 x) ≡ next_given c x
      given None = refl
      given (Some r) = ap (λ (fits : Result (List ℕ) StatusWord). or_stays (at c (At stamp) pending) (fits >>= λ octets. Ok (giving (At r.stamp) c 256 octets))) (fitting-256 (row_octets r.values))

  pub more-move : (place : Place) (octet : ℕ) (octets : List ℕ) → move_of db a (at c place (octet ∷ octets)) (get_response 256) ≡ giving place c 256 (octet ∷ octets)
  unfolding move_of
  more-move place octet octets =
      ap (λ (found : Result (List StampedRow) StatusWord). or_stays (at c place (octet ∷ octets)) (found >>= λ rows. Ok (giving place c 256 (octet ∷ octets)))) listed

-- Steps of a plan that fetches.
pub takes-row : (p : Planned) (body whole : List ℕ) → row_before p ++ body ≡ whole → length whole ≤ 1020 → is_row whole ≡ true → p.rows < 2048
    → takes done body p ≡ gives_row (record p { row = whole })
takes-row p body whole joined short row few =
    let size : length (row_before p) + length body ≤ 1020 = subst (λ n. n ≤ 1020) (ap length (sym joined) ∙ length-append (row_before p) body) short in
    ap (λ large. if large then cuts p else gathers done (record p { row = row_before p ++ body })) (le-ltb 1020 (length (row_before p) + length body) size)
    ∙ (ap (λ octets. gathers done (record p { row = octets })) joined
    ∙ (ap (λ is. if is then (if nat_lt p.rows 2048 then gives_row (record p { row = whole }) else finishes (record p { row = whole })) else cuts (record p { row = whole })) row
    ∙ ap (λ is. if is then gives_row (record p { row = whole }) else finishes (record p { row = whole })) (lt-ltb p.rows 2048 few)))

pub takes-piece : (p : Planned) (n : ℕ) (body longer : List ℕ) → row_before p ++ body ≡ longer → length longer ≤ 1020 → p.responses < 3
    → takes (more_left n) body p ≡ wants Fetching GetResponse (record p { row = longer; responses = p.responses + 1 })
takes-piece p n body longer joined short few =
    let size : length (row_before p) + length body ≤ 1020 = subst (λ n. n ≤ 1020) (ap length (sym joined) ∙ length-append (row_before p) body) short in
    ap (λ large. if large then cuts p else gathers (more_left n) (record p { row = row_before p ++ body })) (le-ltb 1020 (length (row_before p) + length body) size)
    ∙ (ap (λ octets. gathers (more_left n) (record p { row = octets })) joined
    ∙ (ap (λ has. if has then asks_for_rest (record p { row = longer }) else ends_row (record p { row = longer })) (more-more n)
    ∙ ap (λ is. if is then wants Fetching GetResponse (record p { row = longer; responses = p.responses + 1 }) else cuts (record p { row = longer })) (lt-ltb p.responses 3 few)))

pub fetching-next : (p : Planned) (word : StatusWord) (body : List ℕ) → is_refusal word ≡ false → is_end word ≡ false → goes_on Fetching word body p ≡ takes word body p
fetching-next p word body accepted goes =
    ap (λ refused. if refused then refuses Fetching word p else accepts Fetching word body p) accepted
    ∙ ap (λ ended. if ended then finishes p else takes word body p) goes
