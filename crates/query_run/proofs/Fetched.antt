-- Rows that are fetched one after another: what is left of them, and what becomes of the card.
use Rattle.std.proofs.Common.{◌≡◌, ℕ, Bool, false, List, [], ◌∷◌, ◌++◌, length, Option, Some, None, Result, Ok, Err, IfSome, refl, sym, ◌∙◌, ap, subst, inl, inr, arith, append_assoc, append-nil, length-append}
use Rattle.std.specs.Option.{option_map_or}
use Rattle.eeprom.specs.Chip.{Chip}
use Rattle.scql_base.specs.declared.operation.Command.{Command}
use Rattle.scql_base.specs.declared.words.StatusWord.{StatusWord}
use Rattle.scql_base.specs.Row.{row_from}
use Rattle.scql_model.specs.Database.{Database}
use Rattle.scql_model.specs.Machine.{Machine, base}
use Rattle.scql_model.specs.Matching.{Columns, Values}
use Rattle.scql_model.specs.Opens.{Opens}
use Rattle.scql_model.specs.Refusals.{◌>>=◌}
use Rattle.scql_model.specs.Shown.{Shown, shown_on}
use Rattle.scql_model.proofs.ReadingIsShown.{IsReadable-valid}
use Rattle.card_link.specs.Link.{Holds, HasValidData, LeavesOpen}
use Rattle.script.specs.declared.statement.Statement.{Statement}
use Rattle.script.specs.declared.statement.Statement.TheVariants.{Select}
use Rattle.planner.specs.declared.closing.Closing.{Closing}
use Rattle.planner.specs.declared.closing.Closing.TheVariants.{Nothing, Fine, Rows, Cut, Refused}
use Rattle.planner.specs.declared.step.Step.{Step}
use Rattle.planner.specs.declared.step.Step.TheVariants.{Send, Row, ResetCard, Done}
use Rattle.planner.specs.Meaning.{meaning}
use Rattle.planner.specs.Planned.{Planned, Turn, next_of, started}
use Rattle.planner.specs.Selecting.{ShownRows, closing_given, rows_given, select_next, select_shown, shown_behind}
use Rattle.planner.proofs.SelectsShown.{select-reads}
use Rattle.card_asking.specs.Calls.{StillAnswers}
use Rattle.card_asking.specs.Giving.{GivesRows, GivesShown, IsNextRow, behind_step}
use Rattle.card_asking.proofs.Calls.{answers-both, holds-both, mutes-then}
use Rattle.card_asking.proofs.Meant.{base-valid}
use Rattle.card_asking.proofs.Moments.{leaves-none}
use Rattle.card_asking.proofs.RowsAgain.{read-again}
use Rattle.card_asking.proofs.Rows.{all-given, gives-shown, next-row}
use Rattle.query.specs.declared.query.AskedObject.{AskedObject}
use Rattle.query_run.specs.declared.unfetched.Unfetched.{Unfetched}
use Rattle.query_run.specs.declared.unfetched.Unfetched.TheVariants as unfetched
use Rattle.query_run.specs.Fetching.{CanBeAsked, EndsFetching, FetchesSo, GrowsByOne, IsFetched, IsFetching, IsStopped, ReadsAs, UnlessStopped, fetched_by, row_at}
use Rattle.query_run.specs.QueryText.{rows_shown}

-- The row of a step is the first of those that are left.
row-first : (c : Command) (rows : List Values) (octets : List ℕ) → IsNextRow rows octets → row_at (Row c) octets ++ behind_step (Row c) rows ≡ rows
row-first c rows octets is =
    let read : row_from octets ≡ Some is.values = ap row_from is.octets ∙ read-again is.values is.formed in
    rw (read, is.split) refl

-- the row of a step, and what is left behind it
row-left : {L : Type 0} (is_at : L → Machine → Type 0) (m : Machine) (closing : Closing) (last : Machine) (rows : List Values) (p : Planned) (step : Step) (now : L) → GivesRows is_at m closing last rows p step now
    → row_at step p.row ++ behind_step step rows ≡ rows
row-left is_at m closing last rows p (Send c) now gives = refl
row-left is_at m closing last rows p (Row c) now gives = row-first c rows p.row (next-row is_at m closing last rows p c now gives)
row-left is_at m closing last rows p ResetCard now gives = refl
row-left is_at m closing last rows p (Done closed) now gives = refl

pub fetching-on : {L : Type 0} (is_at : L → Machine → Type 0) (m : Machine) (closing : Closing) (last : Machine) (all before after : List Values) (p q : Planned) (step next : Step) (old new : L)
    → (f : IsFetching is_at m closing last all before p step old) → after ≡ before ++ row_at step p.row → GivesRows is_at m closing last (behind_step step f.left) q next new → IsFetching is_at m closing last all after q next new
fetching-on is_at m closing last all before after p q step next old new f added gives = record {
  left = behind_step step f.left;
  split = ap (λ (rows : List Values). rows ++ behind_step step f.left) added
      ∙ (append_assoc before (row_at step p.row) (behind_step step f.left) ∙ (ap (λ (rows : List Values). before ++ rows) (row-left is_at m closing last f.left p step old f.gives) ∙ f.split));
  gives = gives;
}

-- none are fetched yet
pub fetching-none : {L : Type 0} (is_at : L → Machine → Type 0) (m : Machine) (closing : Closing) (last : Machine) (all fetched : List Values) (p : Planned) (step : Step) (now : L) → fetched ≡ [] → GivesRows is_at m closing last all p step now
    → IsFetching is_at m closing last all fetched p step now
fetching-none is_at m closing last all fetched p step now none gives = record { left = all; split = ap (λ (rows : List Values). rows ++ all) none; gives = gives }

-- at the last step all are
all-fetched : {L : Type 0} (is_at : L → Machine → Type 0) (m : Machine) (closing : Closing) (last : Machine) (all fetched : List Values) (p : Planned) (closed : Closing) (now : L) → IsFetching is_at m closing last all fetched p (Done closed) now
    → IsFetched is_at closing last all fetched (fetched_by closed) now
all-fetched is_at m closing last all fetched p closed now f =
    let given = all-given is_at m closing last f.left p closed now f.gives in
    record {
      rows = sym (append-nil fetched) ∙ (ap (λ (rows : List Values). fetched ++ rows) (sym given.none) ∙ f.split);
      ends = ap fetched_by given.closes;
      at = given.at;
    }

unless-of : {A : Type 0} (r : Result A Unfetched) (P : Type 0) → P → UnlessStopped r P
unless-of (Ok x) P p = p
unless-of (Err (unfetched.Refused word)) P p = p
unless-of (Err unfetched.Mute) P p = tt
unless-of (Err unfetched.NoMemory) P p = tt

pub fetching-ended : {L : Type 0} (is_at : L → Machine → Type 0) (m : Machine) (closing : Closing) (last : Machine) (all fetched : List Values) (p : Planned) (step : Step) (closed : Closing) (r : Result (Unit {0}) Unfetched) (now : L)
    → step ≡ Done closed → r ≡ fetched_by closed → IsFetching is_at m closing last all fetched p step now → UnlessStopped r (IsFetched is_at closing last all fetched r now)
fetching-ended is_at m closing last all fetched p step closed r now at ends f =
    unless-of r (IsFetched is_at closing last all fetched r now)
    (subst (λ (r : Result (Unit {0}) Unfetched). IsFetched is_at closing last all fetched r now) (sym ends)
    (all-fetched is_at m closing last all fetched p closed now (subst (λ (s : Step). IsFetching is_at m closing last all fetched p s now) at f)))

-- What becomes of the card.

-- where a card reads as a machine does, that one's database is committed
pub reads-held : {L : Type 0} (is_at : L → Machine → Type 0) (chip : L → Chip) (mark : L → ℕ) (m : Machine) (old new : L) → (r : ReadsAs is_at m old) → LeavesOpen (Holds (mark old) r.machine.committed) (chip old) (chip new)
    → LeavesOpen (Holds (mark old) m.committed) (chip old) (chip new)
reads-held is_at chip mark m old new r moments = subst (λ (db : Database). LeavesOpen (Holds (mark old) db) (chip old) (chip new)) r.committed moments

pub reads-moments : {L : Type 0} (is_at : L → Machine → Type 0) (chip : L → Chip) (mark : L → ℕ) (m : Machine) (old mid new : L) → (r : ReadsAs is_at m mid) → mark mid ≡ mark old → LeavesOpen (Holds (mark old) m.committed) (chip old) (chip mid)
    → ((m : Machine) → is_at mid m → LeavesOpen (Holds (mark mid) m.committed) (chip mid) (chip new)) → LeavesOpen (Holds (mark old) m.committed) (chip old) (chip new)
reads-moments is_at chip mark m old mid new r marked first second =
    holds-both chip mark m.committed old mid new marked first (reads-held is_at chip mark m mid new r (second r.machine r.at))

-- before any call
pub holds-same : {L : Type 0} (chip : L → Chip) (mark : L → ℕ) (db now : Database) (l : L) → mark l ≡ (chip l).still.mark → IfSome (chip l).image (λ image. Opens image now) → now ≡ db → LeavesOpen (Holds (mark l) db) (chip l) (chip l)
holds-same chip mark db now l marks opens same = leaves-none chip mark (Holds (mark l) db) l now marks opens (refl, same)

pub ends-then : {L : Type 0} (A B : Type 0) (is_live : L → Bool) (faults : L → ℕ) (old mid new : L) (end : Unfetched) → StillAnswers is_live faults old mid → EndsFetching {A = A} is_live faults (Err end) mid new → EndsFetching {A = B} is_live faults (Err end) old new
ends-then A B is_live faults old mid new (unfetched.Refused word) first second = answers-both is_live faults old mid new first second
ends-then A B is_live faults old mid new unfetched.Mute first second = mutes-then is_live faults old mid new first second
ends-then A B is_live faults old mid new unfetched.NoMemory first second = answers-both is_live faults old mid new first second

-- however a plan closed the card answers
pub ends-closed : {L : Type 0} (is_live : L → Bool) (faults : L → ℕ) (old new : L) (closed : Closing) (r : Result (Unit {0}) Unfetched) → r ≡ fetched_by closed → StillAnswers is_live faults old new → EndsFetching is_live faults r old new
ends-closed {L} is_live faults old new closed r is answers = subst (λ (r : Result (Unit {0}) Unfetched). EndsFetching is_live faults r old new) (sym is) (go closed)
  where
    go : (closed : Closing) → EndsFetching is_live faults (fetched_by closed) old new
    go (Refused word) = answers
    go Nothing = answers
    go Fine = answers
    go (Rows number) = answers
    go (Cut number) = answers

-- What is there of an object.

behind-objects : (s : Shown) (given : Result ShownRows StatusWord) → (shown_behind s given).objects ≡ s.objects
behind-objects s (Ok rows) = refl
behind-objects s (Err word) = refl

-- after a SELECT queries read as before it
reads-behind : {L : Type 0} (is_at : L → Machine → Type 0) (m : Machine) (object : List ℕ) (columns : Columns) (now : L) → HasValidData m → is_at now (meaning m 0 (Select object columns [])).machine → ReadsAs is_at m now
unfolding select_next
reads-behind is_at m object columns now over at =
    let reads = select-reads m 0 object columns [] over.basic (IsReadable-valid (base m 0) (base-valid m 0 over)) in
    record {
      machine = (meaning m 0 (Select object columns [])).machine;
      at = at;
      committed = reads.committed;
      objects = ap (λ (s : Shown). s.objects) reads.after ∙ behind-objects (shown_on m 0) (select_shown (shown_on m 0) object columns []);
    }

rows-given : (given : Result ShownRows StatusWord) (rows : List Values) → rows ≡ rows_given given → Ok tt ≡ fetched_by (closing_given given) → (given >>= λ (g : ShownRows). Ok g.rows) ≡ Ok rows
rows-given (Ok g) rows is ends = ap Ok (sym is)
rows-given (Err word) rows is ends = absurd cc

word-given : (given : Result ShownRows StatusWord) (word : StatusWord) → Err (unfetched.Refused word) ≡ fetched_by (closing_given given) → (given >>= λ (g : ShownRows). Ok g.rows) ≡ Err word
word-given (Ok g) word ends = absurd cc
word-given (Err other) word ends = cc

module _ {L : Type 0} (is_at : L → Machine → Type 0) (m : Machine) (asked : AskedObject) (rows : List Values) (now : L) (over : HasValidData m) where
  abbrev given : Result ShownRows StatusWord
  given = select_shown (shown_on m 0) asked.object asked.columns []

  abbrev Fetched : Result (Unit {0}) Unfetched → Type 0
  Fetched r = IsFetched is_at (closing_given given) (meaning m 0 (Select asked.object asked.columns [])).machine (rows_given given) rows r now

  pub object-fetched : (x : Unit {0}) → Fetched (Ok x) → FetchesSo is_at m (λ (fetched : List Values). fetched) (rows_shown (shown_on m 0) asked) (Ok rows) now
  object-fetched x f = (rows-given given rows f.rows f.ends, reads-behind is_at m asked.object asked.columns now over f.at)

  pub object-unfetched : (end : Unfetched) → UnlessStopped {A = Unit {0}} (Err end) (Fetched (Err end)) → FetchesSo is_at m (λ (fetched : List Values). fetched) (rows_shown (shown_on m 0) asked) (Err end) now
  object-unfetched (unfetched.Refused word) f = (word-given given word f.ends, reads-behind is_at m asked.object asked.columns now over f.at)
  object-unfetched unfetched.Mute f = tt
  object-unfetched unfetched.NoMemory f = tt

-- a plan of a SELECT is at its first step
pub gives-started : {L : Type 0} (is_at : L → Machine → Type 0) (m : Machine) (asked : AskedObject) (now : L) → HasValidData m → CanBeAsked asked → is_at now m → (s : Statement) (start plan : Planned) (step : Step) → s ≡ Select asked.object asked.columns []
    → start ≡ started s 0 false → next_of None start ≡ record { plan = plan; step = step } → GivesShown is_at m 0 asked.object asked.columns [] plan step now
gives-started is_at m asked now over can at s start plan step is starts next =
    let turn : Turn = record { plan = plan; step = step } in
    let e : next_of None (started (Select asked.object asked.columns []) 0 false) ≡ turn = ap (λ (s : Statement). next_of None (started s 0 false)) (sym is) ∙ (ap (next_of None) (sym starts) ∙ next) in
    subst (λ (t : Turn). GivesShown is_at m 0 asked.object asked.columns [] t.plan t.step now) e (gives-shown is_at m 0 asked.object asked.columns [] false now over.basic over can at)

-- Where it stopped without a refusal nothing more is said.
pub unless-stopped : (A : Type 0) (end : Unfetched) (P : Type 0) → IsStopped end → UnlessStopped {A = A} (Err end) P
unless-stopped A (unfetched.Refused word) P stopped = absurd stopped
unless-stopped A unfetched.Mute P stopped = tt
unless-stopped A unfetched.NoMemory P stopped = tt

-- A step has at most one row.
rows-more : (step : Step) (octets : List ℕ) (before : List Values) → GrowsByOne (length before) (length (before ++ row_at step octets))
rows-more (Send c) octets before = inl (ap length (append-nil before))
rows-more (Row c) octets before = go (row_from octets)
  where
    go : (read : Option Values) → GrowsByOne (length before) (length (before ++ option_map_or (λ (values : Values). values ∷ []) read []))
    go None = inl (ap length (append-nil before))
    go (Some values) = inr (omega (arith, length-append before (values ∷ [])))
rows-more ResetCard octets before = inl (ap length (append-nil before))
rows-more (Done closed) octets before = inl (ap length (append-nil before))

pub one-row-more : (step : Step) (octets : List ℕ) (before after : List Values) → after ≡ before ++ row_at step octets → GrowsByOne (length before) (length after)
one-row-more step octets before after added = subst (λ (rows : List Values). GrowsByOne (length before) (length rows)) (sym added) (rows-more step octets before)
