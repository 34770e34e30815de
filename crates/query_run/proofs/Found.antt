-- What a query gives of the rows of its objects, and what is printed of it.
use Rattle.std.proofs.Common.{Vec, Global, ◌≡◌, ℕ, suc, ◌≤◌, nat_lt, Bool, true, false, List, [], ◌∷◌, ◌++◌, length, Option, Some, None, Result, Ok, Err, IfOk, if◌then◌else◌, codes, refl, sym, ◌∙◌, ap, subst, arith}
use Rattle.std.specs.Prelude.{MatchResult}
use Rattle.std.proofs.lemmas.Bool.{ltb-false}
use Rattle.std.proofs.lemmas.List.{length-map}
use Rattle.scql_base.specs.declared.words.StatusWord.{StatusWord}
use Rattle.scql_model.specs.Machine.{Machine}
use Rattle.scql_model.specs.Matching.{Values}
use Rattle.scql_model.specs.Shown.{shown_on}
use Rattle.planner.specs.declared.closing.Closing.TheVariants as closings
use Rattle.planner.specs.Text.{closing_text}
use Rattle.row_join.specs.declared.column.Column.{Column}
use Rattle.row_join.specs.declared.column.Equality.{Equality}
use Rattle.row_join.specs.declared.combination.Combination.{Combination as Places}
use Rattle.row_join.specs.declared.fetched.Fetched.{Fetched}
use Rattle.row_join.specs.Joined.{joined}
use Rattle.row_join.specs.Joins.{Combination, comes_before, in_order, inserted, kept, ordered}
use Rattle.row_join.specs.Places.{all_rows, rows_of}
use Rattle.query.specs.declared.query.AskedObject.{AskedObject}
use Rattle.query.specs.Asked.{Asked}
use Rattle.query_run.specs.declared.answer.Answer.{Answer}
use Rattle.query_run.specs.declared.answer.Answer.TheVariants.{Rows, TooMany, Refused}
use Rattle.query_run.specs.declared.unfetched.Unfetched.{Unfetched}
use Rattle.query_run.specs.declared.unfetched.Unfetched.TheVariants as unfetched
use Rattle.query_run.specs.Answering.{FindsSo, JoinsSo}
use Rattle.query_run.specs.Answers.{IsPrintable, refused_by}
use Rattle.query_run.specs.Fetching.{EndsFetching, FetchesSo, IsStopped, ReadsAs}
use Rattle.query_run.specs.QueryLines.{gives_none, is_refused}
use Rattle.query_run.specs.QueryText.{answer_text, most_combinations, printed, query_text, row_texts, tables_shown}
use Rattle.query_run.proofs.Tables.{reads-then, tables-same}

-- Putting in order leaves as many.
length-inserted : {X : Type 0} (before : X → X → Bool) (x : X) (ys : List X) → length (inserted before x ys) ≡ suc (length ys)
length-inserted before x [] = refl
length-inserted before x (y ∷ ys) = go (before y x) (length-inserted before x ys)
  where
    go : (b : Bool) → length (inserted before x ys) ≡ suc (length ys) → length (if b then y ∷ inserted before x ys else x ∷ y ∷ ys) ≡ suc (suc (length ys))
    go true more = ap suc more
    go false more = refl

length-in_order : {X : Type 0} (before : X → X → Bool) (xs : List X) → length (in_order before xs) ≡ length xs
unfolding in_order
length-in_order before [] = refl
length-in_order before (x ∷ xs) = length-inserted before x (in_order before xs) ∙ ap suc (length-in_order before xs)

-- the kept combinations aren't too many
record AreKept (es : List Equality) (tables : List (List Values)) (rows : List Combination) : Type 0 where
  few : nat_lt most_combinations (length (kept es tables)) ≡ false
  same : rows ≡ kept es tables

are-kept : (es : List Equality) (tables : List (List Values)) (rows : List Combination) → Some rows ≡ joined es tables → AreKept es tables rows
are-kept es tables rows is = go (nat_lt most_combinations (length (kept es tables))) refl is
  where
    go : (b : Bool) → nat_lt most_combinations (length (kept es tables)) ≡ b → Some rows ≡ (if b then None else Some (kept es tables)) → AreKept es tables rows
    go true many is = absurd cc
    go false few is = record { few = few; same = cc }

are-many : (es : List Equality) (tables : List (List Values)) → None ≡ joined es tables → nat_lt most_combinations (length (kept es tables)) ≡ true
are-many es tables is = go (nat_lt most_combinations (length (kept es tables))) refl is
  where
    go : (b : Bool) → nat_lt most_combinations (length (kept es tables)) ≡ b → ◌≡◌ {A = Option (List Combination)} None (if b then None else Some (kept es tables)) → nat_lt most_combinations (length (kept es tables)) ≡ true
    go true many is = many
    go false few is = absurd cc

pub joins-rows : (query : Asked) (tables : Vec Fetched Global) (combinations : Vec Places Global) (ts us : List (List Values)) (es : List Equality) (order : List Column) (before : List Places) → ts ≡ tables.items → us ≡ tables.items → es ≡ query.equalities
    → order ≡ query.order → length tables.items ≤ 3 → Some (all_rows ts before) ≡ joined es ts → all_rows us combinations.items ≡ ordered order (all_rows us before) → JoinsSo query tables.items (Rows tables combinations)
joins-rows query tables combinations ts us es order before first second third fourth few is sorted =
    let all = kept query.equalities tables.items in
    let k = are-kept query.equalities tables.items (all_rows tables.items before)
    (subst (λ (ts : List (List Values)). Some (all_rows ts before) ≡ joined query.equalities ts) first (subst (λ (es : List Equality). Some (all_rows ts before) ≡ joined es ts) third is)) in
    let s : all_rows tables.items combinations.items ≡ ordered query.order all =
    subst (λ (us : List (List Values)). all_rows us combinations.items ≡ ordered query.order (all_rows us before)) second (subst (λ (order : List Column). all_rows us combinations.items ≡ ordered order (all_rows us before)) fourth sorted)
    ∙ ap (ordered query.order) k.same in
    let count : length combinations.items ≡ length all =
    sym (length-map combinations.items (λ (c : Places). rows_of tables.items c.places)) ∙ (ap length s ∙ length-in_order (comes_before query.order) all) in
    record {
      text = ap (λ (rows : List Combination). row_texts query rows ++ closing_text (closings.Rows (length combinations.items))) s
          ∙ (ap (λ (n : ℕ). row_texts query (ordered query.order all) ++ closing_text (closings.Rows n)) count
          ∙ sym (ap (λ (b : Bool). if b then codes "too many rows\n" else printed query all) k.few));
      refused = sym k.few;
      printable = (few, omega (arith, count, ltb-false most_combinations (length all) k.few));
    }

pub joins-many : (query : Asked) (tables ts : List (List Values)) (es : List Equality) → ts ≡ tables → es ≡ query.equalities → None ≡ joined es ts → JoinsSo query tables TooMany
joins-many query tables ts es first second is =
    let all = kept query.equalities tables in
    let many = are-many query.equalities tables
    (subst (λ (ts : List (List Values)). ◌≡◌ {A = Option (List Combination)} None (joined query.equalities ts)) first (subst (λ (es : List Equality). ◌≡◌ {A = Option (List Combination)} None (joined es ts)) second is)) in
    record { text = sym (ap (λ (b : Bool). if b then codes "too many rows\n" else printed query all) many); refused = sym many; printable = tt }

-- What is given follows from what is shown.
module _ {L : Type 0} (is_at : L → Machine → Type 0) (m : Machine) (query : Asked) (objects : List AskedObject) (old new : L) (r : ReadsAs is_at m old) (is : objects ≡ query.objects) where
  shown-here : (shown : Result (List (List Values)) StatusWord) → tables_shown (shown_on r.machine 0) objects ≡ shown → tables_shown (shown_on m 0) query.objects ≡ shown
  shown-here shown told = sym (tables-same (shown_on r.machine 0) (shown_on m 0) query.objects r.objects) ∙ (ap (tables_shown (shown_on r.machine 0)) (sym is) ∙ told)

  pub finds-rows : (tables : List (List Values)) (answer : Answer) → (tables_shown (shown_on r.machine 0) objects ≡ Ok tables) × ReadsAs is_at r.machine new → JoinsSo query tables answer → FindsSo is_at m query answer new
  unfolding query_text is_refused
  finds-rows tables answer fetched joins = record {
    text = joins.text ∙ ap (answer_text query) (sym (shown-here (Ok tables) fetched.0));
    refused = joins.refused ∙ ap (gives_none query) (sym (shown-here (Ok tables) fetched.0));
    reads = reads-then is_at m old new r fetched.1;
  }

  finds-word : (word : StatusWord) → (tables_shown (shown_on r.machine 0) objects ≡ Err word) × ReadsAs is_at r.machine new → FindsSo is_at m query (Refused word) new
  unfolding query_text is_refused
  finds-word word fetched = record {
    text = ap (answer_text query) (sym (shown-here (Err word) fetched.0));
    refused = ap (gives_none query) (sym (shown-here (Err word) fetched.0));
    reads = reads-then is_at m old new r fetched.1;
  }

  pub finds-refusal : (A : Type 0) (view : A → List (List Values)) (end : Unfetched) (result : Result Answer Unfetched) → result ≡ refused_by end
      → FetchesSo {A = A} is_at r.machine view (tables_shown (shown_on r.machine 0) objects) (Err end) new → IfOk result (λ answer. FindsSo is_at m query answer new)
  finds-refusal A view end result by fetched = subst (λ (result : Result Answer Unfetched). IfOk result (λ answer. FindsSo is_at m query answer new)) (sym by) (go end fetched)
    where
      go : (end : Unfetched) → FetchesSo {A = A} is_at r.machine view (tables_shown (shown_on r.machine 0) objects) (Err end) new → IfOk (refused_by end) (λ answer. FindsSo is_at m query answer new)
      go (unfetched.Refused word) fetched = finds-word word fetched
      go unfetched.Mute fetched = tt
      go unfetched.NoMemory fetched = tt

pub refusal-ends : (end : Unfetched) (result : Result Answer Unfetched) → result ≡ refused_by end → MatchResult result IsPrintable IsStopped
refusal-ends end result by = subst (λ (result : Result Answer Unfetched). MatchResult result IsPrintable IsStopped) (sym by) (go end)
  where
    go : (end : Unfetched) → MatchResult (refused_by end) IsPrintable IsStopped
    go (unfetched.Refused word) = tt
    go unfetched.Mute = tt
    go unfetched.NoMemory = tt

pub refusal-leaves : {L : Type 0} (A : Type 0) (is_live : L → Bool) (faults : L → ℕ) (old new : L) (end : Unfetched) (result : Result Answer Unfetched) → result ≡ refused_by end → EndsFetching {A = A} is_live faults (Err end) old new
    → EndsFetching is_live faults result old new
refusal-leaves A is_live faults old new end result by ends = subst (λ (result : Result Answer Unfetched). EndsFetching is_live faults result old new) (sym by) (go end ends)
  where
    go : (end : Unfetched) → EndsFetching {A = A} is_live faults (Err end) old new → EndsFetching is_live faults (refused_by end) old new
    go (unfetched.Refused word) ends = ends
    go unfetched.Mute ends = ends
    go unfetched.NoMemory ends = ends
