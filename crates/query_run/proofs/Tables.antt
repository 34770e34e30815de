-- The objects of a query that are fetched one after another.
use Rattle.std.proofs.Common.{◌≡◌, ℕ, suc, ◌+◌, ◌<◌, Bool, List, [], ◌∷◌, ◌++◌, length, map, drop, get_or, Option, Result, Ok, Err, refl, sym, ◌∙◌, ap, subst, add-one, append_assoc, append-nil, drop-cons}
use Rattle.std.specs.List.{concat}
use Rattle.std.proofs.lemmas.List.{map-append}
use Rattle.std.proofs.lemmas.List.Folds.{concat-append}
use Rattle.scql_base.specs.declared.words.StatusWord.{StatusWord}
use Rattle.scql_model.specs.Machine.{Machine}
use Rattle.scql_model.specs.Matching.{Values}
use Rattle.scql_model.specs.Refusals.{◌>>=◌}
use Rattle.scql_model.specs.Shown.{Shown, ShownObject, shown_on}
use Rattle.person.specs.Showing.{Shows}
use Rattle.person.proofs.Texts.{shows-none, shows-then}
use Rattle.query.specs.declared.query.AskedObject.{AskedObject}
use Rattle.query_run.specs.declared.unfetched.Unfetched.{Unfetched}
use Rattle.query_run.specs.declared.unfetched.Unfetched.TheVariants as unfetched
use Rattle.query_run.specs.Fetching.{FetchesSo, ReadsAs}
use Rattle.query_run.specs.Progress.{ShowsAllFetched, ShowsFetched, fetched_text, fetched_texts}
use Rattle.query_run.specs.QueryText.{rows_shown, tables_shown}

-- What is shown of an object follows from the objects that are shown.
rows-same : (s t : Shown) (asked : AskedObject) → s.objects ≡ t.objects → rows_shown s asked ≡ rows_shown t asked
rows-same s t asked same = ap (λ (objects : List ShownObject). rows_shown (record { objects = objects; cursor = s.cursor }) asked) same

pub tables-same : (s t : Shown) (objects : List AskedObject) → s.objects ≡ t.objects → tables_shown s objects ≡ tables_shown t objects
tables-same s t [] same = refl
tables-same s t (asked ∷ rest) same =
    ap (λ (shown : Result (List Values) StatusWord). shown >>= λ (rows : List Values). tables_shown s rest >>= λ (tables : List (List Values)). Ok (rows ∷ tables)) (rows-same s t asked same)
    ∙ ap (λ (shown : Result (List (List Values)) StatusWord). rows_shown t asked >>= λ (rows : List Values). shown >>= λ (tables : List (List Values)). Ok (rows ∷ tables)) (tables-same s t rest same)

-- some tables, and then others
abbrev pub behind : List (List Values) → Result (List (List Values)) StatusWord → Result (List (List Values)) StatusWord
behind tables (Ok rest) = Ok (tables ++ rest)
behind tables (Err word) = Err word

-- The tables of the first objects were fetched: what is shown of all is these, and what is shown of the others. The link reads as before.
pub record GivenSoFar {L : Type 0} (is_at : L → Machine → Type 0) (m : Machine) (objects left : List AskedObject) (tables : List (List Values)) (now : L) : Type 0 where
  pub given : tables_shown (shown_on m 0) objects ≡ behind tables (tables_shown (shown_on m 0) left)
  pub reads : ReadsAs is_at m now

behind-none : (shown : Result (List (List Values)) StatusWord) → behind [] shown ≡ shown
behind-none (Ok rest) = refl
behind-none (Err word) = refl

behind-one : (tables : List (List Values)) (rows : List Values) (shown : Result (List (List Values)) StatusWord)
    → behind tables (shown >>= λ (rest : List (List Values)). Ok (rows ∷ rest)) ≡ behind (tables ++ rows ∷ []) shown
behind-one tables rows (Ok rest) = ap Ok (sym (append_assoc tables (rows ∷ []) rest))
behind-one tables rows (Err word) = refl

behind-row : (s : Shown) (asked : AskedObject) (rest : List AskedObject) (tables : List (List Values)) (rows : List Values) → rows_shown s asked ≡ Ok rows
    → behind tables (tables_shown s (asked ∷ rest)) ≡ behind (tables ++ rows ∷ []) (tables_shown s rest)
behind-row s asked rest tables rows is =
    ap (λ (shown : Result (List Values) StatusWord). behind tables (shown >>= λ (rows : List Values). tables_shown s rest >>= λ (tables : List (List Values)). Ok (rows ∷ tables))) is
    ∙ behind-one tables rows (tables_shown s rest)

behind-word : (s : Shown) (asked : AskedObject) (rest : List AskedObject) (tables : List (List Values)) (word : StatusWord) → rows_shown s asked ≡ Err word
    → behind tables (tables_shown s (asked ∷ rest)) ≡ Err word
behind-word s asked rest tables word is =
    ap (λ (shown : Result (List Values) StatusWord). behind tables (shown >>= λ (rows : List Values). tables_shown s rest >>= λ (tables : List (List Values)). Ok (rows ∷ tables))) is

pub reads-then : {L : Type 0} (is_at : L → Machine → Type 0) (m : Machine) (old new : L) → (r : ReadsAs is_at m old) → ReadsAs is_at r.machine new → ReadsAs is_at m new
reads-then is_at m old new r next = record { machine = next.machine; at = next.at; committed = next.committed ∙ r.committed; objects = next.objects ∙ r.objects }

pub reads-same : {L : Type 0} (is_at : L → Machine → Type 0) (m : Machine) (l : L) → is_at l m → ReadsAs is_at m l
reads-same is_at m l at = record { machine = m; at = at; committed = refl; objects = refl }

pub given-none : {L : Type 0} (is_at : L → Machine → Type 0) (m : Machine) (objects : List AskedObject) (tables : List (List Values)) (l : L) → tables ≡ [] → is_at l m → GivenSoFar is_at m objects objects tables l
given-none is_at m objects tables l none at = record {
  given = sym (ap (λ (tables : List (List Values)). behind tables (tables_shown (shown_on m 0) objects)) none ∙ behind-none (tables_shown (shown_on m 0) objects));
  reads = reads-same is_at m l at;
}

module _ {L : Type 0} (is_at : L → Machine → Type 0) (m : Machine) (objects rest : List AskedObject) (asked : AskedObject) (tables : List (List Values)) (old new : L) (so_far : GivenSoFar is_at m objects (asked ∷ rest) tables old) where
  pub given-more : (rows : List Values) (after : List (List Values)) → after ≡ tables ++ rows ∷ [] → FetchesSo is_at so_far.reads.machine (λ (fetched : List Values). fetched) (rows_shown (shown_on so_far.reads.machine 0) asked) (Ok rows) new
      → GivenSoFar is_at m objects rest after new
  given-more rows after is fetches = record {
    given = so_far.given
        ∙ (behind-row (shown_on m 0) asked rest tables rows (sym (rows-same (shown_on so_far.reads.machine 0) (shown_on m 0) asked so_far.reads.objects) ∙ fetches.0)
        ∙ sym (ap (λ (tables : List (List Values)). behind tables (tables_shown (shown_on m 0) rest)) is));
    reads = reads-then is_at m old new so_far.reads fetches.1;
  }

  pub given-ended : {A : Type 0} (view : A → List (List Values)) (end : Unfetched) → FetchesSo is_at so_far.reads.machine (λ (fetched : List Values). fetched) (rows_shown (shown_on so_far.reads.machine 0) asked) (Err end) new
      → FetchesSo is_at m view (tables_shown (shown_on m 0) objects) (Err end) new
  given-ended view (unfetched.Refused word) fetches = (
    so_far.given ∙ behind-word (shown_on m 0) asked rest tables word (sym (rows-same (shown_on so_far.reads.machine 0) (shown_on m 0) asked so_far.reads.objects) ∙ fetches.0),
    reads-then is_at m old new so_far.reads fetches.1,
  )
  given-ended view unfetched.Mute fetches = tt
  given-ended view unfetched.NoMemory fetches = tt

-- at the end no object is left
pub given-all : {L : Type 0} (is_at : L → Machine → Type 0) (m : Machine) (objects left : List AskedObject) (tables : List (List Values)) (now : L) → left ≡ [] → GivenSoFar is_at m objects left tables now
    → (tables_shown (shown_on m 0) objects ≡ Ok tables) × ReadsAs is_at m now
given-all is_at m objects left tables now none so_far =
    (so_far.given ∙ (ap (λ (left : List AskedObject). behind tables (tables_shown (shown_on m 0) left)) none ∙ ap Ok (append-nil tables)), so_far.reads)

-- the objects that are left, the first of them apart
pub left-first : (objects : List AskedObject) (i : ℕ) (asked : AskedObject) → i < length objects → asked ≡ get_or objects i asked → drop i objects ≡ asked ∷ drop (i + 1) objects
left-first objects i asked within is = rw add-one (drop-cons objects i asked within ∙ ap (λ (first : AskedObject). first ∷ drop (suc i) objects) (sym is))

-- What is shown.
texts-more : (counts : List ℕ) (n : ℕ) → fetched_texts (counts ++ n ∷ []) ≡ fetched_texts counts ++ fetched_text n
texts-more counts n =
    ap concat (map-append fetched_text counts (n ∷ [])) ∙ (concat-append (map fetched_text counts) (fetched_text n ∷ []) ∙ ap (λ (text : List ℕ). fetched_texts counts ++ text) (append-nil (fetched_text n)))

module _ {P : Type 0} (lost : P → Bool) (shown : P → Option (List ℕ)) where
  pub none-fetched : (tables : List (List Values)) (person : P) → tables ≡ [] → Shows lost shown (fetched_texts (map length tables)) person person
  none-fetched tables person none = subst (λ (tables : List (List Values)). Shows lost shown (fetched_texts (map length tables)) person person) (sym none) (shows-none lost shown person)

  shown-more : (counts : List ℕ) (n : ℕ) (a b c : P) → Shows lost shown (fetched_texts counts) a b → Shows lost shown (fetched_text n) b c → Shows lost shown (fetched_texts (counts ++ n ∷ [])) a c
  shown-more counts n a b c first second =
      subst (λ (text : List ℕ). Shows lost shown text a c) (sym (texts-more counts n)) (shows-then lost shown (fetched_texts counts) (fetched_text n) a b c first second)

  pub table-shown : (tables after : List (List Values)) (rows : List Values) (a b c : P) → after ≡ tables ++ rows ∷ [] → Shows lost shown (fetched_texts (map length tables)) a b
      → ShowsFetched lost shown (λ (fetched : List Values). fetched) (Ok rows) b c → Shows lost shown (fetched_texts (map length after)) a c
  table-shown tables after rows a b c is first second =
      subst (λ (counts : List ℕ). Shows lost shown (fetched_texts counts) a c)
      (ap (λ (n : ℕ). map length tables ++ n ∷ []) (sym second.counted) ∙ (sym (map-append length tables (rows ∷ [])) ∙ ap (map length) (sym is)))
      (shown-more (map length tables) second.count a b c first second.shows)

  pub ended-shown : {A : Type 0} (view : A → List (List Values)) (end : Unfetched) (tables : List (List Values)) (a b c : P) → Shows lost shown (fetched_texts (map length tables)) a b
      → ShowsFetched lost shown (λ (fetched : List Values). fetched) (Err end) b c → ShowsAllFetched lost shown view (Err end) a c
  ended-shown view end tables a b c first second = record { counts = map length tables ++ second.count ∷ []; counted = tt; shows = shown-more (map length tables) second.count a b c first second.shows }

  -- there was no memory for a table that was fetched
  pub fetched-unadded : {A : Type 0} (view : A → List (List Values)) (tables : List (List Values)) (rows : List Values) (a b c : P) → Shows lost shown (fetched_texts (map length tables)) a b
      → ShowsFetched lost shown (λ (fetched : List Values). fetched) (Ok rows) b c → ShowsAllFetched lost shown view (Err unfetched.NoMemory) a c
  fetched-unadded view tables rows a b c first second = record { counts = map length tables ++ second.count ∷ []; counted = tt; shows = shown-more (map length tables) second.count a b c first second.shows }
