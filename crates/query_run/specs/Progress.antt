-- What a person is shown while rows are fetched.
use Rattle.std.specs.Prelude.{◌≡◌, ℕ, Bool, List, length, map, Option, Result, Ok, Err, codes}
use Rattle.std.specs.List.{concat}
use Rattle.person.specs.Progress.{counts_shown, progress_text}
use Rattle.person.specs.Showing.{Shows}
use Rattle.scql_model.specs.Matching.{Values}
use Rattle.query_run.specs.declared.unfetched.Unfetched.{Unfetched}

-- how many rows of an object were fetched so far
abbrev pub words : List ℕ
words = codes "fetched "

-- the line is written anew each 16 rows
abbrev pub each : ℕ
each = 16

-- so many rows, one after another
abbrev pub rows_shown : ℕ → List ℕ
rows_shown rows = counts_shown words each rows

-- so many in all
abbrev pub fetched_text : ℕ → List ℕ
fetched_text rows = progress_text words each rows

-- of each object in turn
abbrev pub fetched_texts : List ℕ → List ℕ
fetched_texts counts = concat (map fetched_text counts)

-- A person was shown how many rows of an object were fetched. Where all were fetched these are so many.
abbrev pub IsCountOf : {A : Type 0} → (A → List Values) → Result A Unfetched → ℕ → Type 0
IsCountOf rows (Ok x) count = length (rows x) ≡ count
IsCountOf rows (Err end) count = Unit {0}

pub record ShowsFetched {P A : Type 0} (lost : P → Bool) (shown : P → Option (List ℕ)) (rows : A → List Values) (r : Result A Unfetched) (person after : P) : Type 0 where
  pub count : ℕ
  pub counted : IsCountOf rows r count
  pub shows : Shows lost shown (fetched_text count) person after

-- so of several objects, in their order
abbrev pub AreCountsOf : {A : Type 0} → (A → List (List Values)) → Result A Unfetched → List ℕ → Type 0
AreCountsOf tables (Ok x) counts = map length (tables x) ≡ counts
AreCountsOf tables (Err end) counts = Unit {0}

pub record ShowsAllFetched {P A : Type 0} (lost : P → Bool) (shown : P → Option (List ℕ)) (tables : A → List (List Values)) (r : Result A Unfetched) (person after : P) : Type 0 where
  pub counts : List ℕ
  pub counted : AreCountsOf tables r counts
  pub shows : Shows lost shown (fetched_texts counts) person after
