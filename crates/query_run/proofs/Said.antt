-- Texts that are printed one after another, and where the outlet fails in one.
use Rattle.std.proofs.Common.{Vec, Global, ◌≡◌, ℕ, suc, ◌+◌, ◌≤◌, ◌<◌, Bool, List, [], ◌∷◌, ◌++◌, length, map, take, drop, get_or, take-append-drop, Option, Some, Result, Ok, Err, IfSome, refl, sym, ◌∙◌, ap, subst, arith, add-one, append_assoc, append-nil, zero, ◌-◌}
use Rattle.std.specs.Prelude.{OnErr, OnOk, slice_get}
use Rattle.std.specs.List.{concat}
use Rattle.std.proofs.Math.Seq.{take-length, take-suc}
use Rattle.std.proofs.lemmas.List.{map-append, length-map}
use Rattle.std.proofs.lemmas.List.Folds.{concat-append}
use Rattle.eeprom.specs.Chip.{Chip}
use Rattle.eeprom.specs.Fault.{Counts, Rose}
use Rattle.eeprom.specs.Output.{Follows, Prints}
use Rattle.scql_model.specs.Machine.{Machine}
use Rattle.scql_model.specs.Matching.{Values}
use Rattle.scql_model.specs.Opens.{Opens}
use Rattle.card_link.specs.Link.{HoldsWithin}
use Rattle.card_asking.proofs.Moments.{leaves-all, leaves-both, leaves-none}
use Rattle.planner.specs.declared.closing.Closing.TheVariants as closings
use Rattle.planner.specs.Text.{closing_text, row_text, value_text, values_text}
use Rattle.row_join.specs.declared.column.Column.{Column}
use Rattle.row_join.specs.declared.combination.Combination.{Combination as Places}
use Rattle.row_join.specs.declared.fetched.Fetched.{Fetched}
use Rattle.row_join.specs.Joins.{Combination, value_at, values_at}
use Rattle.row_join.specs.Places.{all_rows, rows_of}
use Rattle.query.specs.Asked.{Asked}
use Rattle.terminal.specs.Printed.{lead}
use Rattle.terminal.proofs.RowTexts.{text-next}
use Rattle.terminal.proofs.Went.{prints-both, prints-none, start-of}
use Rattle.query_run.specs.declared.answer.Answer.{Answer}
use Rattle.query_run.specs.declared.answer.Answer.TheVariants.{Rows}
use Rattle.query_run.specs.Answers.{found_text}
use Rattle.query_run.specs.Printing.{Cuts, Leads, Says}
use Rattle.query_run.specs.QueryText.{row_texts}

module _ {L : Type 0} {is_at : L → Machine → Type 0} {is_live : L → Bool} {faults mark : L → ℕ} {chip : L → Chip} {goes_on : L → L → Type 0} where
  leads-then : (old mid new : L) → (goes_on old mid → goes_on mid new → goes_on old new) → Leads is_at is_live faults mark chip goes_on old mid → Leads is_at is_live faults mark chip goes_on mid new
      → Leads is_at is_live faults mark chip goes_on old new
  leads-then old mid new goes first second = record {
    gives = record {
      machine = λ m at. second.gives.machine m (first.gives.machine m at);
      live = second.gives.live ∙ first.gives.live;
      faults = second.gives.faults ∙ first.gives.faults;
      later = omega (arith, first.gives.later, second.gives.later);
      moments = λ m at.
          leaves-both chip (HoldsWithin (mark old) (mark new) m.committed) old mid new
          (leaves-all chip (HoldsWithin (mark old) (mark mid) m.committed) (HoldsWithin (mark old) (mark new) m.committed) old mid (λ g left is. record { above = is.above; below = omega (arith, is.below, second.gives.later); same = is.same })
          (first.gives.moments m at))
          (leaves-all chip (HoldsWithin (mark mid) (mark new) m.committed) (HoldsWithin (mark old) (mark new) m.committed) mid new (λ g left is. record { above = omega (arith, is.above, first.gives.later); below = is.below; same = is.same })
          (second.gives.moments m (first.gives.machine m at)));
    };
    goes = goes first.goes second.goes;
  }

  pub leads-none : (l : L) → goes_on l l → mark l ≡ (chip l).still.mark → ((m : Machine) → is_at l m → IfSome (chip l).image (λ image. Opens image m.committed)) → Leads is_at is_live faults mark chip goes_on l l
  leads-none l goes marks opens = record {
    gives = record {
      machine = λ m at. at;
      live = refl;
      faults = refl;
      later = omega arith;
      moments = λ m at. leaves-none chip mark (HoldsWithin (mark l) (mark l) m.committed) l m.committed marks (opens m at) (record { above = omega arith; below = omega arith; same = refl });
    };
    goes = goes;
  }

  module _ {given : L → Option (List ℕ)} {sink_faults : L → ℕ} where
    pub says-none : (l : L) → Leads is_at is_live faults mark chip goes_on l l → Says given sink_faults (Leads is_at is_live faults mark chip goes_on) [] l l
    says-none l led = record { printed = prints-none (given l) (given l) refl; same = refl; led = led }

    pub says-then : (a b : List ℕ) (old mid new : L) → (goes_on old mid → goes_on mid new → goes_on old new) → Says given sink_faults (Leads is_at is_live faults mark chip goes_on) a old mid
        → Says given sink_faults (Leads is_at is_live faults mark chip goes_on) b mid new → Says given sink_faults (Leads is_at is_live faults mark chip goes_on) (a ++ b) old new
    says-then a b old mid new goes first second = record {
      printed = prints-both a b (given old) (given mid) (given new) first.printed second.printed;
      same = second.same ∙ first.same;
      led = leads-then old mid new goes first.led second.led;
    }

    pub says-is : (a b : List ℕ) (old new : L) → b ≡ a → Says given sink_faults (Leads is_at is_live faults mark chip goes_on) a old new → Says given sink_faults (Leads is_at is_live faults mark chip goes_on) b old new
    says-is a b old new is said = record { printed = subst (λ (text : List ℕ). Prints text (given old) (given new)) (sym is) said.printed; same = said.same; led = said.led }

    -- behind a text that was printed, in a piece of a longer one
    pub cuts-then : (a b rest whole : List ℕ) (old mid new : L) → (goes_on old mid → goes_on mid new → goes_on old new) → whole ≡ (a ++ b) ++ rest → Says given sink_faults (Leads is_at is_live faults mark chip goes_on) a old mid
        → Cuts given sink_faults (Leads is_at is_live faults mark chip goes_on) b mid new → Cuts given sink_faults (Leads is_at is_live faults mark chip goes_on) whole old new
    cuts-then a b rest whole old mid new goes is first second = record {
      start = record {
        said = a ++ second.start.said;
        rest = second.start.rest ++ rest;
        start = is
            ∙ (ap (λ (piece : List ℕ). (a ++ piece) ++ rest) second.start.start
            ∙ (ap (λ (text : List ℕ). text ++ rest) (sym (append_assoc a second.start.said second.start.rest)) ∙ append_assoc (a ++ second.start.said) second.start.rest rest));
        printed = prints-both a second.start.said (given old) (given mid) (given new) first.printed second.start.printed;
      };
      rose = subst (λ (n : ℕ). Rose n (sink_faults new)) first.same second.rose;
      later = subst (λ (n : ℕ). n ≤ sink_faults new) first.same second.later;
      led = leads-then old mid new goes first.led second.led;
    }

    -- so at its beginning
    pub cuts-longer : (a rest whole : List ℕ) (old new : L) → whole ≡ a ++ rest → Cuts given sink_faults (Leads is_at is_live faults mark chip goes_on) a old new → Cuts given sink_faults (Leads is_at is_live faults mark chip goes_on) whole old new
    cuts-longer a rest whole old new is cut = record {
      start = record {
        said = cut.start.said;
        rest = cut.start.rest ++ rest;
        start = is ∙ (ap (λ (text : List ℕ). text ++ rest) cut.start.start ∙ append_assoc cut.start.said cut.start.rest rest);
        printed = cut.start.printed;
      };
      rose = cut.rose;
      later = cut.later;
      led = cut.led;
    }

-- Texts of lists, with one more.

-- lines one after another
abbrev pub lines_of : {X : Type 0} → (X → List ℕ) → List X → List ℕ
lines_of text xs = concat (map text xs)

lines-next : {X : Type 0} (text : X → List ℕ) (xs : List X) (i : ℕ) (d : X) → i < length xs → lines_of text (take (i + 1) xs) ≡ lines_of text (take i xs) ++ text (get_or xs i d)
lines-next text xs i d within =
    rw add-one
    (ap (lines_of text) (take-suc xs i d within)
    ∙ (ap concat (map-append text (take i xs) (get_or xs i d ∷ []))
    ∙ (concat-append (map text (take i xs)) (text (get_or xs i d) ∷ []) ∙ ap (λ (line : List ℕ). lines_of text (take i xs) ++ line) (append-nil (text (get_or xs i d))))))

lines-split : {X : Type 0} (text : X → List ℕ) (xs : List X) (i : ℕ) → lines_of text xs ≡ lines_of text (take i xs) ++ lines_of text (drop i xs)
lines-split text xs i = ap (lines_of text) (sym (take-append-drop i xs)) ∙ (ap concat (map-append text (take i xs) (drop i xs)) ∙ concat-append (map text (take i xs)) (map text (drop i xs)))

-- the line of a combination by its places
abbrev line_at : Asked → List (List Values) → Places → List ℕ
line_at query tables combination = row_text (values_at query.selected (rows_of tables combination.places))

rows-lines : (query : Asked) (tables : List (List Values)) (combinations : List Places) → row_texts query (all_rows tables combinations) ≡ lines_of (line_at query tables) combinations
rows-lines query tables [] = refl
rows-lines query tables (combination ∷ rest) = ap (λ (text : List ℕ). line_at query tables combination ++ text) (rows-lines query tables rest)

-- one combination more
pub rows-next : (query : Asked) (tables : List (List Values)) (combinations : List Places) (i : ℕ) (d : Places) (selected : List Column) → selected ≡ query.selected → i < length combinations
    → row_texts query (all_rows tables (take (i + 1) combinations)) ≡ row_texts query (all_rows tables (take i combinations)) ++ row_text (values_at selected (rows_of tables (get_or combinations i d).places))
rows-next query tables combinations i d selected is within =
    rows-lines query tables (take (i + 1) combinations)
    ∙ (lines-next (line_at query tables) combinations i d within
    ∙ (ap (λ (text : List ℕ). text ++ line_at query tables (get_or combinations i d)) (sym (rows-lines query tables (take i combinations)))
    ∙ ap (λ (columns : List Column). row_texts query (all_rows tables (take i combinations)) ++ row_text (values_at columns (rows_of tables (get_or combinations i d).places))) (sym is)))

pub rows-split : (query : Asked) (tables : List (List Values)) (combinations : List Places) (i : ℕ) (d : Places) (selected : List Column) → selected ≡ query.selected → i < length combinations
    → row_texts query (all_rows tables combinations)
    ≡ (row_texts query (all_rows tables (take i combinations)) ++ row_text (values_at selected (rows_of tables (get_or combinations i d).places))) ++ row_texts query (all_rows tables (drop (i + 1) combinations))
rows-split query tables combinations i d selected is within =
    rows-lines query tables combinations
    ∙ (lines-split (line_at query tables) combinations (i + 1)
    ∙ (ap (λ (text : List ℕ). text ++ lines_of (line_at query tables) (drop (i + 1) combinations)) (sym (rows-lines query tables (take (i + 1) combinations)) ∙ rows-next query tables combinations i d selected is within)
    ∙ ap
    (λ (text : List ℕ). (row_texts query (all_rows tables (take i combinations)) ++ row_text (values_at selected (rows_of tables (get_or combinations i d).places))) ++ text)
    (sym (rows-lines query tables (drop (i + 1) combinations)))))

-- Values in a row.

get-value : (columns : List Column) (rows : Combination) (i : ℕ) (d : Column) → i < length columns → slice_get (values_at columns rows) i ≡ Some (value_at rows (get_or columns i d))
get-value [] rows i d within = absurd (omega (arith, within))
get-value (first ∷ columns) rows zero d within = refl
get-value (first ∷ columns) rows (suc i) d within = get-value columns rows i d (omega (arith, within))

-- so much of a row's text
abbrev pub begun : List Column → Combination → ℕ → List ℕ
begun columns rows i = values_text (take i (values_at columns rows))

pub values-next : (columns : List Column) (rows : Combination) (i : ℕ) (d : Column) (value : List ℕ) → i < length columns → value ≡ value_at rows (get_or columns i d)
    → begun columns rows (i + 1) ≡ (begun columns rows i ++ lead i) ++ value_text value
values-next columns rows i d value within is =
    text-next (values_at columns rows) i value (get-value columns rows i d within ∙ ap Some (sym is)) ∙ sym (append_assoc (begun columns rows i) (lead i) (value_text value))

some-value : (row : Values) (i : ℕ) → i < length row → (value : List ℕ) × (slice_get row i ≡ Some value)
some-value [] i within = absurd (omega (arith, within))
some-value (value ∷ row) zero within = (value, refl)
some-value (value ∷ row) (suc i) within = some-value row i (omega (arith, within))

text-begins : (row : Values) (k i : ℕ) → i + k ≡ length row → (rest : List ℕ) × (values_text row ≡ values_text (take i row) ++ rest)
text-begins row zero i is =
    let e : i ≡ length row = omega (arith, is) in
    ([], ap values_text (sym (take-length row) ∙ ap (λ (n : ℕ). take n row) (sym e)) ∙ sym (append-nil (values_text (take i row))))
text-begins row (suc k) i is =
    let at = some-value row i (omega (arith, is)) in
    let more = text-begins row k (i + 1) (omega (arith, is)) in
    ((lead i ++ value_text at.0) ++ more.0, more.1 ∙ (ap (λ (front : List ℕ). front ++ more.0) (text-next row i at.0 at.1) ∙ append_assoc (values_text (take i row)) (lead i ++ value_text at.0) more.0))

-- a row's text begins with that of its first values
pub values-split : (columns : List Column) (rows : Combination) (i : ℕ) (d : Column) (value : List ℕ) → i < length columns → value ≡ value_at rows (get_or columns i d)
    → (rest : List ℕ) × (values_text (values_at columns rows) ≡ ((begun columns rows i ++ lead i) ++ value_text value) ++ rest)
values-split columns rows i d value within is =
    let size = length-map columns (value_at rows) in
    let more = text-begins (values_at columns rows) (length columns - (i + 1)) (i + 1) (omega (arith, within, size)) in
    (more.0, more.1 ∙ ap (λ (front : List ℕ). front ++ more.0) (values-next columns rows i d value within is))

pub values-all : (columns : List Column) (rows : Combination) (i : ℕ) → i ≡ length columns → begun columns rows i ≡ values_text (values_at columns rows)
values-all columns rows i is =
    let e : i ≡ length (values_at columns rows) = omega (arith, is, length-map columns (value_at rows)) in
    ap values_text (ap (λ (n : ℕ). take n (values_at columns rows)) e ∙ take-length (values_at columns rows))

-- what is printed of combinations
pub found-rows : (query : Asked) (answer : Answer) (tables : Vec Fetched Global) (combinations : Vec Places Global) (ts : List (List Values)) (cs : List Places) (number : ℕ) (text : List ℕ) → answer ≡ Rows tables combinations → ts ≡ tables.items
    → cs ≡ combinations.items → number ≡ length combinations.items → text ≡ closing_text (closings.Rows number) → found_text query answer ≡ row_texts query (all_rows ts cs) ++ text
found-rows query answer tables combinations ts cs number text is first second count closes =
    ap (found_text query) is
    ∙ (ap (λ (ts : List (List Values)). row_texts query (all_rows ts combinations.items) ++ closing_text (closings.Rows (length combinations.items))) (sym first)
    ∙ (ap (λ (cs : List Places). row_texts query (all_rows ts cs) ++ closing_text (closings.Rows (length combinations.items))) (sym second)
    ∙ (ap (λ (n : ℕ). row_texts query (all_rows ts cs) ++ closing_text (closings.Rows n)) (sym count) ∙ ap (λ (t : List ℕ). row_texts query (all_rows ts cs) ++ t) (sym closes))))

pub on-err : {T E : Type 0} (r : Result T E) (P : Type 0) → P → OnErr r P
on-err (Ok x) P p = tt
on-err (Err e) P p = p

-- an outlet that fails in a piece
pub given-cuts : {L E : Type 0} (given : L → Option (List ℕ)) (sink_faults : L → ℕ) (leads : L → L → Type 0) (text : List ℕ) (r : Result (Unit {0}) E) (old new : L)
    → OnErr r ((count : ℕ) × Follows count text (given old) (given new)) → Counts (sink_faults old) (sink_faults new) r → leads old new → OnErr r (Cuts given sink_faults leads text old new)
given-cuts given sink_faults leads text (Ok x) old new went counts led = tt
given-cuts given sink_faults leads text (Err e) old new went counts led = record { start = start-of text text (given old) (given new) refl went; rose = counts.1; later = counts.0; led = led }

-- one that takes it whole
pub given-says : {L E : Type 0} (given : L → Option (List ℕ)) (sink_faults : L → ℕ) (leads : L → L → Type 0) (text : List ℕ) (r : Result (Unit {0}) E) (old new : L) → OnOk r (Follows (length text) text (given old) (given new))
    → Counts (sink_faults old) (sink_faults new) r → leads old new → OnOk r (Says given sink_faults leads text old new)
given-says given sink_faults leads text (Ok x) old new went counts led = record {
  printed = λ after told. let at = went after told in (at.0, at.1, at.2 ∙ ap (λ (piece : List ℕ). at.0 ++ piece) (take-length text));
  same = counts.1;
  led = led;
}
given-says given sink_faults leads text (Err e) old new went counts led = tt
