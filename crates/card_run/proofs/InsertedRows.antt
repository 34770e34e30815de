-- The lines of a load that insert rows.
use Rattle.std.proofs.Common.{◌≡◌, ℕ, zero, suc, ◌+◌, ◌-◌, ◌<◌, ◌≤◌, List, [], ◌∷◌, ◌++◌, length, refl, sym, ap, subst, ◌∙◌, arith}
use Rattle.eeprom.specs.Chip.{Chip}
use Rattle.terminal.specs.Load.{insert_line, insert_lines, next_number}
use Rattle.card_run.specs.Loading.{CarriesOut, FailsAmong, Loader}
use Rattle.card_run.proofs.LoadedLines.{carries-then, fails-first, fails-then}

-- the number that follows one so many steps on
abbrev pub number_after : ℕ → ℕ → ℕ
number_after zero x = x
number_after (suc count) x = number_after count (next_number x)

pub number-next : (count x : ℕ) → number_after (count + 1) x ≡ next_number (number_after count x)
number-next count x =
    let same : suc count ≡ count + 1 = omega arith in
    subst (λ (n : ℕ). number_after n x ≡ next_number (number_after count x)) same (go count x)
  where
    go : (count x : ℕ) → number_after (suc count) x ≡ next_number (number_after count x)
    go zero x = refl
    go (suc count) x = go count (next_number x)

insert-then : (i j key x : ℕ) → insert_lines (i + j) key x ≡ insert_lines i key x ++ insert_lines j (key + i) (number_after i x)
insert-then zero j key x =
    let none : 0 + j ≡ j = omega arith in
    let here : key ≡ key + 0 = omega arith in
    ap (λ (n : ℕ). insert_lines n key x) none ∙ ap (λ (n : ℕ). insert_lines j n x) here
insert-then (suc i) j key x =
    let longer : suc i + j ≡ suc (i + j) = omega arith in
    let later : key + 1 + i ≡ key + suc i = omega arith in
    ap (λ (n : ℕ). insert_lines n key x) longer
    ∙ ap (λ (rest : List (List ℕ)). insert_line key (next_number x) ∷ rest)
    (insert-then i j (key + 1) (next_number x) ∙ ap (λ (n : ℕ). insert_lines i (key + 1) (next_number x) ++ insert_lines j n (number_after i (next_number x))) later)

pub insert-next : (i key x : ℕ) → insert_lines (i + 1) key x ≡ insert_lines i key x ++ insert_line (key + i) (next_number (number_after i x)) ∷ []
insert-next i key x = insert-then i 1 key x

length-insert : (count key x : ℕ) → length (insert_lines count key x) ≡ count
length-insert zero key x = refl
length-insert (suc count) key x = let rest = length-insert count (key + 1) (next_number x) in omega (arith, rest)

-- one more row
pub inserts-next : {B : Type 0} (chip : B → Chip) (faults : B → ℕ) (i x before value : ℕ) (line : List ℕ) (old mid new : Loader B) → line ≡ insert_line (i + 1) value → value ≡ next_number before → before ≡ number_after i x → CarriesOut chip faults (insert_lines i 1 x) old mid
    → CarriesOut chip faults (line ∷ []) mid new → CarriesOut chip faults (insert_lines (i + 1) 1 x) old new
inserts-next chip faults i x before value line old mid new spelled follows at first second =
    let is : line ≡ insert_line (i + 1) (next_number (number_after i x)) = spelled ∙ ap (λ (n : ℕ). insert_line (i + 1) n) (follows ∙ ap next_number at) in
    let same_key : i + 1 ≡ 1 + i = omega arith in
    let same : insert_lines i 1 x ++ line ∷ [] ≡ insert_lines (i + 1) 1 x =
    ap (λ (line : List ℕ). insert_lines i 1 x ++ line ∷ []) (is ∙ ap (λ (n : ℕ). insert_line n (next_number (number_after i x))) same_key) ∙ sym (insert-next i 1 x) in
    subst (λ (lines : List (List ℕ)). CarriesOut chip faults lines old new) same (carries-then chip faults (insert_lines i 1 x) (line ∷ []) old mid new first second)

-- or the card fails in one
pub inserts-fail : {B : Type 0} (chip : B → Chip) (faults : B → ℕ) (rows i x before value : ℕ) (line : List ℕ) (old mid new : Loader B) → i < rows → line ≡ insert_line (i + 1) value → value ≡ next_number before → before ≡ number_after i x → CarriesOut chip faults (insert_lines i 1 x) old mid
    → FailsAmong chip faults (line ∷ []) mid new → FailsAmong chip faults (insert_lines rows 1 x) old new
inserts-fail chip faults rows i x before value line old mid new more spelled follows at first fails =
    let is : line ≡ insert_line (i + 1) (next_number (number_after i x)) = spelled ∙ ap (λ (n : ℕ). insert_line (i + 1) n) (follows ∙ ap next_number at) in
    let rest = insert_lines (rows - (i + 1)) (1 + (i + 1)) (number_after (i + 1) x) in
    let same_key : i + 1 ≡ 1 + i = omega arith in
    let front : insert_lines i 1 x ++ line ∷ [] ≡ insert_lines (i + 1) 1 x =
    ap (λ (line : List ℕ). insert_lines i 1 x ++ line ∷ []) (is ∙ ap (λ (n : ℕ). insert_line n (next_number (number_after i x))) same_key) ∙ sym (insert-next i 1 x) in
    let whole : (i + 1) + (rows - (i + 1)) ≡ rows = omega (arith, more) in
    let all : insert_lines (i + 1) 1 x ++ rest ≡ insert_lines rows 1 x = sym (insert-then (i + 1) (rows - (i + 1)) 1 x) ∙ ap (λ (n : ℕ). insert_lines n 1 x) whole in
    subst (λ (lines : List (List ℕ)). FailsAmong chip faults lines old new) (ap (λ (front : List (List ℕ)). front ++ rest) front ∙ all)
    (fails-first chip faults (insert_lines i 1 x ++ line ∷ []) rest old new (fails-then chip faults (insert_lines i 1 x) (line ∷ []) old mid new first fails))

-- no more were refused than were carried out
pub few-inserted : {B : Type 0} (chip : B → Chip) (faults : B → ℕ) (i x : ℕ) (old new : Loader B) → CarriesOut chip faults (insert_lines i 1 x) old new → new.refused ≤ old.refused + i
few-inserted chip faults i x old new carried = omega (arith, carried.most, length-insert i 1 x)
