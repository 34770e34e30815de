-- What a load shows, line after line.
use Rattle.std.proofs.Common.{◌≡◌, ℕ, ◌+◌, ◌%◌, ◌==◌, nat_le, Bool, true, false, List, [], ◌∷◌, ◌++◌, length, Option, Some, None, refl, sym, ap, subst, ◌∙◌, arith, append-nil, append_assoc, length-append, cond}
use Rattle.std.specs.Prelude.{not, if◌then◌else◌}
use Rattle.std.proofs.lemmas.List.Sums.{sum_by-append}
use Rattle.eeprom.proofs.InOrder.{count_by-cons}
use Rattle.card_run.specs.declared.progress.Progress.{Progress}
use Rattle.card_run.specs.Progress.{Reached, has_line, inserted_among, progress_line, progress_text, reached_text, rows_text}
use Rattle.card_run.specs.Watching.{HasShown, counted_of, ended_text, none_yet, passed_text, standing_text, with_row}
use Rattle.person.specs.Showing.{Shows}
use Rattle.person.proofs.Texts.{shows-none, shows-then}

-- Row after row.

-- what is shown of a row behind so many that were passed and inserted
abbrev row_text : ℕ → ℕ → Bool → List ℕ
row_text passed inserted refused = if (passed + 1) % 16 == 0 then progress_line (inserted + (if refused then 0 else 1)) 0 0 else []

-- a row that wasn't refused counts
abbrev one : Bool → ℕ
one refused = if refused then 0 else 1

one-inserted : (refused : Bool) → cond (not refused) 1 0 ≡ one refused
one-inserted true = refl
one-inserted false = refl

rows-more : (passed inserted p i : ℕ) (refusals : List Bool) (refused : Bool) → p ≡ passed + length refusals → i ≡ inserted + inserted_among refusals
    → rows_text passed inserted (refusals ++ refused ∷ []) ≡ rows_text passed inserted refusals ++ row_text p i refused
rows-more passed inserted p i [] refused is_passed is_inserted =
    let same_passed : passed ≡ p = omega (arith, is_passed) in
    let same_inserted : inserted ≡ i = omega (arith, is_inserted) in
    append-nil (row_text passed inserted refused) ∙ rw (same_passed, same_inserted) refl
rows-more passed inserted p i (first ∷ refusals) refused is_passed is_inserted =
    let counted = count_by-cons not first refusals in
    let is_one = one-inserted first in
    ap (λ (rest : List ℕ). row_text passed inserted first ++ rest)
    (rows-more (passed + 1) (inserted + one first) p i refusals refused (omega (arith, is_passed)) (omega (arith, is_inserted, counted, is_one)))
    ∙ sym (append_assoc (row_text passed inserted first) (rows_text (passed + 1) (inserted + one first) refusals) (row_text p i refused))

-- what a load is counted to have shown that passed rows alone
only-rows : (refusals : List Bool) → reached_text (record { refusals = refusals; changed = None; deleted = None }) ≡ rows_text 0 0 refusals
only-rows refusals = none (nat_le 16 (length refusals))
  where
    none : (stands : Bool) → rows_text 0 0 refusals ++ (if stands then [] else []) ≡ rows_text 0 0 refusals
    none true = append-nil (rows_text 0 0 refusals)
    none false = append-nil (rows_text 0 0 refusals)

same-progress : (p q i j : ℕ) → p ≡ q → i ≡ j
    → (let first : Progress = record { passed = p; inserted = i; changed = 0; deleted = 0 } in let second : Progress = record { passed = q; inserted = j; changed = 0; deleted = 0 } in first ≡ second)
same-progress p q i j same_passed same_inserted = rw (same_passed, same_inserted) refl

pub none-passed : {P : Type 0} (lost : P → Bool) (shown : P → Option (List ℕ)) (person : P) → HasShown lost shown (record { refusals = []; changed = None; deleted = None }) none_yet person person
none-passed lost shown person = record { counts = refl; shows = subst (λ (text : List ℕ). Shows lost shown text person person) (sym (only-rows [])) (shows-none lost shown person) }

pub row-passed : {P : Type 0} (lost : P → Bool) (shown : P → Option (List ℕ)) (refusals : List Bool) (refused : Bool) (before after : Progress) (a b c : P) → HasShown lost shown (record { refusals = refusals; changed = None; deleted = None }) before a b
    → after ≡ with_row refused before → Shows lost shown (passed_text after) b c → HasShown lost shown (record { refusals = refusals ++ refused ∷ []; changed = None; deleted = None }) after a c
row-passed lost shown refusals refused before after a b c has is shows =
    let reached : Reached = record { refusals = refusals; changed = None; deleted = None } in
    let counted : after ≡ with_row refused (counted_of reached) = is ∙ ap (with_row refused) has.counts in
    let passed : length refusals + 1 ≡ length (refusals ++ refused ∷ []) = sym (length-append refusals (refused ∷ [])) in
    let more : inserted_among (refusals ++ refused ∷ []) ≡ inserted_among refusals + inserted_among (refused ∷ []) = sum_by-append (λ (r : Bool). cond (not r) 1 0) refusals (refused ∷ []) in
    let last = count_by-cons not refused [] in
    let is_one = one-inserted refused in
    let inserted : inserted_among refusals + (if refused then 0 else 1) ≡ inserted_among (refusals ++ refused ∷ []) = omega (arith, more, last, is_one) in
    record {
      counts = counted ∙ same-progress (length refusals + 1) (length (refusals ++ refused ∷ [])) (inserted_among refusals + (if refused then 0 else 1)) (inserted_among (refusals ++ refused ∷ [])) passed inserted;
      shows = subst (λ (text : List ℕ). Shows lost shown text a c)
          (ap (λ (text : List ℕ). text ++ row_text (length refusals) (inserted_among refusals) refused) (only-rows refusals)
          ∙ (sym (rows-more 0 0 (length refusals) (inserted_among refusals) refusals refused (omega arith) (omega arith)) ∙ sym (only-rows (refusals ++ refused ∷ []))))
          (shows-then lost shown (reached_text reached) (row_text (length refusals) (inserted_among refusals) refused) a b c has.shows (subst (λ (progress : Progress). Shows lost shown (passed_text progress) b c) counted shows));
    }

-- What follows the rows.

pub changed-passed : {P : Type 0} (lost : P → Bool) (shown : P → Option (List ℕ)) (refusals : List Bool) (rows : ℕ) (before after : Progress) (a b c : P) → HasShown lost shown (record { refusals = refusals; changed = None; deleted = None }) before a b
    → after ≡ record before { changed = rows } → Shows lost shown (standing_text after) b c → HasShown lost shown (record { refusals = refusals; changed = Some rows; deleted = None }) after a c
changed-passed lost shown refusals rows before after a b c has is shows =
    let reached : Reached = record { refusals = refusals; changed = None; deleted = None } in
    let next : Reached = record { refusals = refusals; changed = Some rows; deleted = None } in
    let counted : after ≡ counted_of next = is ∙ ap (λ (progress : Progress). record progress { changed = rows }) has.counts in
    record {
      counts = counted;
      shows = subst (λ (text : List ℕ). Shows lost shown text a c) (ap (λ (text : List ℕ). text ++ standing_text (counted_of next)) (only-rows refusals))
          (shows-then lost shown (reached_text reached) (standing_text (counted_of next)) a b c has.shows (subst (λ (progress : Progress). Shows lost shown (standing_text progress) b c) counted shows));
    }

both-lines : (stands : Bool) (rows first second : List ℕ) → (rows ++ (if stands then first else [])) ++ (if stands then second else []) ≡ rows ++ (if stands then first ++ second else [])
both-lines true rows first second = append_assoc rows first second
both-lines false rows first second = append-nil (rows ++ [])

pub deleted-passed : {P : Type 0} (lost : P → Bool) (shown : P → Option (List ℕ)) (refusals : List Bool) (changed rows : ℕ) (before after : Progress) (a b c : P) → HasShown lost shown (record { refusals = refusals; changed = Some changed; deleted = None }) before a b
    → after ≡ record before { deleted = rows } → Shows lost shown (standing_text after) b c → HasShown lost shown (record { refusals = refusals; changed = Some changed; deleted = Some rows }) after a c
deleted-passed lost shown refusals changed rows before after a b c has is shows =
    let reached : Reached = record { refusals = refusals; changed = Some changed; deleted = None } in
    let next : Reached = record { refusals = refusals; changed = Some changed; deleted = Some rows } in
    let counted : after ≡ counted_of next = is ∙ ap (λ (progress : Progress). record progress { deleted = rows }) has.counts in
    record {
      counts = counted;
      shows = subst (λ (text : List ℕ). Shows lost shown text a c)
          (both-lines (has_line reached) (rows_text 0 0 refusals) (progress_line (inserted_among refusals) changed 0) (progress_line (inserted_among refusals) changed rows))
          (shows-then lost shown (reached_text reached) (standing_text (counted_of next)) a b c has.shows (subst (λ (progress : Progress). Shows lost shown (standing_text progress) b c) counted shows));
    }

-- and at last the line is ended
pub load-ended : {P : Type 0} (lost : P → Bool) (shown : P → Option (List ℕ)) (reached : Reached) (progress : Progress) (a b c : P) → HasShown lost shown reached progress a b → Shows lost shown (ended_text progress) b c → Shows lost shown (progress_text reached) a c
load-ended lost shown reached progress a b c has shows =
    shows-then lost shown (reached_text reached) (ended_text (counted_of reached)) a b c has.shows (subst (λ (progress : Progress). Shows lost shown (ended_text progress) b c) has.counts shows)
