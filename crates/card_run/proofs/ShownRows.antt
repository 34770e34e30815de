-- What a load counts and shows is what its lines do.
use Rattle.std.proofs.Common.{◌≡◌, ℕ, ◌+◌, nat_lt, Bool, true, false, List, [], ◌∷◌, ◌++◌, length, map, Option, refl, sym, ap, ◌∙◌, arith, length-append, cond}
use Rattle.std.proofs.lemmas.Bool.Decides.{nat_tests}
use Rattle.std.proofs.lemmas.List.{map-append}
use Rattle.eeprom.specs.Chip.{Chip}
use Rattle.eeprom.proofs.InOrder.{count_by-cons}
use Rattle.scql_model.specs.Lines.{state_after}
use Rattle.script.specs.Line.{statement_of}
use Rattle.planner.specs.StatementLines.{TerminalState, statement_lines}
use Rattle.terminal.specs.Load.{closings, filling_lines, insert_line, insert_lines, is_refused, next_number}
use Rattle.terminal.specs.Quiet.{closing_in}
use Rattle.card_run.specs.declared.progress.Progress.{Progress}
use Rattle.card_run.specs.Loading.{CarriesOut, IsIn, Loader}
use Rattle.person.specs.Showing.{Shows}
use Rattle.card_run.specs.Progress.{refusals_in}
use Rattle.card_run.specs.Watching.{PassesRows, none_yet, passed_text, with_row}
use Rattle.card_run.proofs.InsertedRows.{insert-next, number_after}
use Rattle.card_run.proofs.LoadedLines.{closings-then}
use Rattle.card_run.proofs.Watching.{none-passed, row-passed}

-- a line was refused where one more refusal is counted
line-refused : {B : Type 0} (chip : B → Chip) (faults : B → ℕ) (line : List ℕ) (state : TerminalState) (old new : Loader B) → CarriesOut chip faults (line ∷ []) old new → IsIn chip state old
    → nat_lt old.refused new.refused ≡ is_refused (closing_in state (statement_of line))
line-refused chip faults line state old new carried sits =
    let counted = carried.refused state sits in
    let one = count_by-cons is_refused (closing_in state (statement_of line)) [] in
    told (is_refused (closing_in state (statement_of line))) (omega (arith, counted, one))
  where
    told : (refused : Bool) → new.refused ≡ old.refused + cond refused 1 0 → nat_lt old.refused new.refused ≡ refused
    told true is = grind (arith, nat_tests)
    told false is = grind (arith, nat_tests)

-- so it is row after row
rows-refused : {B : Type 0} (chip : B → Chip) (faults : B → ℕ) (i seed : ℕ) (line : List ℕ) (state : TerminalState) (old mid new : Loader B) (refusals : List Bool) (refused : Bool) → line ≡ insert_line (1 + i) (next_number (number_after i seed))
    → CarriesOut chip faults (insert_lines i 1 seed) old mid → CarriesOut chip faults (line ∷ []) mid new → refused ≡ nat_lt mid.refused new.refused → length refusals ≡ i
    → IsIn chip (state_after statement_lines state (filling_lines 0 seed)) old → refusals ≡ refusals_in state seed (length refusals) → refusals ++ refused ∷ [] ≡ refusals_in state seed (length (refusals ++ refused ∷ []))
rows-refused chip faults i seed line state old mid new refusals refused is first second counted count sits so_far =
    let began : TerminalState = state_after statement_lines state (filling_lines 0 seed) in
    let rows : List (List ℕ) = insert_lines i 1 seed in
    let there : TerminalState = state_after statement_lines began rows in
    let one : refused ≡ is_refused (closing_in there (statement_of line)) = counted ∙ line-refused chip faults line there mid new second (first.at began sits) in
    let more : insert_lines (i + 1) 1 seed ≡ rows ++ line ∷ [] = insert-next i 1 seed ∙ ap (λ (l : List ℕ). rows ++ l ∷ []) (sym is) in
    let longer : length (refusals ++ refused ∷ []) ≡ i + 1 = length-append refusals (refused ∷ []) ∙ ap (λ (n : ℕ). n + 1) count in
    let all : refusals_in state seed (i + 1) ≡ refusals_in state seed i ++ is_refused (closing_in there (statement_of line)) ∷ [] =
    ap (λ (lines : List (List ℕ)). map is_refused (closings began lines)) more
    ∙ (ap (map is_refused) (closings-then began rows (line ∷ [])) ∙ map-append is_refused (closings began rows) (closings there (line ∷ []))) in
    ap (λ (front : List Bool). front ++ refused ∷ []) (so_far ∙ ap (refusals_in state seed) count)
    ∙ (ap (λ (r : Bool). refusals_in state seed i ++ r ∷ []) one ∙ (sym all ∙ ap (refusals_in state seed) (sym longer)))

-- no row
pub passes-none : {P : Type 0} (lost : P → Bool) (shown : P → Option (List ℕ)) (seed : ℕ) (begins : TerminalState → Type 0) (progress : Progress) (person : P) → progress ≡ none_yet → PassesRows lost shown seed 0 begins progress person person
passes-none lost shown seed begins progress person is = record {
  refusals = [];
  so_many = refl;
  shows = rw is (none-passed lost shown person);
  refused = λ state began. refl;
}

-- and a row more
pub passes-row : {B P : Type 0} (lost : P → Bool) (shown : P → Option (List ℕ)) (chip : B → Chip) (faults : B → ℕ) (i seed value before : ℕ) (line : List ℕ) (old mid new : Loader B) (refused : Bool) (so_far progress : Progress) (person between after : P)
    → line ≡ insert_line (i + 1) value → value ≡ next_number before → before ≡ number_after i seed → CarriesOut chip faults (insert_lines i 1 seed) old mid → CarriesOut chip faults (line ∷ []) mid new → refused ≡ nat_lt mid.refused new.refused
    → PassesRows lost shown seed i (λ state. IsIn chip (state_after statement_lines state (filling_lines 0 seed)) old) so_far person between → progress ≡ with_row refused so_far → Shows lost shown (passed_text progress) between after
    → PassesRows lost shown seed (i + 1) (λ state. IsIn chip (state_after statement_lines state (filling_lines 0 seed)) old) progress person after
passes-row lost shown chip faults i seed value before line old mid new refused so_far progress person between after spelled follows at first second counted passes is shows =
    let same_key : i + 1 ≡ 1 + i = omega arith in
    let row : line ≡ insert_line (1 + i) (next_number (number_after i seed)) = spelled ∙ (ap (insert_line (i + 1)) (follows ∙ ap next_number at) ∙ ap (λ (n : ℕ). insert_line n (next_number (number_after i seed))) same_key) in
    record {
      refusals = passes.refusals ++ refused ∷ [];
      so_many = length-append passes.refusals (refused ∷ []) ∙ ap (λ (n : ℕ). n + 1) passes.so_many;
      shows = row-passed lost shown passes.refusals refused so_far progress person between after passes.shows is shows;
      refused = λ state began. rows-refused chip faults i seed line state old mid new passes.refusals refused row first second counted passes.so_many began (passes.refused state began);
    }

-- of a load that begins earlier
pub passes-from : {P : Type 0} (lost : P → Bool) (shown : P → Option (List ℕ)) (seed count : ℕ) (begins earlier : TerminalState → Type 0) (progress : Progress) (person after : P) → ((state : TerminalState) → earlier state → begins state)
    → PassesRows lost shown seed count begins progress person after → PassesRows lost shown seed count earlier progress person after
passes-from lost shown seed count begins earlier progress person after from passes = record {
  refusals = passes.refusals;
  so_many = passes.so_many;
  shows = passes.shows;
  refused = λ state began. passes.refused state (from state began);
}
