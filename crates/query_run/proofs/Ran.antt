-- A run over lines of queries: what it printed, and how it ended.
use Rattle.std.proofs.Common.{◌≡◌, ℕ, ◌||◌, Bool, true, false, List, [], ◌∷◌, ◌++◌, Option, refl, sym, ◌∙◌, ap, subst}
use Rattle.eeprom.specs.Chip.{Becomes, Chip}
use Rattle.eeprom.specs.Output.{Prints}
use Rattle.scql_model.specs.Lines.{line_step, line_text, lines, run_text, state_after, taken_line}
use Rattle.scql_model.specs.Machine.{Machine}
use Rattle.scql_model.specs.Shown.{shown_on}
use Rattle.line_input.specs.declared.input.InputEnd.{InputEnd}
use Rattle.line_input.specs.declared.input.InputEnd.TheVariants as ends
use Rattle.line_input.specs.Reading.{CountsSource}
use Rattle.line_run.specs.declared.line_stop.LineStop.{LineStop}
use Rattle.line_run.specs.declared.line_stop.LineStop.TheVariants as stops
use Rattle.line_run.specs.Causes.{CausesEnd}
use Rattle.line_run.specs.Extent.{RunsInput}
use Rattle.program.specs.declared.status.Status.{Status}
use Rattle.program.specs.declared.status.Status.TheVariants.{NotACard, TooLong}
use Rattle.program.specs.Numbers.{ends_as, status_at, status_of}
use Rattle.program.proofs.Ended.{ends-whole, input-causes, said-done}
use Rattle.query_run.specs.QueryLines.{Asking, asked_refused, asked_text, asked_texts, query_lines, some_refused}
use Rattle.program.specs.Ends.{EndsBy, reads_all}
use Rattle.query_run.specs.Running.{PrintsQueries}

-- No line changes what later ones are answered from.
texts-asked : (m : Machine) (refused : Bool) (lines : List (List ℕ)) → run_text query_lines (record { machine = m; refused = refused }) lines ≡ asked_texts (shown_on m 0) lines
unfolding line_text line_step
texts-asked m refused [] = refl
texts-asked m refused (line ∷ lines) = ap (λ (text : List ℕ). asked_text (shown_on m 0) (taken_line line) ++ text) (texts-asked m (refused || asked_refused (shown_on m 0) (taken_line line)) lines)

or-then : (a b c : Bool) → (a || b) || c ≡ a || (b || c)
or-then true b c = refl
or-then false b c = refl

or-false : (a : Bool) → a || false ≡ a
or-false true = refl
or-false false = refl

refused-asked : (m : Machine) (refused : Bool) (lines : List (List ℕ)) → (state_after query_lines (record { machine = m; refused = refused }) lines).refused ≡ refused || some_refused (shown_on m 0) lines
unfolding line_step
refused-asked m refused [] = sym (or-false refused)
refused-asked m refused (line ∷ lines) =
    refused-asked m (refused || asked_refused (shown_on m 0) (taken_line line)) lines ∙ or-then refused (asked_refused (shown_on m 0) (taken_line line)) (some_refused (shown_on m 0) lines)

-- it read its input to its end
pub ends-all : (end : InputEnd LineStop) (refused : Bool) (status : Status) → status ≡ status_at end refused → reads_all status ≡ true → end ≡ ends.Ended
ends-all end refused status is whole = ends-whole end refused (subst (λ (s : Status). reads_all s ≡ true) is whole)

stop-short : (stop : LineStop) → status_of stop ≡ TooLong → ⊥
stop-short stops.Eeprom is = absurd cc
stop-short stops.Outlet is = absurd cc
stop-short stops.Both is = absurd cc
stop-short stops.NoMemory is = absurd cc

ended-short : (refused : Bool) → ends_as refused ≡ TooLong → ⊥
ended-short true is = absurd cc
ended-short false is = absurd cc

pub ends-long : (end : InputEnd LineStop) (refused : Bool) → status_at end refused ≡ TooLong → end ≡ ends.TooLong
ends-long ends.Ended refused is = absurd (ended-short refused is)
ends-long ends.ReadFault refused is = absurd cc
ends-long ends.TooLong refused is = refl
ends-long (ends.Stopped stop) refused is = absurd (stop-short stop is)

-- and said the texts of its lines
pub prints-queries : {X : Type 0} (chip : X → Chip) (eeprom : X → ℕ) (at : Asking → Type 0) (m : Machine) (end : InputEnd LineStop) (refused : Bool) (status : Status) (start now : Option (List ℕ)) (old new : X) → end ≡ ends.Ended → status ≡ status_at end refused
    → ((asking : Asking) → at asking → refused ≡ asking.refused)
    → Becomes (λ (input left : List ℕ). RunsInput chip eeprom query_lines (record { machine = m; refused = false }) end input left old new) start now
    → (end ≡ ends.Ended → Becomes (λ (input left : List ℕ). at (state_after query_lines (record { machine = m; refused = false }) (lines input true))) start now)
    → Becomes (λ (input left : List ℕ). PrintsQueries m input status (chip old).still.given (chip new).still.given) start now
prints-queries chip eeprom at m end refused status start now old new done is tells runs reached = λ left told.
    let ran = runs left told in
    let last = reached done left told in
    let same : last.0 ≡ ran.0 = cc (last.1, ran.1) in
    let input = ran.0 in
    let state : Asking = record { machine = m; refused = false } in
    let finished : RunsInput chip eeprom query_lines state ends.Ended input left old new = subst (λ (end : InputEnd LineStop). RunsInput chip eeprom query_lines state end input left old new) done ran.2 in
    let there : at (state_after query_lines state (lines input true)) = subst (λ (input : List ℕ). at (state_after query_lines state (lines input true))) same last.2 in (
      input,
      ran.1,
      record {
        printed = subst (λ (text : List ℕ). Prints text (chip old).still.given (chip new).still.given)
            (ap (run_text query_lines state) finished.are_taken ∙ texts-asked m false (lines input true)) (said-done chip eeprom query_lines state finished.taken finished.extent old new finished.ends finished.runs);
        tells = is ∙ (ap (λ (end : InputEnd LineStop). status_at end refused) done ∙ ap ends_as (tells (state_after query_lines state (lines input true)) there ∙ refused-asked m false (lines input true)));
      },
    )

-- How the counts of faults move.
pub ends-by : (end : InputEnd LineStop) (refused : Bool) (status : Status) (a b c d s t : ℕ) → status ≡ status_at end refused → CausesEnd end (record { eeprom = a; outlet = c }) (record { eeprom = b; outlet = d }) → CountsSource end s t
    → EndsBy status (record { eeprom = a; source = s; outlet = c }) (record { eeprom = b; source = t; outlet = d })
ends-by end refused status a b c d s t is causes counts =
    subst (λ (status : Status). EndsBy status (record { eeprom = a; source = s; outlet = c }) (record { eeprom = b; source = t; outlet = d })) (sym is) (input-causes end refused a b c d s t causes counts)

-- its card was opened
pub ends-opened : (end : InputEnd LineStop) (refused : Bool) → status_at end refused ≡ NotACard → ⊥
ends-opened ends.Ended true is = absurd cc
ends-opened ends.Ended false is = absurd cc
ends-opened ends.ReadFault refused is = absurd cc
ends-opened ends.TooLong refused is = absurd cc
ends-opened (ends.Stopped stops.Eeprom) refused is = absurd cc
ends-opened (ends.Stopped stops.Outlet) refused is = absurd cc
ends-opened (ends.Stopped stops.Both) refused is = absurd cc
ends-opened (ends.Stopped stops.NoMemory) refused is = absurd cc
