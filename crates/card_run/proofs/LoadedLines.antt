-- Lines that are carried out one after another, of which nothing is printed.
use Rattle.std.proofs.Common.{◌≡◌, inl, inr, ℕ, ◌+◌, ◌≤◌, List, [], ◌∷◌, ◌++◌, length, Option, Some, refl, sym, ap, subst, ◌∙◌, arith, append_assoc, append-nil, length-append, IsTrue, cond}
use Rattle.std.specs.List.{count_by}
use Rattle.std.specs.Prelude.{OnErr, OnOk, Result, Ok, Err}
use Rattle.std.proofs.lemmas.List.Sums.{sum_by-append}
use Rattle.eeprom.specs.Chip.{Chip, Still}
use Rattle.eeprom.specs.Fault.{Rose}
use Rattle.eeprom.proofs.InOrder.{count_by-cons}
use Rattle.eeprom.proofs.Moments.{throughout-weaker, throughout-same, throughout-both}
use Rattle.scql_model.specs.Database.{Database}
use Rattle.scql_model.specs.Heard.{after_commits, commits_of}
use Rattle.scql_model.specs.Lines.{line_effect, line_step, state_after, taken_line}
use Rattle.scql_model.specs.Machine.{Machine}
use Rattle.scql_model.specs.Opens.{Opens, OpensToOneOf}
use Rattle.script.specs.Line.{statement_of}
use Rattle.card_link.specs.Link.{IsOneOf, LeavesOpen}
use Rattle.card.specs.LiveCard.{IsReadyAt, LastsOn}
use Rattle.card.specs.LiveCardLaws.{lasts-same, lasts-then}
use Rattle.planner.specs.declared.closing.Closing.{Closing}
use Rattle.planner.specs.StatementLines.{TerminalState, statement_lines}
use Rattle.planner.proofs.StatementsLawful.{statements-lawful}
use Rattle.terminal.specs.Holding.{Knows, terminal_at}
use Rattle.terminal.specs.Load.{change_line, closings, delete_line, filling_lines, is_refused, load_counts, load_script, number_of, select_line}
use Rattle.terminal.specs.Quiet.{closing_in}
use Rattle.card_run.specs.Loading.{CarriesOut, FailsAmong, IsIn, IsInLines, Loader, PassesLines, refused_in}
use Rattle.card_run.proofs.Sittings.{one-opens}

-- Lines and then others.

state-then : (state : TerminalState) (xs ys : List (List ℕ)) → state_after statement_lines state (xs ++ ys) ≡ state_after statement_lines (state_after statement_lines state xs) ys
state-then state [] ys = refl
state-then state (line ∷ xs) ys = state-then (line_step statement_lines state line) xs ys

pub closings-then : (state : TerminalState) (xs ys : List (List ℕ)) → closings state (xs ++ ys) ≡ closings state xs ++ closings (state_after statement_lines state xs) ys
closings-then state [] ys = refl
closings-then state (line ∷ xs) ys = ap (λ (rest : List (Option Closing)). closing_in state (statement_of line) ∷ rest) (closings-then (line_step statement_lines state line) xs ys)

refused-then : (state : TerminalState) (xs ys : List (List ℕ)) → refused_in state (xs ++ ys) ≡ refused_in state xs + refused_in (state_after statement_lines state xs) ys
refused-then state xs ys =
    ap (λ (all : List (Option Closing)). count_by is_refused all) (closings-then state xs ys)
    ∙ sum_by-append (λ (closing : Option Closing). cond (is_refused closing) 1 0) (closings state xs) (closings (state_after statement_lines state xs) ys)

commits-then : (state : TerminalState) (xs ys : List (List ℕ)) → commits_of statement_lines state (xs ++ ys) ≡ commits_of statement_lines state xs ++ commits_of statement_lines (state_after statement_lines state xs) ys
commits-then state [] ys = refl
commits-then state (line ∷ xs) ys =
    ap (λ (rest : List Database). (line_effect statement_lines state line).commits ++ rest) (commits-then (line_step statement_lines state line) xs ys)
    ∙ sym (append_assoc (line_effect statement_lines state line).commits (commits_of statement_lines (line_step statement_lines state line) xs) (commits_of statement_lines (state_after statement_lines (line_step statement_lines state line) xs) ys))

-- the image opens to one of more databases
opens-more : (dbs more : List Database) (left : List ℕ) → OpensToOneOf dbs left → OpensToOneOf (dbs ++ more) left
opens-more [] more left none = absurd none
opens-more (db ∷ dbs) more left (inl opens) = inl opens
opens-more (db ∷ dbs) more left (inr rest) = inr (opens-more dbs more left rest)

opens-last : (db : Database) (commits more : List Database) (left : List ℕ) → OpensToOneOf (after_commits db commits (length commits) ∷ more) left → OpensToOneOf (db ∷ (commits ++ more)) left
opens-last db [] more left opens = opens
opens-last db (next ∷ commits) more left opens = inr (opens-last next commits more left opens)

opens-later : (state : TerminalState) (xs : List (List ℕ)) (more : List Database) (left : List ℕ) → OpensToOneOf ((state_after statement_lines state xs).machine.committed ∷ more) left
    → OpensToOneOf (state.machine.committed ∷ (commits_of statement_lines state xs ++ more)) left
unfolding line_step
opens-later state [] more left opens = opens
opens-later state (line ∷ xs) more left opens =
    let first = (line_effect statement_lines state line).commits in
    let rest = commits_of statement_lines (line_step statement_lines state line) xs in
    let there = opens-later (line_step statement_lines state line) xs more left opens in
    subst (λ (commits : List Database). OpensToOneOf (state.machine.committed ∷ commits) left) (sym (append_assoc first rest more))
    (opens-last state.machine.committed first (rest ++ more) left
    (subst (λ (db : Database). OpensToOneOf (db ∷ (rest ++ more)) left) (sym (statements-lawful.last state (taken_line line))) there))

-- a moment in the first of them, and in the others
in-first : (state : TerminalState) (xs ys : List (List ℕ)) (mark g : ℕ) (left : List ℕ) → IsInLines state xs mark g left → IsInLines state (xs ++ ys) mark g left
in-first state xs ys mark g left within = (
  within.0,
  subst (λ (commits : List Database). OpensToOneOf (state.machine.committed ∷ commits) left) (sym (commits-then state xs ys))
      (opens-more (state.machine.committed ∷ commits_of statement_lines state xs) (commits_of statement_lines (state_after statement_lines state xs) ys) left within.1),
)

in-others : (state : TerminalState) (xs ys : List (List ℕ)) (mark g : ℕ) (left : List ℕ) → IsInLines (state_after statement_lines state xs) ys mark g left → IsInLines state (xs ++ ys) mark g left
in-others state xs ys mark g left within = (
  within.0,
  subst (λ (commits : List Database). OpensToOneOf (state.machine.committed ∷ commits) left) (sym (commits-then state xs ys))
      (opens-later state xs (commits_of statement_lines (state_after statement_lines state xs) ys) left within.1),
)

-- What they leave.

passes-first : {B : Type 0} (chip : B → Chip) (xs ys : List (List ℕ)) (old new : Loader B) → PassesLines chip xs old new → PassesLines chip (xs ++ ys) old new
passes-first chip xs ys old new passes = record {
  still = passes.still;
  lasts = passes.lasts;
  moments = λ state sits. throughout-weaker (chip old.card.bench) (chip new.card.bench) _ _ (passes.moments state sits) (λ g left within. in-first state xs ys (chip old.card.bench).still.mark g left within);
}

passes-then : {B : Type 0} (chip : B → Chip) (xs ys : List (List ℕ)) (old mid new : Loader B) → PassesLines chip xs old mid
    → ((state : TerminalState) → IsIn chip state old → IsIn chip (state_after statement_lines state xs) mid) → PassesLines chip ys mid new → PassesLines chip (xs ++ ys) old new
passes-then chip xs ys old mid new first at second = record {
  still = second.still ∙ first.still;
  lasts = lasts-then chip old.card mid.card new.card first.lasts second.lasts;
  moments = λ state sits.
      throughout-both (chip old.card.bench) (chip mid.card.bench) (chip new.card.bench) (IsInLines state xs (chip old.card.bench).still.mark) (IsInLines (state_after statement_lines state xs) ys (chip mid.card.bench).still.mark)
      (IsInLines state (xs ++ ys) (chip old.card.bench).still.mark) (first.moments state sits) (second.moments (state_after statement_lines state xs) (at state sits))
      (λ g left within. in-first state xs ys (chip old.card.bench).still.mark g left within)
      (λ g left within. in-others state xs ys (chip old.card.bench).still.mark g left
      (subst (λ (s : Still). IsInLines (state_after statement_lines state xs) ys s.mark g left) first.still within));
}

-- no line at all
pub carries-none : {B : Type 0} (chip : B → Chip) (faults : B → ℕ) (loader : Loader B) → IsTrue loader.card.card.live
    → ((state : TerminalState) → IsIn chip state loader → (image : List ℕ) → (chip loader.card.bench).image ≡ Some image → Opens image state.machine.committed) → CarriesOut chip faults [] loader loader
carries-none chip faults loader live opens = record {
  passes = record {
    still = refl;
    lasts = lasts-same chip loader.card;
    moments = λ state sits. throughout-same (chip loader.card.bench) _ (λ image told. (refl, inl (opens state sits image told)));
  };
  live = live;
  faults_same = refl;
  most = omega arith;
  at = λ state sits. sits;
  refused = λ state sits. omega arith;
}

pub carries-then : {B : Type 0} (chip : B → Chip) (faults : B → ℕ) (xs ys : List (List ℕ)) (old mid new : Loader B) → CarriesOut chip faults xs old mid → CarriesOut chip faults ys mid new → CarriesOut chip faults (xs ++ ys) old new
carries-then chip faults xs ys old mid new first second = record {
  passes = passes-then chip xs ys old mid new first.passes first.at second.passes;
  live = second.live;
  faults_same = second.faults_same ∙ first.faults_same;
  most = omega (arith, first.most, second.most, length-append xs ys);
  at = λ state sits. subst (λ (s : TerminalState). IsIn chip s new) (sym (state-then state xs ys)) (second.at (state_after statement_lines state xs) (first.at state sits));
  refused = λ state sits. omega (arith, first.refused state sits, second.refused (state_after statement_lines state xs) (first.at state sits), refused-then state xs ys);
}

pub fails-first : {B : Type 0} (chip : B → Chip) (faults : B → ℕ) (xs ys : List (List ℕ)) (old new : Loader B) → FailsAmong chip faults xs old new → FailsAmong chip faults (xs ++ ys) old new
fails-first chip faults xs ys old new fails = record { passes = passes-first chip xs ys old new fails.passes; rose = fails.rose }

pub fails-then : {B : Type 0} (chip : B → Chip) (faults : B → ℕ) (xs ys : List (List ℕ)) (old mid new : Loader B) → CarriesOut chip faults xs old mid → FailsAmong chip faults ys mid new → FailsAmong chip faults (xs ++ ys) old new
fails-then chip faults xs ys old mid new first fails = record {
  passes = passes-then chip xs ys old mid new first.passes first.at fails.passes;
  rose = subst (λ (from : ℕ). Rose from (faults new.card.bench)) first.faults_same fails.rose;
}

-- One line.

-- what a terminal says of the state that it holds
pub quiet-state : (state : TerminalState) (channel : ℕ) → channel ≡ state.channel → terminal_at state.machine channel ≡ state
quiet-state state channel same = ap (λ (n : ℕ). terminal_at state.machine n) same

pub passes-line : {B : Type 0} (chip : B → Chip) (line : List ℕ) (old new : Loader B) → LastsOn chip old.card new.card → (chip new.card.bench).still ≡ (chip old.card.bench).still
    → ((m : Machine) → IsReadyAt old.card.card (chip old.card.bench) m → Knows old.terminal.transaction m
    → LeavesOpen (IsOneOf (chip old.card.bench).still.mark (m.committed ∷ (line_effect statement_lines (terminal_at m old.terminal.channel) line).commits)) (chip old.card.bench) (chip new.card.bench))
    → PassesLines chip (line ∷ []) old new
passes-line chip line old new lasts still moments = record {
  still = still;
  lasts = lasts;
  moments = λ state sits.
      let there = subst (λ (s : TerminalState). LeavesOpen (IsOneOf (chip old.card.bench).still.mark (state.machine.committed ∷ (line_effect statement_lines s line).commits)) (chip old.card.bench) (chip new.card.bench))
      (quiet-state state old.terminal.channel sits.channel) (moments state.machine sits.at sits.knows) in
      throughout-weaker (chip old.card.bench) (chip new.card.bench) _ _ there (λ g left opens.
      let one = one-opens (chip old.card.bench).still.mark g (state.machine.committed ∷ (line_effect statement_lines state line).commits) left opens.0 opens.1 opens.2 in (
        one.0,
        subst (λ (commits : List Database). OpensToOneOf (state.machine.committed ∷ commits) left) (sym (append-nil (line_effect statement_lines state line).commits)) one.1,
      ));
}

pub carries-line : {B : Type 0} (chip : B → Chip) (faults : B → ℕ) (line : List ℕ) (closing : Option Closing) (old new : Loader B) → PassesLines chip (line ∷ []) old new → IsTrue old.card.card.live → new.card.card.live ≡ old.card.card.live
    → faults new.card.bench ≡ faults old.card.bench
    → ((m : Machine) → IsReadyAt old.card.card (chip old.card.bench) m → Knows old.terminal.transaction m
    → (closing_in (terminal_at m old.terminal.channel) (statement_of line) ≡ closing) × IsIn chip (line_effect statement_lines (terminal_at m old.terminal.channel) line).next new)
    → new.refused ≤ old.refused + 1 → new.refused ≡ old.refused + cond (is_refused closing) 1 0 → CarriesOut chip faults (line ∷ []) old new
unfolding line_step
carries-line chip faults line closing old new passes live stays same ends most counted = record {
  passes = passes;
  live = subst IsTrue (sym stays) live;
  faults_same = same;
  most = most;
  at = λ state sits. (ended state sits).1;
  refused = λ state sits.
      counted ∙ ap (λ (n : ℕ). old.refused + n)
      (ap (λ (o : Option Closing). cond (is_refused o) 1 0) (sym (ended state sits).0) ∙ one (cond (is_refused (closing_in state (statement_of line))) 1 0) ∙ sym (count_by-cons is_refused (closing_in state (statement_of line)) []));
}
  where
    ended : (state : TerminalState) → IsIn chip state old → (closing_in state (statement_of line) ≡ closing) × IsIn chip (line_effect statement_lines state line).next new
    ended state sits =
        subst (λ (s : TerminalState). (closing_in s (statement_of line) ≡ closing) × IsIn chip (line_effect statement_lines s line).next new) (quiet-state state old.terminal.channel sits.channel)
        (ends state.machine sits.at sits.knows)

    one : (n : ℕ) → n ≡ n + 0
    one n = omega arith

-- What holds however it ended, and what follows from what holds where it ended so.

pub on-err : {T E P : Type 0} (result : Result T E) → P → OnErr result P
on-err (Ok value) holds = tt
on-err (Err fault) holds = holds

pub on-ok-then : {T E P Q : Type 0} (result : Result T E) → OnOk result P → (P → Q) → OnOk result Q
on-ok-then (Ok value) holds then' = then' holds
on-ok-then (Err fault) holds then' = tt

pub on-err-then : {T E P Q : Type 0} (result : Result T E) → OnErr result P → (P → Q) → OnErr result Q
on-err-then (Ok value) holds then' = tt
on-err-then (Err fault) holds then' = then' holds

-- What is counted of a script is what the model counts.
pub counts-are : (state : TerminalState) (k seed rows changed deleted refused : ℕ)
    → (let filled = state_after statement_lines state (filling_lines k seed) in let there = line_step statement_lines filled change_line in rows ≡ number_of (closing_in (line_step statement_lines there delete_line) (statement_of select_line)))
    → (let filled = state_after statement_lines state (filling_lines k seed) in changed ≡ number_of (closing_in filled (statement_of change_line)))
    → (let filled = state_after statement_lines state (filling_lines k seed) in deleted ≡ number_of (closing_in (line_step statement_lines filled change_line) (statement_of delete_line))) → refused ≡ refused_in state (load_script k seed)
    → record { rows = rows; changed = changed; deleted = deleted; refused = refused } ≡ load_counts state k seed
counts-are state k seed rows changed deleted refused is_rows is_changed is_deleted is_refused = rw (is_rows, is_changed, is_deleted, is_refused) refl
