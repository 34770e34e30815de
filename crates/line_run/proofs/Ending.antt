-- What a run owes that ended so, by what is told of the lines that were handed to its responder.
use Rattle.std.proofs.Common.{◌≡◌, inl, inr, ℕ, ◌<◌, ◌≤◌, Bool, true, false, List, [], ◌∷◌, ◌++◌, length, take, Option, Result, Ok, Err, refl, sym, ap, subst, ◌∙◌, arith, length-append}
use Rattle.std.proofs.lemmas.Bool.{ne_eqb}
use Rattle.std.proofs.Math.Seq.{take-append_seam}
use Rattle.std.specs.Prelude.{map, OnOk, IfErr, IsErrOf}
use Rattle.eeprom.specs.Chip.{Chip, Becomes}
use Rattle.scql_model.specs.Heard.{IsLawful}
use Rattle.scql_model.specs.Lines.{Language, line_effect, lines, run_text, state_after, taken_line}
use Rattle.line_input.specs.declared.input.InputEnd.{InputEnd}
use Rattle.line_input.specs.declared.input.InputEnd.TheVariants.{Ended, ReadFault, TooLong, Stopped}
use Rattle.line_input.specs.Cutting.{open_end, is_empty_line}
use Rattle.line_input.specs.Reading.{IsCutShort, IsRead, longest_input}
use Rattle.line_input.proofs.CutLines.{is_empty_line-taken_line, lines-line_feed, lines-open}
use Rattle.line_run.specs.declared.line_stop.LineStop.{LineStop}
use Rattle.line_run.specs.declared.line_stop.LineStop.TheVariants.{Eeprom, Outlet, Both, NoMemory}
use Rattle.line_run.specs.Answering.{Answered, Failed, OpensToState}
use Rattle.line_run.specs.Answers.{AnswersLines, AreAnswered, StopsInLine}
use Rattle.line_run.specs.AnswersLaws.{Prints-then, answers-one, told-before}
use Rattle.line_run.specs.Causes.{Causes, CausesEnd, CausesStop, Faults}
use Rattle.line_run.specs.Extent.{CountsAt, Runs, RunsInput, stopped_in, to_end}
use Rattle.line_run.proofs.Keeping.{kept-answered_all, kept-stopped}

-- Answers, one line after another.

-- what a call tells of a line that it answered
pub told-answered : {R S : Type 0} (L : Language S) (is_at : R → S → Type 0) (is_ready : R → Type 0) (chip : R → Chip) (faults : R → Faults) (goes_on : R → R → Type 0) (taken : Option (List ℕ)) (old new : R) (result : Result (Unit {0}) LineStop)
    → ((state : S) → is_at old state → OnOk result (Answered L state (L.effect state taken) (is_at new) (chip old) (chip new))) → OnOk result (is_ready new) → Causes (faults old) (faults new) result → goes_on old new
    → OnOk result (AnswersLines L is_at is_ready chip faults goes_on old (taken ∷ []) new)
told-answered {R} {S} L is_at is_ready chip faults goes_on taken old new (Ok x) answered ready causes goes = record {
  ready = ready;
  quiet = causes.quiet;
  leads = goes;
  from = λ state lines is same. one state lines is same;
}
  where
    one : (state : S) (lines : List (List ℕ)) → is_at old state → map taken_line lines ≡ taken ∷ [] → AreAnswered L state lines (is_at new) (chip old) (chip new)
    one state [] is same = absurd cc
    one state (line ∷ []) is same =
        let taken_is : taken ≡ taken_line line = cc in
        answers-one L state line (is_at new) (chip old) (chip new) (subst (λ (t : Option (List ℕ)). Answered L state (L.effect state t) (is_at new) (chip old) (chip new)) taken_is (answered state is))
    one state (line ∷ other ∷ lines) is same = absurd cc
told-answered L is_at is_ready chip faults goes_on taken old new (Err stop) answered ready causes goes = tt

-- and of one in which it stopped
pub told-stopped : {R S : Type 0} (L : Language S) (is_at : R → S → Type 0) (chip : R → Chip) (faults : R → Faults) (takes_memory : Bool) (goes_on : R → R → Type 0) (taken : Option (List ℕ)) (old new : R) (result : Result (Unit {0}) LineStop)
    → ((state : S) → is_at old state → IfErr result (λ (stop : LineStop). Failed stop L state (L.effect state taken) (chip old) (chip new))) → Causes (faults old) (faults new) result → (IsErrOf result NoMemory → takes_memory ≡ true) → goes_on old new
    → IfErr result (λ (stop : LineStop). StopsInLine L is_at chip faults takes_memory goes_on old taken stop new)
told-stopped L is_at chip faults takes_memory goes_on taken old new (Ok x) failed causes memory goes = tt
told-stopped L is_at chip faults takes_memory goes_on taken old new (Err stop) failed causes memory goes = record { causes = causes; memory = λ is. memory (ap Err is); leads = goes; failed = failed }

-- Runs.

-- all of some lines were answered
runs-ended : {S : Type 0} (L : Language S) (lawful : IsLawful L) (state : S) (lines : List (List ℕ)) (at : S → Type 0) (old new : Chip) → OpensToState L at new → AreAnswered L state lines at old new → Runs L state lines to_end old new
runs-ended L lawful state lines at old new over answered = record {
  within = tt;
  text = (run_text L state lines, refl, answered.text);
  image = over (state_after L state lines) answered.at;
  moments = λ told. kept-answered_all L lawful state lines old new (answered.moments told);
}

-- or the run stopped in one behind them
runs-stopped : {S : Type 0} (L : Language S) (lawful : IsLawful L) (state : S) (stop : LineStop) (before : List (List ℕ)) (line : List ℕ) (rest all : List (List ℕ)) (at : S → Type 0) (old mid new : Chip) → all ≡ before ++ line ∷ rest
    → AreAnswered L state before at old mid → Failed stop L (state_after L state before) (line_effect L (state_after L state before) line) mid new → Runs L state all (stopped_in stop before line) old new
runs-stopped L lawful state stop before line rest all at old mid new split answered failed = record {
  within = (rest, split);
  text = (
    run_text L state before ++ failed.fails.said,
    (failed.fails.said, failed.fails.says, refl),
    Prints-then (run_text L state before) failed.fails.said old.still.given mid.still.given new.still.given answered.text failed.fails.given,
  );
  image = failed.fails.image;
  moments = λ told.
      kept-stopped L lawful stop state before line rest all old mid new split (answered.moments (told-before failed.fails.said mid.still.given new.still.given failed.fails.given told)) (failed.moments told);
}

-- at a stop the EEPROM's count is the one that its cause tells
counts-at : (stop : LineStop) (old new : Faults) → CausesStop stop old new → CountsAt stop old.eeprom new.eeprom
counts-at Eeprom old new causes = causes.eeprom refl
counts-at Outlet old new causes = causes.eeprom_stays refl
counts-at Both old new causes = (causes.both refl).0
counts-at NoMemory old new causes = ap (λ (f : Faults). f.eeprom) (causes.both_stay refl)

-- an octet stands in the line that has begun
some-begun : (line : List ℕ) → 0 < length line → is_empty_line (taken_line line) ≡ false
some-begun line some = is_empty_line-taken_line line ∙ ne_eqb (length line) 0 (omega (arith, some))

-- The octets behind which a run stopped are those before a line of the whole input.
stopped-cut : (octets input left : List ℕ) → IsCutShort octets input left → (rest : List (List ℕ)) × (lines input true ≡ lines octets false ++ open_end octets ∷ rest)
stopped-cut octets input left (inl ended) = ([], ap (λ (x : List ℕ). lines x true) ended.0 ∙ lines-open octets (some-begun (open_end octets) ended.2))
stopped-cut octets input left (inr fed) =
    (lines (fed.0 ++ left) true, ap (λ (x : List ℕ). lines x true) fed.1 ∙ lines-line_feed octets (fed.0 ++ left) true)

-- the longest input that is taken is the first octets of a longer one
longest-taken : (octets input more : List ℕ) → length octets ≡ longest_input → input ≡ octets ++ more → take longest_input input ≡ octets
longest-taken octets input more long is = ap (take longest_input) is ∙ (ap (λ (k : ℕ). take k (octets ++ more)) (sym long) ∙ take-append_seam octets more)

-- The responder's states are those of what hands lines to it.
pub read-runs : {A R S : Type 0} (of : A → R) (L : Language S) (lawful : IsLawful L) (is_at : R → S → Type 0) (is_ready : R → Type 0) (chip : R → Chip) (faults : R → Faults) (takes_memory : Bool) (goes_on : R → R → Type 0) (end : InputEnd LineStop) (old new : A) (start now : Option (List ℕ))
    → ((r : R) → is_ready r → OpensToState L (is_at r) (chip r))
    → IsRead (λ a lines b. AnswersLines L is_at is_ready chip faults goes_on (of a) lines (of b)) (λ a line stop b. StopsInLine L is_at chip faults takes_memory goes_on (of a) line stop (of b)) end old new start now
    → (state : S) → is_at (of old) state → Becomes (λ input left. RunsInput chip (λ r. (faults r).eeprom) L state end input left (of old) (of new)) start now
read-runs of L lawful is_at is_ready chip faults takes_memory goes_on Ended old new start now over read state is = λ left told.
    let b = read.3 left told in
    let all = read.1 in (
      b.0,
      b.1,
      record {
        taken = lines read.0 true;
        are_taken = ap (λ (x : List ℕ). lines x true) (sym b.2.0);
        extent = to_end;
        ends = (tt, ap (λ (f : Faults). f.eeprom) all.quiet);
        runs = runs-ended L lawful state (lines read.0 true) (is_at (of new)) (chip (of old)) (chip (of new)) (over (of new) all.ready) (all.from state (lines read.0 true) is refl);
      },
    )
read-runs of L lawful is_at is_ready chip faults takes_memory goes_on ReadFault old new start now over read state is = λ left told.
    let b = read.3 left told in
    let all = read.1 in (
      b.0,
      b.1,
      record {
        taken = lines read.0 false;
        are_taken = (read.0, b.2, refl);
        extent = to_end;
        ends = (tt, ap (λ (f : Faults). f.eeprom) all.quiet);
        runs = runs-ended L lawful state (lines read.0 false) (is_at (of new)) (chip (of old)) (chip (of new)) (over (of new) all.ready) (all.from state (lines read.0 false) is refl);
      },
    )
read-runs of L lawful is_at is_ready chip faults takes_memory goes_on TooLong old new start now over read state is = λ left told.
    let b = read.3 left told in
    let all = read.1 in (
      b.0,
      b.1,
      record {
        taken = lines read.0 false;
        are_taken = ap (λ (x : List ℕ). lines x false) (sym (longest-taken read.0 b.0 (b.2.0 ++ left) read.2 b.2.1));
        extent = to_end;
        ends = (tt, ap (λ (f : Faults). f.eeprom) all.quiet);
        runs = runs-ended L lawful state (lines read.0 false) (is_at (of new)) (chip (of old)) (chip (of new)) (over (of new) all.ready) (all.from state (lines read.0 false) is refl);
      },
    )
read-runs of L lawful is_at is_ready chip faults takes_memory goes_on (Stopped stop) old new start now over read state is = λ left told.
    let b = read.3 left told in
    let in_line = read.1 in
    let before : List (List ℕ) = lines read.0 false in
    let here = in_line.answered.from state before is refl in
    let cut = stopped-cut read.0 b.0 left b.2 in (
      b.0,
      b.1,
      record {
        taken = lines b.0 true;
        are_taken = refl;
        extent = stopped_in stop before (open_end read.0);
        ends = (
          refl,
          of in_line.mid,
          record { quiet = ap (λ (f : Faults). f.eeprom) in_line.answered.quiet; text = here.text; image = over (of in_line.mid) in_line.answered.ready (state_after L state before) here.at },
          counts-at stop (faults (of in_line.mid)) (faults (of new)) in_line.stopped.causes,
        );
        runs = runs-stopped L lawful state stop before (open_end read.0) cut.0 (lines b.0 true) (is_at (of in_line.mid)) (chip (of old)) (chip (of in_line.mid)) (chip (of new)) cut.1 here
            (in_line.stopped.failed (state_after L state before) here.at);
      },
    )

-- a run that was read to its end is at the state after all lines
pub read-at : {A R S : Type 0} (of : A → R) (L : Language S) (is_at : R → S → Type 0) (is_ready : R → Type 0) (chip : R → Chip) (faults : R → Faults) (takes_memory : Bool) (goes_on : R → R → Type 0) (end : InputEnd LineStop) (old new : A) (start now : Option (List ℕ))
    → IsRead (λ a lines b. AnswersLines L is_at is_ready chip faults goes_on (of a) lines (of b)) (λ a line stop b. StopsInLine L is_at chip faults takes_memory goes_on (of a) line stop (of b)) end old new start now
    → (state : S) → is_at (of old) state → end ≡ Ended → Becomes (λ input left. is_at (of new) (state_after L state (lines input true))) start now
read-at of L is_at is_ready chip faults takes_memory goes_on Ended old new start now read state is ended = λ left told.
    let b = read.3 left told in
    (b.0, b.1, subst (λ (input : List ℕ). is_at (of new) (state_after L state (lines input true))) (sym b.2.0) (read.1.from state (lines read.0 true) is refl).at)
read-at of L is_at is_ready chip faults takes_memory goes_on ReadFault old new start now read state is ended = absurd cc
read-at of L is_at is_ready chip faults takes_memory goes_on TooLong old new start now read state is ended = absurd cc
read-at of L is_at is_ready chip faults takes_memory goes_on (Stopped stop) old new start now read state is ended = absurd cc

-- it took the whole input
pub read-whole : {A E : Type 0} (answers : A → List (Option (List ℕ)) → A → Type 0) (stops : A → Option (List ℕ) → E → A → Type 0) (end : InputEnd E) (old new : A) (start now : Option (List ℕ)) → IsRead answers stops end old new start now
    → end ≡ Ended → Becomes (λ input left. (left ≡ []) × (length input ≤ longest_input)) start now
read-whole answers stops Ended old new start now read ended = λ left told.
    let b = read.3 left told in
    (b.0, b.1, (b.2.1, subst (λ (input : List ℕ). length input ≤ longest_input) (sym b.2.0) read.2))
read-whole answers stops ReadFault old new start now read ended = absurd cc
read-whole answers stops TooLong old new start now read ended = absurd cc
read-whole answers stops (Stopped stop) old new start now read ended = absurd cc

-- or more came than is taken
pub read-longer : {A E : Type 0} (answers : A → List (Option (List ℕ)) → A → Type 0) (stops : A → Option (List ℕ) → E → A → Type 0) (end : InputEnd E) (old new : A) (start now : Option (List ℕ)) → IsRead answers stops end old new start now
    → end ≡ TooLong → Becomes (λ input left. longest_input < length input) start now
read-longer answers stops TooLong old new start now read long = λ left told.
    let b = read.3 left told in
    (b.0, b.1, omega (arith, read.2, ap length b.2.1, length-append read.0 (b.2.0 ++ left), length-append b.2.0 left, b.2.2))
read-longer answers stops Ended old new start now read long = absurd cc
read-longer answers stops ReadFault old new start now read long = absurd cc
read-longer answers stops (Stopped stop) old new start now read long = absurd cc

-- Causes, and what lines keep.

causes-then : (stop : LineStop) (old mid new : Faults) → mid ≡ old → CausesStop stop mid new → CausesStop stop old new
causes-then stop old mid new same causes = subst (λ (f : Faults). CausesStop stop f new) same causes

pub read-causes : {A R S : Type 0} (of : A → R) (L : Language S) (is_at : R → S → Type 0) (is_ready : R → Type 0) (chip : R → Chip) (faults : R → Faults) (takes_memory : Bool) (goes_on : R → R → Type 0) (end : InputEnd LineStop) (old new : A) (start now : Option (List ℕ))
    → IsRead (λ a lines b. AnswersLines L is_at is_ready chip faults goes_on (of a) lines (of b)) (λ a line stop b. StopsInLine L is_at chip faults takes_memory goes_on (of a) line stop (of b)) end old new start now
    → CausesEnd end (faults (of old)) (faults (of new))
read-causes of L is_at is_ready chip faults takes_memory goes_on Ended old new start now read = read.1.quiet
read-causes of L is_at is_ready chip faults takes_memory goes_on ReadFault old new start now read = read.1.quiet
read-causes of L is_at is_ready chip faults takes_memory goes_on TooLong old new start now read = read.1.quiet
read-causes of L is_at is_ready chip faults takes_memory goes_on (Stopped stop) old new start now read =
    causes-then stop (faults (of old)) (faults (of read.1.mid)) (faults (of new)) read.1.answered.quiet read.1.stopped.causes

pub read-memory : {A R S : Type 0} (of : A → R) (L : Language S) (is_at : R → S → Type 0) (is_ready : R → Type 0) (chip : R → Chip) (faults : R → Faults) (takes_memory : Bool) (goes_on : R → R → Type 0) (end : InputEnd LineStop) (old new : A) (start now : Option (List ℕ))
    → IsRead (λ a lines b. AnswersLines L is_at is_ready chip faults goes_on (of a) lines (of b)) (λ a line stop b. StopsInLine L is_at chip faults takes_memory goes_on (of a) line stop (of b)) end old new start now
    → end ≡ Stopped NoMemory → takes_memory ≡ true
read-memory of L is_at is_ready chip faults takes_memory goes_on (Stopped stop) old new start now read is = read.1.stopped.memory cc
read-memory of L is_at is_ready chip faults takes_memory goes_on Ended old new start now read is = absurd cc
read-memory of L is_at is_ready chip faults takes_memory goes_on ReadFault old new start now read is = absurd cc
read-memory of L is_at is_ready chip faults takes_memory goes_on TooLong old new start now read is = absurd cc

pub read-goes_on : {A R S : Type 0} (of : A → R) (L : Language S) (is_at : R → S → Type 0) (is_ready : R → Type 0) (chip : R → Chip) (faults : R → Faults) (takes_memory : Bool) (goes_on : R → R → Type 0) (end : InputEnd LineStop) (old new : A) (start now : Option (List ℕ))
    → ((old mid new : R) → is_ready mid → goes_on old mid → goes_on mid new → goes_on old new)
    → IsRead (λ a lines b. AnswersLines L is_at is_ready chip faults goes_on (of a) lines (of b)) (λ a line stop b. StopsInLine L is_at chip faults takes_memory goes_on (of a) line stop (of b)) end old new start now
    → goes_on (of old) (of new)
read-goes_on of L is_at is_ready chip faults takes_memory goes_on Ended old new start now both read = read.1.leads
read-goes_on of L is_at is_ready chip faults takes_memory goes_on ReadFault old new start now both read = read.1.leads
read-goes_on of L is_at is_ready chip faults takes_memory goes_on TooLong old new start now both read = read.1.leads
read-goes_on of L is_at is_ready chip faults takes_memory goes_on (Stopped stop) old new start now both read =
    both (of old) (of read.1.mid) (of new) read.1.answered.ready read.1.answered.leads read.1.stopped.leads
