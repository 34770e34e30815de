-- Lemmas, in specs/ since what hands lines to a responder cites them as its laws: no line leaves a responder as it is, and lines and then others are answered as all of them.
use Rattle.std.proofs.Common.{◌≡◌, inl, inr, ℕ, ◌+◌, List, [], ◌∷◌, ◌++◌, length, Option, Some, None, refl, sym, ap, subst, ◌∙◌, arith, append-nil, append_assoc, length-append}
use Rattle.std.specs.Prelude.{IsSome, is_some, map}
use Rattle.eeprom.specs.Chip.{Chip}
use Rattle.eeprom.specs.Output.{Prints}
use Rattle.eeprom.proofs.Moments.{throughout-both, throughout-same, throughout-weaker}
use Rattle.scql_model.specs.Heard.{committed_in}
use Rattle.scql_model.specs.Lines.{Language, line_effect, line_step, line_text, run_text, state_after, taken_line}
use Rattle.scql_model.specs.Opens.{Opens}
use Rattle.line_run.specs.Answering.{Answered, OpensToState}
use Rattle.line_run.specs.Answers.{AnswersLines, AreAnswered}
use Rattle.line_run.specs.Causes.{Faults}
use Rattle.line_run.specs.Moments.{IsAmong, IsInAnswered, Passes}

-- Text that goes out.

pub Prints-nothing : (given : Option (List ℕ)) → Prints [] given given
Prints-nothing given = λ all told. (all, told, sym (append-nil all))

pub Prints-then : (first second : List ℕ) (a b c : Option (List ℕ)) → Prints first a b → Prints second b c → Prints (first ++ second) a c
Prints-then first second a b c p q = λ all told.
    let later = q all told in
    let earlier = p later.0 later.1 in
    (earlier.0, earlier.1, later.2 ∙ (ap (λ (x : List ℕ). x ++ second) earlier.2 ∙ append_assoc earlier.0 first second))

-- what was given is told before where it is told now
pub told-before : (text : List ℕ) (before now : Option (List ℕ)) → Prints text before now → IsSome now → IsSome before
told-before text before None prints told = absurd cc
told-before text before (Some all) prints told = let was = prints all refl in ap is_some was.1

-- Lines and then others.

state_after-append : {S : Type 0} (L : Language S) (state : S) (first second : List (List ℕ)) → state_after L state (first ++ second) ≡ state_after L (state_after L state first) second
state_after-append L state [] second = refl
state_after-append L state (line ∷ first) second = state_after-append L (line_step L state line) first second

run_text-append : {S : Type 0} (L : Language S) (state : S) (first second : List (List ℕ)) → run_text L state (first ++ second) ≡ run_text L state first ++ run_text L (state_after L state first) second
run_text-append L state [] second = refl
run_text-append L state (line ∷ first) second =
    ap (λ (t : List ℕ). line_text L state line ++ t) (run_text-append L (line_step L state line) first second)
    ∙ sym (append_assoc (line_text L state line) (run_text L (line_step L state line) first) (run_text L (state_after L (line_step L state line) first) second))

-- the mark behind lines in two parts
mark-append : {S : Type 0} (L : Language S) (state : S) (first second : List (List ℕ)) (mark : ℕ)
    → mark + length (run_text L state first) + length (run_text L (state_after L state first) second) ≡ mark + length (run_text L state (first ++ second))
mark-append L state first second mark = omega (arith, ap length (run_text-append L state first second), length-append (run_text L state first) (run_text L (state_after L state first) second))

-- a moment among lines is one among more of them
among-longer : {S : Type 0} (L : Language S) (state : S) (first second : List (List ℕ)) (mark g : ℕ) (left : List ℕ) → IsAmong L state first mark g left → IsAmong L state (first ++ second) mark g left
among-longer L state first second mark g left (inl between) = inl (record {
  before = between.before;
  rest = between.rest ++ second;
  split = ap (λ (x : List (List ℕ)). x ++ second) between.split ∙ append_assoc between.before between.rest second;
  mark_is = between.mark_is;
  opens = between.opens;
})
among-longer L state first second mark g left (inr within) = inr (record {
  before = within.before;
  line = within.line;
  rest = within.rest ++ second;
  split = ap (λ (x : List (List ℕ)). x ++ second) within.split ∙ append_assoc within.before (within.line ∷ within.rest) second;
  answered = within.answered;
})

-- a moment behind other lines
among-behind : {S : Type 0} (L : Language S) (state : S) (first second : List (List ℕ)) (mark g : ℕ) (left : List ℕ)
    → IsAmong L (state_after L state first) second (mark + length (run_text L state first)) g left → IsAmong L state (first ++ second) mark g left
among-behind {S} L state first second mark g left (inl between) = inl (record {
  before = first ++ between.before;
  rest = between.rest;
  split = ap (λ (x : List (List ℕ)). first ++ x) between.split ∙ sym (append_assoc first between.before between.rest);
  mark_is = between.mark_is ∙ mark-append L state first between.before mark;
  opens = subst (λ (s : S). Opens left (committed_in L s)) (sym (state_after-append L state first between.before)) between.opens;
})
among-behind {S} L state first second mark g left (inr within) = inr (record {
  before = first ++ within.before;
  line = within.line;
  rest = within.rest;
  split = ap (λ (x : List (List ℕ)). first ++ x) within.split ∙ sym (append_assoc first within.before (within.line ∷ within.rest));
  answered = subst (λ (mark : ℕ). IsInAnswered L (state_after L state (first ++ within.before)) (line_effect L (state_after L state (first ++ within.before)) within.line) mark g left) (mark-append L state first within.before mark)
      (subst (λ (s : S). IsInAnswered L s (line_effect L s within.line) (mark + length (run_text L state first) + length (run_text L (state_after L state first) within.before)) g left) (sym (state_after-append L state first within.before)) within.answered);
})

passes-nothing : {S : Type 0} (L : Language S) (state : S) (chip : Chip) → ((image : List ℕ) → chip.image ≡ Some image → Opens image (committed_in L state)) → Passes L state [] chip chip
passes-nothing L state chip opens = record {
  mark = omega arith;
  moments = throughout-same chip (IsAmong L state [] chip.still.mark) (λ image told. inl (record { before = []; rest = []; split = refl; mark_is = omega arith; opens = opens image told }));
}

passes-then : {S : Type 0} (L : Language S) (state : S) (first second : List (List ℕ)) (a b c : Chip) → Passes L state first a b → Passes L (state_after L state first) second b c → Passes L state (first ++ second) a c
passes-then L state first second a b c before after = record {
  mark = omega (arith, before.mark, after.mark, mark-append L state first second a.still.mark);
  moments = throughout-both a b c (IsAmong L state first a.still.mark) (IsAmong L (state_after L state first) second b.still.mark) (IsAmong L state (first ++ second) a.still.mark) before.moments after.moments
      (λ g left during. among-longer L state first second a.still.mark g left during)
      (λ g left during. among-behind L state first second a.still.mark g left (subst (λ (mark : ℕ). IsAmong L (state_after L state first) second mark g left) before.mark during));
}

-- Lines that are answered.

answered-nothing : {S : Type 0} (L : Language S) (state : S) (at : S → Type 0) (chip : Chip) → at state → OpensToState L at chip → AreAnswered L state [] at chip chip
answered-nothing L state at chip is over = record { at = is; text = Prints-nothing chip.still.given; moments = λ told. passes-nothing L state chip (over state is) }

answered-then : {S : Type 0} (L : Language S) (state : S) (first second : List (List ℕ)) (mid_at new_at : S → Type 0) (a b c : Chip) → AreAnswered L state first mid_at a b
    → AreAnswered L (state_after L state first) second new_at b c → AreAnswered L state (first ++ second) new_at a c
answered-then L state first second mid_at new_at a b c before after = record {
  at = subst new_at (sym (state_after-append L state first second)) after.at;
  text = subst (λ (t : List ℕ). Prints t a.still.given c.still.given) (sym (run_text-append L state first second))
      (Prints-then (run_text L state first) (run_text L (state_after L state first) second) a.still.given b.still.given c.still.given before.text after.text);
  moments = λ told. passes-then L state first second a b c
      (before.moments (told-before (run_text L (state_after L state first) second) b.still.given c.still.given after.text told)) (after.moments told);
}

-- lines that are taken as nothing are none
taken-nothing : (lines : List (List ℕ)) → map taken_line lines ≡ [] → lines ≡ []
taken-nothing [] is = refl
taken-nothing (line ∷ lines) is = absurd cc

-- where lines are taken as some and then others, so are two parts of them
record AreTakenAs (lines : List (List ℕ)) (first second : List (Option (List ℕ))) : Type 0 where
  before : List (List ℕ)
  behind : List (List ℕ)
  split : lines ≡ before ++ behind
  first_is : map taken_line before ≡ first
  second_is : map taken_line behind ≡ second

taken-append : (lines : List (List ℕ)) (first second : List (Option (List ℕ))) → map taken_line lines ≡ first ++ second → AreTakenAs lines first second
taken-append lines [] second is = record { before = []; behind = lines; split = refl; first_is = refl; second_is = is }
taken-append [] (one ∷ first) second is = absurd cc
taken-append (line ∷ lines) (one ∷ first) second is =
    let same : taken_line line ≡ one = cc in
    let rest : map taken_line lines ≡ first ++ second = cc in
    let others = taken-append lines first second rest in
    record {
      before = line ∷ others.before;
      behind = others.behind;
      split = ap (λ (x : List (List ℕ)). line ∷ x) {y = others.before ++ others.behind} others.split;
      first_is = cc (same, others.first_is);
      second_is = others.second_is;
    }

pub AnswersLines-none : {R S : Type 0} (L : Language S) (is_at : R → S → Type 0) (is_ready : R → Type 0) (chip : R → Chip) (faults : R → Faults) (goes_on : R → R → Type 0) (r : R) → is_ready r → OpensToState L (is_at r) (chip r) → goes_on r r
    → AnswersLines L is_at is_ready chip faults goes_on r [] r
AnswersLines-none L is_at is_ready chip faults goes_on r ready over same = record {
  ready = ready;
  quiet = refl;
  leads = same;
  from = λ state lines is none. subst (λ (x : List (List ℕ)). AreAnswered L state x (is_at r) (chip r) (chip r)) (sym (taken-nothing lines none)) (answered-nothing L state (is_at r) (chip r) is over);
}

pub AnswersLines-then : {R S : Type 0} (L : Language S) (is_at : R → S → Type 0) (is_ready : R → Type 0) (chip : R → Chip) (faults : R → Faults) (goes_on : R → R → Type 0)
    → ((old mid new : R) → is_ready mid → goes_on old mid → goes_on mid new → goes_on old new) → (a b c : R) (first second : List (Option (List ℕ)))
    → AnswersLines L is_at is_ready chip faults goes_on a first b → AnswersLines L is_at is_ready chip faults goes_on b second c → AnswersLines L is_at is_ready chip faults goes_on a (first ++ second) c
AnswersLines-then L is_at is_ready chip faults goes_on both a b c first second before after = record {
  ready = after.ready;
  quiet = after.quiet ∙ before.quiet;
  leads = both a b c before.ready before.leads after.leads;
  from = λ state lines is taken.
      let parts = taken-append lines first second taken in
      let here = before.from state parts.before is parts.first_is in
      subst (λ (x : List (List ℕ)). AreAnswered L state x (is_at c) (chip a) (chip c)) (sym parts.split)
      (answered-then L state parts.before parts.behind (is_at b) (is_at c) (chip a) (chip b) (chip c) here (after.from (state_after L state parts.before) parts.behind here.at parts.second_is));
}

-- one line
pub answers-one : {S : Type 0} (L : Language S) (state : S) (line : List ℕ) (at : S → Type 0) (old new : Chip) → Answered L state (line_effect L state line) at old new → AreAnswered L state (line ∷ []) at old new
unfolding line_text line_step
answers-one L state line at old new answered = record {
  at = answered.at;
  text = subst (λ (t : List ℕ). Prints t old.still.given new.still.given) (sym (append-nil (line_effect L state line).text)) answered.text;
  moments = λ told.
      let moments = answered.moments told in
      record {
        mark = omega (arith, moments.mark, ap length (append-nil (line_effect L state line).text));
        moments = throughout-weaker old new (IsInAnswered L state (line_effect L state line) old.still.mark) (IsAmong L state (line ∷ []) old.still.mark) moments.moments
            (λ g left during. inr (record {
              before = [];
              line = line;
              rest = [];
              split = refl;
              answered = subst (λ (mark : ℕ). IsInAnswered L state (line_effect L state line) mark g left) (omega arith) during;
            }));
      };
}
