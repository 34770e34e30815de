-- How a statement goes on, on a desk: one step, and many.
use Rattle.std.proofs.Common.{◌≡◌, ℕ, ◌≤◌, take, drop, take-append-drop, Bool, List, [], ◌∷◌, ◌++◌, map, Option, None, append_assoc, refl, sym, ◌∙◌, ap, subst, inl, arith}
use Rattle.std.specs.Prelude.{Result, Err}
use Rattle.std.proofs.lemmas.Result.{IfErr-weaker}
use Rattle.std.specs.List.{concat}
use Rattle.std.proofs.lemmas.List.{append-nil, map-append}
use Rattle.std.proofs.lemmas.List.Folds.{concat-append}
use Rattle.scql_model.specs.Database.{Database}
use Rattle.scql_model.specs.Machine.{Machine}
use Rattle.card_link.specs.Link.{HoldsWithin, IsOneOf, LeavesOpen}
use Rattle.planner.specs.declared.closing.Closing.{Closing}
use Rattle.planner.specs.declared.step.Step.{Step}
use Rattle.planner.specs.declared.step.Step.TheVariants.{Send, Row, ResetCard, Done}
use Rattle.planner.specs.Planned.{Planned, next_of}
use Rattle.planner.specs.Running.{Ran}
use Rattle.planner.specs.Readings.{IsReadingAt}
use Rattle.planner.specs.Text.{closing_text}
use Rattle.planner.proofs.StatementsLawful.{after-append}
use Rattle.scql_model.specs.Lives.{after_all}
use Rattle.card_asking.specs.Following.{Follows, run_from, given_by}
use Rattle.card_asking.proofs.Followed.{first-follows, follows-both, none-before, none-behind}
use Rattle.card_asking.proofs.Moments.{one-mark, one-next}
use Rattle.terminal.specs.declared.failure.Failure.{Failure}
use Rattle.terminal.specs.declared.failure.Failure.TheVariants.{Card, Outlet}
use Rattle.terminal.specs.Going.{printed_row, rows_text, ran_text, FailsSo, IsInRun, WentOn, IsMute, IsCut, HasRun, PlanRuns, StepRuns}
use Rattle.terminal.specs.Failing.{Causes, IsStart, RunLeaves, Works}
use Rattle.eeprom.specs.Chip.{Chip}
use Rattle.eeprom.specs.Fault.{Rose}
use Rattle.eeprom.specs.Output.{Prints}

-- Texts that follow one another.
pub prints-none : (old new : Option (List ℕ)) → new ≡ old → Prints [] old new
prints-none old new same = λ after is. (after, sym same ∙ is, sym (append-nil after))

pub prints-both : (x y : List ℕ) (old mid new : Option (List ℕ)) → Prints x old mid → Prints y mid new → Prints (x ++ y) old new
prints-both x y old mid new first second = λ after is.
    let later = second after is in
    let before = first later.0 later.1 in
    (before.0, before.1, later.2 ∙ (ap (λ front. front ++ y) before.2 ∙ append_assoc before.0 x y))

-- a prefix that went out is a start
pub start-of : (text piece : List ℕ) (old new : Option (List ℕ)) → piece ≡ text → (count : ℕ) × Prints (take count piece) old new → IsStart text old new
start-of text piece old new is went = record { said = take went.0 piece; rest = drop went.0 piece; start = sym (take-append-drop went.0 piece ∙ is); printed = went.1 }

pub rows-append : (xs ys : List (List ℕ)) → rows_text (xs ++ ys) ≡ rows_text xs ++ rows_text ys
rows-append xs ys = ap concat (map-append printed_row xs ys) ∙ concat-append (map printed_row xs) (map printed_row ys)

-- a row of its own
pub row-text : (octets : List ℕ) → rows_text (octets ∷ []) ≡ printed_row octets
row-text octets = append-nil (printed_row octets)

-- The rows of a run from a step on begin with the row that the step has.
given-first : (m : Machine) (p : Planned) (step : Step) → (rest : List (List ℕ)) × ((run_from m p step).rows ≡ given_by p step ++ rest)
given-first m p (Send c) = ((run_from m p (Send c)).rows, refl)
given-first m p (Row c) = ((run_from m p (Send c)).rows, refl)
given-first m p ResetCard = ((run_from m p ResetCard).rows, refl)
given-first m p (Done closing) = ([], refl)

none-given : (m : Machine) (p : Planned) (step : Step) → (run_from m p step).rows ≡ [] → given_by p step ≡ []
none-given m p step none = let first = given-first m p step in none-before (given_by p step) first.0 (sym first.1 ∙ none)

-- A step's row was printed, and then the step followed.
pub step-goes : {L : Type 0} (is_at : L → Machine → Type 0) (given : L → Option (List ℕ)) (mark : L → ℕ) (m : Machine) (p q : Planned) (step next : Step) (old mid new : L) → Prints (rows_text (given_by p step)) (given old) (given mid)
    → mark old ≤ mark mid → (given_by p step ≡ [] → mark mid ≡ mark old) → given new ≡ given mid → mark new ≡ mark mid → Follows is_at m p step (given_by p step) q next new → WentOn is_at given mark m p step old new q next
step-goes is_at given mark m p q step next old mid new printed later still same marked follows = record {
  rows = given_by p step;
  follows = follows;
  printed = subst (λ (now : Option (List ℕ)). Prints (rows_text (given_by p step)) (given old) now) (sym same) printed;
  later = omega (arith, later, marked);
  still = λ none. marked ∙ still none;
}

-- the moments of both are moments of the run
pub given-moment : (from to : ℕ) (m : Machine) (p : Planned) (step : Step) (g : ℕ) (left : Database) → (given_by p step ≡ [] → to ≡ from) → HoldsWithin from to m.committed g left → IsInRun from m (run_from m p step) g left
given-moment from to m p step g left still holds = record {
  above = holds.above;
  still = λ none. let same : to ≡ from = still (none-given m p step none) in omega (arith, holds.above, holds.below, same);
  among = inl (refl, holds.same);
}

pub step-moment : (from to : ℕ) (m : Machine) (p : Planned) (step : Step) (g : ℕ) (left : Database) → from ≤ to → (given_by p step ≡ [] → to ≡ from) → IsOneOf to (m.committed ∷ (run_from m p step).commits) g left → IsInRun from m (run_from m p step) g left
step-moment from to m p step g left later still is =
    let here : g ≡ to = one-mark to (m.committed ∷ (run_from m p step).commits) g left is in
    record {
      above = omega (arith, later, here);
      still = λ none. here ∙ still (none-given m p step none);
      among = subst (λ (n : ℕ). IsOneOf n (m.committed ∷ (run_from m p step).commits) g left) (sym here) is;
    }

-- the card failed behind the row, or the outlet in it
pub step-mute : {L : Type 0} (given : L → Option (List ℕ)) (m : Machine) (p : Planned) (step : Step) (old mid new : L) → Prints (rows_text (given_by p step)) (given old) (given mid) → given new ≡ given mid → IsMute given (run_from m p step) old new
step-mute given m p step old mid new printed same =
    let first = given-first m p step in
    record {
      first = given_by p step;
      rest = first.0;
      split = first.1;
      printed = subst (λ (now : Option (List ℕ)). Prints (rows_text (given_by p step)) (given old) now) (sym same) printed;
    }

step-cut : {L : Type 0} (is_at : L → Machine → Type 0) (given : L → Option (List ℕ)) (m : Machine) (p : Planned) (step : Step) (old new : L) → IsStart (rows_text (given_by p step)) (given old) (given new) → (given_by p step ≡ [] → ⊥) → is_at new m
    → IsCut is_at given m (IsReadingAt p step) (run_from m p step) old new
step-cut is_at given m p step old new s there at =
    let ran : Ran = run_from m p step in
    let first = given-first m p step in
    record {
      said = s.said;
      rest = s.rest ++ (rows_text first.0 ++ closing_text ran.closing);
      start =
          ap (λ (rows : List (List ℕ)). rows_text rows ++ closing_text ran.closing) first.1
          ∙ (ap (λ front. front ++ closing_text ran.closing) (rows-append (given_by p step) first.0)
          ∙ (append_assoc (rows_text (given_by p step)) (rows_text first.0) (closing_text ran.closing)
          ∙ (ap (λ front. front ++ (rows_text first.0 ++ closing_text ran.closing)) s.start ∙ append_assoc s.said s.rest (rows_text first.0 ++ closing_text ran.closing))));
      printed = s.printed;
      machine = m;
      at = at;
      committed = ([], ran.commits, refl, refl);
      in_row = λ none. there (none-given m p step none);
      kept = λ is. refl;
    }

pub cut-step : {L : Type 0} (is_at : L → Machine → Type 0) (given : L → Option (List ℕ)) (m : Machine) (p : Planned) (step : Step) (failure : Failure) (old new : L) → failure ≡ Outlet → IsStart (rows_text (given_by p step)) (given old) (given new)
    → (given_by p step ≡ [] → ⊥) → is_at new m → FailsSo is_at given m (IsReadingAt p step) (run_from m p step) failure old new
cut-step is_at given m p step failure old new is s there at =
    subst (λ (f : Failure). FailsSo is_at given m (IsReadingAt p step) (run_from m p step) f old new) (sym is) (step-cut is_at given m p step old new s there at)

-- A device failed: in a step, or in a plan; and what that leaves.
pub step-failed : {L T : Type 0} {is_at : L → Machine → Type 0} {given : L → Option (List ℕ)} {mark : L → ℕ} {chip : L → Chip} {m : Machine} {p q : Planned} {step next : Step} {result : Result T Failure} {old new : L} (failure : Failure)
    → result ≡ Err failure → FailsSo is_at given m (IsReadingAt p step) (run_from m p step) failure old new → LeavesOpen (IsInRun (mark old) m (run_from m p step)) (chip old) (chip new) → StepRuns is_at given mark chip m p step result old new q next
step-failed {L} {T} {is_at} {given} {mark} {chip} {m} {p} {q} {step} {next} {result} {old} {new} failure is fails moments =
    subst (λ (r : Result T Failure). StepRuns is_at given mark chip m p step r old new q next) (sym is) (record { goes = tt; fails = fails; moments = moments })

pub plan-failed : {L : Type 0} {is_at : L → Machine → Type 0} {given : L → Option (List ℕ)} {mark : L → ℕ} {chip : L → Chip} {m : Machine} {reads : Type 0} {ran : Ran} {result : Result Closing Failure} {old new : L} (failure : Failure)
    → result ≡ Err failure → FailsSo is_at given m reads ran failure old new → LeavesOpen (IsInRun (mark old) m ran) (chip old) (chip new) → PlanRuns is_at given mark chip m reads ran result old new
plan-failed {L} {is_at} {given} {mark} {chip} {m} {reads} {ran} {result} {old} {new} failure is fails moments =
    subst (λ (r : Result Closing Failure). PlanRuns is_at given mark chip m reads ran r old new) (sym is) (record { over = tt; fails = fails; moments = moments })

pub leaves-failed : {L T : Type 0} {is_live : L → Bool} {faults sink_faults : L → ℕ} {goes_on : L → L → Type 0} {result : Result T Failure} {old new : L} (failure : Failure)
    → result ≡ Err failure → Causes is_live faults sink_faults failure old new → goes_on old new → RunLeaves is_live faults sink_faults goes_on result old new
leaves-failed {L} {T} {is_live} {faults} {sink_faults} {goes_on} {result} {old} {new} failure is causes goes =
    subst (λ (r : Result T Failure). RunLeaves is_live faults sink_faults goes_on r old new) (sym is) (record { causes = causes; works = tt; goes_on = goes })

-- Composition: what went on so far, and what goes on from there.
pub goes-both : {L : Type 0} (is_at : L → Machine → Type 0) (given : L → Option (List ℕ)) (mark : L → ℕ) (m : Machine) (p q s : Planned) (step next last : Step) (old mid new : L)
    → (first : WentOn is_at given mark m p step old mid q next) → WentOn is_at given mark first.follows.machine q next mid new s last → WentOn is_at given mark m p step old new s last
goes-both is_at given mark m p q s step next last old mid new first second = record {
  rows = first.rows ++ second.rows;
  follows = follows-both is_at m p q s step next last first.rows second.rows mid new first.follows second.follows;
  printed = subst (λ (text : List ℕ). Prints text (given old) (given new)) (sym (rows-append first.rows second.rows)) (prints-both (rows_text first.rows) (rows_text second.rows) (given old) (given mid) (given new) first.printed second.printed);
  later = omega (arith, first.later, second.later);
  still = λ none. second.still (none-behind first.rows second.rows none) ∙ first.still (none-before first.rows second.rows none);
}

-- a moment of what goes on is one of the whole
pub goes-moment : {L : Type 0} (is_at : L → Machine → Type 0) (given : L → Option (List ℕ)) (mark : L → ℕ) (m : Machine) (p q : Planned) (step next : Step) (old mid : L) (g : ℕ) (left : Database)
    → (first : WentOn is_at given mark m p step old mid q next) → IsInRun (mark mid) first.follows.machine (run_from first.follows.machine q next) g left → IsInRun (mark old) m (run_from m p step) g left
goes-moment is_at given mark m p q step next old mid g left first within =
    let e = first.follows in
    subst (λ (ran : Ran). IsInRun (mark old) m ran g left) (sym e.left)
    (record {
      above = omega (arith, within.above, first.later);
      still = λ none. within.still (none-behind first.rows (run_from e.machine q next).rows none) ∙ first.still (none-before first.rows (run_from e.machine q next).rows none);
      among = one-next g m.committed e.machine.committed e.commits (run_from e.machine q next).commits g left e.committed within.among;
    })

-- a failure of what goes on is one of the whole
mute-behind : {L : Type 0} (is_at : L → Machine → Type 0) (given : L → Option (List ℕ)) (mark : L → ℕ) (m : Machine) (p q : Planned) (step next : Step) (old mid new : L)
    → (first : WentOn is_at given mark m p step old mid q next) → IsMute given (run_from first.follows.machine q next) mid new → IsMute given (run_from m p step) old new
mute-behind is_at given mark m p q step next old mid new first mute = record {
  first = first.rows ++ mute.first;
  rest = mute.rest;
  split = ap (λ (ran : Ran). ran.rows) first.follows.left ∙ (ap (λ (rows : List (List ℕ)). first.rows ++ rows) mute.split ∙ sym (append_assoc first.rows mute.first mute.rest));
  printed = subst (λ (text : List ℕ). Prints text (given old) (given new)) (sym (rows-append first.rows mute.first)) (prints-both (rows_text first.rows) (rows_text mute.first) (given old) (given mid) (given new) first.printed mute.printed);
}

cut-behind : {L : Type 0} (is_at : L → Machine → Type 0) (given : L → Option (List ℕ)) (mark : L → ℕ) (m : Machine) (p q : Planned) (step next : Step) (old mid new : L)
    → (first : WentOn is_at given mark m p step old mid q next) → IsCut is_at given first.follows.machine (IsReadingAt q next) (run_from first.follows.machine q next) mid new → IsCut is_at given m (IsReadingAt p step) (run_from m p step) old new
cut-behind is_at given mark m p q step next old mid new first cut =
    let e = first.follows in
    let ran : Ran = run_from e.machine q next in
    record {
      said = rows_text first.rows ++ cut.said;
      rest = cut.rest;
      start =
          ap ran_text e.left
          ∙ (ap (λ front. front ++ closing_text ran.closing) (rows-append first.rows ran.rows)
          ∙ (append_assoc (rows_text first.rows) (rows_text ran.rows) (closing_text ran.closing)
          ∙ (ap (λ rest. rows_text first.rows ++ rest) cut.start ∙ sym (append_assoc (rows_text first.rows) cut.said cut.rest))));
      printed = prints-both (rows_text first.rows) cut.said (given old) (given mid) (given new) first.printed cut.printed;
      machine = cut.machine;
      at = cut.at;
      committed = (
        e.commits ++ cut.committed.0,
        cut.committed.1,
        ap (λ (ran : Ran). ran.commits) e.left ∙ (ap (λ (commits : List Database). e.commits ++ commits) cut.committed.2 ∙ sym (append_assoc e.commits cut.committed.0 cut.committed.1)),
        cut.committed.3 ∙ (ap (λ (db : Database). after_all db cut.committed.0) e.committed ∙ sym (after-append m.committed e.commits cut.committed.0)),
      );
      in_row = λ none. cut.in_row (none-behind first.rows ran.rows (sym (ap (λ (ran : Ran). ran.rows) e.left) ∙ none));
      kept = λ is. let one = e.reads is in cut.kept one.0 ∙ one.1;
    }

pub fails-behind : {L : Type 0} (is_at : L → Machine → Type 0) (given : L → Option (List ℕ)) (mark : L → ℕ) (m : Machine) (p q : Planned) (step next : Step) (failure : Failure) (old mid new : L)
    → (first : WentOn is_at given mark m p step old mid q next) → FailsSo is_at given first.follows.machine (IsReadingAt q next) (run_from first.follows.machine q next) failure mid new
    → FailsSo is_at given m (IsReadingAt p step) (run_from m p step) failure old new
fails-behind is_at given mark m p q step next Card old mid new first mute = mute-behind is_at given mark m p q step next old mid new first mute
fails-behind is_at given mark m p q step next Outlet old mid new first cut = cut-behind is_at given mark m p q step next old mid new first cut

-- what only reads by another telling
fails-told : {L : Type 0} (is_at : L → Machine → Type 0) (given : L → Option (List ℕ)) (m : Machine) (reads told : Type 0) (ran : Ran) (failure : Failure) (old new : L)
    → (told → reads) → FailsSo is_at given m reads ran failure old new → FailsSo is_at given m told ran failure old new
fails-told is_at given m reads told ran Card old new are mute = mute
fails-told is_at given m reads told ran Outlet old new are cut = record {
  said = cut.said;
  rest = cut.rest;
  start = cut.start;
  printed = cut.printed;
  machine = cut.machine;
  at = cut.at;
  committed = cut.committed;
  in_row = cut.in_row;
  kept = λ is. cut.kept (are is);
}

-- a plan's run by another telling, also of what only reads
pub runs-told : {L : Type 0} {is_at : L → Machine → Type 0} {given : L → Option (List ℕ)} {mark : L → ℕ} {chip : L → Chip} {m : Machine} {reads told : Type 0} {ran meant : Ran} {result : Result Closing Failure} {old new : L}
    → (told → reads) → ran ≡ meant → PlanRuns is_at given mark chip m reads ran result old new → PlanRuns is_at given mark chip m told meant result old new
runs-told {L} {is_at} {given} {mark} {chip} {m} {reads} {told} {ran} {meant} {result} {old} {new} are is runs =
    subst (λ (ran : Ran). PlanRuns is_at given mark chip m told ran result old new) is (record {
      over = runs.over;
      fails = IfErr-weaker result _ _ (λ failure fails. fails-told is_at given m reads told ran failure old new are fails) runs.fails;
      moments = runs.moments;
    })

-- a run that came to its last step is over
pub is-over : {L : Type 0} (is_at : L → Machine → Type 0) (given : L → Option (List ℕ)) (mark : L → ℕ) (m : Machine) (p q : Planned) (step : Step) (closing : Closing) (old new : L)
    → WentOn is_at given mark m p step old new q (Done closing) → HasRun is_at given mark m (run_from m p step) closing old new
is-over is_at given mark m p q step closing old new goes =
    let e = goes.follows in
    let rows : goes.rows ≡ (run_from m p step).rows = sym (ap (λ (ran : Ran). ran.rows) e.left ∙ append-nil goes.rows) in
    let commits : e.commits ≡ (run_from m p step).commits = sym (ap (λ (ran : Ran). ran.commits) e.left ∙ append-nil e.commits) in
    record {
      at = subst (is_at new) (sym (ap (λ (ran : Ran). ran.machine) e.left)) e.at;
      closes = sym (ap (λ (ran : Ran). ran.closing) e.left);
      printed = subst (λ (rows : List (List ℕ)). Prints (rows_text rows) (given old) (given new)) rows goes.printed;
      committed = ap (λ (ran : Ran). ran.machine.committed) e.left ∙ (e.committed ∙ ap (after_all m.committed) commits);
      later = goes.later;
      still = λ none. goes.still (rows ∙ none);
    }

-- a plan that took its first step
pub first-goes : {L : Type 0} (is_at : L → Machine → Type 0) (given : L → Option (List ℕ)) (mark : L → ℕ) (m : Machine) (p q : Planned) (next : Step) (now : L) → is_at now m → next_of None p ≡ record { plan = q; step = next }
    → WentOn is_at given mark m (next_of None p).plan (next_of None p).step now now q next
first-goes is_at given mark m p q next now at is = record {
  rows = [];
  follows = first-follows is_at m p q next now at is;
  printed = prints-none (given now) (given now) refl;
  later = omega arith;
  still = λ none. refl;
}

pub works-both : {L : Type 0} (is_live : L → Bool) (faults sink_faults : L → ℕ) (a b c : L) → Works is_live faults sink_faults a b → Works is_live faults sink_faults b c → Works is_live faults sink_faults a c
works-both is_live faults sink_faults a b c first second = record {
  live = second.live ∙ first.live;
  faults_same = second.faults_same ∙ first.faults_same;
  sink_same = second.sink_same ∙ first.sink_same;
}

pub causes-behind : {L : Type 0} (is_live : L → Bool) (faults sink_faults : L → ℕ) (failure : Failure) (a b c : L) → Works is_live faults sink_faults a b → Causes is_live faults sink_faults failure b c → Causes is_live faults sink_faults failure a c
causes-behind is_live faults sink_faults Card a b c works causes = (record { gone = causes.0.gone; rose = subst (λ n. Rose n (faults c)) works.faults_same causes.0.rose; later = subst (λ n. n ≤ faults c) works.faults_same causes.0.later }, causes.1 ∙ works.sink_same)
causes-behind is_live faults sink_faults Outlet a b c works causes =
    (record { same = causes.0.same ∙ works.faults_same; rose = subst (λ n. Rose n (sink_faults c)) works.sink_same causes.0.rose; later = subst (λ n. n ≤ sink_faults c) works.sink_same causes.0.later }, causes.1 ∙ works.live)
