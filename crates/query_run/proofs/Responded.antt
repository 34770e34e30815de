-- A line that a desk answered, told to the run.
use Rattle.std.proofs.Common.{◌≡◌, ℕ, ◌+◌, ◌≤◌, Bool, List, [], length, Option, Some, None, Result, Ok, Err, IfSome, refl, sym, ap, subst, arith, inl, length-append}
use Rattle.std.specs.Prelude.{OnOk, IfOk, IfErr, IsSome}
use Rattle.eeprom.specs.Chip.{Chip}
use Rattle.eeprom.specs.Output.{Prints}
use Rattle.eeprom.proofs.Moments.{throughout-weaker}
use Rattle.scql_model.specs.Database.{Database}
use Rattle.scql_model.specs.Machine.{Machine}
use Rattle.scql_model.specs.Opens.{Opens}
use Rattle.scql_model.specs.Shown.{shown_on}
use Rattle.card_link.specs.Link.{HoldsWithin, LeavesOpen}
use Rattle.line_run.specs.declared.line_stop.LineStop.{LineStop}
use Rattle.line_run.specs.declared.line_stop.LineStop.TheVariants.{Eeprom, Outlet, Both, NoMemory}
use Rattle.line_run.specs.Answering.{Answered, Failed}
use Rattle.line_run.specs.Moments.{IsInAnswered, IsInLine}
use Rattle.terminal.specs.Failing.{IsStart}
use Rattle.terminal.proofs.Went.{prints-none}
use Rattle.query_run.specs.Answering.{AnswersSo, IsAnswered, IsUnmarked}
use Rattle.query_run.specs.Fetching.{ReadsAs}
use Rattle.query_run.specs.QueryLines.{Asking, asked_text, query_lines}

-- the marks rise by the text
mark-rises : (text : List ℕ) (before now : Option (List ℕ)) (was is : ℕ) → IfSome before (λ given. was ≡ length given) → IfSome now (λ given. is ≡ length given) → Prints text before now → IsSome now → is ≡ was + length text
mark-rises text before None was is marked_before marked prints told = absurd cc
mark-rises text before (Some after) was is marked_before marked prints told =
    let b = prints after refl in
    let first : was ≡ length b.0 = rw b.1 at marked_before in
    omega (arith, first, marked, ap length b.2, length-append b.0 text)

module _ {L : Type 0} (is_at : L → Machine → Type 0) (given : L → Option (List ℕ)) (mark : L → ℕ) (chip : L → Chip) (still : (l : L) → (chip l).still.given ≡ given l) (marks : (l : L) → mark l ≡ (chip l).still.mark)
    (counted : (l : L) → IfSome (given l) (λ octets. mark l ≡ length octets)) (asking : Asking) (line : Option (List ℕ)) (old new : L)
    (moments : LeavesOpen (HoldsWithin (mark old) (mark new) asking.machine.committed) (chip old) (chip new)) where
  abbrev text : List ℕ
  text = asked_text (shown_on asking.machine 0) line

  counted-chip : (l : L) → IfSome (chip l).still.given (λ octets. (chip l).still.mark ≡ length octets)
  counted-chip l = rw (still l, sym (marks l)) (counted l)

  prints-chip : (said : List ℕ) → Prints said (given old) (given new) → Prints said (chip old).still.given (chip new).still.given
  prints-chip said prints = rw (still old, still new) prints

  rises : (said : List ℕ) → Prints said (chip old).still.given (chip new).still.given → IsSome (chip new).still.given → (chip new).still.mark ≡ (chip old).still.mark + length said
  rises said prints told = mark-rises said (chip old).still.given (chip new).still.given (chip old).still.mark (chip new).still.mark (counted-chip old) (counted-chip new) prints told

  in-line : (g : ℕ) (image : List ℕ) (db : Database) → Opens image db → HoldsWithin (mark old) (mark new) asking.machine.committed g db → IsInLine query_lines asking (query_lines.effect asking line) (chip old).still.mark g image
  in-line g image db opens is = record { later = omega (arith, is.above, marks old); opens = inl (subst (Opens image) is.same opens) }

  in-answered : (size : ℕ) → (chip new).still.mark ≡ (chip old).still.mark + size → size ≤ length text → (g : ℕ) (image : List ℕ) (db : Database) → Opens image db → HoldsWithin (mark old) (mark new) asking.machine.committed g db
      → IsInAnswered query_lines asking (query_lines.effect asking line) (chip old).still.mark g image
  in-answered size rose small g image db opens is = record {
    line = in-line g image db opens is;
    within = omega (arith, is.below, marks new, rose, small);
    done = λ later. subst (Opens image) is.same opens;
  }

  line-answered : (refused was : Bool) → IsAnswered is_at given asking.machine text refused was old new → Answered query_lines asking (query_lines.effect asking line) (λ next. ReadsAs is_at next.machine new) (chip old) (chip new)
  line-answered refused was a =
      let prints = prints-chip text a.printed in
      record {
        at = a.reads;
        text = prints;
        moments = λ told. record {
          mark = rises text prints told;
          moments = throughout-weaker (chip old) (chip new) _ _ moments (λ g left opens. in-answered (length text) (rises text prints told) (omega arith) g left opens.0 opens.1 opens.2);
        };
      }

  cut-short : IsStart text (given old) (given new) → Failed Outlet query_lines asking (query_lines.effect asking line) (chip old) (chip new)
  cut-short start =
      let prints = prints-chip start.said start.printed in
      record {
        fails = record {
          said = start.said;
          says = (start.rest, start.start);
          given = prints;
          image = λ image told. let now = moments.now image told in subst (Opens image) now.2.same now.1;
        };
        moments = λ told. throughout-weaker (chip old) (chip new) _ _ moments
            (λ g left opens. in-answered (length start.said) (rises start.said prints told) (omega (arith, ap length start.start, length-append start.said start.rest)) g left opens.0 opens.1 opens.2);
      }

  nothing-said : given new ≡ given old → Prints [] (chip old).still.given (chip new).still.given
  nothing-said same = prints-chip [] (prints-none (given old) (given new) same)

  card-failed : given new ≡ given old → Failed Eeprom query_lines asking (query_lines.effect asking line) (chip old) (chip new)
  card-failed same = record {
    fails = record {
      said = [];
      says = inl refl;
      given = nothing-said same;
      image = λ image told. let now = moments.now image told in inl (subst (Opens image) now.2.same now.1);
    };
    moments = λ told. throughout-weaker (chip old) (chip new) _ _ moments (λ g left opens. in-line g left opens.0 opens.1 opens.2);
  }

  memory-wanting : given new ≡ given old → mark new ≡ mark old → Failed NoMemory query_lines asking (query_lines.effect asking line) (chip old) (chip new)
  memory-wanting same marked = record {
    fails = record {
      said = [];
      says = refl;
      given = nothing-said same;
      image = λ image told. let now = moments.now image told in subst (Opens image) now.2.same now.1;
    };
    moments = λ told. throughout-weaker (chip old) (chip new) _ _ moments (λ g left opens. (omega (arith, opens.2.above, opens.2.below, marked, marks old), subst (Opens left) opens.2.same opens.1));
  }

  pub heard-answered : (refused : Bool) (r : Result Bool LineStop) → AnswersSo is_at given asking.machine text refused r old new
      → OnOk r (Answered query_lines asking (query_lines.effect asking line) (λ next. ReadsAs is_at next.machine new) (chip old) (chip new))
  heard-answered refused (Ok was) a = line-answered refused was a
  heard-answered refused (Err stop) a = tt

  pub heard-failed : (refused : Bool) (r : Result Bool LineStop) → AnswersSo is_at given asking.machine text refused r old new → IsUnmarked mark r old new
      → IfErr r (λ stop. Failed stop query_lines asking (query_lines.effect asking line) (chip old) (chip new))
  heard-failed refused (Ok was) a unmarked = tt
  heard-failed refused (Err Eeprom) a unmarked = card-failed a
  heard-failed refused (Err Outlet) a unmarked = cut-short a
  heard-failed refused (Err Both) a unmarked = absurd a
  heard-failed refused (Err NoMemory) a unmarked = memory-wanting a unmarked

pub heard-refused : {L : Type 0} (is_at : L → Machine → Type 0) (given : L → Option (List ℕ)) (m : Machine) (text : List ℕ) (refused : Bool) (r : Result Bool LineStop) (old new : L) → AnswersSo is_at given m text refused r old new → IfOk r (λ was. was ≡ refused)
heard-refused is_at given m said refused (Ok was) old new a = a.tells
heard-refused is_at given m said refused (Err stop) old new a = tt
