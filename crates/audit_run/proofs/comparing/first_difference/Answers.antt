use Rattle.std.proofs.Common.{◌≡◌, ◌+◌, ◌-◌, ℕ, List, length, true, rules, arith, ap, refl, inr}
use Rattle.scql_model.specs.Lines.{lines}
use Rattle.person.proofs.Counting.{count-ended, step-counted}
use Rattle.audit_run.specs.Progress.{each, words}
use Rattle.audit_run.proofs.comparing.first_difference.Goals as goal

pub returns-then-not-is_told-clause-watched : goal.returns-then-not-is_told-clause-watched
returns-then-not-is_told-clause-watched g c =
    count-ended g.P.Person.lost g.P.Person.shown words each c.loop-line.passed c.loop-line.passed (c.loop-line.passed + 1 - 1) c.args.person.now c.loop-line.person c.end.new.person (omega arith) (omega arith) c.loop-line.invariant.shown c.end.ensures

pub loop-line-preserved : goal.loop-line-preserved
loop-line-preserved g c =
    record {
      left = search rules;
      few = omega (arith, c.in-Some.ensures.shorter, c.loop-line.invariant.few);
      lines = omega (arith, ap (λ (all : List (List ℕ)). length all) c.in-Some.ensures.line, c.loop-line.invariant.lines);
      shown = step-counted g.P.Person.lost g.P.Person.shown words each c.loop-line.passed _ c.loop-line.passed _ c.args.person.now c.loop-line.person c.show.new.person refl refl (inr (omega arith)) c.loop-line.invariant.shown c.show.ensures;
    }

pub returns-clause-watched : goal.returns-clause-watched
returns-clause-watched g c =
    let all : c.loop-line.passed ≡ length (lines c.args.transcript.now true) = omega (arith, ap (λ (rest : List (List ℕ)). length rest) (c.in_default.ensures.none refl), c.loop-line.invariant.lines) in
    count-ended g.P.Person.lost g.P.Person.shown words each c.loop-line.passed c.loop-line.passed (length (lines c.args.transcript.now true)) c.args.person.now c.loop-line.person c.end-2.new.person all all c.loop-line.invariant.shown c.end-2.ensures
