use Rattle.std.proofs.Common.{refl, sym, ap, inl, inr, ◌∙◌}
use Rattle.std.proofs.lemmas.Bool.{false≢true}
use Rattle.audit_run.specs.declared.verdict.Verdict.TheVariants.{Yes}
use Rattle.audit_run.proofs.Judged.{agreed-verdict}
use Rattle.audit_run.proofs.judging.verdict_on.Goals as goal

pub returns-in_default-clause-found : goal.returns-in_default-clause-found
returns-in_default-clause-found g c = inl (c.in_ok-machine.ensures.none c.in_default.is, refl)

pub returns-then-not-branch-clause-found : goal.returns-then-not-branch-clause-found
returns-then-not-branch-clause-found g c =
    let begins = rw c.in-Some.is at c.in_ok-machine.ensures.starts in
    agreed-verdict (g.A.Answering.stands_for c.first_difference.new.machine) c.args.first.now c.args.transcript.now c.args.last.now begins.0 _ begins.1 (sym c.in_default-first_malformed.ensures)
    (c.in_default-first_difference.ensures.found _ begins.2) (λ m stands. inr (λ opens. absurd (false≢true (sym c.if-not-branch.true ∙ (c.in_ok-is_committed_in.ensures m stands).1 opens)), refl))

pub returns-clause-found : goal.returns-clause-found
returns-clause-found g c =
    let begins = rw c.in-Some.is at c.in_ok-machine.ensures.starts in
    agreed-verdict (g.A.Answering.stands_for c.first_difference.new.machine) c.args.first.now c.args.transcript.now c.args.last.now begins.0 _ begins.1 (sym c.in_default-first_malformed.ensures)
    (c.in_default-first_difference.ensures.found _ begins.2) (λ m stands. inl ((c.in_ok-is_committed_in.ensures m stands).0 c.if-not-branch.false, ap Yes c.count_inputs.ensures))
