-- A line of input is one more.
use Rattle.std.proofs.Common.{true, ℕ, List, length, sym, ap, ◌∙◌, arith}
use Rattle.scql_model.specs.Lines.{lines}
use Rattle.audit_run.specs.Transcript.{exchanges_from, is_input}
use Rattle.audit_run.proofs.Exchanges.{count-input, count-other}
use Rattle.audit_run.proofs.transcript.count_inputs.Goals as goal

pub loop-line-preserved-then-is_input : goal.loop-line-preserved-then-is_input
loop-line-preserved-then-is_input c =
    let rest = lines c.in-Some.behind.now true in
    let more = ap (λ (all : List (List ℕ)). length (exchanges_from 1 all)) c.in-Some.ensures.line ∙ count-input c.in-Some.line.now rest (ap is_input (sym c.of.ensures) ∙ (sym c.is_input.ensures ∙ c.if-is_input.true)) in
    record { left = omega (arith, more, c.loop-line.invariant.left); few = omega (arith, c.in-Some.ensures.shorter, c.loop-line.invariant.few) }

pub loop-line-preserved : goal.loop-line-preserved
loop-line-preserved c =
    let rest = lines c.in-Some.behind.now true in
    let same = ap (λ (all : List (List ℕ)). length (exchanges_from 1 all)) c.in-Some.ensures.line ∙ count-other c.in-Some.line.now rest (ap is_input (sym c.of.ensures) ∙ (sym c.is_input.ensures ∙ c.if-is_input.false)) in
    record { left = omega (arith, same, c.loop-line.invariant.left); few = omega (arith, c.in-Some.ensures.shorter, c.loop-line.invariant.few) }
