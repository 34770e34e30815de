-- One session more is left.
use Rattle.std.proofs.Common.{◌≡◌, ◌<◌, ◌∙◌, ◌++◌, ◌+◌, ℕ, suc, List, length, Option, Some, drop, get_or, map, set, take, sym, ap, subst, arith}
use Rattle.std.specs.Prelude.{option_map}
use Rattle.plain_machine.specs.Sessions.{left_session}
use Rattle.plain_machine.specs.declared.session.Session.{Session}
use Rattle.plain_machine.proofs.SeenSessions.{mapped-more}
use Rattle.plain_machine.proofs.sessions.leave_each.Goals.{in-Some, in_default}
use Rattle.plain_machine.proofs.sessions.leave_each.Goals as goal

pub loop-session-preserved : goal.loop-session-preserved
loop-session-preserved c =
    let xs = c.args.sessions.now in
    let ys = c.loop-session.sessions in
    let i = c.loop-session.session-index in
    let item = c.session-item.result in
    let f = option_map (left_session c.args.stamp) in
    let lt : i < length xs = omega arith in
    let next : suc i ≡ i + 1 = omega arith in
    let more : set ys i (f (get_or ys i item)) ≡ map f (take (suc i) xs) ++ drop (suc i) xs = ap (λ (ys : List (Option Session)). set ys i (f (get_or ys i item))) c.loop-session.invariant ∙ mapped-more f xs i item lt in
    let written : c.match-session.sessions ≡ set ys i (f (get_or ys i item)) = elim c.match-session.branch [
      | in-Some w ↦ w.sessions-is ∙ ap (set ys i) (ap Some w.leave.ensures ∙ sym (ap f w.in-Some.is))
      | in_default w ↦ w.sessions-is ∙ ap (set ys i) (w.in_default.is ∙ sym (ap f w.in_default.is))
    ] in
    subst (λ (n : ℕ). c.match-session.sessions ≡ map f (take n xs) ++ drop n xs) next (written ∙ more)
