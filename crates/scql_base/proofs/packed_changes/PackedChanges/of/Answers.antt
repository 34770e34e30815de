use Rattle.std.proofs.Common.{◌≤◌, IsOk, List, [], ◌∷◌, ◌++◌, ℕ, length, subst, sym, tests, rules}
use Rattle.std.proofs.lemmas.Bool.{false≢true}
use Rattle.scql_base.specs.Changes.{ArePacked, change_octets}
use Rattle.scql_base.specs.Lists.{AreChanges}
use Rattle.scql_base.proofs.PackedRuns.{ArePacked-taken}
use Rattle.scql_base.proofs.packed_changes.PackedChanges.of.Goals as goal

pub returns-in_err-ok-clause-found : goal.returns-in_err-ok-clause-found
returns-in_err-ok-clause-found c =
    let whole = c.as_slice-change-items.ensures.changes in
    let packed : length (change_octets c.args.changes.now) ≤ 1275 → ArePacked (c.loop-change.packed ++ (c.change-item.result.pair.0, c.as_slice.result.now) ∷ []) = λ fits.
    rw (c.loop-change.invariant.passed, c.as_slice.ensures.octets)
    (ArePacked-taken c.as_slice-change-items.result.now c.loop-change.change-index c.change-item.result c.loop-change-test.true c.change-item.is
    (subst AreChanges (sym whole) c.as_slice-change-items.ensures.list) (subst (λ (changes : List (List ℕ × List ℕ)). length (change_octets changes) ≤ 1275) (sym whole) fits)) in
    rw c.from_residual.ensures ((λ is. absurd (false≢true is)), λ fits. absurd (let ok : IsOk c.push.result = c.push.ensures.variant.1 (packed fits) in search (rules, tests)))
