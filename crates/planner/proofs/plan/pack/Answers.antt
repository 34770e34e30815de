-- Changes that one command can have are packed one by one.
use Rattle.std.proofs.Common.{◌≤◌, IsOk, List, [], ◌∷◌, ◌++◌, ℕ, length, subst, sym, tests, rules}
use Rattle.scql_base.specs.Changes.{ArePacked, change_octets}
use Rattle.scql_base.specs.Lists.{AreChanges}
use Rattle.scql_base.proofs.PackedRuns.{ArePacked-taken}
use Rattle.planner.proofs.plan.pack.Goals as goal

pub prove-unreachable-requires : goal.prove-unreachable-requires
prove-unreachable-requires c =
    let whole = c.as_slice-change-items.ensures.changes in
    let packed : ArePacked (c.loop-change.packed ++ (c.change-item.result.pair.0, c.as_slice.result.now) ∷ []) =
    rw (c.loop-change.invariant.passed, c.as_slice.ensures.octets)
    (ArePacked-taken c.as_slice-change-items.result.now c.loop-change.change-index c.change-item.result c.loop-change-test.true c.change-item.is
    (subst AreChanges (sym whole) c.as_slice-change-items.ensures.list) (subst (λ (changes : List (List ℕ × List ℕ)). length (change_octets changes) ≤ 1275) (sym whole) c.requires.fits)) in
    let ok : IsOk c.push.result = c.push.ensures.variant.1 packed in
    search (rules, tests)
