use Rattle.std.proofs.Common.{inl, inr, length, subst, arith, rules}
use Rattle.record_store.specs.Held.{Held}
use Rattle.record_store.specs.CommonRuns.{ArePassed}
use Rattle.record_store.specs.Sound.{IsSound}
use Rattle.record_store.proofs.Sides.{inside-or-past}
use Rattle.record_store.proofs.RunsOfCommon.{passed-common}
use Rattle.record_store.proofs.store.Store.end_of_common.Goals as goal

pub returns : goal.returns
returns c = record {
  onward = search rules;
  most = search rules;
  common = λ image side passed stands behind before.
      passed-common c.args.self.now c.self.inside.common_runs (subst IsSound c.self.view_is c.self.invariant.weighed.sound) (subst (λ (held : Held). ArePassed held c.self.inside.common_runs) c.self.view_is c.self.invariant.passed) image side c.args.slot passed stands
      (elim (inside-or-past c.args.slot (length c.self.inside.common_runs)) [
        | inl inside ↦ record { inside = inside; behind = behind; before = omega (arith, before, c.end.ensures.inside inside) }
        | inr past ↦ absurd (omega (arith, before, behind, c.end.ensures.past past))
      ]);
}
