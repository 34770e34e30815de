-- Behind one more there are two at least.
use Rattle.std.proofs.Common.{◌≡◌, ◌≤◌, ◌∷◌, [], length, subst, inl, inr, arith}
use Rattle.scql_model.specs.Opens.{counter_stamp}
use Rattle.plain_image.specs.Found.{AreCounters}
use Rattle.plain_image.specs.declared.counters.Counters.{Counters}
use Rattle.plain_image.proofs.Filled.{two-put}
use Rattle.plain_image.proofs.counters.Counters.and.Goals as goal

pub returns-in-Single : goal.returns-in-Single
returns-in-Single c found are = two-put counter_stamp c.args.next found (elim c.in-Single.is [
  | inl single ↦ (let one : found ≡ single.0 ∷ [] = subst (λ (s : Counters). AreCounters s found) single.1 are in rw one (omega arith))
  | inr several ↦ (let two : 2 ≤ length found = subst (λ (s : Counters). AreCounters s found) several are in omega arith)
])
