use Rattle.std.proofs.Common.{subst}
use Rattle.record_store.specs.CommonRuns.{Passes}
use Rattle.record_store.proofs.common_runs.CommonRuns.take_in.Goals as goal

pub returns-then-octet-ne-COMMON-clause-fewer : goal.returns-then-octet-ne-COMMON-clause-fewer
returns-then-octet-ne-COMMON-clause-fewer c = λ from passed p. subst (λ items. Passes items from passed) c.self.view_is (c.stop_at.ensures.fewer from passed p)

pub returns-then-octet-ne-COMMON-clause-common : goal.returns-then-octet-ne-COMMON-clause-common
returns-then-octet-ne-COMMON-clause-common c = λ from p. absurd (c.stop_at.ensures.stops from p)
