use Rattle.std.proofs.Common.{subst}
use Rattle.record_store.specs.Sound.{IsSound}
use Rattle.record_store.proofs.TaggedSlots.{none-past}
use Rattle.record_store.proofs.store.Store.side_tags.Goals as goal

pub returns-in-Working-clause-none : goal.returns-in-Working-clause-none
returns-in-Working-clause-none c = λ image slot stands past. none-past c.args.self.now c.args.side image slot (subst IsSound c.self.view_is c.self.invariant.weighed.sound) stands past

pub returns-in_default-clause-none : goal.returns-in_default-clause-none
returns-in_default-clause-none c = λ image slot stands past. none-past c.args.self.now c.args.side image slot (subst IsSound c.self.view_is c.self.invariant.weighed.sound) stands past
