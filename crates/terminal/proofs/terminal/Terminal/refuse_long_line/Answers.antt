use Rattle.std.proofs.Common.{[], codes, rules}
use Rattle.card_asking.proofs.Moments.{leaves-all}
use Rattle.terminal.specs.declared.refusal.Refusal.TheVariants.{TooLong}
use Rattle.terminal.proofs.Ended.{unread-ended, last-moment}
use Rattle.terminal.proofs.terminal.Terminal.refuse_long_line.Goals as goal

pub returns-clause-ended : goal.returns-clause-ended
returns-clause-ended g c = λ m at knows.
    unread-ended g.L.Outlet.sink_faults m c.args.self.now (codes "error line too long\n") _ TooLong c.close.result c.args.link.now c.close.new.link (search rules) knows at c.close.ensures.closes c.close.ensures.gives

pub returns-clause-moments : goal.returns-clause-moments
returns-clause-moments g c = λ m at.
    leaves-all g.L.CardLink.chip _ _ c.args.link.now c.close.new.link
    (λ n left holds. last-moment (g.L.CardLink.mark c.args.link.now) n m.committed [] left holds.above holds.same) (c.close.ensures.gives.moments m at)
