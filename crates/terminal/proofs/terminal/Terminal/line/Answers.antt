use Rattle.std.proofs.Common.{◌∙◌}
use Rattle.planner.specs.Text.{fault_text}
use Rattle.terminal.specs.declared.refusal.Refusal.TheVariants.{Fault}
use Rattle.terminal.specs.Holding.{terminal_at}
use Rattle.terminal.proofs.Ended.{read-ends, unread-ended}
use Rattle.terminal.proofs.terminal.Terminal.line.Goals as goal

pub returns-in-Ok-clause-ended : goal.returns-in-Ok-clause-ended
returns-in-Ok-clause-ended g c = rw (← c.self.view_is) (λ m at knows.
    read-ends (terminal_at m c.self.inside.channels.channel) c.args.line.octets.now _ c.args.line.short c.in-Ok.ensures.statement (c.run.ensures.ended m at knows))

pub returns-in-Err-clause-ended : goal.returns-in-Err-clause-ended
returns-in-Err-clause-ended g c = rw (← c.self.view_is) (λ m at knows.
    read-ends (terminal_at m c.self.inside.channels.channel) c.args.line.octets.now _ c.args.line.short c.in-Err.ensures.fault
    (unread-ended g.L.Outlet.sink_faults m c.self.inside.channels (fault_text c.in-Err.fault) c.deref.result.now (Fault c.in-Err.fault) c.close.result c.args.link.now c.close.new.link
    (c.deref.ensures.0 ∙ c.fault_text.ensures) knows at c.close.ensures.closes c.close.ensures.gives))
