use Rattle.terminal.specs.Holding.{terminal_at}
use Rattle.terminal.proofs.Ended.{read-ends_quietly}
use Rattle.terminal.proofs.terminal.Terminal.quiet.Goals as goal

pub returns-in-Ok-clause-ended : goal.returns-in-Ok-clause-ended
returns-in-Ok-clause-ended g c = rw (← c.self.view_is) (λ m at knows.
    read-ends_quietly (terminal_at m c.self.inside.channels.channel) c.args.line.octets.now _ c.args.line.short c.in-Ok.ensures.statement (c.run_quietly.ensures.ended m at knows))
