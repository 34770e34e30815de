use Rattle.std.proofs.Common.{sym, subst, rules}
use Rattle.planner.proofs.Readings.{started-reads}
use Rattle.card_asking.specs.Following.{OnlyReads}
use Rattle.terminal.proofs.Meant.{started-meant}
use Rattle.terminal.proofs.Went.{runs-told}
use Rattle.terminal.proofs.channels.Channels.carry.Goals as goal

pub returns-in-Err-clause-runs : goal.returns-in-Err-clause-runs
returns-in-Err-clause-runs g c = λ m at knows.
    let p = c.args.plan.now in
    runs-told (λ select. subst OnlyReads (sym c.requires.started) (started-reads p.statement c.args.self.now.channel _ select))
    (started-meant m c.args.self.now p (g.met.L.CardLink.valid c.args.desk.now m at) (search rules) c.requires.started knows) (c.in-Err.ensures.runs m at)

pub returns-in-Ok-clause-runs : goal.returns-in-Ok-clause-runs
returns-in-Ok-clause-runs g c = λ m at knows.
    let p = c.args.plan.now in
    runs-told (λ select. subst OnlyReads (sym c.requires.started) (started-reads p.statement c.args.self.now.channel _ select))
    (started-meant m c.args.self.now p (g.met.L.CardLink.valid c.args.desk.now m at) (search rules) c.requires.started knows) (c.in-Ok.ensures.runs m at)
