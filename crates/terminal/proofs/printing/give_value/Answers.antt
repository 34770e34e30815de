use Rattle.std.proofs.Common.{rules}
use Rattle.std.proofs.lemmas.Result.{on_err_weaker}
use Rattle.terminal.proofs.Went.{start-of}
use Rattle.terminal.proofs.printing.give_value.Goals as goal

pub returns-clause-cut : goal.returns-clause-cut
returns-clause-cut g c = on_err_weaker c.give.result (start-of _ c.deref.result.now (g.O.Outlet.given c.args.outlet.now) (g.O.Outlet.given c.give.new.self) (search rules)) c.give.ensures.err
