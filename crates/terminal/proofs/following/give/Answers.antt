use Rattle.std.proofs.Common.{refl}
use Rattle.terminal.proofs.Went.{start-of}
use Rattle.terminal.proofs.following.give.Goals as goal

pub returns-in-Err : goal.returns-in-Err
returns-in-Err g c =
    let gives = g.met.L.Desk.gives c.args.desk.now c.give.new.self c.give.ensures.rest in
    record {
      printed = tt;
      cut = start-of c.args.octets.now c.args.octets.now (g.L.Outlet.given c.args.desk.now) (g.L.Outlet.given c.give.new.self) refl c.in-Err.ensures.err;
      fails = (refl, record { same = gives.faults; rose = c.in-Err.ensures.cause.1; later = c.in-Err.ensures.cause.0 });
      works = tt;
      gives = gives;
      goes_on = g.met.L.Desk.goes_on_given c.args.desk.now c.give.new.self c.give.ensures.rest;
    }
