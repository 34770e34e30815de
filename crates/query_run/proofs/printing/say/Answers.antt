use Rattle.query_run.specs.Printing.{Leads}
use Rattle.query_run.proofs.Said.{given-cuts, given-says}
use Rattle.query_run.proofs.printing.say.Goals as goal

pub returns : goal.returns
returns g c =
    let leads = Leads g.L.CardLink.is_at g.L.CardLink.is_live g.L.CardLink.faults g.L.CardLink.mark g.L.CardLink.chip g.L.CardLink.goes_on in
    let led : leads c.args.desk.now c.give.new.self = record { gives = g.met.L.Desk.gives c.args.desk.now c.give.new.self c.give.ensures.rest; goes = g.met.L.Desk.goes_on_given c.args.desk.now c.give.new.self c.give.ensures.rest } in
    record {
      says = given-says g.L.Outlet.given g.L.Outlet.sink_faults leads c.args.text.now c.give.result c.args.desk.now c.give.new.self c.give.ensures.ok c.give.ensures.cause led;
      cuts = given-cuts g.L.Outlet.given g.L.Outlet.sink_faults leads c.args.text.now c.give.result c.args.desk.now c.give.new.self c.give.ensures.err c.give.ensures.cause led;
    }
