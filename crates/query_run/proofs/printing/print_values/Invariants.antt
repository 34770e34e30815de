use Rattle.std.proofs.Common.{take}
use Rattle.planner.specs.Text.{values_text}
use Rattle.row_join.specs.Joins.{values_at}
use Rattle.row_join.specs.Places.{rows_of}
use Rattle.query_run.specs.Printing.{Leads, Says}
use Rattle.query_run.proofs.printing.print_values.Given as goal

abbrev pub invariant-loop-place : goal.invariant-loop-place
invariant-loop-place g l =
    Says g.L.Outlet.given g.L.Outlet.sink_faults (Leads g.L.CardLink.is_at g.L.CardLink.is_live g.L.CardLink.faults g.L.CardLink.mark g.L.CardLink.chip g.L.CardLink.goes_on)
    (values_text (take l.place (values_at l.selected (rows_of l.tables l.combination.places)))) l.fn.desk l.desk
