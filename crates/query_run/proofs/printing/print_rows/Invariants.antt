use Rattle.std.proofs.Common.{take}
use Rattle.row_join.specs.Places.{all_rows}
use Rattle.query_run.specs.Printing.{Leads, Says}
use Rattle.query_run.specs.QueryText.{row_texts}
use Rattle.query_run.proofs.printing.print_rows.Given as goal

abbrev pub invariant-loop-combination : goal.invariant-loop-combination
invariant-loop-combination g l =
    Says g.L.Outlet.given g.L.Outlet.sink_faults (Leads g.L.CardLink.is_at g.L.CardLink.is_live g.L.CardLink.faults g.L.CardLink.mark g.L.CardLink.chip g.L.CardLink.goes_on)
    (row_texts l.fn.query (all_rows l.fn.tables (take l.combination-index l.fn.combinations))) l.fn.desk l.desk
