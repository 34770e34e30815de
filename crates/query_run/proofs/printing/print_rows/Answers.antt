use Rattle.std.proofs.Common.{◌≡◌, [], get_or, take, rules}
use Rattle.planner.specs.Text.{row_text}
use Rattle.row_join.specs.declared.combination.Combination.{Combination as Places}
use Rattle.row_join.specs.Joins.{values_at}
use Rattle.row_join.specs.Places.{all_rows, rows_of}
use Rattle.query_run.specs.QueryText.{row_texts}
use Rattle.query_run.proofs.Said.{cuts-then, leads-none, on-err, rows-next, rows-split, says-is, says-none, says-then}
use Rattle.query_run.proofs.printing.print_rows.Goals as goal

pub loop-combination-init : goal.loop-combination-init
loop-combination-init g c =
    says-none c.args.desk.now (leads-none c.args.desk.now (g.met.L.CardLink.goes_on_same c.args.desk.now) (g.met.L.CardLink.marks c.args.desk.now) (g.met.L.CardLink.opens c.args.desk.now))

pub returns-in_err-print_row : goal.returns-in_err-print_row
returns-in_err-print_row g c =
    let tables = c.args.tables.now in
    let combinations = c.args.combinations.now in
    let i = c.loop-combination.combination-index in
    let d : Places = record { places = [] } in
    let columns : c.as_slice-selected.result.now ≡ c.args.query.now.selected = search rules in
    record {
      says = search rules;
      cuts = on-err c.from_residual.result _
          (cuts-then (row_texts c.args.query.now (all_rows tables (take i combinations))) (row_text (values_at c.as_slice-selected.result.now (rows_of tables (get_or combinations i d).places))) _ (row_texts c.args.query.now (all_rows tables combinations))
          c.args.desk.now c.loop-combination.desk c.print_row.new.desk (g.met.L.CardLink.goes_on_then c.args.desk.now c.loop-combination.desk c.print_row.new.desk)
          (rows-split c.args.query.now tables combinations i d c.as_slice-selected.result.now columns c.loop-combination-test.true) c.loop-combination.invariant c.in_err-print_row.ensures.cuts);
    }

pub loop-combination-preserved : goal.loop-combination-preserved
loop-combination-preserved g c =
    let tables = c.args.tables.now in
    let combinations = c.args.combinations.now in
    let i = c.loop-combination.combination-index in
    let d : Places = record { places = [] } in
    let columns : c.as_slice-selected.result.now ≡ c.args.query.now.selected = search rules in
    says-is _ _ c.args.desk.now c.print_row.new.desk (rows-next c.args.query.now tables combinations i d c.as_slice-selected.result.now columns c.loop-combination-test.true)
    (says-then (row_texts c.args.query.now (all_rows tables (take i combinations))) (row_text (values_at c.as_slice-selected.result.now (rows_of tables (get_or combinations i d).places))) c.args.desk.now c.loop-combination.desk c.print_row.new.desk
    (g.met.L.CardLink.goes_on_then c.args.desk.now c.loop-combination.desk c.print_row.new.desk) c.loop-combination.invariant c.in_ok-print_row.ensures.says)
