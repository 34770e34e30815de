use Rattle.std.proofs.Common.{codes, refl, [], append-nil, sym, rules}
use Rattle.planner.specs.Text.{row_text, values_text}
use Rattle.row_join.specs.Joins.{values_at}
use Rattle.row_join.specs.Places.{rows_of}
use Rattle.query_run.proofs.Said.{cuts-longer, cuts-then, on-err, says-then}
use Rattle.query_run.proofs.printing.print_row.Goals as goal

pub returns-in_err-print_values : goal.returns-in_err-print_values
returns-in_err-print_values g c =
    let values = values_at c.args.selected.now (rows_of c.args.tables.now c.args.combination.now.places) in
    record {
      says = search rules;
      cuts = on-err c.from_residual.result _ (cuts-longer (values_text values) (codes "\n") (row_text values) c.args.desk.now c.print_values.new.desk refl c.in_err-print_values.ensures.cuts);
    }

pub returns-in_err-say : goal.returns-in_err-say
returns-in_err-say g c =
    let values = values_at c.args.selected.now (rows_of c.args.tables.now c.args.combination.now.places) in
    record {
      says = search rules;
      cuts = on-err c.from_residual-in_err-say.result _
          (cuts-then (values_text values) (codes "\n") [] (row_text values) c.args.desk.now c.print_values.new.desk c.say.new.desk (g.met.L.CardLink.goes_on_then c.args.desk.now c.print_values.new.desk c.say.new.desk)
          (sym (append-nil (row_text values))) c.in_ok-print_values.ensures.says c.in_err-say.ensures.cuts);
    }

pub returns : goal.returns
returns g c =
    let values = values_at c.args.selected.now (rows_of c.args.tables.now c.args.combination.now.places) in
    record {
      says = says-then (values_text values) (codes "\n") c.args.desk.now c.print_values.new.desk c.say.new.desk (g.met.L.CardLink.goes_on_then c.args.desk.now c.print_values.new.desk c.say.new.desk) c.in_ok-print_values.ensures.says
          c.in_ok-say.ensures.says;
      cuts = search rules;
    }
