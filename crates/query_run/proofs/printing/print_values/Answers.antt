use Rattle.std.proofs.Common.{◌++◌, append_assoc, get_or, refl, ◌∙◌, rules}
use Rattle.planner.specs.Text.{value_text, values_text}
use Rattle.row_join.specs.declared.column.Column.{Column}
use Rattle.row_join.specs.Joins.{value_at, values_at}
use Rattle.row_join.specs.Places.{rows_of}
use Rattle.terminal.specs.Printed.{lead}
use Rattle.query_run.proofs.Said.{begun, cuts-then, leads-none, on-err, says-is, says-none, says-then, values-next, values-split}
use Rattle.query_run.proofs.printing.print_values.Goals as goal

pub loop-place-init : goal.loop-place-init
loop-place-init g c = says-none c.args.desk.now (leads-none c.args.desk.now (g.met.L.CardLink.goes_on_same c.args.desk.now) (g.met.L.CardLink.marks c.args.desk.now) (g.met.L.CardLink.opens c.args.desk.now))

pub returns-in_err-say_between : goal.returns-in_err-say_between
returns-in_err-say_between g c =
    let rows = rows_of c.args.tables.now c.args.combination.now.places in
    let columns = c.args.selected.now in
    let i = c.loop-place.place in
    let d : Column = record { object = 0; place = 0 } in
    let value = value_at rows (get_or columns i d) in
    let split = values-split columns rows i d value c.loop-place-test.true refl in
    record {
      says = search rules;
      cuts = on-err c.from_residual.result _
          (cuts-then (begun columns rows i) (lead i) (value_text value ++ split.0) (values_text (values_at columns rows)) c.args.desk.now c.loop-place.desk c.say_between.new.desk
          (g.met.L.CardLink.goes_on_then c.args.desk.now c.loop-place.desk c.say_between.new.desk) (split.1 ∙ append_assoc (begun columns rows i ++ lead i) (value_text value) split.0) c.loop-place.invariant c.in_err-say_between.ensures.cuts);
    }

pub returns-in_err-say_value : goal.returns-in_err-say_value
returns-in_err-say_value g c =
    let rows = rows_of c.args.tables.now c.args.combination.now.places in
    let columns = c.args.selected.now in
    let i = c.loop-place.place in
    let d : Column = record { object = 0; place = 0 } in
    let split = values-split columns rows i d c.value_at.result.now c.loop-place-test.true c.value_at.ensures.value in
    record {
      says = search rules;
      cuts = on-err c.from_residual-in_err-say_value.result _
          (cuts-then (begun columns rows i ++ lead i) (value_text c.value_at.result.now) split.0 (values_text (values_at columns rows)) c.args.desk.now c.say_between.new.desk c.say_value.new.desk
          (g.met.L.CardLink.goes_on_then c.args.desk.now c.say_between.new.desk c.say_value.new.desk) split.1
          (says-then (begun columns rows i) (lead i) c.args.desk.now c.loop-place.desk c.say_between.new.desk (g.met.L.CardLink.goes_on_then c.args.desk.now c.loop-place.desk c.say_between.new.desk) c.loop-place.invariant c.in_ok-say_between.ensures.says)
          c.in_err-say_value.ensures.cuts);
    }

pub loop-place-preserved : goal.loop-place-preserved
loop-place-preserved g c =
    let rows = rows_of c.args.tables.now c.args.combination.now.places in
    let columns = c.args.selected.now in
    let i = c.loop-place.place in
    let d : Column = record { object = 0; place = 0 } in
    says-is ((begun columns rows i ++ lead i) ++ value_text c.value_at.result.now) _ c.args.desk.now c.say_value.new.desk (values-next columns rows i d c.value_at.result.now c.loop-place-test.true c.value_at.ensures.value)
    (says-then (begun columns rows i ++ lead i) (value_text c.value_at.result.now) c.args.desk.now c.say_between.new.desk c.say_value.new.desk (g.met.L.CardLink.goes_on_then c.args.desk.now c.say_between.new.desk c.say_value.new.desk)
    (says-then (begun columns rows i) (lead i) c.args.desk.now c.loop-place.desk c.say_between.new.desk (g.met.L.CardLink.goes_on_then c.args.desk.now c.loop-place.desk c.say_between.new.desk) c.loop-place.invariant c.in_ok-say_between.ensures.says)
    c.in_ok-say_value.ensures.says)
