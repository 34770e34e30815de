use Rattle.std.proofs.Common.{◌≡◌, ◌++◌, [], arith, length, append-nil, refl, sym, ◌∙◌, rules}
use Rattle.planner.specs.declared.closing.Closing.TheVariants.{Rows}
use Rattle.planner.specs.Text.{closing_text}
use Rattle.row_join.specs.Places.{all_rows}
use Rattle.query_run.specs.Answers.{found_text}
use Rattle.query_run.specs.QueryText.{row_texts}
use Rattle.query_run.proofs.Said.{cuts-longer, cuts-then, found-rows, on-err, says-is, says-then}
use Rattle.query_run.proofs.printing.print_answer.Goals as goal

pub returns-in_err-print_rows-in-Rows : goal.returns-in_err-print_rows-in-Rows
returns-in_err-print_rows-in-Rows g c =
    let number = length c.in-Rows.combinations.items in
    let whole = found-rows c.args.query.now c.args.answer.now c.in-Rows.tables c.in-Rows.combinations c.deref-in-Rows.result.now c.deref-in-Rows-2.result.now number (closing_text (Rows number)) c.in-Rows.is c.deref-in-Rows.ensures.value
    c.deref-in-Rows-2.ensures.value refl refl in
    record {
      says = search rules;
      cuts = on-err c.from_residual.result _
          (cuts-longer (row_texts c.args.query.now (all_rows c.deref-in-Rows.result.now c.deref-in-Rows-2.result.now)) (closing_text (Rows number)) (found_text c.args.query.now c.args.answer.now) c.args.desk.now c.print_rows.new.desk whole
          c.in_err-print_rows-in-Rows.ensures.cuts);
    }

pub returns-in_err-say-in-Rows : goal.returns-in_err-say-in-Rows
returns-in_err-say-in-Rows g c =
    let count : c.len-number.result ≡ length c.in-Rows.combinations.items = omega (arith, c.len-number.ensures, c.in-Rows.combinations.ok) in
    let rows = row_texts c.args.query.now (all_rows c.deref-in-Rows.result.now c.deref-in-Rows-2.result.now) in
    let whole = found-rows c.args.query.now c.args.answer.now c.in-Rows.tables c.in-Rows.combinations c.deref-in-Rows.result.now c.deref-in-Rows-2.result.now c.len-number.result c.deref-in-Rows-3.result.now c.in-Rows.is
    c.deref-in-Rows.ensures.value c.deref-in-Rows-2.ensures.value count (c.deref-in-Rows-3.ensures.0 ∙ c.closing_text-in-Rows.ensures) in
    record {
      says = search rules;
      cuts = on-err _ _
          (cuts-then rows c.deref-in-Rows-3.result.now [] (found_text c.args.query.now c.args.answer.now) c.args.desk.now c.print_rows.new.desk c.say-in-Rows.new.desk
          (g.met.L.CardLink.goes_on_then c.args.desk.now c.print_rows.new.desk c.say-in-Rows.new.desk) (whole ∙ sym (append-nil (rows ++ c.deref-in-Rows-3.result.now))) c.in_ok-print_rows-in-Rows.ensures.says c.in_err-say-in-Rows.ensures.cuts);
    }

pub returns-in_ok-say-in-Rows : goal.returns-in_ok-say-in-Rows
returns-in_ok-say-in-Rows g c =
    let count : c.len-number.result ≡ length c.in-Rows.combinations.items = omega (arith, c.len-number.ensures, c.in-Rows.combinations.ok) in
    let rows = row_texts c.args.query.now (all_rows c.deref-in-Rows.result.now c.deref-in-Rows-2.result.now) in
    let whole = found-rows c.args.query.now c.args.answer.now c.in-Rows.tables c.in-Rows.combinations c.deref-in-Rows.result.now c.deref-in-Rows-2.result.now c.len-number.result c.deref-in-Rows-3.result.now c.in-Rows.is
    c.deref-in-Rows.ensures.value c.deref-in-Rows-2.ensures.value count (c.deref-in-Rows-3.ensures.0 ∙ c.closing_text-in-Rows.ensures) in
    record {
      says = says-is (rows ++ c.deref-in-Rows-3.result.now) (found_text c.args.query.now c.args.answer.now) c.args.desk.now c.say-in-Rows.new.desk whole
          (says-then rows c.deref-in-Rows-3.result.now c.args.desk.now c.print_rows.new.desk c.say-in-Rows.new.desk (g.met.L.CardLink.goes_on_then c.args.desk.now c.print_rows.new.desk c.say-in-Rows.new.desk)
          c.in_ok-print_rows-in-Rows.ensures.says c.in_ok-say-in-Rows.ensures.says);
      cuts = search rules;
    }
