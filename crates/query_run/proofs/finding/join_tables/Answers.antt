use Rattle.std.proofs.Common.{◌≡◌, rules, sym, ◌∙◌, ap}
use Rattle.row_join.specs.Joined.{rows_joined}
use Rattle.query_run.proofs.Found.{joins-rows}
use Rattle.query_run.proofs.finding.join_tables.Goals as goal

pub returns-in_ok-sort_combinations-in-Kept : goal.returns-in_ok-sort_combinations-in-Kept
returns-in_ok-sort_combinations-in-Kept c =
    let equalities : c.as_slice.result.now ≡ c.args.query.now.equalities = search rules in
    let order : c.as_slice-in-Kept.result.now ≡ c.args.query.now.order = search rules in
    joins-rows c.args.query.now c.args.tables c.sort_combinations.new.combinations c.deref.result.now c.deref-in-Kept.result.now c.as_slice.result.now c.as_slice-in-Kept.result.now c.in-Kept.combinations.items c.deref.ensures.value
    c.deref-in-Kept.ensures.value equalities order c.requires.few (ap (rows_joined c.deref.result.now) (sym c.in-Kept.is) ∙ c.in_ok-join_rows.ensures) c.in_ok-sort_combinations-in-Kept.ensures
