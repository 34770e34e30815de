-- Column after column the row takes the value that it is to have, or has no room for it.
use Rattle.std.proofs.Common.{◌≡◌, Bor, None, Option, length-drop, ◌+◌, ◌<◌, ℕ, add-one, drop-cons, get_or, length-append, List, ◌∷◌, [], drop, length, Some, refl, sym, ap, subst, ◌∙◌, arith}
use Rattle.std.specs.Prelude.{◌≤◌, IfSome, option_map, unwrap_or}
use Rattle.std.proofs.lemmas.List.{drop_all}
use Rattle.std.specs.List.{flat_map}
use Rattle.scql_base.specs.Strings.{spelled}
use Rattle.scql_base.proofs.Splitting.{params_of-again}
use Rattle.scql_model.specs.Matching.{Columns}
use Rattle.scql_model.specs.Writing.{Assignment, all_assigned, assigned}
use Rattle.db_write.specs.Assigned.{value_given}
use Rattle.db_write.proofs.RowAssigned.{IsUnassigned, IsLeft-first, IsLeft-next, narrow-next, row-pushed, some-left, too_long, unwrap-mapped, value-assigned, whole-left}
use Rattle.db_write.proofs.assigning.assigned.Goals as goal

pub loop-column-init : goal.loop-column-init
loop-column-init c =
    let row = c.args.row.now in
    let columns = c.as_slice-column-items.ensures.names in
    record {
      left = rw (c.requires.empty, c.octets-rest.ensures) (subst (λ (columns : Columns). IsUnassigned c.args.changes.now c.as_slice-column-items.result.now (all_assigned c.args.changes.now columns row) row [] (flat_map spelled row)) columns
          (IsLeft-first c.args.changes.now c.as_slice-column-items.result.now row (flat_map spelled row) (params_of-again row) c.len.ensures.row.widths));
      many = ap length c.requires.empty;
    }

-- the columns that are left begin with this one
left-here : (items : Columns) (k : ℕ) (column : List ℕ) → k < length items → column ≡ get_or items k column → drop k items ≡ column ∷ drop (k + 1) items
left-here items k column at is = drop-cons items k column at ∙ rw (add-one, ← is) refl

-- the value of a column is the one that changes give it, or its own
given-value : (assignments : List Assignment) (column : List ℕ) (given : Option (Bor (List ℕ))) (value result : Bor (List ℕ)) → option_map (λ (v : Bor (List ℕ)). v.now) given ≡ value_given assignments column → result ≡ unwrap_or given value
    → result.now ≡ assigned assignments column value.now
given-value assignments column given value result is gives =
    ap (λ (r : Bor (List ℕ)). r.now) gives
    ∙ (unwrap-mapped (λ (r : Bor (List ℕ)). r.now) given value ∙ (ap (λ (o : Option (List ℕ)). unwrap_or o value.now) is ∙ value-assigned assignments column value.now))

short-value : (given : Option (Bor (List ℕ))) (value : Bor (List ℕ)) → IfSome given (λ (v : Bor (List ℕ)). length v.now ≤ 200) → length value.now ≤ 200 → length (unwrap_or given value).now ≤ 200
short-value None value given own = own
short-value (Some v) value given own = given

pub loop-column-preserved : goal.loop-column-preserved
loop-column-preserved c =
    let items = c.as_slice-column-items.result.now in
    let k = c.loop-column.column-index in
    let column = c.column-item.result in
    let here = left-here items k column (omega arith) c.column-item.is in
    let whole = all_assigned c.args.changes.now c.args.columns.now c.args.row.now in
    let after = c.loop-column.after in
    let rest = c.loop-column.rest.now in
    let left = subst (λ (columns : Columns). IsUnassigned c.args.changes.now columns whole c.args.row.now after rest) here c.loop-column.invariant.left in
    let given = given-value c.args.changes.now column c.value_given.result c.in_ok-value.value c.unwrap_or.result c.value_given.ensures.given c.unwrap_or.ensures in
    let pushed = row-pushed after c.push.new.self c.unwrap_or.result.now c.in-Ok.ensures.ok in
    record {
      left = IsLeft-next c.args.changes.now column (drop (k + 1) items) whole c.args.row.now after c.push.new.self rest c.in_ok-value.value.now c.in_ok-value.behind.now c.unwrap_or.result.now left c.in_ok-value.ensures.some given pushed;
      many = omega (arith, ap length pushed, length-append after (c.unwrap_or.result.now ∷ []), c.loop-column.invariant.many);
    }

-- a row that has as many values as columns isn't at its end
pub returns-in_err-value : goal.returns-in_err-value
returns-in_err-value c = record {
  after = λ many.
      let items = c.as_slice-column-items.result.now in
      let k = c.loop-column.column-index in
      let here = left-here items k c.column-item.result (omega arith) c.column-item.is in
      let whole = all_assigned c.args.changes.now c.args.columns.now c.args.row.now in
      let left = subst (λ (columns : Columns). IsUnassigned c.args.changes.now columns whole c.args.row.now c.loop-column.after c.loop-column.rest.now) here c.loop-column.invariant.left in
      absurd (some-left c.args.changes.now c.column-item.result (drop (k + 1) items) whole c.args.row.now c.loop-column.after c.loop-column.rest.now left c.in_err-value.ensures.none
      (omega (arith, c.loop-column.invariant.many, ap length here, length-drop k items, ap length c.as_slice-column-items.ensures.names, many)));
}

pub returns-in_default : goal.returns-in_default
returns-in_default c = record {
  after = λ many.
      let items = c.as_slice-column-items.result.now in
      let k = c.loop-column.column-index in
      let column = c.column-item.result in
      let here = left-here items k column (omega arith) c.column-item.is in
      let whole = all_assigned c.args.changes.now c.args.columns.now c.args.row.now in
      let after = c.loop-column.after in
      let rest = c.loop-column.rest.now in
      let left = subst (λ (columns : Columns). IsUnassigned c.args.changes.now columns whole c.args.row.now after rest) here c.loop-column.invariant.left in
      let given = given-value c.args.changes.now column c.value_given.result c.in_ok-value.value c.unwrap_or.result c.value_given.ensures.given c.unwrap_or.ensures in
      let few : length after < 15 = omega (arith, c.loop-column.invariant.many, c.loop-column-test.true, ap length c.as_slice-column-items.ensures.names, c.as_slice-column-items.ensures.list.count) in
      let short : length c.unwrap_or.result.now ≤ 200 =
      subst (λ (r : Bor (List ℕ)). length r.now ≤ 200) (sym c.unwrap_or.ensures)
      (short-value c.value_given.result c.in_ok-value.value c.value_given.ensures.short
      (narrow-next c.args.changes.now (column ∷ drop (k + 1) items) whole c.args.row.now after rest c.in_ok-value.value.now c.in_ok-value.behind.now left c.in_ok-value.ensures.some)) in
      too_long c.args.changes.now column (drop (k + 1) items) whole c.args.row.now after rest c.in_ok-value.value.now c.in_ok-value.behind.now c.unwrap_or.result.now c.in_default.field-0
      left c.in_ok-value.ensures.some given few short c.in_default.ensures.err;
}

pub returns : goal.returns
returns c = record {
  after = λ many.
      let items = c.as_slice-column-items.result.now in
      let k = c.loop-column.column-index in
      let whole = all_assigned c.args.changes.now c.args.columns.now c.args.row.now in
      let none : drop k items ≡ [] = drop_all k items c.loop-column-test.false in
      let left = subst (λ (columns : Columns). IsUnassigned c.args.changes.now columns whole c.args.row.now c.loop-column.after c.loop-column.rest.now) none c.loop-column.invariant.left in
      whole-left c.args.changes.now whole c.args.row.now c.loop-column.after c.loop-column.rest.now left
      (omega (arith, c.loop-column.invariant.many, c.loop-column-test.false, c.loop-column.auto.column-index-end, ap length c.as_slice-column-items.ensures.names, many));
}
