use Rattle.std.proofs.Common.{Err, ◌++◌, List, [], ◌∷◌, ap, ◌∙◌, zero-add, sym}
use Rattle.row_join.specs.declared.combination.Combination.{Combination}
use Rattle.row_join.specs.Joined.{kept_after}
use Rattle.row_join.specs.Places.{all_rows}
use Rattle.row_join.proofs.Extending.{extended-start, joined-few, joined-many}
use Rattle.row_join.proofs.join.join_rows.Goals as goal

pub returns-in-Ok : goal.returns-in-Ok
returns-in-Ok c =
    let first = 0 ∷ 0 ∷ 0 ∷ [] in
    let none = ap (λ (l : List Combination). all_rows c.args.tables.now l ++ kept_after 0 c.args.equalities.now c.args.tables.now first) c.new-combinations.ensures.items in
    joined-few c.args.equalities.now c.args.tables.now c.extend.new.kept.items (c.in-Ok.ensures.kept ∙ none ∙ extended-start c.args.equalities.now c.args.tables.now first) c.in-Ok.ensures.few

pub returns-in-Err-TooMany : goal.returns-in-Err-TooMany
returns-in-Err-TooMany c =
    let first = 0 ∷ 0 ∷ 0 ∷ [] in
    let many = rw c.new-combinations.ensures.items at (c.in-Err-TooMany.ensures.many (ap Err c.in-Err-TooMany.field-0-is)) in
    joined-many c.args.equalities.now c.args.tables.now (rw (sym (extended-start c.args.equalities.now c.args.tables.now first)) (rw zero-add at many))
