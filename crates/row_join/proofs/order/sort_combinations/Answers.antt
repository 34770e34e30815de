use Rattle.std.proofs.Common.{◌∙◌, ap, List, map, rules}
use Rattle.std.proofs.lemmas.Cmp.{lists_total, nat_list_cmp_total}
use Rattle.std.proofs.lemmas.Fn.{always_returns_same}
use Rattle.std.proofs.lemmas.List.Sorted.{ranks_by}
use Rattle.std.proofs.lemmas.Result.{on_ok_weaker}
use Rattle.row_join.specs.declared.combination.Combination.{Combination}
use Rattle.row_join.specs.Joins.{comes_before, values_at}
use Rattle.row_join.specs.Places.{rows_of}
use Rattle.row_join.proofs.Stable.{map-in_order, sorted_in_order}
use Rattle.row_join.proofs.order.sort_combinations.Goals as goal

pub returns : goal.returns
returns c =
    let rows = λ (places : Combination). rows_of c.args.tables.now places.places in
    let before = λ (first second : Combination). comes_before c.args.order.now (rows first) (rows second) in
    let weak = ranks_by (lists_total nat_list_cmp_total) (λ (places : Combination). values_at c.args.order.now (rows places)) in
    let answers = always_returns_same _ _ _ (λ a r f h. search rules) in
    let old : List Combination = c.args.combinations.now.items in
    let new : List Combination = c.sort_by.new.self.items in
    on_ok_weaker c.sort_by.result (λ sorted. ap (map rows) (sorted_in_order before weak old new (sorted before weak answers) (c.sort_by.ensures.stable before weak answers)) ∙ map-in_order rows (comes_before c.args.order.now) old) c.sort_by.ensures.sorted
