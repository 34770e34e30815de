use Rattle.std.proofs.Common.{rules, ℕ}
use Rattle.std.proofs.lemmas.Cmp.{lists_total, nat_list_cmp_total}
use Rattle.std.proofs.lemmas.Fn.{always_returns_same}
use Rattle.std.proofs.lemmas.List.Sorted.{ranks_by}
use Rattle.row_join.specs.Links.{key_of, meets_own}
use Rattle.row_join.specs.Places.{row_at, is_less}
use Rattle.row_join.proofs.Indexes.{found-sorted}
use Rattle.row_join.proofs.index.Index.new.Goals as goal

pub returns : goal.returns
returns c =
    let rows = c.args.rows.now in
    let links = c.in_ok-links.links.items in
    let less = is_less links rows in
    let weak = ranks_by (lists_total nat_list_cmp_total) (λ (place : ℕ). key_of links (row_at rows place)) in
    let answers = always_returns_same _ _ _ (λ a r f h. search rules) in
    record {
      linked = c.in_ok-links.ensures;
      ordered = c.in_ok-sort_by.ensures.sorted less weak answers;
      found = found-sorted links rows (meets_own c.args.object c.args.equalities.now) c.in_ok-places.places.items c.sort_by.new.self.items c.in_ok-places.ensures (c.sort_by.ensures.stable less weak answers);
    }
