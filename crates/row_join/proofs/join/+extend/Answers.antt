use Rattle.std.proofs.Common.{◌≡◌, ℕ, ◌+◌, ◌<◌, List, [], ◌++◌, length, get_or, set, map, flat_map, sym, ap, ◌∙◌, arith, rules}
use Rattle.std.proofs.lemmas.List.{map_push, take_all, get_or_read}
use Rattle.std.proofs.lemmas.Result.{on_ok_weaker}
use Rattle.scql_model.specs.Matching.{Values}
use Rattle.row_join.specs.declared.combination.Combination.{Combination}
use Rattle.row_join.specs.declared.join.TheConstants.{MOST_KEPT}
use Rattle.row_join.specs.Joined.{kept_after}
use Rattle.row_join.specs.Places.{all_rows, rows_of}
use Rattle.row_join.proofs.Extending.{extended-found, extended-end, extended-many}
use Rattle.row_join.proofs.join.+extend.Goals as goal

pub returns-then-object-tables : goal.returns-then-object-tables
returns-then-object-tables t c = record {
  kept =
      let rows = λ (combination : Combination). rows_of c.args.tables.now combination.places in
      let end = extended-end c.args.equalities.now c.args.tables.now c.args.combination.places c.args.object c.if-object-tables.true c.requires.within in
      on_ok_weaker c.add.result (λ added. ap (map rows) added ∙ map_push rows c.args.kept.now.items c.args.combination ∙ ap (λ l. all_rows c.args.tables.now c.args.kept.now.items ++ l) (sym end)) c.add.ensures.kept;
  few = search rules;
  many =
      λ stopped.
      let end = ap length (extended-end c.args.equalities.now c.args.tables.now c.args.combination.places c.args.object c.if-object-tables.true c.requires.within) in
      let full = c.add.ensures.many stopped in
      omega (arith, end, full);
}

pub returns : goal.returns
returns t c = record {
  kept =
      let tables : List (List Values) = c.args.tables.now in
      let i = c.args.object in
      let long : length c.args.combination.places ≡ 3 = search rules in
      let within : i < length tables = omega arith in
      let table = get_or_read tables i c.index-tables-object.result within c.index-tables-object.is [] in
      let whole = extended-found c.args.equalities.now tables c.args.combination.places i c.args.indexes.now c.index-indexes-object.result c.rows-rows.result.now c.split_at.result.0.now c.find-place-items.result.now
      c.requires.indexes within (omega arith) c.index-indexes-object.is (c.rows-rows.ensures ∙ table) c.split_at.ensures.front c.find-place-items.ensures in
      let found : List ℕ = c.find-place-items.result.now in
      c.loop-place.invariant.kept
      ∙ ap (λ l. all_rows tables c.args.kept.now.items ++ l) (ap (flat_map (λ place. kept_after (i + 1) c.args.equalities.now tables (set c.args.combination.places i place))) (take_all c.loop-place.place-index found (omega arith)) ∙ whole);
  few = search rules;
  many = search rules;
}

pub returns-in-Err : goal.returns-in-Err
returns-in-Err t c = record {
  kept = search rules;
  few = search rules;
  many =
      λ stopped.
      let tables : List (List Values) = c.args.tables.now in
      let i = c.args.object in
      let long : length c.args.combination.places ≡ 3 = search rules in
      let within : i < length tables = omega arith in
      let table = get_or_read tables i c.index-tables-object.result within c.index-tables-object.is [] in
      let whole = extended-found c.args.equalities.now tables c.args.combination.places i c.args.indexes.now c.index-indexes-object.result c.rows-rows.result.now c.split_at.result.0.now c.find-place-items.result.now
      c.requires.indexes within (omega arith) c.index-indexes-object.is (c.rows-rows.ensures ∙ table) c.split_at.ensures.front c.find-place-items.ensures in
      let found : List ℕ = c.find-place-items.result.now in
      let extend = λ (place : ℕ). kept_after (i + 1) c.args.equalities.now tables (set c.args.combination.places i place) in
      let place = get_or found c.loop-place.place-index 0 in
      let one : MOST_KEPT < length c.loop-place.kept.items + length (extend place) = rw c.with-extended.ensures at (c.in-Err.ensures.many stopped) in
      let all = extended-many tables c.args.kept.now.items c.loop-place.kept.items extend found c.loop-place.place-index MOST_KEPT c.loop-place-test.true c.loop-place.invariant.kept one in
      rw (sym whole) all;
}
