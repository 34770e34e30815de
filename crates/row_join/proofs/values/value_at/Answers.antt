use Rattle.std.proofs.Common.{◌≡◌, ℕ, List, [], length, get_or, ◌∙◌, ap, arith, sym}
use Rattle.std.proofs.lemmas.Bool.{ltb-true}
use Rattle.scql_model.specs.Matching.{Values}
use Rattle.row_join.specs.Links.{value_in}
use Rattle.row_join.specs.Places.{row_at}
use Rattle.row_join.proofs.Rows.{value_at-beyond, value_at-past, value_at-place}
use Rattle.row_join.proofs.values.value_at.Goals as goal

pub returns-in-Some-get : goal.returns-in-Some-get
returns-in-Some-get c =
    let found = c.in-Some.ensures.lookup in
    let known = c.in-Some-get.ensures.lookup in
    let tables : List (List Values) = c.args.tables.now in
    let column = c.args.column in
    let places : List ℕ = c.args.combination.now.places in
    let within = ltb-true column.object (length tables) (sym found.0) in
    let beside = ltb-true column.object (length places) (sym known.0) in
    let table : c.rows.result.now ≡ get_or tables column.object [] = c.rows.ensures ∙ found.3.1 [] in
    let place : c.in-Some-get.place.now ≡ get_or places column.object 0 = known.3.1 0 in
    record {
      value =
          c.value_of.ensures.value ∙ ap (λ p. value_in (row_at c.rows.result.now p) column.place) place
          ∙ ap (λ rows. value_in (row_at rows (get_or places column.object 0)) column.place) table ∙ value_at-place tables places column within beside;
      short = c.value_of.ensures.short;
    }

pub returns-in-None : goal.returns-in-None
returns-in-None c = record {
  value = value_at-beyond c.args.tables.now c.args.combination.now.places c.args.column c.in-None.ensures.lookup.3;
  short = omega arith;
}

pub returns-in_default : goal.returns-in_default
returns-in_default c = record {
  value = value_at-past c.args.tables.now c.args.combination.now.places c.args.column c.in_default.ensures.lookup.3;
  short = omega arith;
}
