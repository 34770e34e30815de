-- How many octets the parts of records have.
use Rattle.std.proofs.Common.{◌≡◌, ℕ, ◌+◌, List, [], ◌∷◌, ◌++◌, length, refl, arith}
use Rattle.std.specs.List.{flat_map, sum_by}
use Rattle.std.proofs.lemmas.List.{length-append}
use Rattle.std.proofs.lemmas.List.Sums.{sum_by-cons}
use Rattle.scql_base.specs.declared.condition.Condition.{Condition}
use Rattle.scql_base.specs.declared.records.RowRecord.{RowRecord}
use Rattle.scql_base.specs.Row.{row_size}
use Rattle.scql_base.specs.Strings.{spelled}
use Rattle.scql_base.proofs.RowOctets.{row_size-spelled}
use Rattle.scql_model.specs.Records.{columns, comparison_code, conditions, row_record}

pub columns-size : (names : List (List ℕ)) → length (columns.spell names) ≡ 1 + sum_by (λ name. 1 + length name) names
columns-size names = omega (arith, each names)
  where
    each : (names : List (List ℕ)) → length (flat_map spelled names) ≡ sum_by (λ name. 1 + length name) names
    each [] = refl
    each (name ∷ names) = omega (arith, each names, length-append (spelled name) (flat_map spelled names), sum_by-cons (λ (name : List ℕ). 1 + length name) name names)

abbrev condition_spelling : Condition → List ℕ
condition_spelling c = spelled c.column ++ ((comparison_code c.comparison ∷ []) ++ spelled c.value)

abbrev condition_size : Condition → ℕ
condition_size c = 3 + length c.column + length c.value

pub conditions-size : (all : List Condition) → length (conditions.spell all) ≡ 1 + sum_by (λ (c : Condition). 3 + length c.column + length c.value) all
conditions-size all = omega (arith, each all)
  where
    each : (all : List Condition) → length (flat_map condition_spelling all) ≡ sum_by condition_size all
    each [] = refl
    each (c ∷ all) =
        let own = length-append (spelled c.column) ((comparison_code c.comparison ∷ []) ++ spelled c.value) in
        omega (arith, each all, own, length-append (condition_spelling c) (flat_map condition_spelling all), sum_by-cons condition_size c all)

pub row-size : (r : RowRecord) → length (row_record.spell r) ≡ 9 + row_size r.row
row-size r = omega (arith, row_size-spelled r.row)
