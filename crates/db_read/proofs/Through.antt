-- The chosen rows of a table are what a cursor's object shows, whatever views stand between.
use Rattle.std.proofs.Common.{◌≡◌, ℕ, ◌<◌, ◌≤◌, ◌==◌, nat_le, nat_lt, true, ◌&&◌, List, [], ◌∷◌, length, map, Some, refl, sym, ap, ◌∙◌, inl, inr, arith}
use Rattle.std.specs.Prelude.{position}
use Rattle.std.specs.List.{AllByRecursion, filter, list_all}
use Rattle.std.specs.Str.{bytes_eq}
use Rattle.std.proofs.lemmas.Bool.{and_from, cases_Bool, le-leb, lt-ltb}
use Rattle.std.proofs.lemmas.List.{length-map}
use Rattle.eeprom.specs.Slots.{Rises}
use Rattle.scql_base.specs.Row.{are_a_row, is_narrow, row_size}
use Rattle.scql_base.specs.declared.condition.Condition.{Condition}
use Rattle.scql_base.specs.declared.records.RowRecord.{RowRecord}
use Rattle.scql_model.specs.Contents.{cut_to, of_table}
use Rattle.scql_model.specs.Database.{are_among, are_different}
use Rattle.scql_model.specs.Matching.{Columns, Values, matches}
use Rattle.scql_model.specs.Objects.{StampedRow}
use Rattle.scql_model.specs.Resolving as model
use Rattle.scql_model.specs.Resolving.{passes_filters}
use Rattle.scql_model.proofs.CutRows.{narrow-cut, size-cut, value-placed}
use Rattle.search_cond.specs.Bound.{Binds, passes}
use Rattle.search_cond.specs.declared.placed.Placed.{Placed}
use Rattle.views.specs.Resolved.{AreBound, ArePlaces}
use Rattle.db_read.specs.Chosen.{are_rising, chosen_rows, is_shown, values_at}
use Rattle.db_read.specs.declared.chosen.Chosen.{Chosen}

pub values-placed : (places : List ℕ) (all wanted : Columns) (values : Values) → ArePlaces places all wanted → values_at places values ≡ cut_to all wanted values
values-placed [] all [] values are = refl
values-placed [] all (w ∷ wanted) values are = absurd (cc)
values-placed (p ∷ places) all [] values are = absurd (cc)
values-placed (p ∷ places) all (w ∷ wanted) values are =
    let first : Some p ≡ position (bytes_eq w) all = cc in
    let rest : map Some places ≡ map (λ (column : List ℕ). position (bytes_eq column) all) wanted = cc in
    rw (value-placed all values w p (sym first), values-placed places all wanted values rest) refl

filters-match : (filters : List (List Placed)) (all : Columns) (lists : List (List Condition)) (values : Values) → AreBound filters all lists → list_all (passes values) filters ≡ list_all (λ (conditions : List Condition). matches all conditions values) lists
filters-match [] all [] values are = refl
filters-match [] all (cs ∷ lists) values are = absurd are
filters-match (b ∷ filters) all [] values are = absurd are
filters-match (b ∷ filters) all (cs ∷ lists) values are = rw (are.0 values, filters-match filters all lists values are.1) refl

module _ (chosen : Chosen) (r : model.Resolved) (wanted : Columns) (conditions : List Condition) (table : chosen.table ≡ r.table) (places : ArePlaces chosen.places.now.items r.all wanted) (binds : Binds chosen.conditions.now r.all conditions)
    (filters : AreBound chosen.filters.now r.all r.filters) where
  shown-matches : (values : Values) → is_shown chosen values ≡ (matches r.all conditions values && passes_filters r values)
  shown-matches values = rw (binds values, filters-match chosen.filters.now r.all r.filters values filters) refl

  -- the chosen rows are those of the table that meet the conditions and pass each filter, cut once
  pub chosen-through : (rows : List RowRecord) → chosen_rows chosen rows
      ≡ map (λ (x : StampedRow). record x { values = cut_to r.all wanted x.values }) (filter (λ (x : StampedRow). matches r.all conditions x.values && passes_filters r x.values) (map of_table (filter (λ (x : RowRecord). x.table == r.table) rows)))
  chosen-through [] = refl
  chosen-through (x ∷ rows) =
      elim (cases_Bool (x.table == r.table)) [
        | inl t ↦ elim (cases_Bool (matches r.all conditions x.row && passes_filters r x.row)) [
          | inl u ↦ rw (table, t, shown-matches x.row, u) (ap (λ (v : Values). let row : StampedRow = record { stamp = x.stamp; values = v } in row ∷ chosen_rows chosen rows) (values-placed chosen.places.now.items r.all wanted x.row places) ∙ ap (λ (rest : List StampedRow). let row : StampedRow = record { stamp = x.stamp; values = cut_to r.all wanted x.row } in row ∷ rest) (chosen-through rows))
          | inr f ↦ rw (table, t, shown-matches x.row, f) (chosen-through rows)
        ]
        | inr e ↦ rw (table, e) (chosen-through rows)
      ]

-- Rows that rise are in order.
above-rising : (stamp : ℕ) (rows : List RowRecord) → AllByRecursion (λ (y : RowRecord). stamp < y.stamp) rows → list_all (λ (s : RowRecord). nat_lt stamp s.stamp) rows ≡ true
above-rising stamp [] all = refl
above-rising stamp (x ∷ rows) all = (let far : stamp < x.stamp = all.0 in rw (lt-ltb stamp x.stamp far) (above-rising stamp rows all.1))

pub are_rising-rises : (rows : List RowRecord) → Rises (λ (x : RowRecord). x.stamp) rows → are_rising rows ≡ true
are_rising-rises [] rises = refl
are_rising-rises (x ∷ rows) rises = and_from (list_all (λ (s : RowRecord). nat_lt x.stamp s.stamp) rows) (are_rising rows) (above-rising x.stamp rows rises.0) (are_rising-rises rows rises.1)

-- a row of a table can be shown so
pub cut-fits : (places : List ℕ) (all wanted : Columns) (values : Values) → ArePlaces places all wanted → length wanted ≤ 15 → are_different wanted ≡ true → are_among wanted all ≡ true → length all ≡ length values
    → list_all is_narrow values ≡ true → row_size values ≤ 1020 → (are_a_row (values_at places values) && nat_le (row_size (values_at places values)) (row_size values)) ≡ true
cut-fits places all wanted values are few different among long narrow small =
    let size = size-cut all wanted values different among long in
    let count : length (cut_to all wanted values) ≤ 15 = rw length-map few in
    rw (
      values-placed places all wanted values are,
      le-leb (length (cut_to all wanted values)) 15 count,
      narrow-cut all wanted values narrow,
      le-leb (row_size (cut_to all wanted values)) 1020 (omega arith),
      le-leb (row_size (cut_to all wanted values)) (row_size values) size,
    ) refl
