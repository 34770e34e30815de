-- What reading the slots of a side costs, in cells of the database that it holds: for the rows of a table, and for the other records.
use Rattle.std.proofs.Common.{◌≡◌, ℕ, ◌+◌, ◌*◌, ◌==◌, Bool, if◌then◌else◌, List, [], ◌∷◌, Option, Some, None, refl, sym, ap, ◌∙◌, inl, inr, arith}
use Rattle.std.specs.List.{cons_option, filter, filter_map, sum_by}
use Rattle.std.proofs.lemmas.Bool.{cases_Bool}
use Rattle.std.proofs.lemmas.List.Sums.{sum_by-cons}
use Rattle.std.proofs.lemmas.Option.{none-some}
use Rattle.eeprom.specs.Slots.{in_slot}
use Rattle.eeprom.specs.StoreOf.{Slots, cell_size, cells_for}
use Rattle.eeprom.proofs.InOrder.{sum_by-in_order}
use Rattle.scql_base.specs.declared.records.RowRecord.{RowRecord}
use Rattle.scql_model.specs.Database.{Database, rows_of}
use Rattle.scql_model.specs.Edits.{cells_of_record, of_row}
use Rattle.scql_model.specs.Opens.{Holds}
use Rattle.scql_model.proofs.SpellingLengths.{length-row_in}
use Rattle.catalog_codec.specs.Catalog.{row_kind}
use Rattle.catalog_codec.specs.CatalogLaws.{IsKind-row}
use Rattle.catalog_codec.specs.Kinds.{read_as}
use Rattle.record_table.specs.Listed.{kind_cells}
use Rattle.cursor.specs.Costs.{Cost, cost_where}
use Rattle.db_read.specs.Costs.{cost_in, row_costs}

abbrev cells_of_row : RowRecord → ℕ
cells_of_row r = cells_of_record (of_row r)

-- a slot that has a row has the row's cells
row-slot : (entry : Option (List ℕ)) (r : RowRecord) → in_slot (read_as row_kind) entry ≡ Some r → kind_cells row_kind entry ≡ cells_of_row r
row-slot None r at = absurd (none-some r at)
row-slot (Some []) r at = absurd (none-some r (sym (IsKind-row.others [] refl) ∙ at))
row-slot (Some (octet ∷ octets)) r at =
    elim (cases_Bool (row_kind.marks octet)) [
      | inl t ↦ rw t (ap cells_for (length-row_in (octet ∷ octets) r at))
      | inr f ↦ absurd (none-some r (sym (IsKind-row.others (octet ∷ octets) f) ∙ at))
    ]

-- the cells of a row of a table, if its stamp passes a test
abbrev told_cells : ℕ → (ℕ → Bool) → RowRecord → ℕ
told_cells table passes r = if r.table == table then (if passes r.stamp then cells_of_row r else 0) else 0

cost-slot : (table : ℕ) (passes : ℕ → Bool) (entry : Option (List ℕ)) (costs : List Cost) (rows : List RowRecord) (o : Option RowRecord) → in_slot (read_as row_kind) entry ≡ o
    → cost_where passes costs ≡ 32 * sum_by (told_cells table passes) rows
    → cost_where passes (cons_option (cost_in table entry) costs) ≡ 32 * sum_by (told_cells table passes) (cons_option (in_slot (read_as row_kind) entry) rows)
cost-slot table passes entry costs rows None at rest = rw at rest
cost-slot table passes entry costs rows (Some r) at rest =
    let c : Cost = record { stamp = r.stamp; octets = cell_size * kind_cells row_kind entry } in
    let first = sum_by-cons (λ (x : Cost). if passes x.stamp then x.octets else 0) c costs in
    let second = sum_by-cons (told_cells table passes) r rows in
    let cells = row-slot entry r at in
    elim (cases_Bool (r.table == table)) [
      | inl t ↦ elim (cases_Bool (passes r.stamp)) [
        | inl u ↦ (let x : (if passes r.stamp then cell_size * kind_cells row_kind entry else 0) ≡ cell_size * kind_cells row_kind entry = rw u refl in
            let y : told_cells table passes r ≡ cells_of_row r = rw (t, u) refl in
            rw (at, t) (omega (arith, first, second, x, y, cells, rest)))
        | inr f ↦ (let x : (if passes r.stamp then cell_size * kind_cells row_kind entry else 0) ≡ 0 = rw f refl in
            let y : told_cells table passes r ≡ 0 = rw (t, f) refl in
            rw (at, t) (omega (arith, first, second, x, y, rest)))
      ]
      | inr e ↦ (let y : told_cells table passes r ≡ 0 = rw e refl in rw (at, e) (omega (arith, second, y, rest)))
    ]

costs-slots : (table : ℕ) (passes : ℕ → Bool) (slots : Slots) → cost_where passes (row_costs table slots) ≡ 32 * sum_by (told_cells table passes) (filter_map (in_slot (read_as row_kind)) slots)
costs-slots table passes [] = refl
costs-slots table passes (entry ∷ slots) =
    cost-slot table passes entry (row_costs table slots) (filter_map (in_slot (read_as row_kind)) slots) (in_slot (read_as row_kind) entry) refl (costs-slots table passes slots)

filtered-cells : (table : ℕ) (passes : ℕ → Bool) (rows : List RowRecord) → sum_by (told_cells table passes) rows ≡ sum_by cells_of_row (filter (λ (r : RowRecord). passes r.stamp) (rows_of table rows))
filtered-cells table passes [] = refl
filtered-cells table passes (r ∷ rows) =
    let rest = filtered-cells table passes rows in
    let first = sum_by-cons (told_cells table passes) r rows in
    let second = sum_by-cons cells_of_row r (filter (λ (x : RowRecord). passes x.stamp) (rows_of table rows)) in
    elim (cases_Bool (r.table == table)) [
      | inl t ↦ elim (cases_Bool (passes r.stamp)) [
        | inl u ↦ (let y : told_cells table passes r ≡ cells_of_row r = rw (t, u) refl in
            let kept : filter (λ (x : RowRecord). passes x.stamp) (rows_of table (r ∷ rows)) ≡ r ∷ filter (λ (x : RowRecord). passes x.stamp) (rows_of table rows) = rw (t, u) refl in
            first ∙ (ap (λ n. n + sum_by (told_cells table passes) rows) y ∙ (ap (λ n. cells_of_row r + n) rest ∙ (sym second ∙ ap (sum_by cells_of_row) (sym kept)))))
        | inr f ↦ (let y : told_cells table passes r ≡ 0 = rw (t, f) refl in
            let kept : filter (λ (x : RowRecord). passes x.stamp) (rows_of table (r ∷ rows)) ≡ filter (λ (x : RowRecord). passes x.stamp) (rows_of table rows) = rw (t, f) refl in
            let same : sum_by (told_cells table passes) (r ∷ rows) ≡ sum_by (told_cells table passes) rows = omega (arith, first, y) in
            same ∙ (rest ∙ ap (sum_by cells_of_row) (sym kept)))
      ]
      | inr e ↦ (let y : told_cells table passes r ≡ 0 = rw e refl in
          let kept : filter (λ (x : RowRecord). passes x.stamp) (rows_of table (r ∷ rows)) ≡ filter (λ (x : RowRecord). passes x.stamp) (rows_of table rows) = rw e refl in
          let same : sum_by (told_cells table passes) (r ∷ rows) ≡ sum_by (told_cells table passes) rows = omega (arith, first, y) in
          same ∙ (rest ∙ ap (sum_by cells_of_row) (sym kept)))
    ]

-- the costs of the rows of a table whose stamps pass a test are 32 octets for each of their cells
pub costs-held : (table : ℕ) (passes : ℕ → Bool) (slots : Slots) (db : Database) → Holds slots db
    → cost_where passes (row_costs table slots) ≡ 32 * sum_by cells_of_row (filter (λ (r : RowRecord). passes r.stamp) (rows_of table db.rows))
costs-held table passes slots db holds =
    let cells = told_cells table passes in
    let rows = filter_map (in_slot (read_as row_kind)) slots in
    costs-slots table passes slots ∙ ap (λ n. 32 * n) (sym (sum_by-in_order row_kind.key cells rows) ∙ (ap (sum_by cells) holds.rows ∙ filtered-cells table passes db.rows))
