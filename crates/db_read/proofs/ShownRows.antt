-- The chosen row of a stamp, and how it is shown.
use Rattle.std.proofs.Common.{◌≡◌, ℕ, ◌≤◌, ◌==◌, nat_le, nat_lt, Bool, true, ◌&&◌, List, [], ◌∷◌, Option, Some, None, option_map, refl, sym, ap, subst, ◌∙◌, inl, inr, arith}
use Rattle.std.specs.Prelude.{IfSome}
use Rattle.std.specs.List.{filter, find, list_all}
use Rattle.std.proofs.lemmas.Bool.{and_parts, and_from, cases_Bool, leb-true}
use Rattle.std.proofs.lemmas.Map.Entries.{option_filter}
use Rattle.std.proofs.lemmas.Option.{none-some, same_Some}
use Rattle.eeprom.specs.Chip.{Becomes}
use Rattle.eeprom.specs.Slots.{has}
use Rattle.eeprom.specs.StoreOf.{Slots}
use Rattle.scql_base.specs.Row.{are_a_row, row_size}
use Rattle.scql_base.specs.declared.cursor.Place.TheVariants.{At}
use Rattle.scql_base.specs.declared.records.RowRecord.{RowRecord}
use Rattle.scql_model.specs.Matching.{Values}
use Rattle.scql_model.specs.Moves.{row_at, row_behind}
use Rattle.scql_model.specs.Objects.{StampedRow}
use Rattle.scql_model.proofs.FoundAgain.{find-map_filter}
use Rattle.scql_model.proofs.LongerLists.{find-passes}
use Rattle.catalog_codec.specs.Catalog.{row_kind}
use Rattle.record_table.specs.Listed.{listed}
use Rattle.privilege_table.proofs.Seen.{find-both}
use Rattle.cursor.specs.Costs.{RisesBetween, cost_behind, cost_of, size_handed}
use Rattle.cursor.specs.Moved.{row_handed}
use Rattle.db_read.specs.Chosen.{IsNextShown, are_rising, can_cut, can_show, costs_shown, is_chosen, is_shown, rows_shown, shown_row, values_at}
use Rattle.db_read.specs.Costs.{cost_passed, least_of, row_costs}
use Rattle.db_read.specs.declared.chosen.Chosen.{Chosen}
use Rattle.db_read.proofs.RowReads.{of_table}
use Rattle.db_read.proofs.Sighted.{one-rising}
use Rattle.db_read.proofs.Skipping.{is_wanted, costs-told, rises-are_rising, shown-told}

filter-twice : {X : Type 0} (p q : X → Bool) (o : Option X) → option_filter (λ x. p x && q x) o ≡ option_filter q (option_filter p o)
filter-twice p q None = refl
filter-twice p q (Some x) =
    elim (cases_Bool (p x)) [
      | inl t ↦ rw t refl
      | inr f ↦ rw f refl
    ]

-- what is shown of a row that may be there
abbrev pub shown_values : Chosen → Option RowRecord → Option Values
shown_values chosen o = option_map (λ (r : RowRecord). values_at chosen.places.now.items r.row) (option_filter (λ (r : RowRecord). is_shown chosen r.row) o)

values-shown : (chosen : Chosen) (o : Option RowRecord) → option_map (λ (row : StampedRow). row.values) (option_map (shown_row chosen) o) ≡ option_map (λ (r : RowRecord). values_at chosen.places.now.items r.row) o
values-shown chosen None = refl
values-shown chosen (Some r) = refl

pub row-there : (chosen : Chosen) (stamp : ℕ) (slots : Option Slots) (found : Option RowRecord) → IfSome slots (λ slots. found ≡ of_table chosen.table stamp slots)
    → IfSome (rows_shown chosen slots) (λ rows. shown_values chosen found ≡ option_map (λ row. row.values) (row_at stamp rows))
row-there chosen stamp None found said = tt
row-there chosen stamp (Some slots) found said =
    shown-told chosen (Some slots) (λ rows. shown_values chosen found ≡ option_map (λ row. row.values) (row_at stamp rows)) (λ can.
    let rows : List RowRecord = listed row_kind slots in
    let rises = rises-are_rising rows (and_parts (are_rising rows) (list_all (can_cut chosen) (filter (is_chosen chosen) rows)) can).0 in
    let both = find-both (has row_kind.key stamp) (is_chosen chosen) rows (one-rising row_kind.key stamp rows rises) in
    let twice = filter-twice (λ (r : RowRecord). r.table == chosen.table) (λ (r : RowRecord). is_shown chosen r.row) (find (has row_kind.key stamp) rows) in
    ap (shown_values chosen) said
    ∙ (ap (option_map (λ (r : RowRecord). values_at chosen.places.now.items r.row)) (sym twice ∙ sym both)
    ∙ (sym (values-shown chosen (find (λ (r : RowRecord). has row_kind.key stamp r && is_chosen chosen r) rows))
    ∙ sym (ap (option_map (λ (row : StampedRow). row.values)) (find-map_filter (λ (x : StampedRow). x.stamp == stamp) (shown_row chosen) (is_chosen chosen) rows)))))

found-passes : {X : Type 0} (p c q : X → Bool) (xs : List X) (x : X) → list_all p (filter c xs) ≡ true → find q xs ≡ Some x → c x ≡ true → p x ≡ true
found-passes p c q [] x all found is = absurd (none-some x found)
found-passes p c q (y ∷ xs) x all found is =
    elim (cases_Bool (q y)) [
      | inl t ↦ (let same = same_Some y x (rw t at found) in
          let here : c y ≡ true = subst (λ z. c z ≡ true) (sym same) is in
          subst (λ z. p z ≡ true) same (and_parts (p y) (list_all p (filter c xs)) (rw here at all)).0)
      | inr f ↦ elim (cases_Bool (c y)) [
        | inl u ↦ found-passes p c q xs x (and_parts (p y) (list_all p (filter c xs)) (rw u at all)).1 (rw f at found) is
        | inr g ↦ found-passes p c q xs x (rw g at all) (rw f at found) is
      ]
    ]

filtered-passes : {X : Type 0} (p : X → Bool) (o : Option X) (x : X) → option_filter p o ≡ Some x → (o ≡ Some x) × (p x ≡ true)
filtered-passes p None x is = absurd (none-some x is)
filtered-passes p (Some y) x is =
    elim (cases_Bool (p y)) [
      | inl t ↦ (let found = rw t at is in (found, subst (λ z. p z ≡ true) (same_Some y x found) t))
      | inr f ↦ absurd (none-some x (rw f at is))
    ]

-- a row that is chosen can be shown, where all that are can be
can-show : (chosen : Chosen) (stamp : ℕ) (slots : Slots) (r : RowRecord) → can_show chosen (listed row_kind slots) ≡ true → Some r ≡ of_table chosen.table stamp slots → is_shown chosen r.row ≡ true → can_cut chosen r ≡ true
can-show chosen stamp slots r can found shown =
    let rows : List RowRecord = listed row_kind slots in
    let all = (and_parts (are_rising rows) (list_all (can_cut chosen) (filter (is_chosen chosen) rows)) can).1 in
    let there = filtered-passes (λ (x : RowRecord). x.table == chosen.table) (find (has row_kind.key stamp) rows) r (sym found) in
    found-passes (can_cut chosen) (is_chosen chosen) (has row_kind.key stamp) rows r all there.0 (and_from (r.table == chosen.table) (is_shown chosen r.row) there.1 shown)

-- the row that is handed out
pub row-cut : (chosen : Chosen) (stamp : ℕ) (slots : Option Slots) (r : RowRecord) (cut : Values) → IfSome slots (λ slots. Some r ≡ of_table chosen.table stamp slots) → is_shown chosen r.row ≡ true
    → (are_a_row (values_at chosen.places.now.items r.row) ≡ true → cut ≡ values_at chosen.places.now.items r.row) → IfSome (rows_shown chosen slots) (λ rows. Some cut ≡ option_map (λ row. row.values) (row_at stamp rows))
row-cut chosen stamp None r cut found shown is = tt
row-cut chosen stamp (Some slots) r cut found shown is =
    shown-both (row-there chosen stamp (Some slots) (Some r) found)
    (shown-told chosen (Some slots) (λ _. cut ≡ values_at chosen.places.now.items r.row) (λ can.
    is (and_parts (are_a_row (values_at chosen.places.now.items r.row)) (nat_le (row_size (values_at chosen.places.now.items r.row)) (row_size r.row)) (can-show chosen stamp slots r can found shown)).0))
  where
    shown-both : IfSome (rows_shown chosen (Some slots)) (λ rows. shown_values chosen (Some r) ≡ option_map (λ row. row.values) (row_at stamp rows)) → IfSome (rows_shown chosen (Some slots)) (λ _. cut ≡ values_at chosen.places.now.items r.row)
        → IfSome (rows_shown chosen (Some slots)) (λ rows. Some cut ≡ option_map (λ row. row.values) (row_at stamp rows))
    shown-both = go (rows_shown chosen (Some slots))
      where
        go : (o : Option (List StampedRow)) → IfSome o (λ rows. shown_values chosen (Some r) ≡ option_map (λ row. row.values) (row_at stamp rows)) → IfSome o (λ _. cut ≡ values_at chosen.places.now.items r.row)
            → IfSome o (λ rows. Some cut ≡ option_map (λ row. row.values) (row_at stamp rows))
        go None there same = tt
        go (Some rows) there same = ap Some same ∙ (rw shown at there)

pub row-cut-reads : (chosen : Chosen) (stamp : ℕ) (slots : Option Slots) (r : RowRecord) (cut : Values) (a b : Option ℕ) → IfSome slots (λ slots. Some r ≡ of_table chosen.table stamp slots) → is_shown chosen r.row ≡ true
    → (are_a_row (values_at chosen.places.now.items r.row) ≡ true → cut ≡ values_at chosen.places.now.items r.row)
    → IfSome slots (λ slots. Becomes (RisesBetween (least_of (Some r)) (cost_of stamp (row_costs chosen.table slots))) a b)
    → IfSome (costs_shown chosen slots) (λ costs. Becomes (RisesBetween (row_size cut) (cost_of stamp costs)) a b)
row-cut-reads chosen stamp None r cut a b found shown is reads = tt
row-cut-reads chosen stamp (Some slots) r cut a b found shown is reads =
    costs-told chosen (Some slots) (λ costs. Becomes (RisesBetween (row_size cut) (cost_of stamp costs)) a b) (λ can after told.
    let h = reads after told in
    let fits = and_parts (are_a_row (values_at chosen.places.now.items r.row)) (nat_le (row_size (values_at chosen.places.now.items r.row)) (row_size r.row)) (can-show chosen stamp slots r can found shown) in
    let narrow = leb-true (row_size (values_at chosen.places.now.items r.row)) (row_size r.row) fits.1 in
    let least : row_size cut ≤ row_size r.row = rw (is fits.0) narrow in
    (h.0, h.1, (omega (arith, h.2.0, least), h.2.1)))

-- where there is no such row
pub reads-none : (chosen : Chosen) (stamp : ℕ) (slots : Option Slots) (found : Option RowRecord) (a b : Option ℕ) → IfSome slots (λ slots. Becomes (RisesBetween (least_of found) (cost_of stamp (row_costs chosen.table slots))) a b)
    → IfSome (costs_shown chosen slots) (λ costs. Becomes (RisesBetween 0 (cost_of stamp costs)) a b)
reads-none chosen stamp None found a b reads = tt
reads-none chosen stamp (Some slots) found a b reads =
    costs-told chosen (Some slots) (λ costs. Becomes (RisesBetween 0 (cost_of stamp costs)) a b) (λ can after told. let h = reads after told in (h.0, h.1, (omega (arith, h.2.0), h.2.1)))

-- the next of the rows that are shown
pub next-row : (chosen : Chosen) (stamp : ℕ) (slots : Option Slots) (next : Option RowRecord) → IfSome slots (IsNextShown chosen stamp next)
    → IfSome (rows_shown chosen slots) (λ rows. option_map (shown_row chosen) next ≡ row_behind (At stamp) rows)
next-row chosen stamp None next said = tt
next-row chosen stamp (Some slots) next said =
    shown-told chosen (Some slots) (λ rows. option_map (shown_row chosen) next ≡ row_behind (At stamp) rows) (λ can.
    let rows : List RowRecord = listed row_kind slots in
    let rises = rises-are_rising rows (and_parts (are_rising rows) (list_all (can_cut chosen) (filter (is_chosen chosen) rows)) can).0 in
    ap (option_map (shown_row chosen)) (said rises) ∙ sym (find-map_filter (λ (x : StampedRow). nat_lt stamp x.stamp) (shown_row chosen) (is_chosen chosen) rows))

-- it can be shown, where all that are chosen can be
can-show-next : (chosen : Chosen) (stamp : ℕ) (slots : Slots) (r : RowRecord) → can_show chosen (listed row_kind slots) ≡ true → IsNextShown chosen stamp (Some r) slots → can_cut chosen r ≡ true
can-show-next chosen stamp slots r can next =
    let rows : List RowRecord = listed row_kind slots in
    let parts = and_parts (are_rising rows) (list_all (can_cut chosen) (filter (is_chosen chosen) rows)) can in
    let found = sym (next (rises-are_rising rows parts.0)) in
    let own = (and_parts (nat_lt stamp r.stamp) (is_chosen chosen r) (find-passes (is_wanted chosen stamp) rows r found)).1 in
    found-passes (can_cut chosen) (is_chosen chosen) (is_wanted chosen stamp) rows r parts.1 found own

-- and is handed out so
pub next-cut : (chosen : Chosen) (stamp : ℕ) (slots : Option Slots) (r : RowRecord) (cut : Values) → IfSome slots (IsNextShown chosen stamp (Some r))
    → (are_a_row (values_at chosen.places.now.items r.row) ≡ true → cut ≡ values_at chosen.places.now.items r.row) → IfSome (rows_shown chosen slots) (λ rows. row_handed (Some r.stamp) cut ≡ row_behind (At stamp) rows)
next-cut chosen stamp None r cut next is = tt
next-cut chosen stamp (Some slots) r cut next is =
    cut-as (rows_shown chosen (Some slots)) (next-row chosen stamp (Some slots) (Some r) next)
    (shown-told chosen (Some slots) (λ _. cut ≡ values_at chosen.places.now.items r.row) (λ can.
    is (and_parts (are_a_row (values_at chosen.places.now.items r.row)) (nat_le (row_size (values_at chosen.places.now.items r.row)) (row_size r.row)) (can-show-next chosen stamp slots r can next)).0))
  where
    cut-as : (o : Option (List StampedRow)) → IfSome o (λ rows. Some (shown_row chosen r) ≡ row_behind (At stamp) rows) → IfSome o (λ _. cut ≡ values_at chosen.places.now.items r.row)
        → IfSome o (λ rows. row_handed (Some r.stamp) cut ≡ row_behind (At stamp) rows)
    cut-as None next same = tt
    cut-as (Some rows) next same = ap (row_handed (Some r.stamp)) same ∙ next

pub next-cut-reads : (chosen : Chosen) (stamp : ℕ) (slots : Option Slots) (r : RowRecord) (cut : Values) (a b : Option ℕ) → IfSome slots (IsNextShown chosen stamp (Some r))
    → (are_a_row (values_at chosen.places.now.items r.row) ≡ true → cut ≡ values_at chosen.places.now.items r.row)
    → IfSome slots (λ slots. Becomes (RisesBetween (least_of (Some r)) (cost_passed chosen.table stamp slots (Some r))) a b)
    → IfSome (costs_shown chosen slots) (λ costs. Becomes (RisesBetween (size_handed (Some r.stamp) cut) (cost_behind stamp (Some r.stamp) costs)) a b)
next-cut-reads chosen stamp None r cut a b next is reads = tt
next-cut-reads chosen stamp (Some slots) r cut a b next is reads =
    costs-told chosen (Some slots) (λ costs. Becomes (RisesBetween (row_size cut) (cost_behind stamp (Some r.stamp) costs)) a b) (λ can after told.
    let h = reads after told in
    let fits = and_parts (are_a_row (values_at chosen.places.now.items r.row)) (nat_le (row_size (values_at chosen.places.now.items r.row)) (row_size r.row)) (can-show-next chosen stamp slots r can next) in
    let narrow = leb-true (row_size (values_at chosen.places.now.items r.row)) (row_size r.row) fits.1 in
    let least : row_size cut ≤ row_size r.row = rw (is fits.0) narrow in
    (h.0, h.1, (omega (arith, h.2.0, least), h.2.1)))
