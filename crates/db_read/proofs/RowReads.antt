-- How many octets are read of a row.
use Rattle.std.proofs.Common.{◌≡◌, ℕ, zero, suc, ◌*◌, ◌≤◌, ◌==◌, nat_lt, Bool, true, false, ◌&&◌, if◌then◌else◌, List, [], ◌∷◌, length, get_or, Option, Some, None, refl, sym, ap, subst, ◌∙◌, inl, inr, arith}
use Rattle.std.specs.Prelude.{IfSome, is_some, option_and_then, option_map}
use Rattle.std.specs.List.{cons_option, count_by, find}
use Rattle.std.proofs.lemmas.List.Sums.{sum_by-cons}
use Rattle.std.proofs.lemmas.Map.Entries.{option_filter}
use Rattle.std.proofs.lemmas.Option.{none-some, same_Some}
use Rattle.std.proofs.lemmas.Bool.{and_from, and_parts, and_right, cases_Bool, eq-eqb, eqb-true, false≢true, ltb-true}
use Rattle.eeprom.specs.Chip.{Becomes, Chip}
use Rattle.eeprom.specs.Slots.{AreApart, has}
use Rattle.eeprom.proofs.InOrder.{counts, counts_not}
use Rattle.eeprom.specs.StoreOf.{Slots, cell_size}
use Rattle.cell_store.specs.Reading.{ReadsRecord}
use Rattle.record_store.specs.Held.{Held, contents, record_at, StandsFor}
use Rattle.record_store.specs.declared.side.Side.{Side}
use Rattle.scql_base.proofs.RowOctets.{row_size-spelled}
use Rattle.scql_base.specs.declared.records.RowRecord.{RowRecord}
use Rattle.catalog_codec.specs.Catalog.{row_kind}
use Rattle.record_table.specs.Listed.{at_slot, has_kind_mark, kind_cells, listed, slots_of}
use Rattle.row_index.specs.Index.{HasRows, Index, Indexes, side_rows}
use Rattle.row_index.specs.Places.{is_later_in, is_row_of, place_slot, place_stamp, row_places}
use Rattle.row_index.specs.declared.place.RowPlace.{RowPlace}
use Rattle.row_index.proofs.Scans.{find-agree, found_both_in, found_row_in, rows-apart}
use Rattle.row_index.proofs.Standing.{rows-told}
use Rattle.row_table.specs.Found.{is_row_after}
use Rattle.row_table.proofs.FoundRows.{Finds, finds-told, none-found}
use Rattle.scql_model.proofs.Depths.{some-map}
use Rattle.scql_model.proofs.LongerLists.{find-passes}
use Rattle.cursor.specs.Costs.{Cost, RisesBetween, cost_of, cost_where}
use Rattle.db_read.specs.Costs.{cost_in, cost_reached, least_of, row_costs, row_read}

-- a row has no more octets than its record
least-spelled : (r : Option RowRecord) (octets : List ℕ) → IfSome r (λ x. (row_kind.form.fits x ≡ true) × (octets ≡ row_kind.form.spell x)) → least_of r ≤ length octets
least-spelled None octets spelled = omega arith
least-spelled (Some r) octets spelled = rw spelled.1 (omega (arith, row_size-spelled r.row))

-- what is said of a row that was read into a place
pub said-read : (read : Option (Unit {0})) (there : Bool) (row : RowRecord) (P : RowRecord → Type 0) → there ≡ is_some read → IfSome read (λ _. P row) → IfSome (row_read there row) P
said-read None there row P is said = rw is tt
said-read (Some u) there row P is said = rw is said

-- what is told of the slots of a side, by what the record of one of them is
at-record : (contents : List ℕ → Option Slots) (image : List ℕ) (slot : ℕ) (P : Option (List ℕ) → Type 0) → P (option_and_then (λ (slots : Slots). get_or slots slot None) (contents image)) → IfSome (contents image) (λ slots. P (get_or slots slot None))
at-record contents image slot P h = told (contents image) h
  where
    told : (o : Option Slots) → P (option_and_then (λ (slots : Slots). get_or slots slot None) o) → IfSome o (λ slots. P (get_or slots slot None))
    told None h = tt
    told (Some slots) h = h

-- a record with the mark of a row is read, as many octets at least as its row has
pub reads-row : (store : Held) (side : Side) (slot : ℕ) (image : Option (List ℕ)) (marked : Bool) (octets : List ℕ) (r : Option RowRecord) (a b : Option ℕ) → IfSome image (StandsFor store)
    → ((image : List ℕ) → StandsFor store image → marked ≡ has_kind_mark row_kind (record_at store side slot image)) → marked ≡ true
    → IfSome image (λ image. record_at store side slot image ≡ Some octets) → IfSome image (λ _. Becomes (ReadsRecord (Some octets)) a b)
    → IfSome r (λ x. (row_kind.form.fits x ≡ true) × (octets ≡ row_kind.form.spell x))
    → IfSome (option_and_then (contents store side) image) (λ slots. Becomes (RisesBetween (least_of r) (cell_size * kind_cells row_kind (get_or slots slot None))) a b)
reads-row store side slot None marked octets r a b stands says own is reads spelled = tt
reads-row store side slot (Some image) marked octets r a b stands says own is reads spelled =
    at-record (contents store side) image slot (λ entry. Becomes (RisesBetween (least_of r) (cell_size * kind_cells row_kind entry)) a b)
    (rw is (λ after told.
    let h = reads after told in
    let mark : has_kind_mark row_kind (Some octets) ≡ true = rw is at (sym (says image stands) ∙ own) in
    (h.0, h.1, (omega (arith, h.2.0, least-spelled r octets spelled), rw mark h.2.1))))

-- the costs of one more slot
costs-more : (test : ℕ → Bool) (o : Option Cost) (costs : List Cost) → cost_where test costs ≤ cost_where test (cons_option o costs)
costs-more test None costs = omega arith
costs-more test (Some c) costs = (let next = sum_by-cons (λ (x : Cost). if test x.stamp then x.octets else 0) c costs in omega arith)

-- the costs of a table have the row of each slot
pub cost-found : (table : ℕ) (slots : Slots) (slot : ℕ) (r : RowRecord) → at_slot row_kind slot slots ≡ Some r → r.table ≡ table → cell_size * kind_cells row_kind (get_or slots slot None) ≤ cost_of r.stamp (row_costs table slots)
cost-found table [] slot r at same = absurd (none-some r at)
cost-found table (entry ∷ slots) zero r at same =
    let c : Cost = record { stamp = r.stamp; octets = cell_size * kind_cells row_kind entry } in
    let next = sum_by-cons (λ (x : Cost). if x.stamp == r.stamp then x.octets else 0) c (row_costs table slots) in
    rw (at, eq-eqb r.table table same) (rw next (rw (eq-eqb r.stamp r.stamp refl) (omega arith)))
cost-found table (entry ∷ slots) (suc slot) r at same =
    let rest = cost-found table slots slot r at same in
    let more = costs-more (λ (other : ℕ). other == r.stamp) (cost_in table entry) (row_costs table slots) in
    omega arith

-- What the index answers is what a search finds.
pub behind-found : (table stamp first slot : ℕ) (slots : Option Slots) (o : Option (ℕ × ℕ)) (value : Option RowRecord) → o ≡ Some (first, slot) → IfSome slots (Finds (λ (answer : ℕ × ℕ). answer.1) o (is_row_after table stamp))
    → IfSome slots (λ slots. value ≡ at_slot row_kind slot slots) → IfSome slots (λ slots. value ≡ find (is_row_after table stamp) (listed row_kind slots))
behind-found table stamp first slot None o value is finds at = tt
behind-found table stamp first slot (Some slots) o value is finds at = at ∙ (sym (ap (option_and_then (λ (answer : ℕ × ℕ). at_slot row_kind answer.1 slots)) is) ∙ finds.row)

pub behind-missing : (table stamp first slot : ℕ) (slots : Option Slots) (o : Option (ℕ × ℕ)) (P : Slots → Type 0) → o ≡ Some (first, slot) → IfSome slots (Finds (λ (answer : ℕ × ℕ). answer.1) o (is_row_after table stamp))
    → IfSome slots (λ slots. None ≡ at_slot row_kind slot slots) → IfSome slots P
behind-missing table stamp first slot None o P is finds at = tt
behind-missing table stamp first slot (Some slots) o P is finds at =
    let none = at ∙ (sym (ap (option_and_then (λ (answer : ℕ × ℕ). at_slot row_kind answer.1 slots)) is) ∙ finds.row) in
    let some : true ≡ is_some (find (is_row_after table stamp) (listed row_kind slots)) = sym (ap is_some is) ∙ finds.some in
    absurd (false≢true (sym (some ∙ sym (ap is_some none))))

-- the row that is reached is one of the table, and costs what the table's costs say
pub row-reached : (table stamp slot : ℕ) (slots : Option Slots) (r : RowRecord) (a b : Option ℕ) → IfSome slots (λ slots. Some r ≡ at_slot row_kind slot slots) → IfSome slots (λ slots. Some r ≡ find (is_row_after table stamp) (listed row_kind slots))
    → IfSome slots (λ slots. Becomes (RisesBetween (least_of (Some r)) (cell_size * kind_cells row_kind (get_or slots slot None))) a b) → IfSome slots (λ slots. Becomes (RisesBetween (least_of (Some r)) (cost_reached table slots (Some r))) a b)
row-reached table stamp slot None r a b at found reads = tt
row-reached table stamp slot (Some slots) r a b at found reads = λ after told.
    let h = reads after told in
    let passes = find-passes (is_row_after table stamp) (listed row_kind slots) r (sym found) in
    let same = eqb-true r.table table (and_parts (r.table == table) (nat_lt stamp r.stamp) passes).0 in
    let cost = cost-found table slots slot r (sym at) same in
    (h.0, h.1, (h.2.0, omega (arith, h.2.1, cost)))

-- and it has a greater stamp
pub row-later : (table stamp : ℕ) (slots : Option Slots) (r : RowRecord) (P : Slots → Type 0) → IfSome slots (λ slots. Some r ≡ find (is_row_after table stamp) (listed row_kind slots)) → r.stamp ≤ stamp → IfSome slots P
row-later table stamp None r P found early = tt
row-later table stamp (Some slots) r P found early =
    let passes = find-passes (is_row_after table stamp) (listed row_kind slots) r (sym found) in
    let later = ltb-true stamp r.stamp (and_parts (r.table == table) (nat_lt stamp r.stamp) passes).1 in
    absurd (omega arith)

find-more : {X : Type 0} (p q : X → Bool) (xs : List X) (x : X) → find p xs ≡ Some x → q x ≡ true → find (λ y. p y && q y) xs ≡ Some x
find-more p q [] x found passes = absurd (none-some x found)
find-more p q (y ∷ ys) x found passes =
    elim (cases_Bool (p y)) [
      | inl t ↦ (let same = same_Some y x (rw t at found) in rw (t, subst (λ z. q z ≡ true) (sym same) passes) (ap Some same))
      | inr f ↦ rw f (find-more p q ys x (rw f at found) passes)
    ]

-- the row of a table and a stamp
abbrev pub is_row : ℕ → ℕ → RowRecord → Bool
is_row table stamp row = row.table == table && row.stamp == stamp

-- what passes two tests, of which one element at most passes the second, is what passes that
find-alone : {X : Type 0} (p q : X → Bool) (xs : List X) (x : X) → find (λ y. p y && q y) xs ≡ Some x → count_by q xs ≤ 1 → find q xs ≡ Some x
find-alone p q [] x found few = absurd (none-some x found)
find-alone p q (y ∷ ys) x found few =
    elim (cases_Bool (q y)) [
      | inl t ↦ elim (cases_Bool (p y)) [
        | inl own ↦ rw t (rw (own, t) at found)
        | inr other ↦ absurd (let later : find (λ y. p y && q y) ys ≡ Some x = rw other at found in
            let both = and_parts (p x) (q x) (find-passes (λ y. p y && q y) ys x later) in
            let one = counts q y ys t in
            let more = some-counted q ys x (find-among (λ y. p y && q y) q ys x later both.1) in
            omega arith)
      ]
      | inr f ↦ (let no = and_right (p y) (q y) f in rw f (find-alone p q ys x (rw no at found) (let c = counts_not q y ys f in omega arith)))
    ]
  where
    -- one is counted where one is found
    some-counted : {X : Type 0} (q : X → Bool) (xs : List X) (x : X) → is_some (find q xs) ≡ true → 1 ≤ count_by q xs
    some-counted q [] x some = absurd (false≢true some)
    some-counted q (y ∷ ys) x some =
        elim (cases_Bool (q y)) [
          | inl t ↦ (let c = counts q y ys t in omega arith)
          | inr f ↦ (let c = counts_not q y ys f in let rest = some-counted q ys x (rw f at some) in omega arith)
        ]

    find-among : {X : Type 0} (p q : X → Bool) (xs : List X) (x : X) → find p xs ≡ Some x → q x ≡ true → is_some (find q xs) ≡ true
    find-among p q [] x found passes = absurd (none-some x found)
    find-among p q (y ∷ ys) x found passes =
        elim (cases_Bool (q y)) [
          | inl t ↦ rw t refl
          | inr f ↦ elim (cases_Bool (p y)) [
            | inl own ↦ absurd (false≢true (sym f ∙ subst (λ z. q z ≡ true) (sym (same_Some y x (rw own at found))) passes))
            | inr other ↦ rw f (find-among p q ys x (rw other at found) passes)
          ]
        ]

-- what another test finds doesn't pass one that finds none
none-passes : {X : Type 0} (q s : X → Bool) (xs : List X) (x : X) → find q xs ≡ None → find s xs ≡ Some x → q x ≡ false
none-passes q s [] x none found = absurd (none-some x found)
none-passes q s (y ∷ ys) x none found =
    elim (cases_Bool (q y)) [
      | inl t ↦ absurd (none-some y (sym (rw t at none)))
      | inr f ↦ elim (cases_Bool (s y)) [
        | inl own ↦ subst (λ z. q z ≡ false) (same_Some y x (rw own at found)) f
        | inr other ↦ none-passes q s ys x (rw f at none) (rw other at found)
      ]
    ]

-- What an index answers of a table and a stamp is the slot of the row.
pub record IsIndexed (table stamp slot : ℕ) (slots : Slots) : Type 0 where
  pub row : RowRecord
  pub at : at_slot row_kind slot slots ≡ Some row
  pub found : find (has row_kind.key stamp) (listed row_kind slots) ≡ Some row
  pub of_table : row.table ≡ table
  pub stamped : row.stamp ≡ stamp

indexed-place : (table stamp : ℕ) (slots : Slots) (place : RowPlace) → AreApart place_stamp (row_places slots) → find (is_row_of table stamp) (row_places slots) ≡ Some place → IsIndexed table stamp place.slot slots
indexed-place table stamp slots place apart is = with_row (find (is_row table stamp) (listed row_kind slots)) refl
  where
    at_place : at_slot row_kind place.slot slots ≡ find (is_row table stamp) (listed row_kind slots)
    at_place = ap (option_and_then (λ (p : RowPlace). at_slot row_kind (place_slot p) slots)) (sym is) ∙ found_row_in slots table (has place_stamp stamp) (is_row table stamp) (λ slot row. refl)

    some : true ≡ is_some (find (is_row table stamp) (listed row_kind slots))
    some = ap is_some (sym is) ∙ found_both_in slots table (has place_stamp stamp) (is_row table stamp) (λ slot row. refl)

    with_row : (o : Option RowRecord) → find (is_row table stamp) (listed row_kind slots) ≡ o → IsIndexed table stamp place.slot slots
    with_row None same = absurd (false≢true (sym (some ∙ ap is_some same)))
    with_row (Some row) same =
        let parts = and_parts (row.table == table) (row.stamp == stamp) (find-passes (is_row table stamp) (listed row_kind slots) row same) in
        record {
          row = row;
          at = at_place ∙ same;
          found = find-alone (λ (r : RowRecord). r.table == table) (has row_kind.key stamp) (listed row_kind slots) row same (rows-apart slots apart stamp);
          of_table = eqb-true row.table table parts.0;
          stamped = eqb-true row.stamp stamp parts.1;
        }

pub indexed-told : (index : Index) (store : Held) (chip : Chip) (side : Side) (table stamp slot : ℕ) (o : Option ℕ) → IfSome (slots_of store side chip) (λ slots. o ≡ option_map place_slot (find (is_row_of table stamp) (row_places slots)))
    → Indexes index store chip → o ≡ Some slot → IfSome (slots_of store side chip) (IsIndexed table stamp slot)
indexed-told index store chip side table stamp slot o value stands is = told (slots_of store side chip) value (rows-told index store chip side stands)
  where
    told : (slots : Option Slots) → IfSome slots (λ slots. o ≡ option_map place_slot (find (is_row_of table stamp) (row_places slots))) → IfSome slots (HasRows index.cells (side_rows index side)) → IfSome slots (IsIndexed table stamp slot)
    told None value has_rows = tt
    told (Some slots) value has_rows =
        let found = some-map place_slot (find (is_row_of table stamp) (row_places slots)) slot (sym value ∙ is) in
        subst (λ (slot : ℕ). IsIndexed table stamp slot slots) found.2 (indexed-place table stamp slots found.0 has_rows.apart found.1)

-- the row of a stamp, if it is of the table
abbrev pub of_table : ℕ → ℕ → Slots → Option RowRecord
of_table table stamp slots = option_filter (λ (r : RowRecord). r.table == table) (find (has row_kind.key stamp) (listed row_kind slots))

pub indexed-found : (table stamp slot : ℕ) (slots : Option Slots) (value : Option RowRecord) → IfSome slots (IsIndexed table stamp slot)
    → IfSome slots (λ slots. value ≡ at_slot row_kind slot slots) → IfSome slots (λ slots. value ≡ of_table table stamp slots)
indexed-found table stamp slot None found indexed value = tt
indexed-found table stamp slot (Some slots) found indexed value = value ∙ (indexed.at ∙ rw (indexed.found, eq-eqb indexed.row.table table indexed.of_table) refl)

pub indexed-reads : (table stamp slot : ℕ) (slots : Option Slots) (value : Option RowRecord) (a b : Option ℕ) → IfSome slots (IsIndexed table stamp slot)
    → IfSome slots (λ slots. Becomes (RisesBetween (least_of value) (cell_size * kind_cells row_kind (get_or slots slot None))) a b)
    → IfSome slots (λ slots. Becomes (RisesBetween (least_of value) (cost_of stamp (row_costs table slots))) a b)
indexed-reads table stamp slot None found a b indexed reads = tt
indexed-reads table stamp slot (Some slots) found a b indexed reads = λ after told.
    let h = reads after told in
    let cost = subst (λ (s : ℕ). cell_size * kind_cells row_kind (get_or slots slot None) ≤ cost_of s (row_costs table slots)) indexed.stamped (cost-found table slots slot indexed.row indexed.at indexed.of_table) in
    (h.0, h.1, (h.2.0, omega (arith, h.2.1, cost)))

pub indexed-none : (table stamp : ℕ) (slots : Option Slots) (o : Option ℕ) → IfSome slots (λ slots. o ≡ option_map place_slot (find (is_row_of table stamp) (row_places slots))) → o ≡ None → IfSome slots (λ slots. None ≡ of_table table stamp slots)
indexed-none table stamp slots o value is =
    filtered slots (none-found slots (λ (slot : ℕ). slot) o (is_row table stamp) is (finds-told slots (λ (slot : ℕ). slot) table (has place_stamp stamp) (is_row table stamp) (λ slot row. refl) place_slot (λ place. refl) o value))
  where
    alone : (slots : Slots) (o : Option RowRecord) → find (has row_kind.key stamp) (listed row_kind slots) ≡ o → find (is_row table stamp) (listed row_kind slots) ≡ None → None ≡ option_filter (λ (r : RowRecord). r.table == table) o
    alone slots None found none = refl
    alone slots (Some r) found none =
        let own = eq-eqb r.stamp stamp (eqb-true r.stamp stamp (find-passes (has row_kind.key stamp) (listed row_kind slots) r found)) in
        elim (cases_Bool (r.table == table)) [
          | inl t ↦ absurd (false≢true (sym (none-passes (is_row table stamp) (has row_kind.key stamp) (listed row_kind slots) r none found) ∙ and_from (r.table == table) (r.stamp == stamp) t own))
          | inr f ↦ rw f refl
        ]

    filtered : (slots : Option Slots) → IfSome slots (λ slots. None ≡ find (is_row table stamp) (listed row_kind slots)) → IfSome slots (λ slots. None ≡ of_table table stamp slots)
    filtered None none = tt
    filtered (Some slots) none = alone slots (find (has row_kind.key stamp) (listed row_kind slots)) refl (sym none)

-- the answer of the index behind a stamp
pub finds-behind : (table stamp : ℕ) (slots : Option Slots) (o : Option (ℕ × ℕ)) → IfSome slots (λ slots. o ≡ option_map (λ (place : RowPlace). (place.stamp, place.slot)) (find (is_later_in table stamp) (row_places slots)))
    → IfSome slots (Finds (λ (answer : ℕ × ℕ). answer.1) o (is_row_after table stamp))
finds-behind table stamp slots o value =
    finds-told slots (λ (answer : ℕ × ℕ). answer.1) table (λ (place : RowPlace). nat_lt stamp place.stamp) (is_row_after table stamp) (λ slot row. refl) (λ (place : RowPlace). (place.stamp, place.slot)) (λ place. refl) o value

-- the place that is found behind a stamp has the stamp of the row that is found there
placed-stamp : (table stamp : ℕ) (slots : Slots) (place : RowPlace) (r : RowRecord) → find (is_later_in table stamp) (row_places slots) ≡ Some place → find (is_row_after table stamp) (listed row_kind slots) ≡ Some r → r.stamp ≡ place.stamp
placed-stamp table stamp slots place r is found =
    eqb-true r.stamp place.stamp (and_parts (r.table == table && nat_lt stamp r.stamp) (r.stamp == place.stamp) (and-again (r.table == table) (nat_lt stamp r.stamp) (r.stamp == place.stamp)
    (find-passes (λ (x : RowRecord). x.table == table && (nat_lt stamp x.stamp && x.stamp == place.stamp)) (listed row_kind slots) r (sym at_stamp ∙ (at_place ∙ found))))).1
  where
    and-again : (a b c : Bool) → (a && (b && c)) ≡ true → ((a && b) && c) ≡ true
    and-again true true true both = refl
    and-again true true false both = both
    and-again true false c both = both
    and-again false b c both = both

    at_place : at_slot row_kind place.slot slots ≡ find (is_row_after table stamp) (listed row_kind slots)
    at_place = ap (option_and_then (λ (p : RowPlace). at_slot row_kind (place_slot p) slots)) (sym is) ∙ found_row_in slots table (λ (p : RowPlace). nat_lt stamp p.stamp) (is_row_after table stamp) (λ slot row. refl)

    later : find (λ (p : RowPlace). p.table == table && (nat_lt stamp p.stamp && p.stamp == place.stamp)) (row_places slots) ≡ Some place
    later = find-agree (λ (p : RowPlace). p.table == table && (nat_lt stamp p.stamp && p.stamp == place.stamp)) (λ (p : RowPlace). is_later_in table stamp p && p.stamp == place.stamp) (row_places slots) (λ p. and-other (p.table == table) (nat_lt stamp p.stamp) (p.stamp == place.stamp))
        ∙ find-more (is_later_in table stamp) (λ (p : RowPlace). p.stamp == place.stamp) (row_places slots) place is (eq-eqb place.stamp place.stamp refl)
      where
        and-other : (a b c : Bool) → (a && (b && c)) ≡ ((a && b) && c)
        and-other true b c = refl
        and-other false b c = refl

    at_stamp : at_slot row_kind place.slot slots ≡ find (λ (x : RowRecord). x.table == table && (nat_lt stamp x.stamp && x.stamp == place.stamp)) (listed row_kind slots)
    at_stamp =
        ap (option_and_then (λ (p : RowPlace). at_slot row_kind (place_slot p) slots)) (sym later)
        ∙ found_row_in slots table (λ (p : RowPlace). nat_lt stamp p.stamp && p.stamp == place.stamp) (λ (x : RowRecord). x.table == table && (nat_lt stamp x.stamp && x.stamp == place.stamp)) (λ slot row. refl)

placed-stamps : (table stamp : ℕ) (slots : Slots) (o : Option RowPlace) (r : Option RowRecord) → find (is_later_in table stamp) (row_places slots) ≡ o → find (is_row_after table stamp) (listed row_kind slots) ≡ r
    → option_map place_stamp o ≡ option_map (λ (x : RowRecord). x.stamp) r
placed-stamps table stamp slots None None is found = refl
placed-stamps table stamp slots None (Some r) is found =
    absurd (false≢true (ap is_some (sym is) ∙ (found_both_in slots table (λ (p : RowPlace). nat_lt stamp p.stamp) (is_row_after table stamp) (λ slot row. refl) ∙ ap is_some found)))
placed-stamps table stamp slots (Some place) None is found =
    absurd (false≢true (sym (ap is_some (sym is) ∙ (found_both_in slots table (λ (p : RowPlace). nat_lt stamp p.stamp) (is_row_after table stamp) (λ slot row. refl) ∙ ap is_some found))))
placed-stamps table stamp slots (Some place) (Some r) is found = ap Some (sym (placed-stamp table stamp slots place r is found))

-- the stamp that the index has is that of the row that a search finds
pub stamps-behind : (table stamp : ℕ) (slots : Option Slots) (o : Option ℕ) → IfSome slots (λ slots. o ≡ option_map place_stamp (find (is_later_in table stamp) (row_places slots)))
    → IfSome slots (λ slots. o ≡ option_map (λ (x : RowRecord). x.stamp) (find (is_row_after table stamp) (listed row_kind slots)))
stamps-behind table stamp None o is = tt
stamps-behind table stamp (Some slots) o is = is ∙ placed-stamps table stamp slots (find (is_later_in table stamp) (row_places slots)) _ refl refl

-- the first of what the index answers
pub first-answered : (places : Option RowPlace) (o : Option (ℕ × ℕ)) → o ≡ option_map (λ (place : RowPlace). (place.stamp, place.slot)) places → option_map (λ (answer : ℕ × ℕ). answer.0) o ≡ option_map place_stamp places
first-answered None o is = ap (option_map (λ (answer : ℕ × ℕ). answer.0)) is
first-answered (Some place) o is = ap (option_map (λ (answer : ℕ × ℕ). answer.0)) is
