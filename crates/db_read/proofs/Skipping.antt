-- The next chosen row is found by passing over the rows of the table that aren't chosen, and what that costs.
use Rattle.std.proofs.Common.{◌≡◌, ℕ, ◌+◌, ◌<◌, ◌≤◌, ◌==◌, nat_le, nat_lt, Bool, true, false, ◌&&◌, if◌then◌else◌, List, [], ◌∷◌, Option, Some, None, option_map, refl, sym, ap, subst, ◌∙◌, inl, inr, arith}
use Rattle.std.specs.Prelude.{IfSome}
use Rattle.std.specs.List.{AllByRecursion, find, list_all}
use Rattle.std.proofs.lemmas.Bool.{and_parts, cases_Bool, eqb-true, le-leb, le-ltb, leb-true, lt-ltb, ltb-false, ltb-true, lt-leb}
use Rattle.std.proofs.lemmas.List.Sums.{sum_by-cons}
use Rattle.std.proofs.lemmas.Option.{none-some, same_Some}
use Rattle.eeprom.specs.Chip.{Becomes}
use Rattle.eeprom.specs.Slots.{Rises}
use Rattle.eeprom.specs.StoreOf.{Slots}
use Rattle.scql_base.specs.declared.cursor.Place.TheVariants.{At}
use Rattle.scql_base.specs.declared.records.RowRecord.{RowRecord}
use Rattle.scql_model.specs.Matching.{Values}
use Rattle.scql_model.specs.Moves.{row_behind}
use Rattle.scql_model.specs.Objects.{StampedRow}
use Rattle.scql_model.proofs.FoundAgain.{find-map_filter}
use Rattle.catalog_codec.specs.Catalog.{row_kind}
use Rattle.record_table.specs.Listed.{listed}
use Rattle.row_table.specs.Found.{is_row_after}
use Rattle.cursor.specs.Costs.{Cost, RisesBetween, cost_behind, cost_of}
use Rattle.db_read.specs.Chosen.{IsNextShown, are_rising, can_cut, can_show, chosen_rows, costs_shown, is_chosen, is_shown, rows_shown, shown_row}
use Rattle.db_read.specs.Costs.{cost_passed, cost_reached, row_costs}
use Rattle.db_read.specs.declared.chosen.Chosen.{Chosen}

key_of : RowRecord → ℕ
key_of r = r.stamp

-- a chosen row behind a stamp
abbrev pub is_wanted : Chosen → ℕ → RowRecord → Bool
is_wanted chosen stamp r = nat_lt stamp r.stamp && is_chosen chosen r

not-after : (in_table later shown : Bool) → (in_table && later) ≡ false → (later && (in_table && shown)) ≡ false
not-after true true shown none = absurd (cc)
not-after true false shown none = refl
not-after false true shown none = refl
not-after false false shown none = refl

not-shown : (later in_table : Bool) → (later && (in_table && false)) ≡ false
not-shown true true = refl
not-shown true false = refl
not-shown false in_table = refl

pub next-none : (chosen : Chosen) (passed : ℕ) (rows : List RowRecord) → find (is_row_after chosen.table passed) rows ≡ None → find (is_wanted chosen passed) rows ≡ None
next-none chosen passed [] none = refl
next-none chosen passed (x ∷ rows) none =
    elim (cases_Bool (is_row_after chosen.table passed x)) [
      | inl t ↦ absurd (none-some x (sym (rw t at none)))
      | inr f ↦ rw (not-after (x.table == chosen.table) (nat_lt passed x.stamp) (is_shown chosen x.row) f) (next-none chosen passed rows (rw f at none))
    ]

pub next-found : (chosen : Chosen) (passed : ℕ) (rows : List RowRecord) (r : RowRecord) → find (is_row_after chosen.table passed) rows ≡ Some r → is_shown chosen r.row ≡ true → find (is_wanted chosen passed) rows ≡ Some r
next-found chosen passed [] r found shown = absurd (none-some r found)
next-found chosen passed (x ∷ rows) r found shown =
    elim (cases_Bool (is_row_after chosen.table passed x)) [
      | inl t ↦ (let same = same_Some x r (rw t at found) in
          let parts = and_parts (x.table == chosen.table) (nat_lt passed x.stamp) t in
          let here : is_shown chosen x.row ≡ true = subst (λ (y : RowRecord). is_shown chosen y.row ≡ true) (sym same) shown in
          rw (parts.1, parts.0, here) (ap Some same))
      | inr f ↦ rw (not-after (x.table == chosen.table) (nat_lt passed x.stamp) (is_shown chosen x.row) f) (next-found chosen passed rows r (rw f at found) shown)
    ]

-- behind a stamp that all have passed
all-behind : (chosen : Chosen) (passed stamp : ℕ) (rows : List RowRecord) → AllByRecursion (λ (y : RowRecord). stamp < y.stamp) rows → passed < stamp → find (is_wanted chosen passed) rows ≡ find (is_wanted chosen stamp) rows
all-behind chosen passed stamp [] all less = refl
all-behind chosen passed stamp (y ∷ rows) all less =
    let far : stamp < y.stamp = all.0 in
    rw (lt-ltb passed y.stamp (omega arith), lt-ltb stamp y.stamp far, all-behind chosen passed stamp rows all.1 less) refl

-- a row that isn't behind a stamp isn't behind a greater one
not-later : (table passed stamp : ℕ) (x : RowRecord) → is_row_after table passed x ≡ false → passed < stamp → is_row_after table stamp x ≡ false
not-later table passed stamp x none less =
    elim (cases_Bool (x.table == table)) [
      | inl t ↦ (let early = ltb-false passed x.stamp (rw t at none) in rw (t, le-ltb stamp x.stamp (omega arith)) refl)
      | inr f ↦ rw f refl
    ]

found-later : (table passed : ℕ) (rows : List RowRecord) (r : RowRecord) → find (is_row_after table passed) rows ≡ Some r → passed < r.stamp
found-later table passed [] r found = absurd (none-some r found)
found-later table passed (x ∷ rows) r found =
    elim (cases_Bool (is_row_after table passed x)) [
      | inl t ↦ subst (λ (y : RowRecord). passed < y.stamp) (same_Some x r (rw t at found)) (ltb-true passed x.stamp (and_parts (x.table == table) (nat_lt passed x.stamp) t).1)
      | inr f ↦ found-later table passed rows r (rw f at found)
    ]

pub next-skipped : (chosen : Chosen) (passed : ℕ) (rows : List RowRecord) (r : RowRecord) → Rises row_kind.key rows → find (is_row_after chosen.table passed) rows ≡ Some r → is_shown chosen r.row ≡ false
    → find (is_wanted chosen passed) rows ≡ find (is_wanted chosen r.stamp) rows
next-skipped chosen passed [] r rises found hidden = refl
next-skipped chosen passed (x ∷ rows) r rises found hidden =
    elim (cases_Bool (is_row_after chosen.table passed x)) [
      | inl t ↦ (let same : x ≡ r = same_Some x r (rw t at found) in
          let here : is_shown chosen x.row ≡ false = subst (λ (y : RowRecord). is_shown chosen y.row ≡ false) (sym same) hidden in
          let less = ltb-true passed x.stamp (and_parts (x.table == chosen.table) (nat_lt passed x.stamp) t).1 in
          let stamp : x.stamp ≡ r.stamp = ap (λ (y : RowRecord). y.stamp) same in
          rw (here, not-shown (nat_lt passed x.stamp) (x.table == chosen.table), not-shown (nat_lt r.stamp x.stamp) (x.table == chosen.table))
          (all-behind chosen passed x.stamp rows rises.0 less ∙ ap (λ (s : ℕ). find (is_wanted chosen s) rows) stamp))
      | inr f ↦ (let less = found-later chosen.table passed rows r (rw f at found) in
          rw (
            not-after (x.table == chosen.table) (nat_lt passed x.stamp) (is_shown chosen x.row) f,
            not-after (x.table == chosen.table) (nat_lt r.stamp x.stamp) (is_shown chosen x.row) (not-later chosen.table passed r.stamp x f less),
          ) (next-skipped chosen passed rows r rises.1 (rw f at found) hidden))
    ]

-- rows in order rise
rising-above : (stamp : ℕ) (rows : List RowRecord) → list_all (λ (s : RowRecord). nat_lt stamp s.stamp) rows ≡ true → AllByRecursion (λ (y : RowRecord). stamp < y.stamp) rows
rising-above stamp [] all = tt
rising-above stamp (x ∷ rows) all = (let parts = and_parts (nat_lt stamp x.stamp) (list_all (λ (s : RowRecord). nat_lt stamp s.stamp) rows) all in (ltb-true stamp x.stamp parts.0, rising-above stamp rows parts.1))

pub rises-are_rising : (rows : List RowRecord) → are_rising rows ≡ true → Rises row_kind.key rows
rises-are_rising [] rising = tt
rises-are_rising (x ∷ rows) rising =
    let parts = and_parts (list_all (λ (s : RowRecord). nat_lt x.stamp s.stamp) rows) (are_rising rows) rising in
    (rising-above x.stamp rows parts.0, rises-are_rising rows parts.1)

-- what is said of the rows that are shown
pub shown-told : (chosen : Chosen) (slots : Option Slots) (P : List StampedRow → Type 0) → IfSome slots (λ slots. can_show chosen (listed row_kind slots) ≡ true → P (chosen_rows chosen (listed row_kind slots))) → IfSome (rows_shown chosen slots) P
shown-told chosen None P said = tt
shown-told chosen (Some slots) P said =
    elim (cases_Bool (can_show chosen (listed row_kind slots))) [
      | inl t ↦ rw t (said t)
      | inr f ↦ rw f tt
    ]

pub costs-told : (chosen : Chosen) (slots : Option Slots) (P : List Cost → Type 0) → IfSome slots (λ slots. can_show chosen (listed row_kind slots) ≡ true → P (row_costs chosen.table slots)) → IfSome (costs_shown chosen slots) P
costs-told chosen None P said = tt
costs-told chosen (Some slots) P said =
    elim (cases_Bool (can_show chosen (listed row_kind slots))) [
      | inl t ↦ rw t (said t)
      | inr f ↦ rw f tt
    ]

stamp-shown : (chosen : Chosen) (o : Option RowRecord) → option_map (λ (row : StampedRow). row.stamp) (option_map (shown_row chosen) o) ≡ option_map (λ (r : RowRecord). r.stamp) o
stamp-shown chosen None = refl
stamp-shown chosen (Some r) = refl

-- the next of the rows that are shown
pub next-shown : (chosen : Chosen) (stamp : ℕ) (slots : Option Slots) (next : Option RowRecord) → IfSome slots (IsNextShown chosen stamp next)
    → IfSome (rows_shown chosen slots) (λ rows. option_map (λ (r : RowRecord). r.stamp) next ≡ option_map (λ row. row.stamp) (row_behind (At stamp) rows))
next-shown chosen stamp None next said = tt
next-shown chosen stamp (Some slots) next said =
    shown-told chosen (Some slots) (λ rows. option_map (λ (r : RowRecord). r.stamp) next ≡ option_map (λ row. row.stamp) (row_behind (At stamp) rows)) (λ can.
    let rises = rises-are_rising (listed row_kind slots) (and_parts (are_rising (listed row_kind slots)) (list_all (can_cut chosen) _) can).0 in
    ap (option_map (λ (r : RowRecord). r.stamp)) (said rises)
    ∙ (sym (stamp-shown chosen (find (is_wanted chosen stamp) (listed row_kind slots)))
    ∙ sym (ap (option_map (λ (row : StampedRow). row.stamp)) (find-map_filter (λ (x : StampedRow). nat_lt stamp x.stamp) (shown_row chosen) (is_chosen chosen) (listed row_kind slots)))))

-- where all rows are chosen, the next of the table is the next of those that are shown
all-next : (chosen : Chosen) (stamp : ℕ) (rows : List RowRecord) (next : Option RowRecord) → find (is_row_after chosen.table stamp) rows ≡ next → ((values : Values) → is_shown chosen values ≡ true)
    → next ≡ find (is_wanted chosen stamp) rows
all-next chosen stamp rows None is all = sym (next-none chosen stamp rows is)
all-next chosen stamp rows (Some r) is all = sym (next-found chosen stamp rows r is (all r.row))

pub next-of_all : (chosen : Chosen) (stamp : ℕ) (slots : Option Slots) (next : Option ℕ) → ((values : Values) → is_shown chosen values ≡ true)
    → IfSome slots (λ slots. next ≡ option_map (λ (r : RowRecord). r.stamp) (find (is_row_after chosen.table stamp) (listed row_kind slots)))
    → IfSome (rows_shown chosen slots) (λ rows. next ≡ option_map (λ row. row.stamp) (row_behind (At stamp) rows))
next-of_all chosen stamp None next all is = tt
next-of_all chosen stamp (Some slots) next all is =
    let found : Option RowRecord = find (is_row_after chosen.table stamp) (listed row_kind slots) in
    subst (λ (n : Option ℕ). IfSome (rows_shown chosen (Some slots)) (λ rows. n ≡ option_map (λ row. row.stamp) (row_behind (At stamp) rows))) (sym is)
    (next-shown chosen stamp (Some slots) found (λ rises. all-next chosen stamp (listed row_kind slots) found refl all))

-- nothing was read
pub reads-nothing : (costs : Option (List Cost)) (most : List Cost → ℕ) (a : Option ℕ) → IfSome costs (λ list. Becomes (RisesBetween 0 (most list)) a a)
reads-nothing None most a = tt
reads-nothing (Some list) most a = λ after told. (after, told, (omega (arith), omega (arith)))

-- What is still to be found behind the rows that were passed.
abbrev pub IsStillAhead : Chosen → ℕ → ℕ → Slots → Type 0
IsStillAhead chosen stamp passed slots = Rises row_kind.key (listed row_kind slots) → find (is_wanted chosen stamp) (listed row_kind slots) ≡ find (is_wanted chosen passed) (listed row_kind slots)

pub left-next : (chosen : Chosen) (stamp passed : ℕ) (slots : Option Slots) (r : RowRecord) → IfSome slots (IsStillAhead chosen stamp passed) → IfSome slots (λ slots. Some r ≡ find (is_row_after chosen.table passed) (listed row_kind slots))
    → is_shown chosen r.row ≡ false → IfSome slots (IsStillAhead chosen stamp r.stamp)
left-next chosen stamp passed None r left found hidden = tt
left-next chosen stamp passed (Some slots) r left found hidden = λ rises. left rises ∙ next-skipped chosen passed (listed row_kind slots) r rises (sym found) hidden

pub left-found : (chosen : Chosen) (stamp passed : ℕ) (slots : Option Slots) (r : RowRecord) → IfSome slots (IsStillAhead chosen stamp passed) → IfSome slots (λ slots. Some r ≡ find (is_row_after chosen.table passed) (listed row_kind slots))
    → is_shown chosen r.row ≡ true → IfSome slots (IsNextShown chosen stamp (Some r))
left-found chosen stamp passed None r left found shown = tt
left-found chosen stamp passed (Some slots) r left found shown = λ rises. sym (left rises ∙ next-found chosen passed (listed row_kind slots) r (sym found) shown)

pub left-none : (chosen : Chosen) (stamp passed : ℕ) (slots : Option Slots) → IfSome slots (IsStillAhead chosen stamp passed) → IfSome slots (λ slots. None ≡ find (is_row_after chosen.table passed) (listed row_kind slots))
    → IfSome slots (IsNextShown chosen stamp None)
left-none chosen stamp passed None left none = tt
left-none chosen stamp passed (Some slots) left none = λ rises. sym (left rises ∙ next-none chosen passed (listed row_kind slots) (sym none))

-- What was passed and one row more cost what the rows up to that one do.
cost-one : (stamp passed next other octets : ℕ) → stamp ≤ passed → passed < next
    → (if (nat_lt stamp other && nat_le other passed) then octets else 0) + (if other == next then octets else 0) ≤ (if (nat_lt stamp other && nat_le other next) then octets else 0)
cost-one stamp passed next other octets low high =
    elim (cases_Bool (other == next)) [
      | inl t ↦ (let same = eqb-true other next t in
          rw (t, lt-leb other passed (omega arith), le-leb other next (omega arith), lt-ltb stamp other (omega arith)) (omega arith))
      | inr f ↦ elim (cases_Bool (nat_lt stamp other)) [
        | inl u ↦ elim (cases_Bool (nat_le other passed)) [
          | inl v ↦ (let early = leb-true other passed v in rw (f, u, v, le-leb other next (omega arith)) (omega arith))
          | inr w ↦ rw (f, u, w) (omega arith)
        ]
        | inr e ↦ rw (f, e) (omega arith)
      ]
    ]

pub cost-step : (stamp passed next : ℕ) (costs : List Cost) → stamp ≤ passed → passed < next → cost_behind stamp (Some passed) costs + cost_of next costs ≤ cost_behind stamp (Some next) costs
cost-step stamp passed next [] low high = omega arith
cost-step stamp passed next (c ∷ costs) low high =
    let rest = cost-step stamp passed next costs low high in
    let one = cost-one stamp passed next c.stamp c.octets low high in
    let a = sum_by-cons (λ (x : Cost). if (nat_lt stamp x.stamp && nat_le x.stamp passed) then x.octets else 0) c costs in
    let b = sum_by-cons (λ (x : Cost). if x.stamp == next then x.octets else 0) c costs in
    let d = sum_by-cons (λ (x : Cost). if (nat_lt stamp x.stamp && nat_le x.stamp next) then x.octets else 0) c costs in
    omega arith

cost-few : (stamp passed other octets : ℕ) → (if (nat_lt stamp other && nat_le other passed) then octets else 0) ≤ (if nat_lt stamp other then octets else 0)
cost-few stamp passed other octets =
    elim (cases_Bool (nat_lt stamp other)) [
      | inl u ↦ elim (cases_Bool (nat_le other passed)) [ inl v ↦ rw (u, v) (omega arith) | inr w ↦ rw (u, w) (omega arith) ]
      | inr e ↦ rw e (omega arith)
    ]

pub cost-all : (stamp passed : ℕ) (costs : List Cost) → cost_behind stamp (Some passed) costs ≤ cost_behind stamp None costs
cost-all stamp passed [] = omega arith
cost-all stamp passed (c ∷ costs) =
    let rest = cost-all stamp passed costs in
    let one = cost-few stamp passed c.stamp c.octets in
    let a = sum_by-cons (λ (x : Cost). if (nat_lt stamp x.stamp && nat_le x.stamp passed) then x.octets else 0) c costs in
    let b = sum_by-cons (λ (x : Cost). if nat_lt stamp x.stamp then x.octets else 0) c costs in
    omega arith

-- what was read up to a stamp
abbrev pub ReadsBehind : Chosen → ℕ → Option ℕ → Slots → Option ℕ → Option ℕ → Type 0
ReadsBehind chosen stamp last slots a b = Becomes (RisesBetween 0 (cost_behind stamp last (row_costs chosen.table slots))) a b

pub reads-next : (chosen : Chosen) (stamp passed : ℕ) (slots : Option Slots) (r : RowRecord) (least : ℕ) (a b c : Option ℕ) → stamp ≤ passed → passed < r.stamp → IfSome slots (λ slots. ReadsBehind chosen stamp (Some passed) slots a b)
    → IfSome slots (λ slots. Becomes (RisesBetween least (cost_reached chosen.table slots (Some r))) b c) → IfSome slots (λ slots. Becomes (RisesBetween least (cost_passed chosen.table stamp slots (Some r))) a c)
reads-next chosen stamp passed None r least a b c low high before here = tt
reads-next chosen stamp passed (Some slots) r least a b c low high before here = λ after told.
    let h = here after told in
    let s = before h.0 h.1 in
    let step = cost-step stamp passed r.stamp (row_costs chosen.table slots) low high in
    (s.0, s.1, (omega (arith, h.2.0, s.2.0), omega (arith, h.2.1, s.2.1, step)))

pub reads-passed : (chosen : Chosen) (stamp : ℕ) (slots : Option Slots) (r : RowRecord) (least : ℕ) (a b : Option ℕ) → IfSome slots (λ slots. Becomes (RisesBetween least (cost_passed chosen.table stamp slots (Some r))) a b)
    → IfSome slots (λ slots. ReadsBehind chosen stamp (Some r.stamp) slots a b)
reads-passed chosen stamp None r least a b read = tt
reads-passed chosen stamp (Some slots) r least a b read = λ after told. (let h = read after told in (h.0, h.1, (omega (arith, h.2.0), h.2.1)))

pub reads-end : (chosen : Chosen) (stamp passed : ℕ) (slots : Option Slots) (a b c : Option ℕ) → IfSome slots (λ slots. ReadsBehind chosen stamp (Some passed) slots a b)
    → IfSome slots (λ slots. Becomes (RisesBetween 0 (cost_reached chosen.table slots None)) b c) → IfSome slots (λ slots. ReadsBehind chosen stamp None slots a c)
reads-end chosen stamp passed None a b c before here = tt
reads-end chosen stamp passed (Some slots) a b c before here = λ after told.
    let h = here after told in
    let s = before h.0 h.1 in
    let all = cost-all stamp passed (row_costs chosen.table slots) in
    (s.0, s.1, (omega (arith, h.2.0, s.2.0), omega (arith, h.2.1, s.2.1, all)))

-- as the costs of a feed say
pub costs-behind : (chosen : Chosen) (stamp least : ℕ) (last : Option RowRecord) (slots : Option Slots) (a b : Option ℕ) → IfSome slots (λ slots. Becomes (RisesBetween least (cost_passed chosen.table stamp slots last)) a b)
    → IfSome (costs_shown chosen slots) (λ costs. Becomes (RisesBetween 0 (cost_behind stamp (option_map (λ (r : RowRecord). r.stamp) last) costs)) a b)
costs-behind chosen stamp least last None a b reads = tt
costs-behind chosen stamp least last (Some slots) a b reads =
    costs-told chosen (Some slots) (λ costs. Becomes (RisesBetween 0 (cost_behind stamp (option_map (λ (r : RowRecord). r.stamp) last) costs)) a b) (λ can after told.
    let h = reads after told in
    (h.0, h.1, (omega (arith, h.2.0), h.2.1)))
