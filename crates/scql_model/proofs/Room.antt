-- The cells of the filled slots are the database's weight.
use Rattle.std.proofs.Common.{◌≡◌, ℕ, zero, suc, ◌≤◌, ◌+◌, true, ◌||◌, List, [], ◌∷◌, Option, Some, None, is_some, refl, sym, ap, ◌∙◌, arith}
use Rattle.std.specs.List.{list_all, filter_map, cons_option, sum_by}
use Rattle.std.proofs.lemmas.Bool.{and_parts, false≢true}
use Rattle.std.proofs.lemmas.List.Sums.{sum_by-cons}
use Rattle.eeprom.specs.StoreOf.{Slots, cells_for, cells_of}
use Rattle.eeprom.specs.Slots.{in_slot}
use Rattle.eeprom.proofs.InOrder.{sum_by-in_order}
use Rattle.scql_base.specs.declared.records.User.{User}
use Rattle.scql_base.specs.declared.records.Object.{Object}
use Rattle.scql_base.specs.declared.records.Grant.{Grant}
use Rattle.scql_base.specs.declared.records.RowRecord.{RowRecord}
use Rattle.scql_model.specs.Records.{counter_record, user_record, object_spelling, grant_record, row_record, counter_in, user_in, object_in, grant_in, row_in}
use Rattle.scql_model.specs.Stored.{cells_for_octets}
use Rattle.scql_model.specs.Database.{Database, weight}
use Rattle.scql_model.specs.Opens.{Holds, is_spelled, counter_stamp}
use Rattle.scql_model.proofs.KindsApart.{given, records_in, one_kind}
use Rattle.scql_model.proofs.SpellingLengths.{length-counter_in, length-user_in, length-object_in, length-grant_in, length-row_in}
use Rattle.scql_model.proofs.RecordsOf.{weight-of_kinds}

-- the cells of what a slot has of a kind
abbrev counter_cells : ℕ → ℕ
counter_cells next = cells_for_octets (counter_record.spell next)

abbrev user_cells : User → ℕ
user_cells u = cells_for_octets (user_record.spell u)

abbrev object_cells : Object → ℕ
object_cells o = cells_for_octets (object_spelling o)

abbrev grant_cells : Grant → ℕ
grant_cells g = cells_for_octets (grant_record.spell g)

abbrev row_cells : RowRecord → ℕ
row_cells r = cells_for_octets (row_record.spell r)

abbrev option_cells : {X : Type 0} → (X → ℕ) → Option X → ℕ
option_cells f None = 0
option_cells f (Some x) = f x

-- so many cells, once for each record
abbrev times : ℕ → ℕ → ℕ
times zero cells = 0
times (suc count) cells = cells + times count cells

times-plus : (m n cells : ℕ) → times (m + n) cells ≡ times m cells + times n cells
times-plus zero n cells = let same : 0 + n ≡ n = omega arith in omega (arith, ap (λ k. times k cells) same)
times-plus (suc m) n cells = let same : suc m + n ≡ suc (m + n) = omega arith in omega (arith, ap (λ k. times k cells) same, times-plus m n cells)

-- what is read takes the cells of the octets, once where there is something and not where there is nothing
cells-given : {X : Type 0} (f : X → ℕ) (o : Option X) (cells : ℕ) → ((x : X) → o ≡ Some x → cells ≡ f x) → option_cells f o ≡ times (given o) cells
cells-given f None cells long = refl
cells-given f (Some x) cells long = let same = long x refl in omega arith

-- octets that are a record are one
some_kind : (octets : List ℕ) → is_spelled (Some octets) ≡ true → records_in octets ≡ 1
some_kind octets spelled =
    let most = one_kind octets in
    let some = go (counter_in octets) (user_in octets) (object_in octets) (grant_in octets) (row_in octets) spelled in
    omega arith
  where
    go : (c : Option ℕ) (u : Option User) (o : Option Object) (g : Option Grant) (r : Option RowRecord) → is_some c || is_some u || is_some o || is_some g || is_some r ≡ true
        → 1 ≤ given c + (given u + (given o + (given g + given r)))
    go (Some c) u o g r some = omega arith
    go None (Some u) o g r some = omega arith
    go None None (Some o) g r some = omega arith
    go None None None (Some g) r some = omega arith
    go None None None None (Some r) some = omega arith
    go None None None None None some = absurd (false≢true some)

-- a spelled slot takes the cells of the record in it
cells-slot : (v : Option (List ℕ)) → is_spelled v ≡ true
    → cells_of v ≡ option_cells counter_cells (in_slot counter_in v) + (option_cells user_cells (in_slot user_in v) + (option_cells object_cells (in_slot object_in v) + (option_cells grant_cells (in_slot grant_in v) + option_cells row_cells (in_slot row_in v))))
cells-slot None spelled = refl
cells-slot (Some octets) spelled =
    let cells : ℕ = cells_for_octets octets in
    let counter = cells-given counter_cells (counter_in octets) cells (λ n is. ap cells_for (length-counter_in octets n is)) in
    let user = cells-given user_cells (user_in octets) cells (λ u is. ap cells_for (length-user_in octets u is)) in
    let object = cells-given object_cells (object_in octets) cells (λ o is. ap cells_for (length-object_in octets o is)) in
    let grant = cells-given grant_cells (grant_in octets) cells (λ g is. ap cells_for (length-grant_in octets g is)) in
    let row = cells-given row_cells (row_in octets) cells (λ r is. ap cells_for (length-row_in octets r is)) in
    let one = ap (λ n. times n cells) (some_kind octets spelled) in
    let a = times-plus (given (counter_in octets)) (given (user_in octets) + (given (object_in octets) + (given (grant_in octets) + given (row_in octets)))) cells in
    let b = times-plus (given (user_in octets)) (given (object_in octets) + (given (grant_in octets) + given (row_in octets))) cells in
    let c = times-plus (given (object_in octets)) (given (grant_in octets) + given (row_in octets)) cells in
    let d = times-plus (given (grant_in octets)) (given (row_in octets)) cells in
    omega (arith, counter, user, object, grant, row, one, a, b, c, d)

sum_by-cons_option : {X : Type 0} (f : X → ℕ) (o : Option X) (xs : List X) → sum_by f (cons_option o xs) ≡ option_cells f o + sum_by f xs
sum_by-cons_option f None xs = omega arith
sum_by-cons_option f (Some x) xs = sum_by-cons f x xs

cells-kinds : (slots : Slots) → list_all is_spelled slots ≡ true
    → sum_by cells_of slots ≡ sum_by counter_cells (filter_map (in_slot counter_in) slots) + (sum_by user_cells (filter_map (in_slot user_in) slots)
    + (sum_by object_cells (filter_map (in_slot object_in) slots) + (sum_by grant_cells (filter_map (in_slot grant_in) slots) + sum_by row_cells (filter_map (in_slot row_in) slots))))
cells-kinds [] spelled = refl
cells-kinds (v ∷ slots) spelled =
    let parts = and_parts (is_spelled v) (list_all is_spelled slots) spelled in
    let one = cells-slot v parts.0 in
    let rest = cells-kinds slots parts.1 in
    let all = sum_by-cons cells_of v slots in
    let counter = sum_by-cons_option counter_cells (in_slot counter_in v) (filter_map (in_slot counter_in) slots) in
    let user = sum_by-cons_option user_cells (in_slot user_in v) (filter_map (in_slot user_in) slots) in
    let object = sum_by-cons_option object_cells (in_slot object_in v) (filter_map (in_slot object_in) slots) in
    let grant = sum_by-cons_option grant_cells (in_slot grant_in v) (filter_map (in_slot grant_in) slots) in
    let row = sum_by-cons_option row_cells (in_slot row_in v) (filter_map (in_slot row_in) slots) in
    omega (arith, one, rest, all, counter, user, object, grant, row)

-- The cells of the filled slots are the weight of the database that they hold.
pub cells-filled : (slots : Slots) (db : Database) → Holds slots db → sum_by cells_of slots ≡ weight db
cells-filled slots db holds =
    let all = cells-kinds slots holds.spelled in
    let kinds = weight-of_kinds db in
    let counter = sym (sum_by-in_order counter_stamp counter_cells (filter_map (in_slot counter_in) slots)) ∙ ap (sum_by counter_cells) holds.counter in
    let next = sum_by-cons counter_cells db.next [] in
    let users = sym (sum_by-in_order (λ (u : User). u.stamp) user_cells (filter_map (in_slot user_in) slots)) ∙ ap (sum_by user_cells) holds.users in
    let objects = sym (sum_by-in_order (λ (o : Object). o.stamp) object_cells (filter_map (in_slot object_in) slots)) ∙ ap (sum_by object_cells) holds.objects in
    let grants = sym (sum_by-in_order (λ (g : Grant). g.stamp) grant_cells (filter_map (in_slot grant_in) slots)) ∙ ap (sum_by grant_cells) holds.grants in
    let rows = sym (sum_by-in_order (λ (r : RowRecord). r.stamp) row_cells (filter_map (in_slot row_in) slots)) ∙ ap (sum_by row_cells) holds.rows in
    omega (arith, all, kinds, counter, next, users, objects, grants, rows)
