-- What edits do to a database: what stays, what stands where, and how much it weighs.
use Rattle.std.proofs.Common.{◌≡◌, ℕ, ◌+◌, ◌≤◌, false, eqb, List, [], ◌∷◌, ◌++◌, map, Some, refl, ap, sym, ◌∙◌, inl, inr, arith}
use Rattle.std.specs.List.{list_any, sum_by, count_by, find}
use Rattle.std.proofs.lemmas.Bool.{cases_Bool, eqb-true}
use Rattle.std.proofs.lemmas.Option.{none-some, same_Some}
use Rattle.std.proofs.lemmas.List.Sums.{sum_by-cons, sum_by_push}
use Rattle.eeprom.specs.Slots.{has, replaced, without}
use Rattle.eeprom.proofs.InOrder.{counts, counts_not, without-none, replaced-none}
use Rattle.scql_base.specs.declared.records.User.{User}
use Rattle.scql_base.specs.declared.records.Object.{Object}
use Rattle.scql_base.specs.declared.records.Grant.{Grant}
use Rattle.scql_base.specs.declared.records.RowRecord.{RowRecord}
use Rattle.scql_model.specs.Database.{Database, weight}
use Rattle.scql_model.proofs.RecordsOf.{weight-of_kinds}
use Rattle.scql_model.specs.Edits.{AnyRecord, of_counter, of_user, of_object, of_grant, of_row, Action, to_add, to_change, to_remove, Edit, list_after, edited, applied, cells_of_record, making}

-- The card's cells and its row limit stay.
record HasSameLimits (old new : Database) : Type 0 where
  cells : new.cells ≡ old.cells
  limit : new.limit ≡ old.limit

edited-limits : (action : Action) (r : AnyRecord) (db : Database) → HasSameLimits db (edited action r db)
edited-limits action (of_counter next) db = record { cells = refl; limit = refl }
edited-limits action (of_user u) db = record { cells = refl; limit = refl }
edited-limits action (of_object o) db = record { cells = refl; limit = refl }
edited-limits action (of_grant g) db = record { cells = refl; limit = refl }
edited-limits action (of_row r) db = record { cells = refl; limit = refl }

pub applied-cells : (db : Database) (edits : List Edit) → (applied db edits).cells ≡ db.cells
applied-cells db [] = refl
applied-cells db (e ∷ edits) = applied-cells (edited e.action e.entry db) edits ∙ (edited-limits e.action e.entry db).cells

pub applied-limit : (db : Database) (edits : List Edit) → (applied db edits).limit ≡ db.limit
applied-limit db [] = refl
applied-limit db (e ∷ edits) = applied-limit (edited e.action e.entry db) edits ∙ (edited-limits e.action e.entry db).limit

-- Edits may be applied in two parts.
pub applied-append : (db : Database) (first then : List Edit) → applied db (first ++ then) ≡ applied (applied db first) then
applied-append db [] then = refl
applied-append db (e ∷ first) then = applied-append (edited e.action e.entry db) first then

-- A removed record is no longer there.
pub removed-gone : {X : Type 0} (key : X → ℕ) (x : X) (xs : List X) → list_any (has key (key x)) (list_after to_remove key x xs) ≡ false
removed-gone key x [] = refl
removed-gone key x (y ∷ ys) =
    elim (cases_Bool (eqb (key y) (key x))) [ inl t ↦ rw t (removed-gone key x ys) | inr f ↦ rw (f, f) (removed-gone key x ys) ]

-- A changed record keeps its place, and the others theirs.
pub changed-keys : {X : Type 0} (key : X → ℕ) (x : X) (xs : List X) → map key (list_after to_change key x xs) ≡ map key xs
changed-keys key x [] = refl
changed-keys key x (y ∷ ys) =
    elim (cases_Bool (eqb (key y) (key x))) [
      | inl t ↦ rw t (rw (sym (eqb-true (key y) (key x) t)) (ap (λ keys. key y ∷ keys) (changed-keys key x ys)))
      | inr f ↦ rw f (ap (λ keys. key y ∷ keys) (changed-keys key x ys))
    ]

-- Sums over a list of which one element goes, or has another in its place.
pub sum-removed : {X : Type 0} (key f : X → ℕ) (x : X) (xs : List X) → find (has key (key x)) xs ≡ Some x → count_by (has key (key x)) xs ≤ 1
    → sum_by f (without key (key x) xs) + f x ≡ sum_by f xs
sum-removed key f x [] found one = absurd (none-some x found)
sum-removed key f x (y ∷ ys) found one =
    elim (cases_Bool (eqb (key y) (key x))) [
      | inl t ↦ (let a = counts (has key (key x)) y ys t in
          let none = without-none key (key x) ys (omega arith) in
          let same : y ≡ x = same_Some y x (rw t at found) in
          let b = sum_by-cons f y ys in
          rw (t, none) (omega (arith, ap f same)))
      | inr e ↦ (let a = counts_not (has key (key x)) y ys e in
          let rest = sum-removed key f x ys (rw e at found) (omega arith) in
          let b = sum_by-cons f y ys in
          let c = sum_by-cons f y (without key (key x) ys) in
          rw e (omega arith))
    ]

pub sum-replaced : {X : Type 0} (key f : X → ℕ) (x y : X) (xs : List X) → key x ≡ key y → find (has key (key y)) xs ≡ Some y → count_by (has key (key y)) xs ≤ 1
    → sum_by f (replaced key x xs) + f y ≡ sum_by f xs + f x
sum-replaced key f x y [] same found one = absurd (none-some y found)
sum-replaced key f x y (z ∷ zs) same found one =
    elim (cases_Bool (eqb (key z) (key y))) [
      | inl t ↦ (let a = counts (has key (key y)) z zs t in
          let none : replaced key x zs ≡ zs = replaced-none key x zs (rw same (omega arith)) in
          let is : z ≡ y = same_Some z y (rw t at found) in
          let b = sum_by-cons f z zs in
          let c = sum_by-cons f x zs in
          rw (same, t, none) (omega (arith, ap f is)))
      | inr e ↦ (let a = counts_not (has key (key y)) z zs e in
          let rest = sum-replaced key f x y zs same (rw e at found) (omega arith) in
          let b = sum_by-cons f z zs in
          let c = sum_by-cons f z (replaced key x zs) in
          rw (same, e) (omega arith))
    ]

sum_by-map : {X Y : Type 0} (f : Y → ℕ) (g : X → Y) (xs : List X) → sum_by f (map g xs) ≡ sum_by (λ x. f (g x)) xs
sum_by-map f g [] = refl
sum_by-map f g (x ∷ xs) = sum_by-cons f (g x) (map g xs) ∙ ap (λ n. f (g x) + n) (sum_by-map f g xs) ∙ sym (sum_by-cons (λ x. f (g x)) x xs)

-- The weight of a database by the kinds of its records.
abbrev pub users_weight : List User → ℕ
users_weight users = sum_by (λ u. cells_of_record (of_user u)) users

abbrev pub objects_weight : List Object → ℕ
objects_weight objects = sum_by (λ o. cells_of_record (of_object o)) objects

abbrev pub grants_weight : List Grant → ℕ
grants_weight grants = sum_by (λ g. cells_of_record (of_grant g)) grants

abbrev pub rows_weight : List RowRecord → ℕ
rows_weight rows = sum_by (λ r. cells_of_record (of_row r)) rows

pub weight-kinds : (db : Database) → weight db ≡ cells_of_record (of_counter db.next) + (users_weight db.users + (objects_weight db.objects + (grants_weight db.grants + rows_weight db.rows)))
weight-kinds db = weight-of_kinds db

-- the cells that a record takes beside the counter's, which are there in every database
abbrev pub own_cells : AnyRecord → ℕ
own_cells (of_counter next) = 0
own_cells (of_user u) = cells_of_record (of_user u)
own_cells (of_object o) = cells_of_record (of_object o)
own_cells (of_grant g) = cells_of_record (of_grant g)
own_cells (of_row r) = cells_of_record (of_row r)

-- The counter takes one cell whatever it counts.
pub weight-next : (db : Database) (next : ℕ) → weight (record db { next = next }) ≡ weight db
weight-next db next = let a = weight-kinds db in let b = weight-kinds (record db { next = next }) in omega arith

-- what the records of a record's kind weigh, of which there is none of the counter's
abbrev kind_weight : AnyRecord → Database → ℕ
kind_weight (of_counter next) db = 0
kind_weight (of_user u) db = users_weight db.users
kind_weight (of_object o) db = objects_weight db.objects
kind_weight (of_grant g) db = grants_weight db.grants
kind_weight (of_row r) db = rows_weight db.rows

-- An edit changes the weight of one kind alone.
weight-edited : (action : Action) (r : AnyRecord) (db : Database) → weight (edited action r db) + kind_weight r db ≡ weight db + kind_weight r (edited action r db)
weight-edited action (of_counter next) db = let a = weight-next db next in omega arith
weight-edited action (of_user u) db = omega (arith, weight-kinds db, weight-kinds (edited action (of_user u) db))
weight-edited action (of_object o) db = omega (arith, weight-kinds db, weight-kinds (edited action (of_object o) db))
weight-edited action (of_grant g) db = omega (arith, weight-kinds db, weight-kinds (edited action (of_grant g) db))
weight-edited action (of_row r) db = omega (arith, weight-kinds db, weight-kinds (edited action (of_row r) db))

-- A record that is added weighs what its cells are.
kind_weight-added : (r : AnyRecord) (db : Database) → kind_weight r (edited to_add r db) ≡ kind_weight r db + own_cells r
kind_weight-added (of_counter next) db = refl
kind_weight-added (of_user u) db = sum_by_push (λ u. cells_of_record (of_user u)) db.users u
kind_weight-added (of_object o) db = sum_by_push (λ o. cells_of_record (of_object o)) db.objects o
kind_weight-added (of_grant g) db = sum_by_push (λ g. cells_of_record (of_grant g)) db.grants g
kind_weight-added (of_row r) db = sum_by_push (λ r. cells_of_record (of_row r)) db.rows r

pub weight-adding : (db : Database) (r : AnyRecord) → weight (edited to_add r db) ≡ weight db + own_cells r
weight-adding db r = omega (arith, weight-edited to_add r db, kind_weight-added r db)

pub weight-making : (db : Database) (r : AnyRecord) → weight (applied db (making db r)) ≡ weight db + own_cells r
weight-making db r = weight-adding (record db { next = db.next + 1 }) r ∙ ap (λ n. n + own_cells r) (weight-next db (db.next + 1))

-- one record of a list has the stamp of this one, and it is this one
abbrev pub IsAmong : {X : Type 0} → (X → ℕ) → X → List X → Type 0
IsAmong key x xs = (find (has key (key x)) xs ≡ Some x) × (count_by (has key (key x)) xs ≤ 1)

-- the database has this record, and no other of its kind has its stamp
abbrev pub HasRecord : Database → AnyRecord → Type 0
HasRecord db (of_counter next) = db.next ≡ next
HasRecord db (of_user u) = IsAmong (λ (v : User). v.stamp) u db.users
HasRecord db (of_object o) = IsAmong (λ (p : Object). p.stamp) o db.objects
HasRecord db (of_grant g) = IsAmong (λ (h : Grant). h.stamp) g db.grants
HasRecord db (of_row r) = IsAmong (λ (s : RowRecord). s.stamp) r db.rows

-- A record that is removed takes its cells with it.
kind_weight-removed : (r : AnyRecord) (db : Database) → HasRecord db r → kind_weight r (edited to_remove r db) + own_cells r ≡ kind_weight r db
kind_weight-removed (of_counter next) db there = refl
kind_weight-removed (of_user u) db there = sum-removed (λ (v : User). v.stamp) (λ u. cells_of_record (of_user u)) u db.users there.0 there.1
kind_weight-removed (of_object o) db there = sum-removed (λ (p : Object). p.stamp) (λ o. cells_of_record (of_object o)) o db.objects there.0 there.1
kind_weight-removed (of_grant g) db there = sum-removed (λ (h : Grant). h.stamp) (λ g. cells_of_record (of_grant g)) g db.grants there.0 there.1
kind_weight-removed (of_row r) db there = sum-removed (λ (s : RowRecord). s.stamp) (λ r. cells_of_record (of_row r)) r db.rows there.0 there.1

pub weight-removing : (db : Database) (r : AnyRecord) → HasRecord db r → weight (edited to_remove r db) + own_cells r ≡ weight db
weight-removing db r there = omega (arith, weight-edited to_remove r db, kind_weight-removed r db there)

-- A grant or a row that takes the place of another weighs its own cells for the other's.
pub weight-grant : (db : Database) (old new : Grant) → new.stamp ≡ old.stamp → HasRecord db (of_grant old)
    → weight (edited to_change (of_grant new) db) + cells_of_record (of_grant old) ≡ weight db + cells_of_record (of_grant new)
weight-grant db old new same there =
    omega (arith, weight-edited to_change (of_grant new) db, sum-replaced (λ (h : Grant). h.stamp) (λ g. cells_of_record (of_grant g)) new old db.grants same there.0 there.1)

pub weight-row : (db : Database) (old new : RowRecord) → new.stamp ≡ old.stamp → HasRecord db (of_row old)
    → weight (edited to_change (of_row new) db) + cells_of_record (of_row old) ≡ weight db + cells_of_record (of_row new)
weight-row db old new same there =
    omega (arith, weight-edited to_change (of_row new) db, sum-replaced (λ (s : RowRecord). s.stamp) (λ r. cells_of_record (of_row r)) new old db.rows same there.0 there.1)
