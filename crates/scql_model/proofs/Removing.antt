-- Edits that remove records leave all others as they were.
use Rattle.std.proofs.Common.{◌≡◌, ℕ, ◌<◌, ◌==◌, Bool, true, false, not, ◌&&◌, ◌||◌, List, [], ◌∷◌, ◌++◌, map, refl, ap, sym, ◌∙◌, inl, inr, arith}
use Rattle.std.specs.List.{list_any, filter, AllByRecursion}
use Rattle.std.proofs.lemmas.Bool.{cases_Bool, eq-eqb, ne_eqb}
use Rattle.std.proofs.lemmas.List.Folds.{list_any-append}
use Rattle.eeprom.specs.Slots.{Rises, without}
use Rattle.scql_base.specs.declared.records.User.{User}
use Rattle.scql_base.specs.declared.records.Object.{Object}
use Rattle.scql_base.specs.declared.records.Grant.{Grant}
use Rattle.scql_base.specs.declared.records.RowRecord.{RowRecord}
use Rattle.scql_model.specs.Database.{Database}
use Rattle.scql_model.specs.Edits.{Edit, is_counter, of_grant, of_row, removing, applied, takes_stamp}
use Rattle.scql_model.specs.Defining.{removing_object, removing_rows}
use Rattle.scql_model.specs.Users.{removing_user}
use Rattle.scql_model.proofs.EditLaws.{applied-append}

filter-same : {X : Type 0} (p q : X → Bool) (xs : List X) → ((x : X) → p x ≡ q x) → filter p xs ≡ filter q xs
filter-same p q [] same = refl
filter-same p q (x ∷ xs) same =
    let rest = filter-same p q xs same in
    elim (cases_Bool (q x)) [ inl t ↦ rw (same x, t) (ap (λ kept. x ∷ kept) rest) | inr f ↦ rw (same x, f) rest ]

filter-filter : {X : Type 0} (p q : X → Bool) (xs : List X) → filter q (filter p xs) ≡ filter (λ x. p x && q x) xs
filter-filter p q [] = refl
filter-filter p q (x ∷ xs) =
    let rest = filter-filter p q xs in
    elim (cases_Bool (p x)) [
      | inl t ↦ elim (cases_Bool (q x)) [ inl u ↦ rw (t, u) (ap (λ kept. x ∷ kept) rest) | inr f ↦ rw (t, f) rest ]
      | inr f ↦ rw f rest
    ]

filter-each : {X : Type 0} (xs : List X) → filter (λ _. true) xs ≡ xs
filter-each [] = refl
filter-each (x ∷ xs) = ap (λ kept. x ∷ kept) (filter-each xs)

-- an element has the key of one of others
abbrev is_one_of : {X : Type 0} → (X → ℕ) → List X → X → Bool
is_one_of key ys x = list_any (λ y. key x == key y) ys

-- elements are taken out of a list by their keys, one after another
abbrev without_all : {X : Type 0} → (X → ℕ) → List X → List X → List X
without_all key [] xs = xs
without_all key (y ∷ ys) xs = without_all key ys (without key (key y) xs)

without_all-filter : {X : Type 0} (key : X → ℕ) (ys xs : List X) → without_all key ys xs ≡ filter (λ x. not (is_one_of key ys x)) xs
without_all-filter key [] xs = sym (filter-each xs)
without_all-filter key (y ∷ ys) xs =
    without_all-filter key ys (without key (key y) xs)
    ∙ filter-filter (λ x. not (key x == key y)) (λ x. not (is_one_of key ys x)) xs
    ∙ filter-same _ _ xs (λ x. neither (key x == key y) (is_one_of key ys x))
  where
    neither : (a b : Bool) → (not a && not b) ≡ not (a || b)
    neither true b = refl
    neither false b = refl

-- no element that passes has a key that is below all
none_below : {X : Type 0} (key : X → ℕ) (p : X → Bool) (x : X) (xs : List X) → AllByRecursion (λ y. key x < key y) xs → is_one_of key (filter p xs) x ≡ false
none_below key p x [] below = refl
none_below key p x (y ∷ ys) below =
    let less : key x < key y = below.0 in
    let other = ne_eqb (key x) (key y) (λ (same : key x ≡ key y). omega arith) in
    elim (cases_Bool (p y)) [ inl t ↦ rw (t, other) (none_below key p x ys below.1) | inr f ↦ rw f (none_below key p x ys below.1) ]

-- where keys rise, taking out all that pass a test leaves those that don't pass; `hit` are keys that none of them has
left_behind : {X : Type 0} (key : X → ℕ) (p : X → Bool) (hit : ℕ → Bool) (xs : List X) → Rises key xs → AllByRecursion (λ x. hit (key x) ≡ false) xs
    → filter (λ x. not (hit (key x) || is_one_of key (filter p xs) x)) xs ≡ filter (λ x. not (p x)) xs
left_behind key p hit [] rises none = refl
left_behind key p hit (x ∷ xs) rises none =
    elim (cases_Bool (p x)) [
      | inl t ↦ (let later : filter (λ z. not (hit (key z) || is_one_of key (filter p (x ∷ xs)) z)) xs ≡ filter (λ z. not (p z)) xs =
          filter-same _ (λ z. not ((hit (key z) || key z == key x) || is_one_of key (filter p xs) z)) xs
          (λ z. rw t (ap not (or_assoc (hit (key z)) (key z == key x) (is_one_of key (filter p xs) z))))
          ∙ left_behind key p (λ k. hit k || k == key x) xs rises.1 (others key hit x xs none.1 rises.0) in
          rw (t, none.0, eq-eqb (key x) (key x) refl) later)
      | inr f ↦ (let later : filter (λ z. not (hit (key z) || is_one_of key (filter p (x ∷ xs)) z)) xs ≡ filter (λ z. not (p z)) xs =
          filter-same _ (λ z. not (hit (key z) || is_one_of key (filter p xs) z)) xs (λ z. rw f refl) ∙ left_behind key p hit xs rises.1 none.1 in
          rw (f, none.0, none_below key p x xs rises.0) (ap (λ kept. x ∷ kept) later))
    ]
  where
    or_assoc : (a b c : Bool) → (a || (b || c)) ≡ ((a || b) || c)
    or_assoc true b c = refl
    or_assoc false b c = refl

    others : {X : Type 0} (key : X → ℕ) (hit : ℕ → Bool) (x : X) (xs : List X) → AllByRecursion (λ z. hit (key z) ≡ false) xs → AllByRecursion (λ z. key x < key z) xs
        → AllByRecursion (λ z. (hit (key z) || key z == key x) ≡ false) xs
    others key hit x [] none above = tt
    others key hit x (z ∷ zs) none above =
        let less : key x < key z = above.0 in
        (rw (none.0, ne_eqb (key z) (key x) (λ (same : key z ≡ key x). omega arith)) refl, others key hit x zs none.1 above.1)

without_all-passing : {X : Type 0} (key : X → ℕ) (p : X → Bool) (xs : List X) → Rises key xs → without_all key (filter p xs) xs ≡ filter (λ x. not (p x)) xs
without_all-passing key p xs rises = without_all-filter key (filter p xs) xs ∙ left_behind key p (λ _. false) xs rises (nowhere key xs)
  where
    nowhere : {X : Type 0} (key : X → ℕ) (xs : List X) → AllByRecursion (λ x. false ≡ false) xs
    nowhere key [] = tt
    nowhere key (x ∷ xs) = (refl, nowhere key xs)

abbrev user_stamp : User → ℕ
user_stamp u = u.stamp

abbrev object_stamp : Object → ℕ
object_stamp o = o.stamp

abbrev grant_stamp : Grant → ℕ
grant_stamp g = g.stamp

abbrev row_stamp : RowRecord → ℕ
row_stamp r = r.stamp

applied-grants : (db : Database) (grants : List Grant) → applied db (map (λ (g : Grant). removing (of_grant g)) grants) ≡ record db { grants = without_all grant_stamp grants db.grants }
applied-grants db [] = refl
applied-grants db (g ∷ grants) = applied-grants (record db { grants = without grant_stamp g.stamp db.grants }) grants

applied-rows : (db : Database) (rows : List RowRecord) → applied db (map (λ (r : RowRecord). removing (of_row r)) rows) ≡ record db { rows = without_all row_stamp rows db.rows }
applied-rows db [] = refl
applied-rows db (r ∷ rows) = applied-rows (record db { rows = without row_stamp r.stamp db.rows }) rows

-- Where an object goes, it goes and the grants on it go, and no other record.
pub applied-removing_object : (db : Database) (o : Object) → Rises grant_stamp db.grants
    → applied db (removing_object db o)
    ≡ record db { objects = without object_stamp o.stamp db.objects; grants = filter (λ (g : Grant). not (g.object == o.stamp)) db.grants }
applied-removing_object db o rises =
    applied-grants (record db { objects = without object_stamp o.stamp db.objects }) (filter (λ (g : Grant). g.object == o.stamp) db.grants)
    ∙ ap (λ grants. record db { objects = without object_stamp o.stamp db.objects; grants = grants }) (without_all-passing grant_stamp (λ (g : Grant). g.object == o.stamp) db.grants rises)

-- Where a table is dropped, its rows go too.
pub applied-removing_table : (db : Database) (o : Object) → Rises grant_stamp db.grants → Rises row_stamp db.rows
    → applied db (removing_object db o ++ removing_rows db o)
    ≡ record db {
      objects = without object_stamp o.stamp db.objects;
      grants = filter (λ (g : Grant). not (g.object == o.stamp)) db.grants;
      rows = filter (λ (r : RowRecord). not (r.table == o.stamp)) db.rows;
    }
applied-removing_table db o rises rows_rise =
    let without_object = record db { objects = without object_stamp o.stamp db.objects; grants = filter (λ (g : Grant). not (g.object == o.stamp)) db.grants } in
    applied-append db (removing_object db o) (removing_rows db o)
    ∙ ap (λ first. applied first (removing_rows db o)) (applied-removing_object db o rises)
    ∙ applied-rows without_object (filter (λ (r : RowRecord). r.table == o.stamp) db.rows)
    ∙ ap (λ rows. record without_object { rows = rows }) (without_all-passing row_stamp (λ (r : RowRecord). r.table == o.stamp) db.rows rows_rise)

-- Where a user is deleted, the user goes and the grants to it go, and no other record.
pub applied-removing_user : (db : Database) (u : User) → Rises grant_stamp db.grants
    → applied db (removing_user db u)
    ≡ record db { users = without user_stamp u.stamp db.users; grants = filter (λ (g : Grant). not (g.grantee == u.stamp)) db.grants }
applied-removing_user db u rises =
    applied-grants (record db { users = without user_stamp u.stamp db.users }) (filter (λ (g : Grant). g.grantee == u.stamp) db.grants)
    ∙ ap (λ grants. record db { users = without user_stamp u.stamp db.users; grants = grants }) (without_all-passing grant_stamp (λ (g : Grant). g.grantee == u.stamp) db.grants rises)

-- what is removed takes no stamp
pub grants-take_none : (grants : List Grant) → takes_stamp (map (λ (g : Grant). removing (of_grant g)) grants) ≡ false
grants-take_none [] = refl
grants-take_none (g ∷ grants) = grants-take_none grants

pub rows-take_none : (rows : List RowRecord) → takes_stamp (map (λ (r : RowRecord). removing (of_row r)) rows) ≡ false
rows-take_none [] = refl
rows-take_none (r ∷ rows) = rows-take_none rows

-- and edits behind such take one where they do
pub takes_stamp-behind : (first rest : List Edit) → takes_stamp first ≡ false → takes_stamp (first ++ rest) ≡ takes_stamp rest
takes_stamp-behind first rest none = rw (list_any-append (λ (e : Edit). is_counter e.entry) first rest, none) refl
