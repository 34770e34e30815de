-- The stamps of the records in slots that hold a database: each stands in one slot, and the database has it.
use Rattle.std.proofs.Common.{◌≡◌, ℕ, zero, suc, ◌+◌, ◌<◌, ◌≤◌, ◌==◌, ◌||◌, nat_le, nat_lt, Bool, true, false, cond, eqb, count_by, List, [], ◌∷◌, ◌++◌, map, Option, Some, None, is_some, option_map, get_or, inl, inr, refl, sym, ap, subst, ◌∙◌, arith}
use Rattle.std.specs.List.{cons_option, filter_map, list_all}
use Rattle.std.specs.Option.{option_map_or, option_or}
use Rattle.std.proofs.lemmas.Bool.{cases_Bool, and_parts, eq-eqb, eqb-true, false≢true, ltb-true, ne_eqb, or_right}
use Rattle.std.proofs.lemmas.List.Sums.{sum_by-append, sum_by-cons}
use Rattle.cell_store.specs.Chains.{is_among}
use Rattle.eeprom.specs.Slots.{has, in_slot}
use Rattle.eeprom.specs.StoreOf.{Slots}
use Rattle.eeprom.proofs.InOrder.{counts, counts_not, sum_by-in_order}
use Rattle.scql_base.specs.declared.records.User.{User}
use Rattle.scql_base.specs.declared.records.Object.{Object}
use Rattle.scql_base.specs.declared.records.Grant.{Grant}
use Rattle.scql_base.specs.declared.records.RowRecord.{RowRecord}
use Rattle.scql_model.specs.Database.{Database, IsValid, records_of, stored_grant, stored_object, stored_row, stored_user}
use Rattle.scql_model.specs.Edits.{has_record}
use Rattle.scql_model.specs.Opens.{Holds, counter_stamp, is_spelled}
use Rattle.scql_model.specs.Records.{counter_in, grant_in, object_in, of_counter, of_grant, of_object, of_row, of_user, record_stamp, row_in, user_in}
use Rattle.scql_model.specs.Stored.{StoredRecord, is_given_out}
use Rattle.record_table.specs.Touching.{Stands, stamp_in}

-- of what passes a test once at most there is one place
passes-once : {A : Type 0} (p : A → Bool) (xs : List A) (i : ℕ) (d : A) → p d ≡ false → p (get_or xs i d) ≡ true → 1 ≤ count_by p xs
passes-once p [] i d fails passes = absurd (false≢true (sym fails ∙ passes))
passes-once p (x ∷ xs) zero d fails passes = omega (arith, counts p x xs passes)
passes-once p (x ∷ xs) (suc i) d fails passes = omega (arith, passes-once p xs i d fails passes, sum_by-cons (λ y. cond (p y) 1 0) x xs)

one_place : {A : Type 0} (p : A → Bool) (xs : List A) (i j : ℕ) (d : A) → p d ≡ false → count_by p xs ≤ 1 → p (get_or xs i d) ≡ true → p (get_or xs j d) ≡ true → i ≡ j
one_place p [] i j d fails one first second = absurd (false≢true (sym fails ∙ first))
one_place p (x ∷ xs) zero zero d fails one first second = refl
one_place p (x ∷ xs) zero (suc j) d fails one first second = absurd (omega (arith, one, counts p x xs first, passes-once p xs j d fails second))
one_place p (x ∷ xs) (suc i) zero d fails one first second = absurd (omega (arith, one, counts p x xs second, passes-once p xs i d fails first))
one_place p (x ∷ xs) (suc i) (suc j) d fails one first second =
    ap suc (one_place p xs i j d fails (omega (arith, one, sum_by-cons (λ y. cond (p y) 1 0) x xs)) first second)

-- whether the record in a slot has a stamp, and whether one of a kind has it
abbrev has_stamp : ℕ → Option (List ℕ) → Bool
has_stamp stamp entry = option_map_or (λ other. other == stamp) (in_slot stamp_in entry) false

abbrev times_named : {X : Type 0} → (X → ℕ) → ℕ → Option X → ℕ
times_named {X} key stamp o = cond (option_map_or (has key stamp) o false) 1 0

-- a record that a slot has is one of its kind
named-slot : (stamp : ℕ) (v : Option (List ℕ)) → cond (has_stamp stamp v) 1 0
    ≤ times_named counter_stamp stamp (in_slot counter_in v) + (times_named (λ (u : User). u.stamp) stamp (in_slot user_in v) + (times_named (λ (o : Object). o.stamp) stamp (in_slot object_in v)
    + (times_named (λ (g : Grant). g.stamp) stamp (in_slot grant_in v) + times_named (λ (r : RowRecord). r.stamp) stamp (in_slot row_in v))))
named-slot stamp None = omega arith
named-slot stamp (Some octets) = go (counter_in octets) (user_in octets) (object_in octets) (grant_in octets) (row_in octets)
  where
    go : (c : Option ℕ) (u : Option User) (o : Option Object) (g : Option Grant) (r : Option RowRecord)
        → cond (option_map_or (λ other. other == stamp) (option_map record_stamp (option_or (option_map of_counter c) (option_or (option_map of_user u) (option_or (option_map of_object o) (option_or (option_map of_grant g) (option_map of_row r)))))) false) 1 0
        ≤ times_named counter_stamp stamp c + (times_named (λ (u : User). u.stamp) stamp u + (times_named (λ (o : Object). o.stamp) stamp o
        + (times_named (λ (g : Grant). g.stamp) stamp g + times_named (λ (r : RowRecord). r.stamp) stamp r)))
    go (Some c) u o g r = omega arith
    go None (Some u) o g r = omega arith
    go None None (Some o) g r = omega arith
    go None None None (Some g) r = omega arith
    go None None None None (Some r) = omega arith
    go None None None None None = omega arith

count-cons_option : {X : Type 0} (key : X → ℕ) (stamp : ℕ) (o : Option X) (xs : List X) → count_by (has key stamp) (cons_option o xs) ≡ times_named key stamp o + count_by (has key stamp) xs
count-cons_option key stamp None xs = omega arith
count-cons_option key stamp (Some x) xs = sum_by-cons (λ y. cond (has key stamp y) 1 0) x xs

-- how often a stamp stands in the records of each kind
abbrev named_in : ℕ → Slots → ℕ
named_in stamp slots =
    count_by (has counter_stamp stamp) (filter_map (in_slot counter_in) slots) + (count_by (has (λ (u : User). u.stamp) stamp) (filter_map (in_slot user_in) slots)
    + (count_by (has (λ (o : Object). o.stamp) stamp) (filter_map (in_slot object_in) slots) + (count_by (has (λ (g : Grant). g.stamp) stamp) (filter_map (in_slot grant_in) slots)
    + count_by (has (λ (r : RowRecord). r.stamp) stamp) (filter_map (in_slot row_in) slots))))

named-slots : (stamp : ℕ) (slots : Slots) → count_by (has_stamp stamp) slots ≤ named_in stamp slots
named-slots stamp [] = omega arith
named-slots stamp (v ∷ slots) =
    omega (
      arith,
      named-slot stamp v,
      named-slots stamp slots,
      sum_by-cons (λ v. cond (has_stamp stamp v) 1 0) v slots,
      count-cons_option counter_stamp stamp (in_slot counter_in v) (filter_map (in_slot counter_in) slots),
      count-cons_option (λ (u : User). u.stamp) stamp (in_slot user_in v) (filter_map (in_slot user_in) slots),
      count-cons_option (λ (o : Object). o.stamp) stamp (in_slot object_in v) (filter_map (in_slot object_in) slots),
      count-cons_option (λ (g : Grant). g.stamp) stamp (in_slot grant_in v) (filter_map (in_slot grant_in) slots),
      count-cons_option (λ (r : RowRecord). r.stamp) stamp (in_slot row_in v) (filter_map (in_slot row_in) slots),
    )

-- how often in a database's
abbrev stored_stamp : StoredRecord → ℕ
stored_stamp r = r.stamp

count-map : {X : Type 0} (f : X → StoredRecord) (stamp : ℕ) (xs : List X) → count_by (has stored_stamp stamp) (map f xs) ≡ count_by (has (λ x. (f x).stamp) stamp) xs
count-map f stamp [] = refl
count-map f stamp (x ∷ xs) =
    omega (arith, sum_by-cons (λ r. cond (has stored_stamp stamp r) 1 0) (f x) (map f xs), sum_by-cons (λ x. cond (has (λ y. (f y).stamp) stamp x) 1 0) x xs, count-map f stamp xs)

count-records : (stamp : ℕ) (db : Database) → count_by (has stored_stamp stamp) (records_of db)
    ≡ count_by (has (λ (u : User). u.stamp) stamp) db.users + (count_by (has (λ (o : Object). o.stamp) stamp) db.objects
    + (count_by (has (λ (g : Grant). g.stamp) stamp) db.grants + count_by (has (λ (r : RowRecord). r.stamp) stamp) db.rows))
count-records stamp db =
    let one = λ (r : StoredRecord). cond {A = ℕ} (has stored_stamp stamp r) 1 0 in
    let users = map stored_user db.users in
    let objects = map stored_object db.objects in
    let grants = map stored_grant db.grants in
    let rows = map stored_row db.rows in
    omega (
      arith,
      sum_by-append one users (objects ++ (grants ++ rows)),
      sum_by-append one objects (grants ++ rows),
      sum_by-append one grants rows,
      count-map stored_user stamp db.users,
      count-map stored_object stamp db.objects,
      count-map stored_grant stamp db.grants,
      count-map stored_row stamp db.rows,
    )

named-database : (stamp : ℕ) (slots : Slots) (db : Database) → Holds slots db → count_by (has_stamp stamp) slots ≤ cond (0 == stamp) 1 0 + count_by (has stored_stamp stamp) (records_of db)
named-database stamp slots db holds =
    let counter = sym (sum_by-in_order counter_stamp (λ n. cond (has counter_stamp stamp n) 1 0) (filter_map (in_slot counter_in) slots)) ∙ ap (count_by (has counter_stamp stamp)) holds.counter in
    let next = sum_by-cons (λ n. cond (has counter_stamp stamp n) 1 0) db.next [] in
    let users = sym (sum_by-in_order (λ (u : User). u.stamp) (λ u. cond (has (λ (u : User). u.stamp) stamp u) 1 0) (filter_map (in_slot user_in) slots)) ∙ ap (count_by (has (λ (u : User). u.stamp) stamp)) holds.users in
    let objects = sym (sum_by-in_order (λ (o : Object). o.stamp) (λ o. cond (has (λ (o : Object). o.stamp) stamp o) 1 0) (filter_map (in_slot object_in) slots)) ∙ ap (count_by (has (λ (o : Object). o.stamp) stamp)) holds.objects in
    let grants = sym (sum_by-in_order (λ (g : Grant). g.stamp) (λ g. cond (has (λ (g : Grant). g.stamp) stamp g) 1 0) (filter_map (in_slot grant_in) slots)) ∙ ap (count_by (has (λ (g : Grant). g.stamp) stamp)) holds.grants in
    let rows = sym (sum_by-in_order (λ (r : RowRecord). r.stamp) (λ r. cond (has (λ (r : RowRecord). r.stamp) stamp r) 1 0) (filter_map (in_slot row_in) slots)) ∙ ap (count_by (has (λ (r : RowRecord). r.stamp) stamp)) holds.rows in
    omega (arith, named-slots stamp slots, counter, next, users, objects, grants, rows, count-records stamp db)

-- no record but the counter has stamp 0, and none a stamp that wasn't given out
no_zero : (next : ℕ) (records : List StoredRecord) → list_all (is_given_out next) records ≡ true → count_by (has stored_stamp 0) records ≡ 0
no_zero next [] given = refl
no_zero next (r ∷ records) given =
    let parts = and_parts (is_given_out next r) (list_all (is_given_out next) records) given in
    let least : nat_le 1 r.stamp ≡ true = (and_parts (nat_le 1 r.stamp) (nat_lt r.stamp next) parts.0).0 in
    let some : 1 ≤ r.stamp = grind (arith, least) in
    counts_not (has stored_stamp 0) r records (ne_eqb r.stamp 0 (λ (e : r.stamp ≡ 0). omega (arith, some, e))) ∙ no_zero next records parts.1

-- a stamp that is counted is among those of the records
counted-among : (stamp : ℕ) (records : List StoredRecord) → 1 ≤ count_by (has stored_stamp stamp) records → is_among stamp (map stored_stamp records) ≡ true
counted-among stamp [] some = absurd (omega arith)
counted-among stamp (r ∷ records) some =
    elim (cases_Bool (eqb r.stamp stamp)) [
      | inl t ↦ rw (eq-eqb stamp r.stamp (sym (eqb-true r.stamp stamp t))) refl
      | inr f ↦ or_right (eqb stamp r.stamp) (is_among stamp (map stored_stamp records)) (counted-among stamp records (omega (arith, some, counts_not (has stored_stamp stamp) r records f)))
    ]

counted-below : (next stamp : ℕ) (records : List StoredRecord) → list_all (is_given_out next) records ≡ true → 1 ≤ count_by (has stored_stamp stamp) records → stamp < next
counted-below next stamp [] given some = absurd (omega arith)
counted-below next stamp (r ∷ records) given some =
    let parts = and_parts (is_given_out next r) (list_all (is_given_out next) records) given in
    elim (cases_Bool (eqb r.stamp stamp)) [
      | inl t ↦ let below = ltb-true r.stamp next (and_parts (nat_le 1 r.stamp) (nat_lt r.stamp next) parts.0).1 in
          omega (arith, below, eqb-true r.stamp stamp t)
      | inr f ↦ counted-below next stamp records parts.1 (omega (arith, some, counts_not (has stored_stamp stamp) r records f))
    ]

-- a slot in which a record stands passes its test
has-stands : (stamp slot : ℕ) (slots : Slots) → Stands stamp slot slots → has_stamp stamp (get_or slots slot None) ≡ true
has-stands stamp slot slots stands = rw stands (eq-eqb stamp stamp refl)

counted-stands : (stamp slot : ℕ) (slots : Slots) → Stands stamp slot slots → 1 ≤ count_by (has_stamp stamp) slots
counted-stands stamp slot slots stands = passes-once (has_stamp stamp) slots slot None refl (has-stands stamp slot slots stands)

-- The record of a stamp is one of the database.
pub stands-has : (stamp slot : ℕ) (slots : Slots) (db : Database) → Holds slots db → Stands stamp slot slots → has_record db stamp ≡ true
stands-has stamp slot slots db holds stands =
    let some = counted-stands stamp slot slots stands in
    let most = named-database stamp slots db holds in
    elim (cases_Bool (eqb 0 stamp)) [
      | inl t ↦ rw (sym (eqb-true 0 stamp t)) refl
      | inr f ↦ or_right (eqb stamp 0) (is_among stamp (map stored_stamp (records_of db))) (counted-among stamp (records_of db) (omega (arith, some, most, ap (λ (b : Bool). cond {A = ℕ} b 1 0) f)))
    ]

-- Its stamp was given out.
pub stands-below : (stamp slot : ℕ) (slots : Slots) (db : Database) → Holds slots db → IsValid db → Stands stamp slot slots → stamp < db.next
stands-below stamp slot slots db holds valid stands =
    let some = counted-stands stamp slot slots stands in
    let most = named-database stamp slots db holds in
    elim (cases_Bool (eqb 0 stamp)) [
      | inl t ↦ omega (arith, eqb-true 0 stamp t, valid.next)
      | inr f ↦ counted-below db.next stamp (records_of db) valid.stored.stamped (omega (arith, some, most, ap (λ (b : Bool). cond {A = ℕ} b 1 0) f))
    ]

-- It stands in one slot.
pub stands-once : (i j stamp : ℕ) (slots : Slots) (db : Database) → Holds slots db → IsValid db → Stands stamp i slots → Stands stamp j slots → i ≡ j
stands-once i j stamp slots db holds valid first second =
    let most = named-database stamp slots db holds in
    let apart = valid.stored.apart stamp in
    let one : count_by (has_stamp stamp) slots ≤ 1 = elim (cases_Bool (eqb 0 stamp)) [
      | inl t ↦ let none = subst (λ n. count_by (has stored_stamp n) (records_of db) ≡ 0) (eqb-true 0 stamp t) (no_zero db.next (records_of db) valid.stored.stamped) in
          omega (arith, most, none, ap (λ (b : Bool). cond {A = ℕ} b 1 0) t)
      | inr f ↦ omega (arith, most, apart, ap (λ (b : Bool). cond {A = ℕ} b 1 0) f)
    ] in
    one_place (has_stamp stamp) slots i j None refl one (has-stands stamp i slots first) (has-stands stamp j slots second)

-- In each filled slot a record stands.
pub stands-some : (slot : ℕ) (octets : List ℕ) (slots : Slots) (db : Database) → Holds slots db → get_or slots slot None ≡ Some octets → (stamp : ℕ) × Stands stamp slot slots
stands-some slot octets slots db holds filled =
    let spelled : is_spelled (Some octets) ≡ true = subst (λ v. is_spelled v ≡ true) filled (all-at slots slot holds.spelled) in
    let stamp = go (counter_in octets) (user_in octets) (object_in octets) (grant_in octets) (row_in octets) spelled in
    (stamp.0, ap (in_slot stamp_in) filled ∙ stamp.1)
  where
    all-at : (slots : Slots) (slot : ℕ) → list_all is_spelled slots ≡ true → is_spelled (get_or slots slot None) ≡ true
    all-at [] slot all = refl
    all-at (v ∷ slots) zero all = (and_parts (is_spelled v) (list_all is_spelled slots) all).0
    all-at (v ∷ slots) (suc slot) all = all-at slots slot (and_parts (is_spelled v) (list_all is_spelled slots) all).1

    go : (c : Option ℕ) (u : Option User) (o : Option Object) (g : Option Grant) (r : Option RowRecord) → is_some c || is_some u || is_some o || is_some g || is_some r ≡ true
        → (stamp : ℕ) × (option_map record_stamp (option_or (option_map of_counter c) (option_or (option_map of_user u) (option_or (option_map of_object o) (option_or (option_map of_grant g) (option_map of_row r))))) ≡ Some stamp)
    go (Some c) u o g r some = (0, refl)
    go None (Some u) o g r some = (u.stamp, refl)
    go None None (Some o) g r some = (o.stamp, refl)
    go None None None (Some g) r some = (g.stamp, refl)
    go None None None None (Some r) some = (r.stamp, refl)
    go None None None None None some = absurd (false≢true some)
