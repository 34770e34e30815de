-- Records of any kind stay stored where one is added, changed or removed.
use Rattle.std.proofs.Common.{◌≡◌, ℕ, ◌<◌, ◌≤◌, ◌+◌, Bool, true, cond, List, [], ◌∷◌, ◌++◌, map, filter, eqb, refl, sym, ap, subst, ◌∙◌, inl, inr, arith}
use Rattle.std.specs.Prelude.{nat_le, nat_lt, ◌&&◌}
use Rattle.std.specs.List.{list_all, sum_by, count_by, AllByRecursion}
use Rattle.std.proofs.lemmas.Bool.{cases_Bool, and_parts, and_from, ltb-true, lt-ltb, le-leb, eqb-true, ne_eqb}
use Rattle.std.proofs.lemmas.List.Folds.{list_all-append, list_all-map}
use Rattle.std.proofs.lemmas.List.Sums.{sum_by-cons, sum_by-append}
use Rattle.eeprom.specs.Slots.{AreApart, has, replaced}
use Rattle.eeprom.proofs.InOrder.{counts_not}
use Rattle.scql_model.specs.Stored.{StoredRecord, IsStored, cells_for_octets, cells_of_records, is_storable, is_given_out}
use Rattle.scql_model.proofs.LongerLists.{all-weaker, all-added}
use Rattle.scql_model.proofs.ChangedLists.{list_all-replaced, all_keys-replaced, sum_of_keys-replaced, list_all-filter, sum_by-filter}

abbrev stamp_of : StoredRecord → ℕ
stamp_of r = r.stamp

abbrev cells_taken : StoredRecord → ℕ
cells_taken r = cells_for_octets r.octets

sum_by-map : {X Y : Type 0} (f : Y → ℕ) (g : X → Y) (xs : List X) → sum_by f (map g xs) ≡ sum_by (λ x. f (g x)) xs
sum_by-map f g [] = refl
sum_by-map f g (x ∷ xs) = sum_by-cons f (g x) (map g xs) ∙ ap (λ n. f (g x) + n) (sum_by-map f g xs) ∙ sym (sum_by-cons (λ x. f (g x)) x xs)

-- a sum over records of which some are of one kind
sum_by-around : {X : Type 0} (c : StoredRecord → ℕ) (f : X → StoredRecord) (front back : List StoredRecord) (xs : List X)
    → sum_by c (front ++ (map f xs ++ back)) ≡ sum_by c front + (sum_by (λ x. c (f x)) xs + sum_by c back)
sum_by-around c f front back xs =
    let a = sum_by-append c front (map f xs ++ back) in
    let b = sum_by-append c (map f xs) back in
    let d = sum_by-map c f xs in
    omega arith

pub cells_of_records-around : {X : Type 0} (f : X → StoredRecord) (front back : List StoredRecord) (xs : List X)
    → cells_of_records (front ++ (map f xs ++ back)) ≡ cells_of_records front + (sum_by (λ x. cells_for_octets (f x).octets) xs + cells_of_records back)
cells_of_records-around f front back xs = sum_by-around cells_taken f front back xs

pub cells_of_records-kind : {X : Type 0} (f : X → StoredRecord) (xs : List X) → cells_of_records (map f xs) ≡ sum_by (λ x. cells_for_octets (f x).octets) xs
cells_of_records-kind f xs = sum_by-map cells_taken f xs

-- a test of all
all-around : {X : Type 0} (p : StoredRecord → Bool) (f : X → StoredRecord) (front back : List StoredRecord) (xs : List X)
    → list_all p (front ++ (map f xs ++ back)) ≡ (list_all p front && (list_all (λ x. p (f x)) xs && list_all p back))
all-around p f front back xs = rw (list_all-append, list_all-append, list_all-map) refl

-- the part of a kind may change into what passes the test too
all-exchanged : {X : Type 0} (p : StoredRecord → Bool) (f : X → StoredRecord) (front back : List StoredRecord) (xs ys : List X)
    → (list_all (λ x. p (f x)) xs ≡ true → list_all (λ x. p (f x)) ys ≡ true) → list_all p (front ++ (map f xs ++ back)) ≡ true
    → list_all p (front ++ (map f ys ++ back)) ≡ true
all-exchanged p f front back xs ys more all =
    let outer = and_parts (list_all p front) (list_all (λ x. p (f x)) xs && list_all p back) (sym (all-around p f front back xs) ∙ all) in
    let inner = and_parts (list_all (λ x. p (f x)) xs) (list_all p back) outer.1 in
    all-around p f front back ys ∙ rw (outer.0, more inner.0, inner.1) refl

-- no record has a stamp that wasn't given out
none_stamped : (next : ℕ) (records : List StoredRecord) → list_all (is_given_out next) records ≡ true → count_by (has stamp_of next) records ≡ 0
none_stamped next [] given = refl
none_stamped next (r ∷ records) given =
    let parts = and_parts (is_given_out next r) (list_all (is_given_out next) records) given in
    let below = ltb-true r.stamp next (and_parts (nat_le 1 r.stamp) (nat_lt r.stamp next) parts.0).1 in
    counts_not (has stamp_of next) r records (ne_eqb r.stamp next (λ (e : r.stamp ≡ next). omega arith)) ∙ none_stamped next records parts.1

-- each stamp of a kind is below the next
pub below-of_kind : {X : Type 0} (f : X → StoredRecord) (front back : List StoredRecord) (xs : List X) {cells counter_cells next : ℕ} {records : List StoredRecord}
    → records ≡ front ++ (map f xs ++ back) → IsStored cells counter_cells next records → AllByRecursion (λ x. (f x).stamp < next) xs
below-of_kind {X} f front back xs {cells} {counter_cells} {next} was stored =
    below f next xs (given (subst (λ (rs : List StoredRecord). list_all (is_given_out next) rs ≡ true) was stored.stamped))
  where
    given : list_all (is_given_out next) (front ++ (map f xs ++ back)) ≡ true → list_all (λ x. is_given_out next (f x)) xs ≡ true
    given all =
        (and_parts (list_all (λ x. is_given_out next (f x)) xs) (list_all (is_given_out next) back)
        (and_parts (list_all (is_given_out next) front) (list_all (λ x. is_given_out next (f x)) xs && list_all (is_given_out next) back)
        (sym (all-around (is_given_out next) f front back xs) ∙ all)).1).0

    below : {X : Type 0} (f : X → StoredRecord) (next : ℕ) (xs : List X) → list_all (λ x. is_given_out next (f x)) xs ≡ true → AllByRecursion (λ x. (f x).stamp < next) xs
    below f next [] given = tt
    below f next (x ∷ xs) given =
        let parts = and_parts (is_given_out next (f x)) (list_all (λ x. is_given_out next (f x)) xs) given in
        (ltb-true (f x).stamp next (and_parts (nat_le 1 (f x).stamp) (nat_lt (f x).stamp next) parts.0).1, below f next xs parts.1)

-- what was given out before is given out still
given-later : (next : ℕ) (records : List StoredRecord) → list_all (is_given_out next) records ≡ true → list_all (is_given_out (next + 1)) records ≡ true
given-later next records given = all-weaker (is_given_out next) (is_given_out (next + 1)) records (one next) given
  where
    one : (next : ℕ) (r : StoredRecord) → is_given_out next r ≡ true → is_given_out (next + 1) r ≡ true
    one next r given =
        let parts = and_parts (nat_le 1 r.stamp) (nat_lt r.stamp next) given in
        let below = ltb-true r.stamp next parts.1 in
        and_from (nat_le 1 r.stamp) (nat_lt r.stamp (next + 1)) parts.0 (lt-ltb r.stamp (next + 1) (omega arith))

-- one more of a kind adds to a sum over all
sum_by-added : {X : Type 0} (c : StoredRecord → ℕ) (f : X → StoredRecord) (front back : List StoredRecord) (xs : List X) (x : X)
    → sum_by c (front ++ (map f (xs ++ x ∷ []) ++ back)) ≡ sum_by c (front ++ (map f xs ++ back)) + c (f x)
sum_by-added c f front back xs x =
    let a = sum_by-around c f front back (xs ++ x ∷ []) in
    let b = sum_by-around c f front back xs in
    let d = sum_by-append (λ y. c (f y)) xs (x ∷ []) in
    let e = sum_by-cons (λ y. c (f y)) x [] in
    omega arith

-- A record of a kind is added behind the others of its kind, and takes the next stamp, where there is room.
pub IsStored-added : {X : Type 0} (f : X → StoredRecord) (front back : List StoredRecord) (xs : List X) (x : X) {cells counter_cells next : ℕ} {old new : List StoredRecord}
    → old ≡ front ++ (map f xs ++ back) → new ≡ front ++ (map f (xs ++ x ∷ []) ++ back) → IsStored cells counter_cells next old → (f x).stamp ≡ next → 1 ≤ next → is_storable (f x) ≡ true
    → counter_cells + cells_of_records new ≤ cells → IsStored cells counter_cells (next + 1) new
IsStored-added f front back xs x {cells} {counter_cells} {next} {old} {new} was is stored stamp first size room =
    let before = subst (IsStored cells counter_cells next) was stored in
    let given : is_given_out (next + 1) (f x) ≡ true =
    and_from (nat_le 1 (f x).stamp) (nat_lt (f x).stamp (next + 1)) (le-leb 1 (f x).stamp (omega arith)) (lt-ltb (f x).stamp (next + 1) (omega arith)) in
    let more = λ (k : ℕ). sum_by-added (λ (r : StoredRecord). cond (has stamp_of k r) 1 0) f front back xs x in
    record {
      room = room;
      lengths = subst (λ (rs : List StoredRecord). list_all is_storable rs ≡ true) (sym is)
          (all-exchanged is_storable f front back xs (xs ++ x ∷ []) (λ all. all-added (λ y. is_storable (f y)) xs x all size) before.lengths);
      stamped = subst (λ (rs : List StoredRecord). list_all (is_given_out (next + 1)) rs ≡ true) (sym is)
          (all-exchanged (is_given_out (next + 1)) f front back xs (xs ++ x ∷ []) (λ all. all-added (λ y. is_given_out (next + 1) (f y)) xs x all given)
          (given-later next (front ++ (map f xs ++ back)) before.stamped));
      apart = subst (AreApart stamp_of) (sym is) (λ k.
          elim (cases_Bool (eqb (f x).stamp k)) [
            | inl t ↦ (let none = none_stamped next (front ++ (map f xs ++ back)) before.stamped in
                let here = eqb-true (f x).stamp k t in
                let total = subst (λ (b : Bool). count_by (has stamp_of k) (front ++ (map f (xs ++ x ∷ []) ++ back)) ≡ count_by (has stamp_of k) (front ++ (map f xs ++ back)) + cond b 1 0) t (more k) in
                let none_here = subst (λ (n : ℕ). count_by (has stamp_of n) (front ++ (map f xs ++ back)) ≡ 0) (sym stamp ∙ here) none in
                omega arith)
            | inr e ↦ (let total = subst (λ (b : Bool). count_by (has stamp_of k) (front ++ (map f (xs ++ x ∷ []) ++ back)) ≡ count_by (has stamp_of k) (front ++ (map f xs ++ back)) + cond b 1 0) e (more k) in
                let few = before.apart k in
                omega arith)
          ]);
    }

-- A record of a kind takes the place of that of its stamp, where there is room.
pub IsStored-changed : {X : Type 0} (f : X → StoredRecord) (front back : List StoredRecord) (xs : List X) (x : X) {cells counter_cells next : ℕ} {old new : List StoredRecord}
    → old ≡ front ++ (map f xs ++ back) → new ≡ front ++ (map f (replaced (λ y. (f y).stamp) x xs) ++ back) → IsStored cells counter_cells next old → is_storable (f x) ≡ true
    → counter_cells + cells_of_records new ≤ cells → IsStored cells counter_cells next new
IsStored-changed f front back xs x {cells} {counter_cells} {next} {old} {new} was is stored size room =
    let before = subst (IsStored cells counter_cells next) was stored in
    let changed = replaced (λ y. (f y).stamp) x xs in
    record {
      room = room;
      lengths = subst (λ (rs : List StoredRecord). list_all is_storable rs ≡ true) (sym is)
          (all-exchanged is_storable f front back xs changed (list_all-replaced (λ y. is_storable (f y)) (λ y. (f y).stamp) x xs size) before.lengths);
      stamped = subst (λ (rs : List StoredRecord). list_all (is_given_out next) rs ≡ true) (sym is)
          (all-exchanged (is_given_out next) f front back xs changed (all_keys-replaced (λ stamp. nat_le 1 stamp && nat_lt stamp next) (λ y. (f y).stamp) x xs) before.stamped);
      apart = subst (AreApart stamp_of) (sym is) (λ k.
          let c = λ (r : StoredRecord). cond (has stamp_of k r) 1 0 in
          let few : count_by (has stamp_of k) (front ++ (map f xs ++ back)) ≤ 1 = before.apart k in
          let a = sum_by-around c f front back xs in
          let b = sum_by-around c f front back changed in
          let d = sum_of_keys-replaced (λ stamp. cond (eqb stamp k) 1 0) (λ y. (f y).stamp) x xs in
          omega arith);
    }

-- fewer of a kind make less of a sum over all
sum_by-fewer : {X : Type 0} (p : X → Bool) (c : StoredRecord → ℕ) (f : X → StoredRecord) (front back : List StoredRecord) (xs : List X)
    → sum_by c (front ++ (map f (filter p xs) ++ back)) ≤ sum_by c (front ++ (map f xs ++ back))
sum_by-fewer p c f front back xs =
    let a = sum_by-around c f front back xs in
    let b = sum_by-around c f front back (filter p xs) in
    let d = sum_by-filter p (λ x. c (f x)) xs in
    omega arith

-- Records of a kind are removed, and those that pass a test stay.
pub IsStored-removed : {X : Type 0} (f : X → StoredRecord) (front back : List StoredRecord) (xs : List X) (stays : X → Bool) {cells counter_cells next : ℕ} {old new : List StoredRecord}
    → old ≡ front ++ (map f xs ++ back) → new ≡ front ++ (map f (filter stays xs) ++ back) → IsStored cells counter_cells next old → IsStored cells counter_cells next new
IsStored-removed f front back xs stays {cells} {counter_cells} {next} {old} {new} was is stored =
    let before = subst (IsStored cells counter_cells next) was stored in
    subst (IsStored cells counter_cells next) (sym is) (record {
      room = (let fewer = sum_by-fewer stays cells_taken f front back xs in let room = before.room in omega arith);
      lengths = all-exchanged is_storable f front back xs (filter stays xs) (list_all-filter stays (λ x. is_storable (f x)) xs) before.lengths;
      stamped = all-exchanged (is_given_out next) f front back xs (filter stays xs) (list_all-filter stays (λ x. is_given_out next (f x)) xs) before.stamped;
      apart = λ k. let fewer = sum_by-fewer stays (λ (r : StoredRecord). cond (has stamp_of k r) 1 0) f front back xs in let few = before.apart k in omega arith;
    })
