-- Places in order of the tables and stamps of their rows.
use Rattle.std.proofs.Common.{◌≡◌, ℕ, suc, ◌+◌, ◌*◌, ◌-◌, ◌<◌, ◌≤◌, Bool, true, false, cond, ◌&&◌, ltb, leb, eqb, List, [], ◌∷◌, length, Option, Some, None, take, inl, inr, refl, sym, ap, ◌∙◌, arith, subst}
use Rattle.std.specs.List.{find, filter, slice_get, slice_range, count_by, AllByRecursion}
use Rattle.std.proofs.lemmas.Bool.{cases_Bool, ltb-true, ltb-false, lt-ltb, le-ltb, le-leb, leb-true, leb-false, eqb-true, eqb-false, eq-eqb, ne_eqb, and_left, and_right, and_parts}
use Rattle.eeprom.specs.Slots.{Rises, AreApart, has, is_after, in_order, put_in_order}
use Rattle.eeprom.proofs.InOrder.{counts, counts_not, count_by-cons, Rises-in_order}
use Rattle.row_index.proofs.Filtered.{all-in_order, all-put_in_order, filter-in_order_all}
use Rattle.row_index.proofs.Searches.{find-after, none_below, none_up_to}
use Rattle.row_index.specs.Places.{place_stamp, place_key, key_in_table, is_in_table, is_later_in, is_row_of}
use Rattle.row_index.specs.SideRows.{AreInOrder}
use Rattle.row_index.specs.declared.place.RowPlace.{RowPlace}

-- a stamp is a number of four octets
abbrev pub Fits : List RowPlace → Type 0
Fits = AllByRecursion (λ place. place_stamp place < 4294967296)

-- a new stamp is a new key
pub new_key : (x : RowPlace) (xs : List RowPlace) → place_stamp x < 4294967296 → Fits xs → count_by (has place_stamp (place_stamp x)) xs ≡ 0 → count_by (has place_key (place_key x)) xs ≡ 0
new_key x [] small fits none = refl
new_key x (y ∷ ys) small fits none =
    elim (cases_Bool (eqb (place_stamp y) (place_stamp x))) [
      | inl t ↦ absurd (let c = counts (has place_stamp (place_stamp x)) y ys t in omega arith)
      | inr f ↦ (let c = counts_not (has place_stamp (place_stamp x)) y ys f in
          let apart = eqb-false (place_stamp y) (place_stamp x) f in
          let ne : eqb (place_key y) (place_key x) ≡ false = ne_eqb (place_key y) (place_key x) (λ same. omega (arith, same, fits.0, small, apart)) in
          counts_not (has place_key (place_key x)) y ys ne ∙ new_key x ys small fits.1 (omega arith))
    ]

-- places of different stamps have different keys
pub AreApart-keys : (xs : List RowPlace) → AreApart place_stamp xs → Fits xs → AreApart place_key xs
AreApart-keys [] apart fits = λ k. omega arith
AreApart-keys (x ∷ xs) apart fits = λ k.
    elim (cases_Bool (eqb (place_key x) k)) [
      | inl t ↦ (let own = counts (has place_stamp (place_stamp x)) x xs (eq-eqb (place_stamp x) (place_stamp x) refl) in
          let a = apart (place_stamp x) in
          let none = new_key x xs fits.0 fits.1 (omega arith) in
          let here = subst (λ k. count_by (has place_key k) xs ≡ 0) (eqb-true (place_key x) k t) none in
          let c = counts (has place_key k) x xs t in
          omega arith)
      | inr f ↦ (let rest = AreApart-keys xs (λ j. let d = count_by-cons (has place_stamp j) x xs in let a = apart j in omega arith) fits.1 k in
          let c = counts_not (has place_key k) x xs f in
          omega arith)
    ]

-- so they are in order, when they are put so
pub AreInOrder-put : (xs : List RowPlace) → AreApart place_stamp xs → Fits xs → AreInOrder (in_order place_key xs)
AreInOrder-put xs apart fits = record { rises = Rises-in_order place_key xs (AreApart-keys xs apart fits); fits = all-in_order place_key (λ place. place_stamp place < 4294967296) xs fits }

-- in one table keys are in the order of stamps
below_in : (table a b : ℕ) → ltb (key_in_table table a) (key_in_table table b) ≡ ltb a b
below_in table a b =
    elim (cases_Bool (ltb a b)) [
      | inl t ↦ (let less = ltb-true a b t in lt-ltb (key_in_table table a) (key_in_table table b) (omega arith) ∙ sym t)
      | inr f ↦ (let most = ltb-false a b f in le-ltb (key_in_table table a) (key_in_table table b) (omega arith) ∙ sym f)
    ]

put_in : (table : ℕ) (x : RowPlace) (xs : List RowPlace) → x.table ≡ table → AllByRecursion (λ (y : RowPlace). y.table ≡ table) xs → put_in_order place_key x xs ≡ put_in_order place_stamp x xs
put_in table x [] own all = refl
put_in table x (y ∷ ys) own all =
    let same : ltb (place_key x) (place_key y) ≡ ltb (place_stamp x) (place_stamp y) = rw (own, all.0) (below_in table x.stamp y.stamp) in
    rw same (ap (λ rest. cond (ltb (place_stamp x) (place_stamp y)) (x ∷ y ∷ ys) (y ∷ rest)) (put_in table x ys own all.1))

order_in : (table : ℕ) (xs : List RowPlace) → AllByRecursion (λ (y : RowPlace). y.table ≡ table) xs → in_order place_key xs ≡ in_order place_stamp xs
order_in table [] all = refl
order_in table (x ∷ xs) all =
    ap (put_in_order place_key x) (order_in table xs all.1)
    ∙ put_in table x (in_order place_stamp xs) all.0 (all-in_order place_stamp (λ (y : RowPlace). y.table ≡ table) xs all.1)

all_in : (table : ℕ) (xs : List RowPlace) → AllByRecursion (λ (y : RowPlace). y.table ≡ table) (filter (is_in_table table) xs)
all_in table [] = tt
all_in table (x ∷ xs) =
    elim (cases_Bool (is_in_table table x)) [
      | inl t ↦ rw t (eqb-true x.table table t, all_in table xs)
      | inr f ↦ rw f (all_in table xs)
    ]

-- so the places of one table stand alike in both orders
pub same_table : (table : ℕ) (xs : List RowPlace) → filter (is_in_table table) (in_order place_key xs) ≡ filter (is_in_table table) (in_order place_stamp xs)
same_table table xs =
    filter-in_order_all place_key (is_in_table table) xs ∙ order_in table (filter (is_in_table table) xs) (all_in table xs) ∙ sym (filter-in_order_all place_stamp (is_in_table table) xs)

-- a search for what passes two tests is one for the second among what passes the first
pub find-filter : {X : Type 0} (p q : X → Bool) (xs : List X) → find (λ x. p x && q x) xs ≡ find q (filter p xs)
find-filter p q [] = refl
find-filter p q (x ∷ xs) =
    elim (cases_Bool (p x)) [
      | inl t ↦ rw t (ap (λ rest. cond (q x) (Some x) rest) (find-filter p q xs))
      | inr f ↦ rw f (find-filter p q xs)
    ]

-- and so what is searched in one table is found alike in both orders
pub found_alike : (table : ℕ) (q : RowPlace → Bool) (xs : List RowPlace) → find (λ place. is_in_table table place && q place) (in_order place_key xs) ≡ find (λ place. is_in_table table place && q place) (in_order place_stamp xs)
found_alike table q xs =
    find-filter (is_in_table table) q (in_order place_key xs) ∙ ap (find q) (same_table table xs) ∙ sym (find-filter (is_in_table table) q (in_order place_stamp xs))

-- the place, if it is that of a row of a table
abbrev pub if_in_table : ℕ → Option RowPlace → Option RowPlace
if_in_table table None = None
if_in_table table (Some place) = cond (is_in_table table place) (Some place) None

-- behind a place of a later table there is none of the table
none_later : (table stamp m : ℕ) (xs : List RowPlace) → suc table * 4294967296 ≤ m → Fits xs → AllByRecursion (λ y. m < place_key y) xs → find (is_later_in table stamp) xs ≡ None
none_later table stamp m [] later fits above = refl
none_later table stamp m (x ∷ xs) later fits above =
    rw (and_left (is_in_table table x) (ltb stamp x.stamp) (ne_eqb x.table table (λ same. omega (arith, same, later, above.0, fits.0)))) (none_later table stamp m xs later fits.1 above.1)

-- the next row of a table is the first behind its key, or the table has none behind it
pub find-later_in : (table stamp : ℕ) (xs : List RowPlace) → Rises place_key xs → Fits xs → find (is_later_in table stamp) xs ≡ if_in_table table (find (is_after place_key (key_in_table table stamp)) xs)
find-later_in table stamp [] rises fits = refl
find-later_in table stamp (x ∷ xs) rises fits =
    elim (cases_Bool (ltb (key_in_table table stamp) (place_key x))) [
      | inl t ↦ (let more = ltb-true (key_in_table table stamp) (place_key x) t in
          elim (cases_Bool (is_in_table table x)) [
            | inl own ↦ (let same = eqb-true x.table table own in
                let after : ltb stamp x.stamp ≡ true = lt-ltb stamp x.stamp (omega (arith, same, more)) in
                rw (t, own, after) refl)
            | inr other ↦ (let apart = eqb-false x.table table other in
                let later : suc table ≤ x.table = omega (arith, apart, more, fits.0) in
                rw (t, other) (none_later table stamp (place_key x) xs (omega (arith, later)) fits.1 rises.0))
          ])
      | inr f ↦ (let most = ltb-false (key_in_table table stamp) (place_key x) f in
          let not_it : is_later_in table stamp x ≡ false = passed x most in
          rw (f, not_it) (find-later_in table stamp xs rises.1 fits.1))
    ]
  where
    passed : (x : RowPlace) → place_key x ≤ key_in_table table stamp → is_later_in table stamp x ≡ false
    passed x most =
        elim (cases_Bool (is_in_table table x)) [
          | inl own ↦ (let same = eqb-true x.table table own in and_right (is_in_table table x) (ltb stamp x.stamp) (le-ltb stamp x.stamp (omega (arith, same, most))))
          | inr other ↦ and_left (is_in_table table x) (ltb stamp x.stamp) other
        ]

-- the next row of a table, by where it stands
pub find-later : (table stamp : ℕ) (xs : List RowPlace) (i : ℕ) (o : Option RowPlace) → AreInOrder xs → i ≡ count_by (λ y. leb (place_key y) (key_in_table table stamp)) xs → slice_get xs i ≡ o
    → find (is_later_in table stamp) xs ≡ if_in_table table o
find-later table stamp xs i o order count got =
    find-later_in table stamp xs order.rises order.fits
    ∙ ap (if_in_table table) (find-after place_key (key_in_table table stamp) xs order.rises ∙ ap (slice_get xs) (sym count) ∙ got)

-- the place, if it is that of the row of a table and a stamp
abbrev pub if_row : ℕ → ℕ → Option RowPlace → Option RowPlace
if_row table stamp None = None
if_row table stamp (Some place) = cond (is_row_of table stamp place) (Some place) None

key_of_row : (table stamp : ℕ) (x : RowPlace) → is_row_of table stamp x ≡ true → place_key x ≡ key_in_table table stamp
key_of_row table stamp x own =
    let both = and_parts (eqb x.table table) (eqb x.stamp stamp) own in
    let a = eqb-true x.table table both.0 in
    let b = eqb-true x.stamp stamp both.1 in
    rw (a, b) refl

not_row : (table stamp : ℕ) (x : RowPlace) → (place_key x ≡ key_in_table table stamp → ⊥) → is_row_of table stamp x ≡ false
not_row table stamp x other =
    elim (cases_Bool (is_row_of table stamp x)) [
      | inl t ↦ absurd (other (key_of_row table stamp x t))
      | inr f ↦ f
    ]

-- behind a key that isn't below its own the row isn't
none_behind : (table stamp m : ℕ) (xs : List RowPlace) → key_in_table table stamp ≤ m → AllByRecursion (λ y. m < place_key y) xs → find (is_row_of table stamp) xs ≡ None
none_behind table stamp m [] least above = refl
none_behind table stamp m (x ∷ xs) least above =
    rw (not_row table stamp x (λ same. omega (arith, same, least, above.0))) (none_behind table stamp m xs least above.1)

find-row_in : (table stamp : ℕ) (xs : List RowPlace) → Rises place_key xs → find (is_row_of table stamp) xs ≡ if_row table stamp (slice_get xs (count_by (λ y. ltb (place_key y) (key_in_table table stamp)) xs))
find-row_in table stamp [] rises = refl
find-row_in table stamp (x ∷ xs) rises =
    elim (cases_Bool (ltb (place_key x) (key_in_table table stamp))) [
      | inl t ↦ (let less = ltb-true (place_key x) (key_in_table table stamp) t in
          let one : count_by (λ y. ltb (place_key y) (key_in_table table stamp)) (x ∷ xs) ≡ suc (count_by (λ y. ltb (place_key y) (key_in_table table stamp)) xs)
          = (let c = counts (λ y. ltb (place_key y) (key_in_table table stamp)) x xs t in omega arith) in
          rw (one, not_row table stamp x (λ same. omega (arith, same, less))) (find-row_in table stamp xs rises.1))
      | inr f ↦ (let most = ltb-false (place_key x) (key_in_table table stamp) f in
          let none = counts_not (λ y. ltb (place_key y) (key_in_table table stamp)) x xs f ∙ none_below place_key (key_in_table table stamp) (place_key x) xs most rises.0 in
          rw none (elim (cases_Bool (is_row_of table stamp x)) [
            | inl t ↦ rw t refl
            | inr g ↦ rw g (none_behind table stamp (place_key x) xs most rises.0)
          ]))
    ]

-- the row of a table and a stamp, by where it stands
pub find-row : (table stamp : ℕ) (xs : List RowPlace) (i : ℕ) (o : Option RowPlace) → Rises place_key xs → i ≡ count_by (λ y. ltb (place_key y) (key_in_table table stamp)) xs → slice_get xs i ≡ o
    → find (is_row_of table stamp) xs ≡ if_row table stamp o
find-row table stamp xs i o rises count got = find-row_in table stamp xs rises ∙ ap (λ i. if_row table stamp (slice_get xs i)) (sym count) ∙ ap (if_row table stamp) got

-- so of slots that are searched, whose places are others by name alone
pub found-row : (table stamp : ℕ) (xs ys : List RowPlace) (i : ℕ) (o : Option RowPlace) → xs ≡ ys → AreInOrder ys → (Rises place_key xs → i ≡ count_by (λ y. ltb (place_key y) (key_in_table table stamp)) xs) → o ≡ slice_get xs i
    → find (is_row_of table stamp) ys ≡ if_row table stamp o
found-row table stamp xs ys i o same order count got =
    let rises = (subst AreInOrder (sym same) order).rises in
    ap (find (is_row_of table stamp)) (sym same) ∙ find-row table stamp xs i o rises (count rises) (sym got)

pub found-later : (table stamp : ℕ) (xs ys : List RowPlace) (i : ℕ) (o : Option RowPlace) → xs ≡ ys → AreInOrder ys → (Rises place_key xs → i ≡ count_by (λ y. leb (place_key y) (key_in_table table stamp)) xs) → o ≡ slice_get xs i
    → find (is_later_in table stamp) ys ≡ if_in_table table o
found-later table stamp xs ys i o same order count got =
    let here = subst AreInOrder (sym same) order in
    ap (find (is_later_in table stamp)) (sym same) ∙ find-later table stamp xs i o here (count here.rises) (sym got)

-- of a test that passes where another does, so many pass at least
count_by-mono : {X : Type 0} (p q : X → Bool) (xs : List X) → ((x : X) → p x ≡ true → q x ≡ true) → count_by p xs ≤ count_by q xs
count_by-mono p q [] says = omega arith
count_by-mono p q (x ∷ xs) says =
    let rest = count_by-mono p q xs says in
    elim (cases_Bool (p x)) [
      | inl t ↦ (let a = counts p x xs t in let b = counts q x xs (says x t) in omega arith)
      | inr f ↦ (let a = counts_not p x xs f in let b = count_by-cons q x xs in omega arith)
    ]

-- how many places stand before the rows of a table, and how many before those behind them
abbrev pub count_before : ℕ → List RowPlace → ℕ
count_before table xs = count_by (λ y. ltb (place_key y) (key_in_table table 0)) xs

abbrev pub count_with : ℕ → List RowPlace → ℕ
count_with table xs = count_by (λ y. leb (place_key y) (key_in_table table 4294967295)) xs

pub before-with : (table : ℕ) (xs : List RowPlace) → count_before table xs ≤ count_with table xs
before-with table xs = count_by-mono _ _ xs (λ y t. let less = ltb-true (place_key y) (key_in_table table 0) t in le-leb (place_key y) (key_in_table table 4294967295) (omega arith))

-- behind a place of a later table there is none of the table
none_of : (table m : ℕ) (xs : List RowPlace) → suc table * 4294967296 ≤ m → Fits xs → AllByRecursion (λ y. m < place_key y) xs → filter (is_in_table table) xs ≡ []
none_of table m [] later fits above = refl
none_of table m (x ∷ xs) later fits above = rw (ne_eqb x.table table (λ same. omega (arith, same, later, above.0, fits.0))) (none_of table m xs later fits.1 above.1)

-- the rows of a table stand first where none of a lesser table is
first_of : (table : ℕ) (xs : List RowPlace) → Rises place_key xs → Fits xs → AllByRecursion (λ y. key_in_table table 0 ≤ place_key y) xs → take (count_with table xs) xs ≡ filter (is_in_table table) xs
first_of table [] rises fits from = refl
first_of table (x ∷ xs) rises fits from =
    elim (cases_Bool (leb (place_key x) (key_in_table table 4294967295))) [
      | inl t ↦ (let most = leb-true (place_key x) (key_in_table table 4294967295) t in
          let one : count_with table (x ∷ xs) ≡ suc (count_with table xs) = (let c = counts (λ y. leb (place_key y) (key_in_table table 4294967295)) x xs t in omega arith) in
          rw (one, eq-eqb x.table table (omega (arith, most, from.0, fits.0))) (ap (λ ys. x ∷ ys) (first_of table xs rises.1 fits.1 from.1)))
      | inr f ↦ (let more = leb-false (place_key x) (key_in_table table 4294967295) f in
          let none = counts_not (λ y. leb (place_key y) (key_in_table table 4294967295)) x xs f ∙ none_up_to place_key (key_in_table table 4294967295) (place_key x) xs (omega arith) rises.0 in
          rw (none, ne_eqb x.table table (λ same. omega (arith, same, more, fits.0))) (sym (none_of table (place_key x) xs (omega (arith, more)) fits.1 rises.0)))
    ]

-- the rows of a table stand one behind the other
pub between : (table : ℕ) (xs : List RowPlace) → Rises place_key xs → Fits xs → slice_range xs (count_before table xs) (count_with table xs) ≡ filter (is_in_table table) xs
between table [] rises fits = refl
between table (x ∷ xs) rises fits =
    elim (cases_Bool (ltb (place_key x) (key_in_table table 0))) [
      | inl t ↦ (let less = ltb-true (place_key x) (key_in_table table 0) t in
          let before : count_before table (x ∷ xs) ≡ suc (count_before table xs) = (let c = counts (λ y. ltb (place_key y) (key_in_table table 0)) x xs t in omega arith) in
          let with_it : count_with table (x ∷ xs) ≡ suc (count_with table xs) = (let c = counts (λ y. leb (place_key y) (key_in_table table 4294967295)) x xs (le-leb (place_key x) (key_in_table table 4294967295) (omega arith)) in omega arith) in
          let many : suc (count_with table xs) - suc (count_before table xs) ≡ count_with table xs - count_before table xs = omega arith in
          rw (before, with_it, many, ne_eqb x.table table (λ same. omega (arith, same, less))) (between table xs rises.1 fits.1))
      | inr f ↦ (let most = ltb-false (place_key x) (key_in_table table 0) f in
          let none = counts_not (λ y. ltb (place_key y) (key_in_table table 0)) x xs f ∙ none_below place_key (key_in_table table 0) (place_key x) xs most rises.0 in
          let many : count_with table (x ∷ xs) - 0 ≡ count_with table (x ∷ xs) = omega arith in
          rw (none, many) (first_of table (x ∷ xs) rises fits (most, at_least (place_key x) xs most rises.0)))
    ]
  where
    at_least : (m : ℕ) (ys : List RowPlace) → key_in_table table 0 ≤ m → AllByRecursion (λ y. m < place_key y) ys → AllByRecursion (λ y. key_in_table table 0 ≤ place_key y) ys
    at_least m [] most above = tt
    at_least m (y ∷ ys) most above = (omega (arith, above.0), at_least m ys most above.1)
