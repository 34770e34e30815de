-- The laws of the join of one object after the other.
use Rattle.std.proofs.Common.{◌≡◌, ℕ, suc, ◌<◌, Bool, true, false, not, cond, List, [], ◌∷◌, ◌++◌, length, get_or, map, Option, Some, None, Less, Equal, Greater, Ordering, nat_cmp, is_eq, refl, sym, ap, ◌∙◌, ⊎_elim, ltb, eqb, lt-ltb, le-ltb, eq-eqb, ne_eqb, eqb-true, ltb-true, arith, append_assoc, append-nil, map-id, ◌&&◌, ◌||◌, filter, flat_map, bytes_eq}
use Rattle.std.specs.List.{cons_option, list_all}
use Rattle.std.specs.Cmp.Lexicographic.{slice_cmp}
use Rattle.std.specs.Ordering.{ordering_then}
use Rattle.std.proofs.lemmas.Bool.{cases_order}
use Rattle.std.proofs.lemmas.Bool.Decides.{nat_tests}
use Rattle.std.proofs.lemmas.Cmp.{same_from_slice_cmp, nat_list_eq_equiv}
use Rattle.std.proofs.lemmas.List.{get_or_at, get_or_append_left, map-append}
use Rattle.std.proofs.lemmas.List.Elements.{filter-append, filter_agree}
use Rattle.scql_model.specs.Matching.{Values}
use Rattle.row_join.specs.declared.column.Column.{Column}
use Rattle.row_join.specs.declared.column.Equality.{Equality}
use Rattle.row_join.specs.declared.link.Link.{Link}
use Rattle.row_join.specs.Joins.{Combination, value_at, combinations, is_met, are_met, kept, compare_values}
use Rattle.row_join.specs.Links.{AreWithin, is_before, holds_in, link_of, links_of, value_in, meets_own, key_of, probe_of, has_key, joins, are_met_from, kept_from}

-- tests of two objects against the object that is joined: before it, at it, or before the next one
data Stands : Bool → Bool → Bool → Type 0 where
  before : Stands true false true
  here : Stands false true true
  after : Stands false false false

stands : (x k : ℕ) → Stands (ltb x k) (eqb x k) (ltb x (suc k))
stands x k =
    ⊎_elim
    (λ e. let e1 = le-ltb x k (omega arith) in let e2 = eq-eqb x k e in let e3 = lt-ltb x (suc k) (omega arith) in rw (e1, e2, e3) here)
    (⊎_elim
    (λ h. let e1 = lt-ltb x k h in let e2 = ne_eqb x k (λ e. omega arith) in let e3 = lt-ltb x (suc k) (omega arith) in rw (e1, e2, e3) before)
    (λ h. let e1 = le-ltb x k (omega arith) in let e2 = ne_eqb x k (λ e. omega arith) in let e3 = le-ltb x (suc k) (omega arith) in rw (e1, e2, e3) after))
    (cases_order x k)

abbrev if_link : (Link → Bool) → Option Link → Bool
if_link holds None = true
if_link holds (Some link) = holds link

and-true : (b : Bool) → b ≡ (b && true)
and-true true = refl
and-true false = refl

-- what an equality says is what it says of this object, as its own or as a link, and what it says of later ones
split : {a b c a' b' c' : Bool} (met own : Bool) (left right : Link) (holds : Link → Bool) → Stands a b c → Stands a' b' c'
    → (b ≡ true → b' ≡ true → met ≡ own) → (a ≡ true → b' ≡ true → met ≡ holds right) → (a' ≡ true → b ≡ true → met ≡ holds left)
    → ((a && a') || met) ≡ ((not (b && b') || own) && (if_link holds (cond (a && b') (Some right) (cond (a' && b) (Some left) None)) && ((c && c') || met)))
split met own left right holds before before x y z = refl
split met own left right holds before here x y z = y refl refl ∙ and-true (holds right)
split met own left right holds before after x y z = refl
split met own left right holds here before x y z = z refl refl ∙ and-true (holds left)
split met own left right holds here here x y z = x refl refl ∙ and-true own
split met own left right holds here after x y z = refl
split met own left right holds after before x y z = refl
split met own left right holds after here x y z = refl
split met own left right holds after after x y z = refl

bytes_eq-compared : (xs ys : List ℕ) → bytes_eq xs ys ≡ is_eq (slice_cmp nat_cmp xs ys)
bytes_eq-compared xs ys = sym (same_from_slice_cmp nat_cmp is_eq bytes_eq refl (λ _ _. refl) (λ _ _. refl) (λ x y us vs o h. grind (arith, nat_tests)) xs ys (slice_cmp nat_cmp xs ys) refl)

abbrev holds_link : Combination → Values → Link → Bool
holds_link rows row link = is_eq (slice_cmp nat_cmp (value_in row link.place) (value_at rows link.other))

value_at-here : (rows : Combination) (row : Values) (rest : Combination) (c : Column) → c.object ≡ length rows → value_at (rows ++ row ∷ rest) c ≡ value_in row c.place
value_at-here rows row rest c e = ap (λ r. get_or r c.place []) (get_or_at rows row rest [] c.object (sym e))

value_at-before : (rows : Combination) (row : Values) (rest : Combination) (c : Column) → c.object < length rows → value_at (rows ++ row ∷ rest) c ≡ value_at rows c
value_at-before rows row rest c h = ap (λ r. get_or r c.place []) (get_or_append_left rows (row ∷ rest) [] c.object h)

split-equality : (rows : Combination) (row : Values) (rest : Combination) (e : Equality)
    → (is_before (length rows) e || is_met (rows ++ row ∷ rest) e)
    ≡ (holds_in (length rows) row e && (if_link (holds_link rows row) (link_of (length rows) e) && (is_before (suc (length rows)) e || is_met (rows ++ row ∷ rest) e)))
split-equality rows row rest e =
    let k = length rows in
    let all = rows ++ row ∷ rest in
    let l = e.left in
    let r = e.right in
    split (is_met all e) (bytes_eq (value_in row l.place) (value_in row r.place)) (record { place = l.place; other = r }) (record { place = r.place; other = l }) (holds_link rows row) (stands l.object k) (stands r.object k)
    (λ p q. ap (λ v. bytes_eq v (value_at all r)) (value_at-here rows row rest l (eqb-true _ _ p)) ∙ ap (bytes_eq (value_in row l.place)) (value_at-here rows row rest r (eqb-true _ _ q)))
    (λ p q. ap (λ v. bytes_eq v (value_at all r)) (value_at-before rows row rest l (ltb-true _ _ p)) ∙ ap (bytes_eq (value_at rows l)) (value_at-here rows row rest r (eqb-true _ _ q)) ∙ nat_list_eq_equiv.symm (value_at rows l) (value_in row r.place) ∙ bytes_eq-compared (value_in row r.place) (value_at rows l))
    (λ q p. ap (λ v. bytes_eq v (value_at all r)) (value_at-here rows row rest l (eqb-true _ _ p)) ∙ ap (bytes_eq (value_in row l.place)) (value_at-before rows row rest r (ltb-true _ _ q)) ∙ bytes_eq-compared (value_in row l.place) (value_at rows r))

regroup : (a b c x y z : Bool) → ((a && (b && c)) && (x && (y && z))) ≡ ((a && x) && ((b && y) && (c && z)))
regroup true true c x y z = c-first c x y z
  where
    c-first : (c x y z : Bool) → (c && (x && (y && z))) ≡ (x && (y && (c && z)))
    c-first true x y z = refl
    c-first false true true z = refl
    c-first false true false z = refl
    c-first false false y z = refl
regroup true false c true y z = refl
regroup true false c false y z = refl
regroup false b c x y z = refl

list_all-split : {X : Type 0} (p own link next : X → Bool) → ((x : X) → p x ≡ (own x && (link x && next x))) → (xs : List X) → list_all p xs ≡ (list_all own xs && (list_all link xs && list_all next xs))
list_all-split p own link next h [] = refl
list_all-split p own link next h (x ∷ xs) =
    ap (λ b. b && list_all p xs) (h x) ∙ ap (λ b. (own x && (link x && next x)) && b) (list_all-split p own link next h xs)
    ∙ regroup (own x) (link x) (next x) (list_all own xs) (list_all link xs) (list_all next xs)

is_eq-then : (a b : Ordering) → is_eq (ordering_then a b) ≡ (is_eq a && is_eq b)
is_eq-then Less b = refl
is_eq-then Equal b = refl
is_eq-then Greater b = refl

has_key-option : (rows : Combination) (row : Values) (o : Option Link) (links : List Link) (b : Bool) → has_key links (probe_of links rows) row ≡ b
    → has_key (cons_option o links) (probe_of (cons_option o links) rows) row ≡ (if_link (holds_link rows row) o && b)
has_key-option rows row None links b h = h
has_key-option rows row (Some link) links b h = is_eq-then (slice_cmp nat_cmp (value_in row link.place) (value_at rows link.other)) (compare_values (key_of links row) (probe_of links rows)) ∙ ap (λ t. holds_link rows row link && t) h

has_key-links : (rows : Combination) (row : Values) (k : ℕ) (es : List Equality) → has_key (links_of k es) (probe_of (links_of k es) rows) row ≡ list_all (λ e. if_link (holds_link rows row) (link_of k e)) es
has_key-links rows row k [] = refl
has_key-links rows row k (e ∷ es) = has_key-option rows row (link_of k e) (links_of k es) (list_all (λ e. if_link (holds_link rows row) (link_of k e)) es) (has_key-links rows row k es)

and-grouped : (a b c : Bool) → (a && (b && c)) ≡ ((a && b) && c)
and-grouped true b c = refl
and-grouped false b c = refl

cond-same : {X : Type 0} (b : Bool) (x : X) → x ≡ cond b x x
cond-same true x = refl
cond-same false x = refl

cond-in : {X : Type 0} (a b : Bool) (x : X) (xs : List X) → cond (a && b) (x ∷ cond a xs []) (cond a xs []) ≡ cond a (cond b (x ∷ xs) xs) []
cond-in true b x xs = refl
cond-in false b x xs = refl

none-before : (es : List Equality) (rows : Combination) → are_met_from 0 es rows ≡ are_met es rows
none-before [] rows = refl
none-before (e ∷ es) rows = ap (λ b. ((b && ltb e.right.object 0) || is_met rows e) && are_met_from 0 es rows) (le-ltb e.left.object 0 (omega arith)) ∙ ap (λ b. is_met rows e && b) (none-before es rows)

all-before : (n : ℕ) (es : List Equality) (rows : Combination) → AreWithin n es → are_met_from n es rows ≡ true
all-before n [] rows within = refl
all-before n (e ∷ es) rows within =
    ap (λ b. ((b && ltb e.right.object n) || is_met rows e) && are_met_from n es rows) (lt-ltb e.left.object n within.0.0)
    ∙ ap (λ b. (b || is_met rows e) && are_met_from n es rows) (lt-ltb e.right.object n within.0.1)
    ∙ all-before n es rows within.1

-- a combination is kept where its row of this object goes with those before, and what is left is kept
met-row : (es : List Equality) (rows : Combination) (row : Values) (rest : Combination)
    → are_met_from (length rows) es (rows ++ row ∷ rest) ≡ (joins (length rows) es rows row && are_met_from (suc (length rows)) es ((rows ++ row ∷ []) ++ rest))
met-row es rows row rest =
    let k = length rows in
    let all = rows ++ row ∷ rest in
    let next = λ (e : Equality). is_before (suc k) e || is_met all e in
    let link = λ (e : Equality). if_link (holds_link rows row) (link_of k e) in
    list_all-split (λ e. is_before k e || is_met all e) (holds_in k row) link next (split-equality rows row rest) es
    ∙ and-grouped (list_all (holds_in k row) es) (list_all link es) (list_all next es)
    ∙ ap (λ b. (meets_own k es row && b) && list_all next es) (sym (has_key-links rows row k es))
    ∙ ap (λ c. joins k es rows row && are_met_from (suc k) es c) (sym (append_assoc rows (row ∷ []) rest))

filter-split : (es : List Equality) (rows : Combination) (row : Values) (rests : List Combination)
    → filter (are_met_from (length rows) es) (map (λ rest. rows ++ rest) (map (λ rest. row ∷ rest) rests))
    ≡ cond (joins (length rows) es rows row) (filter (are_met_from (suc (length rows)) es) (map (λ rest. (rows ++ row ∷ []) ++ rest) rests)) []
filter-split es rows row [] = cond-same (joins (length rows) es rows row) []
filter-split es rows row (rest ∷ rests) =
    let k = length rows in
    let all = rows ++ row ∷ rest in
    let next = filter (are_met_from (suc k) es) (map (λ rest. (rows ++ row ∷ []) ++ rest) rests) in
    ap (λ b. cond b (all ∷ filter (are_met_from k es) (map (λ rest. rows ++ rest) (map (λ rest. row ∷ rest) rests))) (filter (are_met_from k es) (map (λ rest. rows ++ rest) (map (λ rest. row ∷ rest) rests)))) (met-row es rows row rest)
    ∙ ap (λ xs. cond (joins k es rows row && are_met_from (suc k) es ((rows ++ row ∷ []) ++ rest)) (all ∷ xs) xs) (filter-split es rows row rests)
    ∙ ap (λ c. cond (joins k es rows row && are_met_from (suc k) es ((rows ++ row ∷ []) ++ rest)) (c ∷ cond (joins k es rows row) next []) (cond (joins k es rows row) next [])) (sym (append_assoc rows (row ∷ []) rest))
    ∙ cond-in (joins k es rows row) (are_met_from (suc k) es ((rows ++ row ∷ []) ++ rest)) ((rows ++ row ∷ []) ++ rest) next

flat_map-cond : {X Y : Type 0} (g : X → List Y) (b : Bool) (x : X) (xs : List X) → cond b (g x) [] ++ flat_map g xs ≡ flat_map g (cond b (x ∷ xs) xs)
flat_map-cond g true x xs = refl
flat_map-cond g false x xs = refl

-- the combinations that begin with some rows are, for each row that goes with them, those that begin with that row too
pub each_row : (es : List Equality) (rows : Combination) (table : List Values) (tables : List (List Values))
    → kept_from (length rows) es rows (table ∷ tables) ≡ flat_map (λ row. kept_from (suc (length rows)) es (rows ++ row ∷ []) tables) (filter (joins (length rows) es rows) table)
each_row es rows [] tables = refl
each_row es rows (row ∷ table) tables =
    let k = length rows in
    let first = map (λ rest. row ∷ rest) (combinations tables) in
    let later = flat_map (λ row. map (λ rest. row ∷ rest) (combinations tables)) table in
    let begin = λ (rest : Combination). rows ++ rest in
    let g = λ (row : Values). kept_from (suc k) es (rows ++ row ∷ []) tables in
    ap (filter (are_met_from k es)) (map-append begin first later)
    ∙ filter-append (are_met_from k es) (map begin first) (map begin later)
    ∙ ap (λ xs. xs ++ filter (are_met_from k es) (map begin later)) (filter-split es rows row (combinations tables))
    ∙ ap (λ xs. cond (joins k es rows row) (g row) [] ++ xs) (each_row es rows table tables)
    ∙ flat_map-cond g (joins k es rows row) row (filter (joins k es rows) table)

-- before any row all equalities are left
pub at_start : (es : List Equality) (tables : List (List Values)) → kept_from 0 es [] tables ≡ kept es tables
at_start es tables = ap (filter (are_met_from 0 es)) (map-id (combinations tables)) ∙ filter_agree (are_met_from 0 es) (are_met es) (none-before es) (combinations tables)

-- behind the last object no equality is left
pub at_end : (n : ℕ) (es : List Equality) (rows : Combination) → AreWithin n es → kept_from n es rows [] ≡ rows ∷ []
at_end n es rows within = ap (λ c. cond (are_met_from n es c) (c ∷ []) []) (append-nil rows) ∙ ap (λ b. cond b (rows ∷ []) []) (all-before n es rows within)
