-- Names are the same where their numbers are, and so are pairs.
use Rattle.std.proofs.Common.{◌≡◌, ℕ, ◌+◌, ◌*◌, ◌<◌, ◌^◌, ◌==◌, Bool, true, eqb, not, ◌&&◌, List, [], ◌∷◌, length, map, Option, Some, None, refl, sym, ap, ◌∙◌, inl, inr, arith}
use Rattle.std.specs.Prelude.{nat_le, nat_lt, option_map}
use Rattle.std.specs.Option.{option_map_or}
use Rattle.std.specs.List.{list_any, list_all, filter_map}
use Rattle.std.specs.Str.{bytes_eq}
use Rattle.std.specs.Char.{is_ascii_uppercase}
use Rattle.std.proofs.lemmas.Bool.{cases_Bool, and_parts, and_from, eqb-true, eqb-false, eq-eqb, leb-true, ltb-true}
use Rattle.std.proofs.lemmas.Slice.Eq.{bytes_eq-Decides}
use Rattle.scql_base.specs.Name.{is_name, is_name_octet}
use Rattle.scql_base.specs.declared.records.User.{User}
use Rattle.scql_base.specs.declared.records.Object.{Object}
use Rattle.scql_base.specs.declared.records.Grant.{Grant}
use Rattle.scql_model.specs.Rules.{are_apart_by, is_of_pair}
use Rattle.scql_model.proofs.LongerLists.{all-weaker}
use Rattle.card.specs.declared.apart.Label.{Label}
use Rattle.card.specs.declared.apart.Label.TheVariants.{UserName, ObjectName, GrantPair}
use Rattle.card.specs.declared.kept_record.KeptRecord.{KeptRecord}
use Rattle.card.specs.KeptRecords.{as_user, as_object, as_grant, users_in, objects_in, grants_in}
use Rattle.card.specs.Apart.{are_different_numbers, octets_number, pair_number, is_pair_of_stamps, number_by, is_numbered, is_never_shared}

-- a digit to base 256 that isn't 0
abbrev is_digit : ℕ → Bool
is_digit octet = nat_le 1 octet && nat_lt octet 256

name_octet-digit : (octet : ℕ) → is_name_octet octet ≡ true → is_digit octet ≡ true
name_octet-digit octet is = grind arith

name-digits : (name : List ℕ) → is_name name ≡ true → list_all is_digit name ≡ true
name-digits [] is = refl
name-digits (first ∷ rest) is =
    let parts = and_parts (is_ascii_uppercase first && list_all is_name_octet rest) (nat_lt (length rest) 8) is in
    let octets = and_parts (is_ascii_uppercase first) (list_all is_name_octet rest) parts.0 in
    let digit : is_digit first ≡ true = letter first octets.0 in
    and_from (is_digit first) (list_all is_digit rest) digit (all-weaker is_name_octet is_digit rest name_octet-digit octets.1)
  where
    letter : (octet : ℕ) → is_ascii_uppercase octet ≡ true → is_digit octet ≡ true
    letter octet is = grind arith

-- digits are told from their number
same-digits : (xs ys : List ℕ) → list_all is_digit xs ≡ true → list_all is_digit ys ≡ true → octets_number xs ≡ octets_number ys → xs ≡ ys
same-digits [] [] a b e = refl
same-digits [] (y ∷ ys) a b e =
    let p = and_parts (is_digit y) (list_all is_digit ys) b in
    let q = leb-true 1 y (and_parts (nat_le 1 y) (nat_lt y 256) p.0).0 in
    absurd (omega arith)
same-digits (x ∷ xs) [] a b e =
    let p = and_parts (is_digit x) (list_all is_digit xs) a in
    let q = leb-true 1 x (and_parts (nat_le 1 x) (nat_lt x 256) p.0).0 in
    absurd (omega arith)
same-digits (x ∷ xs) (y ∷ ys) a b e =
    let p = and_parts (is_digit x) (list_all is_digit xs) a in
    let q = and_parts (is_digit y) (list_all is_digit ys) b in
    let few = ltb-true x 256 (and_parts (nat_le 1 x) (nat_lt x 256) p.0).1 in
    let few' = ltb-true y 256 (and_parts (nat_le 1 y) (nat_lt y 256) q.0).1 in
    let head : x ≡ y = omega arith in
    let rest : octets_number xs ≡ octets_number ys = omega arith in
    ap2 head (same-digits xs ys p.1 q.1 rest)
  where
    ap2 : {x y : ℕ} {xs ys : List ℕ} → x ≡ y → xs ≡ ys → x ∷ xs ≡ y ∷ ys
    ap2 e f = cc

name-same : (a b : List ℕ) → is_name a ≡ true → is_name b ≡ true → (octets_number a == octets_number b) ≡ bytes_eq a b
name-same a b right right' =
    elim (cases_Bool (eqb (octets_number a) (octets_number b))) [
      | inl t ↦ t ∙ sym ((bytes_eq-Decides a b).1 (same-digits a b (name-digits a right) (name-digits b right') (eqb-true _ _ t)))
      | inr f ↦ (elim (cases_Bool (bytes_eq a b)) [
        | inl t ↦ absurd (eqb-false (octets_number a) (octets_number b) f (ap octets_number ((bytes_eq-Decides a b).0 t)))
        | inr g ↦ f ∙ sym g
      ])
    ]

pair-same : (a b : Grant) → is_pair_of_stamps a.object a.grantee ≡ true → is_pair_of_stamps b.object b.grantee ≡ true → (pair_number a.object a.grantee == pair_number b.object b.grantee) ≡ is_of_pair a b
pair-same a b right right' =
    let p = and_parts (nat_lt a.object (2 ^ 32)) (nat_lt a.grantee (2 ^ 32)) right in
    let q = and_parts (nat_lt b.object (2 ^ 32)) (nat_lt b.grantee (2 ^ 32)) right' in
    pairs a.object a.grantee b.object b.grantee (ltb-true a.grantee (2 ^ 32) p.1) (ltb-true b.grantee (2 ^ 32) q.1)
  where
    pairs : (o g o' g' : ℕ) → g < 4294967296 → g' < 4294967296 → (o * 4294967296 + g == o' * 4294967296 + g') ≡ ((o == o') && (g == g'))
    pairs o g o' g' less less' =
        elim (cases_Bool (eqb (o * 4294967296 + g) (o' * 4294967296 + g'))) [
          | inl t ↦ (let e = eqb-true (o * 4294967296 + g) (o' * 4294967296 + g') t in
              t ∙ sym (and_from (eqb o o') (eqb g g') (eq-eqb o o' (omega arith)) (eq-eqb g g' (omega arith))))
          | inr f ↦ (let ne = eqb-false (o * 4294967296 + g) (o' * 4294967296 + g') f in
              elim (cases_Bool (eqb o o' && eqb g g')) [
                | inl t ↦ absurd (let both = and_parts (eqb o o') (eqb g g') t in let e = eqb-true o o' both.0 in let e' = eqb-true g g' both.1 in ne (omega arith))
                | inr g ↦ f ∙ sym g
              ])
        ]

-- Things are apart where their numbers are different.
different-apart_by : {X : Type 0} (number : X → ℕ) (same : X → X → Bool) (right : X → Bool) → ((a b : X) → right a ≡ true → right b ≡ true → (number a == number b) ≡ same a b)
    → (xs : List X) → list_all right xs ≡ true → are_different_numbers (map number xs) ≡ are_apart_by same xs
different-apart_by number same right told [] all = refl
different-apart_by {X} number same right told (x ∷ xs) all =
    let parts = and_parts (right x) (list_all right xs) all in
    ap (λ (b : Bool). not b && are_different_numbers (map number xs)) (any-told parts.0 xs parts.1) ∙ ap (λ (b : Bool). not (list_any (same x) xs) && b) (different-apart_by number same right told xs parts.1)
  where
    any-told : right x ≡ true → (ys : List X) → list_all right ys ≡ true → list_any (λ n. number x == n) (map number ys) ≡ list_any (same x) ys
    any-told here [] all = refl
    any-told here (y ∷ ys) all = let parts = and_parts (right y) (list_all right ys) all in rw (told x y here parts.0, any-told here ys parts.1) refl

-- the numbers of those of one kind
numbers-kind : {X Y Z : Type 0} (kind : X → Option Y) (part : Y → Z) (number : Z → ℕ) (xs : List X)
    → filter_map (λ x. option_map (λ y. number (part y)) (kind x)) xs ≡ map number (map part (filter_map kind xs))
numbers-kind kind part number [] = refl
numbers-kind kind part number (x ∷ xs) = go (kind x) refl (numbers-kind kind part number xs)
  where
    go : (o : Option _) → kind x ≡ o → filter_map (λ x. option_map (λ y. number (part y)) (kind x)) xs ≡ map number (map part (filter_map kind xs))
        → filter_map (λ x. option_map (λ y. number (part y)) (kind x)) (x ∷ xs) ≡ map number (map part (filter_map kind (x ∷ xs)))
    go None e rest = rw e rest
    go (Some y) e rest = rw e (ap (λ (ns : List ℕ). number (part y) ∷ ns) rest)

right-kind : {X Y Z : Type 0} (kind : X → Option Y) (part : Y → Z) (right : Z → Bool) (xs : List X) → list_all (λ x. option_map_or (λ y. right (part y)) (kind x) true) xs ≡ true → list_all right (map part (filter_map kind xs)) ≡ true
right-kind kind part right [] all = refl
right-kind kind part right (x ∷ xs) all =
    let parts = and_parts (option_map_or (λ y. right (part y)) (kind x) true) _ all in
    go (kind x) refl parts.0 (right-kind kind part right xs parts.1)
  where
    go : (o : Option _) → kind x ≡ o → option_map_or (λ y. right (part y)) (kind x) true ≡ true → list_all right (map part (filter_map kind xs)) ≡ true → list_all right (map part (filter_map kind (x ∷ xs))) ≡ true
    go None e here rest = rw e rest
    go (Some y) e here rest = rw e (and_from (right (part y)) (list_all right (map part (filter_map kind xs))) (rw e at here) rest)

map-itself : {X : Type 0} (xs : List X) → map (λ (x : X). x) xs ≡ xs
map-itself [] = refl
map-itself (x ∷ xs) = ap (λ ys. x ∷ ys) (map-itself xs)

-- What no two records share, by numbers.
pub never-shared : (label : Label) (records : List KeptRecord) → list_all (is_numbered label) records ≡ true → are_different_numbers (filter_map (number_by label) records) ≡ is_never_shared label records
never-shared UserName records numbered =
    ap are_different_numbers (numbers-kind as_user (λ (u : User). u.name) octets_number records)
    ∙ different-apart_by octets_number bytes_eq is_name name-same (map (λ (u : User). u.name) (users_in records)) (right-kind as_user (λ (u : User). u.name) is_name records numbered)
never-shared ObjectName records numbered =
    ap are_different_numbers (numbers-kind as_object (λ (o : Object). o.name) octets_number records)
    ∙ different-apart_by octets_number bytes_eq is_name name-same (map (λ (o : Object). o.name) (objects_in records)) (right-kind as_object (λ (o : Object). o.name) is_name records numbered)
never-shared GrantPair records numbered =
    ap are_different_numbers (numbers-kind as_grant (λ (g : Grant). g) (λ (g : Grant). pair_number g.object g.grantee) records)
    ∙ different-apart_by (λ (g : Grant). pair_number g.object g.grantee) is_of_pair (λ (g : Grant). is_pair_of_stamps g.object g.grantee) pair-same (map (λ (g : Grant). g) (grants_in records))
    (right-kind as_grant (λ (g : Grant). g) (λ (g : Grant). is_pair_of_stamps g.object g.grantee) records numbered)
    ∙ ap (are_apart_by is_of_pair) (map-itself (grants_in records))
