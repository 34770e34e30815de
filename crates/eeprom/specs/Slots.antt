-- Slots in no order against lists in rising order of a key.
use Rattle.std.specs.Prelude.{ℕ, ◌<◌, ◌≤◌, ◌==◌, nat_lt, not, Bool, List, [], ◌∷◌, Option, Some, None, if◌then◌else◌, map, filter, count_by}
use Rattle.std.specs.List.{filter_map, AllByRecursion}

-- the element before the first that has a greater key
abbrev pub put_in_order : {X : Type 0} → (X → ℕ) → X → List X → List X
put_in_order key x [] = x ∷ []
put_in_order key x (y ∷ ys) = if nat_lt (key x) (key y) then x ∷ y ∷ ys else y ∷ put_in_order key x ys

-- the elements in rising order of their keys
abbrev pub in_order : {X : Type 0} → (X → ℕ) → List X → List X
in_order key [] = []
in_order key (x ∷ xs) = put_in_order key x (in_order key xs)

-- each key is below all later ones
abbrev pub Rises : {X : Type 0} → (X → ℕ) → List X → Type 0
Rises key [] = Unit {0}
Rises key (x ∷ xs) = AllByRecursion (λ y. key x < key y) xs × Rises key xs

-- what a reader gives of a filled slot
abbrev pub in_slot : {X : Type 0} → (List ℕ → Option X) → Option (List ℕ) → Option X
in_slot read None = None
in_slot read (Some octets) = read octets

-- what a reader gives of the filled slots, in rising order
abbrev pub kept : {X : Type 0} → (X → ℕ) → (List ℕ → Option X) → List (Option (List ℕ)) → List X
kept key read slots = in_order key (filter_map (in_slot read) slots)

-- whether an element has this key; whether its key is greater
abbrev pub has : {X : Type 0} → (X → ℕ) → ℕ → X → Bool
has key k x = key x == k

abbrev pub is_after : {X : Type 0} → (X → ℕ) → ℕ → X → Bool
is_after key k x = nat_lt k (key x)

-- no two elements have one key
abbrev pub AreApart : {X : Type 0} → (X → ℕ) → List X → Type 0
AreApart key xs = (k : ℕ) → count_by (has key k) xs ≤ 1

-- the element in the place of each that has its key; all elements but those of this key
abbrev pub replaced : {X : Type 0} → (X → ℕ) → X → List X → List X
replaced key x xs = map (λ y. if key y == key x then x else y) xs

abbrev pub without : {X : Type 0} → (X → ℕ) → ℕ → List X → List X
without key k xs = filter (λ y. not (key y == k)) xs

-- of one element so far and one more, that of the lesser key
abbrev pub nearer : {X : Type 0} → (X → ℕ) → Option X → Option X → Option X
nearer key None y = y
nearer key (Some x) None = Some x
nearer key (Some x) (Some y) = if nat_lt (key y) (key x) then Some y else Some x

-- the element, if its key is greater than a number
abbrev pub above : {X : Type 0} → (X → ℕ) → ℕ → X → Option X
above key k x = if nat_lt k (key x) then Some x else None

-- of the elements whose keys are greater than a number, that of the least key, from one so far on
abbrev pub nearest_from : {X : Type 0} → (X → ℕ) → ℕ → Option X → List X → Option X
nearest_from key k best [] = best
nearest_from key k best (x ∷ xs) = nearest_from key k (nearer key best (above key k x)) xs
