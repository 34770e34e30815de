-- Records of rising stamps: a search by halves finds what a search from the front finds, and those of one kind are found alike.
use Rattle.std.proofs.Common.{◌≡◌, ℕ, zero, suc, ◌+◌, ◌<◌, ◌≤◌, ◌==◌, Bool, true, false, ltb, eqb, subst, List, [], ◌∷◌, length, get_or, Option, Some, None, Ok, Err, refl, sym, ap, ◌∙◌, inl, inr, arith}
use Rattle.std.specs.Prelude.{option_and_then, is_some}
use Rattle.std.specs.List.{find, filter_map, list_any, AllByRecursion}
use Rattle.std.specs.List.Sorted.{IsBinarySearchResult, IsSortedBy}
use Rattle.std.specs.Ordering.{nat_cmp, is_lt, MatchOrdering}
use Rattle.std.specs.declared.cmp.Ordering.TheVariants.{Less, Equal, Greater}
use Rattle.std.proofs.lemmas.Bool.{cases_Bool, eqb-true, ne_eqb, eq-eqb, le-ltb, ltb-true, ltb-false}
use Rattle.std.specs.Cmp.{ranks, nat_cmp_total}
use native.Mathlib.Numerals.{add-one}
use Rattle.std.proofs.lemmas.List.Sorted.{searchable_from_sorted}
use Rattle.eeprom.specs.Slots.{Rises}

-- what is found, and that there is one
pub is_some-find : {X : Type 0} (p : X → Bool) (xs : List X) → is_some (find p xs) ≡ list_any p xs
is_some-find p [] = refl
is_some-find p (x ∷ xs) = elim (cases_Bool (p x)) [ inl t ↦ rw t refl | inr f ↦ rw f (is_some-find p xs) ]

-- what holds of all is weakened
pub all-recursion : {X : Type 0} (P Q : X → Type 0) (xs : List X) → ((x : X) → P x → Q x) → AllByRecursion P xs → AllByRecursion Q xs
all-recursion P Q [] f all = tt
all-recursion P Q (x ∷ xs) f all = (f x all.0, all-recursion P Q xs f all.1)

module _ {X : Type 0} (key : X → ℕ) where
  above-at : (k : ℕ) (xs : List X) (i : ℕ) (d : X) → AllByRecursion (λ y. k < key y) xs → i < length xs → k < key (get_or xs i d)
  above-at k [] i d all lt = absurd (omega arith)
  above-at k (x ∷ xs) zero d all lt = all.0
  above-at k (x ∷ xs) (suc i) d all lt = above-at k xs i d all.1 (omega arith)

  Rises-next : (xs : List X) (i : ℕ) (d : X) → Rises key xs → suc i < length xs → key (get_or xs i d) < key (get_or xs (suc i) d)
  Rises-next [] i d rises lt = absurd (omega arith)
  Rises-next (x ∷ xs) zero d rises lt = above-at (key x) xs 0 d rises.0 (omega arith)
  Rises-next (x ∷ xs) (suc i) d rises lt = Rises-next xs i d rises.1 (omega arith)

  -- the element at a place is found by its key
  find-at : (k : ℕ) (xs : List X) (i : ℕ) (d : X) → Rises key xs → i < length xs → key (get_or xs i d) ≡ k → Some (get_or xs i d) ≡ find (λ x. key x == k) xs
  find-at k [] i d rises lt is = absurd (omega arith)
  find-at k (x ∷ xs) zero d rises lt is = rw (eq-eqb (key x) k is) refl
  find-at k (x ∷ xs) (suc i) d rises lt is =
      let less = above-at (key x) xs i d rises.0 (omega arith) in
      rw (ne_eqb (key x) k (λ e. omega arith)) (find-at k xs i d rises.1 (omega arith) is)

  find-none : (p : X → Bool) (xs : List X) → ((i : ℕ) (d : X) → i < length xs → p (get_or xs i d) ≡ false) → None ≡ find p xs
  find-none p [] none = refl
  find-none p (x ∷ xs) none = rw (none 0 x (omega arith)) (find-none p xs (λ i d lt. none (suc i) d (omega arith)))

  sorted-rising : (xs : List X) → Rises key xs → IsSortedBy (λ a b. is_lt (nat_cmp (key a) (key b))) xs
  sorted-rising xs rises = λ k d low lt.
      let less = Rises-next xs k d rises (omega arith) in
      not-less (key (get_or xs (k + 1) d)) (key (get_or xs k d)) (rw (add-one k) (omega arith))
    where
      not-less : (a b : ℕ) → b ≤ a → is_lt (nat_cmp a b) ≡ false
      not-less a b le = rw (le-ltb a b le) (elim (cases_Bool (eqb a b)) [ inl t ↦ rw t refl | inr f ↦ rw f refl ])

  -- what a search by halves found
  pub searched-Ok : (xs : List X) (k i : ℕ) (x : X) → Rises key xs → i < length xs → IsBinarySearchResult (λ y. nat_cmp (key y) k) xs (Ok i) → x ≡ get_or xs i x → Some x ≡ find (λ x. key x == k) xs
  searched-Ok xs k i x rises lt equal is = ap Some is ∙ find-at k xs i x rises lt (equal-is (key (get_or xs i x)) (equal x))
    where
      equal-is : (a : ℕ) → nat_cmp a k ≡ Equal → a ≡ k
      equal-is a e = subst (λ o. MatchOrdering o (a < k) (a ≡ k) (k < a)) e (ranks a k)

  pub searched-Err : (xs : List X) (k i : ℕ) → Rises key xs → IsBinarySearchResult (λ y. nat_cmp (key y) k) xs (Err i) → None ≡ find (λ x. key x == k) xs
  searched-Err xs k i rises parted =
      let parts = parted (searchable_from_sorted nat_cmp_total key xs k (sorted-rising xs rises)) in
      find-none (λ x. key x == k) xs (λ j d lt. elim (cases_Bool (ltb j i)) [
        | inl t ↦ (let h = ltb-true j i t in less-is (key (get_or xs j d)) (parts.0 j d (omega arith) h))
        | inr f ↦ (let h = ltb-false j i f in greater-is (key (get_or xs j d)) (parts.1 j d h lt))
      ])
    where
      less-is : (a : ℕ) → nat_cmp a k ≡ Less → eqb a k ≡ false
      less-is a e = let h = subst (λ o. MatchOrdering o (a < k) (a ≡ k) (k < a)) e (ranks a k) in ne_eqb a k (λ e. omega arith)

      greater-is : (a : ℕ) → nat_cmp a k ≡ Greater → eqb a k ≡ false
      greater-is a e = let h = subst (λ o. MatchOrdering o (a < k) (a ≡ k) (k < a)) e (ranks a k) in ne_eqb a k (λ e. omega arith)

  -- Those of one kind, which have the same keys.
  module _ {Y : Type 0} (key' : Y → ℕ) (f : X → Option Y) (same : (x : X) (y : Y) → f x ≡ Some y → key' y ≡ key x) where
    above-kind : (k : ℕ) (xs : List X) → AllByRecursion (λ y. k < key y) xs → AllByRecursion (λ y. k < key' y) (filter_map f xs)
    above-kind k [] all = tt
    above-kind k (x ∷ xs) all = go (f x) refl (above-kind k xs all.1)
      where
        go : (o : Option Y) → f x ≡ o → AllByRecursion (λ y. k < key' y) (filter_map f xs) → AllByRecursion (λ y. k < key' y) (filter_map f (x ∷ xs))
        go None e rest = rw e rest
        go (Some y) e rest = rw e (let h : k < key x = all.0 in let g = same x y e in omega arith, rest)

    pub Rises-kind : (xs : List X) → Rises key xs → Rises key' (filter_map f xs)
    Rises-kind [] rises = tt
    Rises-kind (x ∷ xs) rises = go (f x) refl (Rises-kind xs rises.1)
      where
        go : (o : Option Y) → f x ≡ o → Rises key' (filter_map f xs) → Rises key' (filter_map f (x ∷ xs))
        go None e rest = rw e rest
        go (Some y) e rest = rw e (all-recursion (λ z. key x < key' z) (λ z. key' y < key' z) (filter_map f xs) (λ z h. let g = same x y e in omega arith) (above-kind (key x) xs rises.0), rest)

    find-above : (k : ℕ) (ys : List Y) → AllByRecursion (λ y. k < key' y) ys → find (λ y. key' y == k) ys ≡ None
    find-above k [] all = refl
    find-above k (y ∷ ys) all = let h : k < key' y = all.0 in rw (ne_eqb (key' y) k (λ e. omega arith)) (find-above k ys all.1)

    -- the one of the kind that has a key is what the one of all that has it is
    pub find-kind : (k : ℕ) (xs : List X) → Rises key xs → find (λ y. key' y == k) (filter_map f xs) ≡ option_and_then f (find (λ x. key x == k) xs)
    find-kind k [] rises = refl
    find-kind k (x ∷ xs) rises = elim (cases_Bool (eqb (key x) k)) [ inl t ↦ rw t (here t (f x) refl) | inr e ↦ rw e (there e (f x) refl (find-kind k xs rises.1)) ]
      where
        here : eqb (key x) k ≡ true → (o : Option Y) → f x ≡ o → find (λ y. key' y == k) (filter_map f (x ∷ xs)) ≡ f x
        here t None e = rw (e, sym (eqb-true (key x) k t)) (find-above (key x) (filter_map f xs) (above-kind (key x) xs rises.0))
        here t (Some y) e = rw (e, same x y e, t) refl

        there : eqb (key x) k ≡ false → (o : Option Y) → f x ≡ o → find (λ y. key' y == k) (filter_map f xs) ≡ option_and_then f (find (λ x. key x == k) xs)
            → find (λ y. key' y == k) (filter_map f (x ∷ xs)) ≡ option_and_then f (find (λ x. key x == k) xs)
        there g None e rest = rw e rest
        there g (Some y) e rest = rw (e, same x y e, g) rest
