-- A stable sort puts a list in order.
use Rattle.std.proofs.Common.{◌≡◌, ℕ, suc, ◌<◌, ◌≤◌, Bool, true, false, not, cond, List, [], ◌∷◌, length, get_or, map, refl, sym, ap, ◌∙◌, subst, arith, ◌&&◌, filter, Ordering, is_eq, is_lt, Less, Equal, Greater}
use Rattle.std.specs.Prelude.{⊤}
use Rattle.std.specs.Cmp.{IsStrictWeakOrder, IsTotalOrder}
use Rattle.std.specs.List.Sorted.{IsSortedBy, IsStableBy, ties}
use Rattle.std.specs.Ordering.{ordering_reverse}
use Rattle.std.proofs.lemmas.Bool.{true≢false, and_parts, not-true}
use Rattle.std.proofs.lemmas.Cmp.{alike_right}
use Rattle.std.proofs.lemmas.List.Elements.{filter_agree}
use Rattle.std.proofs.lemmas.List.Sorted.{sorted_far}
use Rattle.row_join.specs.Joins.{in_order, inserted}

module _ {X : Type 0} (lt : X → X → Bool) where
  -- x is not above those of a list
  abbrev Leads : X → List X → Type 0
  Leads x [] = ⊤
  Leads x (y ∷ ys) = (lt y x ≡ false) × Leads x ys

  -- none is above a later one
  abbrev Rises : List X → Type 0
  Rises [] = ⊤
  Rises (x ∷ xs) = Leads x xs × Rises xs

  Leads-from : (x : X) (xs : List X) → ((k : ℕ) → k < length xs → lt (get_or xs k x) x ≡ false) → Leads x xs
  Leads-from x [] h = tt
  Leads-from x (y ∷ ys) h = (h 0 (omega arith), Leads-from x ys (λ k p. h (suc k) (omega arith)))

  Rises-from : (xs : List X) → ((i j : ℕ) (d : X) → i ≤ j → j < length xs → lt (get_or xs j d) (get_or xs i d) ≡ false) → Rises xs
  Rises-from [] h = tt
  Rises-from (x ∷ xs) h = (Leads-from x xs (λ k p. h 0 (suc k) x (omega arith) (omega arith)), Rises-from xs (λ i j d p q. h (suc i) (suc j) d (omega arith) (omega arith)))

  Leads-step : (b : Bool) (x y z : X) (zs ws rest : List X) → lt z x ≡ false → (ws ≡ y ∷ rest → lt y x ≡ false) → cond b (z ∷ ws) ws ≡ y ∷ rest → lt y x ≡ false
  Leads-step true x y z zs ws rest h more e = let same : z ≡ y = cc in subst (λ w. lt w x ≡ false) same h
  Leads-step false x y z zs ws rest h more e = more e

  -- the first that a filter leaves is not below what leads the list
  Leads-first : (t : X → Bool) (x y : X) (xs rest : List X) → Leads x xs → filter t xs ≡ y ∷ rest → lt y x ≡ false
  Leads-first t x y [] rest h e = cc
  Leads-first t x y (z ∷ zs) rest h e = Leads-step (t z) x y z zs (filter t zs) rest h.0 (Leads-first t x y zs rest h.1) e

  filter-tail : (b : Bool) (x : X) (xs ys : List X) → cond b (x ∷ xs) xs ≡ cond b (x ∷ ys) ys → xs ≡ ys
  filter-tail true x xs ys e = cc
  filter-tail false x xs ys e = e

  module _ (o : IsStrictWeakOrder lt) where
    not-self : (x : X) → lt x x ≡ false
    not-self x = by (lt x x) refl
      where
        by : (b : Bool) → lt x x ≡ b → lt x x ≡ false
        by true e = o.one_way x x e
        by false e = e

    ties-self : (x : X) → ties lt x x ≡ true
    ties-self x = rw (not-self x)

    filter-self : (x : X) (xs : List X) → filter (ties lt x) (x ∷ xs) ≡ x ∷ filter (ties lt x) xs
    filter-self x xs = ap (λ b. cond b (x ∷ filter (ties lt x) xs) (filter (ties lt x) xs)) (ties-self x)

    -- the heads of two lists that rise and have the same ties
    same-heads : (x y : X) (xs ys : List X) → Leads x xs → Leads y ys → ((z : X) → filter (ties lt z) (x ∷ xs) ≡ filter (ties lt z) (y ∷ ys)) → x ≡ y
    same-heads x y xs ys p q same = by (lt x y) (lt y x) refl refl
      where
        at-x : x ∷ filter (ties lt x) xs ≡ filter (ties lt x) (y ∷ ys)
        at-x = sym (filter-self x xs) ∙ same x

        at-y : filter (ties lt y) (x ∷ xs) ≡ y ∷ filter (ties lt y) ys
        at-y = same y ∙ filter-self y ys

        by : (a b : Bool) → lt x y ≡ a → lt y x ≡ b → x ≡ y
        by true b e f = absurd (true≢false (sym e ∙ Leads-first (ties lt x) y x (y ∷ ys) (filter (ties lt x) xs) (not-self y, q) (sym at-x)))
        by false true e f = absurd (true≢false (sym f ∙ Leads-first (ties lt y) x y (x ∷ xs) (filter (ties lt y) ys) (not-self x, p) at-y))
        by false false e f =
            let t : ties lt x y ≡ true = rw (e, f) in
            let a = at-x ∙ ap (λ b. cond b (y ∷ filter (ties lt x) ys) (filter (ties lt x) ys)) t in cc

    -- two lists that rise and have the same ties are one
    rising-same : (xs ys : List X) → Rises xs → Rises ys → ((z : X) → filter (ties lt z) xs ≡ filter (ties lt z) ys) → xs ≡ ys
    rising-same [] [] p q same = refl
    rising-same [] (y ∷ ys) p q same = let e = same y ∙ filter-self y ys in cc
    rising-same (x ∷ xs) [] p q same = let e = sym (same x) ∙ filter-self x xs in cc
    rising-same (x ∷ xs) (y ∷ ys) p q same =
        let head = same-heads x y xs ys p.0 q.0 same in
        let tail = rising-same xs ys p.1 q.1 (λ z. filter-tail (ties lt z x) x (filter (ties lt z) xs) (filter (ties lt z) ys) (same z ∙ ap (λ w. cond (ties lt z w) (w ∷ filter (ties lt z) ys) (filter (ties lt z) ys)) (sym head))) in
        cc

    Leads-inserted : (x y : X) (ys : List X) → lt y x ≡ false → Leads x ys → Leads x (inserted lt y ys)
    Leads-inserted x y [] h p = (h, tt)
    Leads-inserted x y (z ∷ zs) h p = by (lt z y) (Leads-inserted x y zs h p.1)
      where
        by : (b : Bool) → Leads x (inserted lt y zs) → Leads x (cond b (z ∷ inserted lt y zs) (y ∷ z ∷ zs))
        by true rest = (p.0, rest)
        by false rest = (h, p)

    Leads-chain : (x y : X) (ys : List X) → lt y x ≡ false → Leads y ys → Leads x ys
    Leads-chain x y [] h p = tt
    Leads-chain x y (z ∷ zs) h p = (o.chain z y x p.0 h, Leads-chain x y zs h p.1)

    Rises-inserted : (x : X) (ys : List X) → Rises ys → Rises (inserted lt x ys)
    Rises-inserted x [] p = (tt, tt)
    Rises-inserted x (y ∷ ys) p = by (lt y x) refl (Rises-inserted x ys p.1)
      where
        by : (b : Bool) → lt y x ≡ b → Rises (inserted lt x ys) → Rises (cond b (y ∷ inserted lt x ys) (x ∷ y ∷ ys))
        by true e rest = (Leads-inserted y x ys (o.one_way y x e) p.0, rest)
        by false e rest = ((e, Leads-chain x y ys e p.0), p)

    Rises-in_order : (xs : List X) → Rises (in_order lt xs)
    unfolding in_order
    Rises-in_order [] = tt
    Rises-in_order (x ∷ xs) = Rises-inserted x (in_order lt xs) (Rises-in_order xs)

    ties-parts : (x y : X) → ties lt x y ≡ true → (lt x y ≡ false) × (lt y x ≡ false)
    ties-parts x y e = let parts = and_parts (not (lt x y)) (not (lt y x)) e in (not-true (lt x y) parts.0, not-true (lt y x) parts.1)

    swap-apart : (a b : Bool) (x y : X) (l : List X) → (a ≡ true → b ≡ true → true ≡ false) → cond a (y ∷ cond b (x ∷ l) l) (cond b (x ∷ l) l) ≡ cond b (x ∷ cond a (y ∷ l) l) (cond a (y ∷ l) l)
    swap-apart true true x y l h = absurd (true≢false (h refl refl))
    swap-apart true false x y l h = refl
    swap-apart false true x y l h = refl
    swap-apart false false x y l h = refl

    filter-inserted : (z x : X) (ys : List X) → filter (ties lt z) (inserted lt x ys) ≡ filter (ties lt z) (x ∷ ys)
    filter-inserted z x [] = refl
    filter-inserted z x (y ∷ ys) = by (lt y x) refl (filter-inserted z x ys)
      where
        t : X → Bool
        t = ties lt z

        by : (b : Bool) → lt y x ≡ b → filter t (inserted lt x ys) ≡ filter t (x ∷ ys) → filter t (cond b (y ∷ inserted lt x ys) (x ∷ y ∷ ys)) ≡ filter t (x ∷ y ∷ ys)
        by true e rest =
            ap (λ l. cond (t y) (y ∷ l) l) rest
            ∙ swap-apart (t y) (t x) x y (filter t ys) (λ p q. sym e ∙ o.chain y z x (ties-parts z y p).1 (ties-parts z x q).0)
        by false e rest = refl

    filter-in_order : (z : X) (xs : List X) → filter (ties lt z) (in_order lt xs) ≡ filter (ties lt z) xs
    unfolding in_order
    filter-in_order z [] = refl
    filter-in_order z (x ∷ xs) = filter-inserted z x (in_order lt xs) ∙ ap (λ l. cond (ties lt z x) (x ∷ l) l) (filter-in_order z xs)

    -- a list that is sorted and in which those that tie stand as they stood is the list put in order
    pub sorted_in_order : (xs ys : List X) → IsSortedBy lt ys → IsStableBy lt xs ys → ys ≡ in_order lt xs
    sorted_in_order xs ys sorted stable = rising-same ys (in_order lt xs) (Rises-from ys (sorted_far lt o ys sorted)) (Rises-in_order xs) (λ z. stable z ∙ sym (filter-in_order z xs))

module _ {K : Type 0} {R : K → K → Ordering} (o : IsTotalOrder R) {X : Type 0} (key : X → K) (probe : K) where
  equal-from : (r : Ordering) → is_eq r ≡ true → r ≡ Equal
  equal-from Less e = absurd (true≢false (sym e))
  equal-from Equal e = refl
  equal-from Greater e = absurd (true≢false (sym e))

  neither-less : (r s : Ordering) → s ≡ ordering_reverse r → (not (is_lt s) && not (is_lt r)) ≡ is_eq r
  neither-less Less s e = rw e
  neither-less Equal s e = rw e
  neither-less Greater s e = rw e

  -- those that tie with one that has the key are those that have it
  ties-have : (x y : X) → is_eq (R (key x) probe) ≡ true → is_eq (R (key y) probe) ≡ ties (λ a b. is_lt (R (key a) (key b))) x y
  ties-have x y h =
      let e = equal-from (R (key x) probe) h in
      let a = o.congr (key x) probe (key y) e in
      let b = alike_right o (key x) probe (key y) e in
      sym (neither-less (R (key y) probe) (R probe (key y)) (o.antisymm probe (key y))) ∙ (λ i. not (is_lt (sym a i)) && not (is_lt (sym b i)))

  filter-has : (t : X → Bool) (x : X) (xs rest : List X) → filter t xs ≡ x ∷ rest → t x ≡ true
  filter-has t x [] rest e = cc
  filter-has t x (y ∷ ys) rest e = by (t y) refl e (filter-has t x ys rest)
    where
      by : (b : Bool) → t y ≡ b → cond b (y ∷ filter t ys) (filter t ys) ≡ x ∷ rest → (filter t ys ≡ x ∷ rest → t x ≡ true) → t x ≡ true
      by true f e more = let same : y ≡ x = cc in ap t (sym same) ∙ f
      by false f e more = more e

  -- after a stable sort by a key those with one key stand as they stood
  pub filter-stable : (xs ys : List X) → IsStableBy (λ a b. is_lt (R (key a) (key b))) xs ys → filter (λ x. is_eq (R (key x) probe)) ys ≡ filter (λ x. is_eq (R (key x) probe)) xs
  filter-stable xs ys stable = by (filter has ys) (filter has xs) refl refl
    where
      has : X → Bool
      has x = is_eq (R (key x) probe)

      agree : (x : X) → has x ≡ true → filter has ys ≡ filter has xs
      agree x h = filter_agree has (ties (λ a b. is_lt (R (key a) (key b))) x) (λ y. ties-have x y h) ys ∙ stable x ∙ sym (filter_agree has (ties (λ a b. is_lt (R (key a) (key b))) x) (λ y. ties-have x y h) xs)

      by : (us vs : List X) → filter has ys ≡ us → filter has xs ≡ vs → filter has ys ≡ filter has xs
      by (x ∷ rest) vs e f = agree x (filter-has has x ys rest e)
      by [] (x ∷ rest) e f = agree x (filter-has has x xs rest f)
      by [] [] e f = e ∙ sym f

module _ {X Y : Type 0} (f : X → Y) (lt : Y → Y → Bool) where
  map-inserted : (x : X) (xs : List X) → map f (inserted (λ a b. lt (f a) (f b)) x xs) ≡ inserted lt (f x) (map f xs)
  map-inserted x [] = refl
  map-inserted x (y ∷ ys) = by (lt (f y) (f x)) (map-inserted x ys)
    where
      by : (b : Bool) → map f (inserted (λ a b. lt (f a) (f b)) x ys) ≡ inserted lt (f x) (map f ys)
          → map f (cond b (y ∷ inserted (λ a b. lt (f a) (f b)) x ys) (x ∷ y ∷ ys)) ≡ cond b (f y ∷ inserted lt (f x) (map f ys)) (f x ∷ f y ∷ map f ys)
      by true e = ap (λ l. f y ∷ l) e
      by false e = refl

  -- what is put in order by what a function gives of it is in the order of that
  pub map-in_order : (xs : List X) → map f (in_order (λ a b. lt (f a) (f b)) xs) ≡ in_order lt (map f xs)
  unfolding in_order
  map-in_order [] = refl
  map-in_order (x ∷ xs) = map-inserted x (in_order (λ a b. lt (f a) (f b)) xs) ∙ ap (inserted lt (f x)) (map-in_order xs)
