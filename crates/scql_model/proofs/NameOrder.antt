-- Shown objects stand in the order of their names.
use Rattle.std.proofs.Common.{◌≡◌, ℕ, zero, suc, ◌<◌, Bool, true, false, List, [], ◌∷◌, length, get_or, map, filter, refl, sym, ◌∙◌, ap, inl, inr, arith, add-one, is_lt, is_le, nat_cmp, Ordering, Less, Equal, Greater}
use Rattle.std.specs.Ordering.{ordering_reverse}
use Rattle.std.specs.Cmp.Lexicographic.{slice_cmp}
use Rattle.std.specs.List.Sorted.{IsSortedByKey}
use Rattle.std.proofs.lemmas.Bool.{cases_Bool, false≢true}
use Rattle.std.proofs.lemmas.Cmp.{nat_list_cmp_total}
use Rattle.scql_base.specs.declared.words.Actor.{Actor}
use Rattle.scql_model.specs.Database.{Database}
use Rattle.scql_model.specs.Rights.{appears}
use Rattle.scql_model.specs.Shown.{ShownObject, object_shown, put_by_name, by_names, objects_shown}

-- whether the name of one is less than that of another
is_less : ShownObject → ShownObject → Bool
is_less x y = is_lt (slice_cmp nat_cmp x.name y.name)

-- the next isn't less
abbrev IsFirst : ShownObject → List ShownObject → Type 0
IsFirst x [] = Unit {0}
IsFirst x (y ∷ ys) = is_less y x ≡ false

abbrev AreOrdered : List ShownObject → Type 0
AreOrdered [] = Unit {0}
AreOrdered (x ∷ xs) = IsFirst x xs × AreOrdered xs

reverse-le : (o : Ordering) → is_le o ≡ true → is_lt (ordering_reverse o) ≡ false
reverse-le Less le = refl
reverse-le Equal le = refl
reverse-le Greater le = absurd (false≢true le)

not-le : (o : Ordering) → is_le o ≡ false → is_lt o ≡ false
not-le Less le = absurd (false≢true (sym le))
not-le Equal le = refl
not-le Greater le = refl

not_less-le : (x y : ShownObject) → is_le (slice_cmp nat_cmp x.name y.name) ≡ true → is_less y x ≡ false
unfolding is_less
not_less-le x y le = ap is_lt (nat_list_cmp_total.antisymm y.name x.name) ∙ reverse-le (slice_cmp nat_cmp x.name y.name) le

not_less-more : (x y : ShownObject) → is_le (slice_cmp nat_cmp x.name y.name) ≡ false → is_less x y ≡ false
unfolding is_less
not_less-more x y more = not-le (slice_cmp nat_cmp x.name y.name) more

IsFirst-put_by_name : (z x : ShownObject) (ys : List ShownObject) → is_less x z ≡ false → IsFirst z ys → IsFirst z (put_by_name x ys)
IsFirst-put_by_name z x [] less first = less
IsFirst-put_by_name z x (y ∷ ys) less first =
    elim (cases_Bool (is_le (slice_cmp nat_cmp x.name y.name))) [
      | inl t ↦ rw t less
      | inr f ↦ rw f first
    ]

AreOrdered-put_by_name : (x : ShownObject) (ys : List ShownObject) → AreOrdered ys → AreOrdered (put_by_name x ys)
AreOrdered-put_by_name x [] ordered = (tt, tt)
AreOrdered-put_by_name x (y ∷ ys) ordered =
    elim (cases_Bool (is_le (slice_cmp nat_cmp x.name y.name))) [
      | inl t ↦ rw t (not_less-le x y t, ordered)
      | inr f ↦ rw f (IsFirst-put_by_name y x ys (not_less-more x y f) ordered.0, AreOrdered-put_by_name x ys ordered.1)
    ]

AreOrdered-by_names : (xs : List ShownObject) → AreOrdered (by_names xs)
AreOrdered-by_names [] = tt
AreOrdered-by_names (x ∷ xs) = AreOrdered-put_by_name x (by_names xs) (AreOrdered-by_names xs)

next-not_less : (xs : List ShownObject) → AreOrdered xs → (k : ℕ) (d : ShownObject) → suc k < length xs → is_less (get_or xs (suc k) d) (get_or xs k d) ≡ false
next-not_less [] ordered k d below = absurd (omega arith)
next-not_less (x ∷ []) ordered k d below = absurd (omega arith)
next-not_less (x ∷ y ∷ xs) ordered zero d below = ordered.0
next-not_less (x ∷ y ∷ xs) ordered (suc k) d below = next-not_less (y ∷ xs) ordered.1 k d (omega arith)

pub IsSorted-objects_shown : (db : Database) (actor : Actor) → IsSortedByKey (λ (o : ShownObject). o.name) (slice_cmp nat_cmp) (objects_shown db actor)
unfolding is_less
IsSorted-objects_shown db actor k d least below =
    rw add-one (next-not_less (objects_shown db actor) (AreOrdered-by_names (map (object_shown db actor) (filter (appears db actor) db.objects))) k d (omega arith))
