-- What one test finds, another finds that holds of it and of nothing else: objects by their names and by their stamps.
use Rattle.std.proofs.Common.{◌≡◌, ℕ, ◌<◌, ◌==◌, Bool, true, false, not, cond, ◌&&◌, List, [], ◌∷◌, map, Some, option_map, refl, sym, ◌∙◌, ap, subst, inl, inr, arith}
use Rattle.std.specs.List.{find, filter, list_any, AllByRecursion}
use Rattle.std.specs.Ordering.{nat_cmp, is_le}
use Rattle.std.specs.Cmp.Lexicographic.{slice_cmp}
use Rattle.std.specs.Str.{bytes_eq}
use Rattle.std.proofs.lemmas.Bool.{cases_Bool, eqb-true, eq-eqb, ne_eqb, and_parts, and_from, not-true, or_parts, false≢true}
use Rattle.std.proofs.lemmas.Cmp.{nat_list_cmp_total, tied_itself}
use Rattle.std.proofs.lemmas.Option.{none-some, same_Some}
use Rattle.std.proofs.lemmas.Slice.Eq.{bytes_eq-Decides}
use Rattle.eeprom.specs.Slots.{Rises}
use Rattle.scql_base.specs.declared.words.Actor.{Actor}
use Rattle.scql_base.specs.declared.records.Object.{Object}
use Rattle.scql_model.specs.Database.{Database, are_different}
use Rattle.scql_model.specs.Rights.{appears, seen_named, seen_stamped}
use Rattle.scql_model.specs.Shown.{ShownObject, object_shown, objects_shown, put_by_name, by_names}
use Rattle.scql_model.specs.Reads.{is_called}
use Rattle.scql_model.specs.ReadingLaws.{IsReadable}
use Rattle.scql_model.proofs.LongerLists.{find-passes, any-map}

-- whatever passes a test stands behind nothing else that does
abbrev Alone : {X : Type 0} → (X → Bool) → List X → Type 0
Alone q [] = Unit {0}
Alone q (x ∷ xs) = (q x ≡ true → list_any q xs ≡ false) × Alone q xs

pub any-find : {X : Type 0} (p q : X → Bool) (xs : List X) (x : X) → find p xs ≡ Some x → q x ≡ true → list_any q xs ≡ true
any-find p q [] x found passes = absurd (none-some x found)
any-find p q (y ∷ ys) x found passes =
    elim (cases_Bool (p y)) [
      | inl t ↦ rw (subst (λ z. q z ≡ true) (sym (same_Some y x (rw t at found))) passes) refl
      | inr f ↦ (elim (cases_Bool (q y)) [ inl u ↦ rw u refl | inr g ↦ rw g (any-find p q ys x (rw f at found) passes) ])
    ]

find_again : {X : Type 0} (p q : X → Bool) (xs : List X) (x : X) → Alone q xs → find p xs ≡ Some x → q x ≡ true → find q xs ≡ Some x
find_again p q [] x alone found passes = absurd (none-some x found)
find_again p q (y ∷ ys) x alone found passes =
    elim (cases_Bool (p y)) [
      | inl t ↦ (let same = same_Some y x (rw t at found) in rw (subst (λ z. q z ≡ true) (sym same) passes) (ap Some same))
      | inr f ↦ elim (cases_Bool (q y)) [
        | inl u ↦ absurd (false≢true (sym (alone.0 u) ∙ any-find p q ys x (rw f at found) passes))
        | inr g ↦ rw g (find_again p q ys x alone.1 (rw f at found) passes)
      ]
    ]

none-any : {X : Type 0} (p q : X → Bool) (xs : List X) → ((x : X) → p x ≡ false → q x ≡ false) → list_any p xs ≡ false → list_any q xs ≡ false
none-any p q [] weaker none = refl
none-any p q (x ∷ xs) weaker none = let parts = or_parts (p x) (list_any p xs) none in rw (weaker x parts.0, none-any p q xs weaker parts.1) refl

-- a stamp is one object's where stamps rise
above-any : (stamp : ℕ) (seen : Object → Bool) (objects : List Object) → AllByRecursion (λ (o : Object). stamp < o.stamp) objects → list_any (λ (o : Object). o.stamp == stamp && seen o) objects ≡ false
above-any stamp seen [] above = refl
above-any stamp seen (o ∷ objects) above =
    rw (ne_eqb o.stamp stamp (λ (e : o.stamp ≡ stamp). let h : stamp < o.stamp = above.0 in omega arith)) (above-any stamp seen objects above.1)

Alone-stamp : (stamp : ℕ) (seen : Object → Bool) (objects : List Object) → Rises (λ (o : Object). o.stamp) objects → Alone (λ (o : Object). o.stamp == stamp && seen o) objects
Alone-stamp stamp seen [] rises = tt
Alone-stamp stamp seen (o ∷ objects) rises = (
  λ (t : (o.stamp == stamp && seen o) ≡ true).
      let same = eqb-true o.stamp stamp (and_parts (o.stamp == stamp) (seen o) t).0 in
      above-any stamp seen objects (subst (λ (s : ℕ). AllByRecursion (λ (x : Object). s < x.stamp) objects) same rises.0),
  Alone-stamp stamp seen objects rises.1,
)

-- a name is one object's where names are different
Alone-name : (name : List ℕ) (seen : Object → Bool) (objects : List Object) → are_different (map (λ (o : Object). o.name) objects) ≡ true → Alone (λ (o : Object). bytes_eq name o.name && seen o) objects
Alone-name name seen [] apart = tt
Alone-name name seen (o ∷ objects) apart =
    let parts = and_parts (not (list_any (bytes_eq o.name) (map (λ (x : Object). x.name) objects))) (are_different (map (λ (x : Object). x.name) objects)) apart in (
      λ (t : (bytes_eq name o.name && seen o) ≡ true).
          let same = (bytes_eq-Decides name o.name).0 (and_parts (bytes_eq name o.name) (seen o) t).0 in
          none-any (λ (x : Object). bytes_eq name x.name) (λ (x : Object). bytes_eq name x.name && seen x) objects (λ x f. rw f refl)
          (subst (λ (n : List ℕ). list_any (λ (x : Object). bytes_eq n x.name) objects ≡ false) (sym same)
          (sym (any-map (bytes_eq o.name) (λ (x : Object). x.name) objects) ∙ not-true (list_any (bytes_eq o.name) (map (λ (x : Object). x.name) objects)) parts.0)),
      Alone-name name seen objects parts.1,
    )

pub seen_stamped-named : (db : Database) (actor : Actor) (name : List ℕ) (o : Object) → IsReadable db → seen_named db actor name ≡ Some o → seen_stamped db actor o.stamp ≡ Some o
seen_stamped-named db actor name o readable found =
    let seen = and_parts (bytes_eq name o.name) (appears db actor o) (find-passes (λ (x : Object). bytes_eq name x.name && appears db actor x) db.objects o found) in
    find_again (λ (x : Object). bytes_eq name x.name && appears db actor x) (λ (x : Object). x.stamp == o.stamp && appears db actor x) db.objects o
    (Alone-stamp o.stamp (appears db actor) db.objects readable.objects) found (and_from (o.stamp == o.stamp) (appears db actor o) (eq-eqb o.stamp o.stamp refl) seen.1)

pub seen_named-stamped : (db : Database) (actor : Actor) (stamp : ℕ) (o : Object) → IsReadable db → seen_stamped db actor stamp ≡ Some o → seen_named db actor o.name ≡ Some o
seen_named-stamped db actor stamp o readable found =
    let seen = and_parts (o.stamp == stamp) (appears db actor o) (find-passes (λ (x : Object). x.stamp == stamp && appears db actor x) db.objects o found) in
    find_again (λ (x : Object). x.stamp == stamp && appears db actor x) (λ (x : Object). bytes_eq o.name x.name && appears db actor x) db.objects o
    (Alone-name o.name (appears db actor) db.objects readable.names) found (and_from (bytes_eq o.name o.name) (appears db actor o) ((bytes_eq-Decides o.name o.name).1 refl) seen.1)

-- an object that is seen by a name has that name
pub name-seen_named : (db : Database) (actor : Actor) (name : List ℕ) (o : Object) → seen_named db actor name ≡ Some o → name ≡ o.name
name-seen_named db actor name o found =
    let seen = and_parts (bytes_eq name o.name) (appears db actor o) (find-passes (λ (x : Object). bytes_eq name x.name && appears db actor x) db.objects o found) in
    (bytes_eq-Decides name o.name).0 seen.0

-- among objects in the order of their names one is found by its name as among them in any order
one_called : (name : List ℕ) (x y : ShownObject) → is_called name x ≡ true → is_called name y ≡ true → is_le (slice_cmp nat_cmp x.name y.name) ≡ true
one_called name x y called also =
    let same = sym ((bytes_eq-Decides name x.name).0 called) ∙ (bytes_eq-Decides name y.name).0 also in
    subst (λ (n : List ℕ). is_le (slice_cmp nat_cmp x.name n) ≡ true) same (ap is_le (tied_itself nat_list_cmp_total x.name))

find-put_by_name : (name : List ℕ) (x : ShownObject) (xs : List ShownObject) → find (is_called name) (put_by_name x xs) ≡ find (is_called name) (x ∷ xs)
find-put_by_name name x [] = refl
find-put_by_name name x (y ∷ ys) =
    elim (cases_Bool (is_le (slice_cmp nat_cmp x.name y.name))) [
      | inl t ↦ rw t refl
      | inr f ↦ (rw (f, find-put_by_name name x ys)
          (elim (cases_Bool (is_called name x)) [
            | inl u ↦ elim (cases_Bool (is_called name y)) [
              | inl v ↦ absurd (false≢true (sym f ∙ one_called name x y u v))
              | inr g ↦ rw (u, g) refl
            ]
            | inr g ↦ rw g refl
          ]))
    ]

find-by_names : (name : List ℕ) (xs : List ShownObject) → find (is_called name) (by_names xs) ≡ find (is_called name) xs
find-by_names name [] = refl
find-by_names name (x ∷ xs) = find-put_by_name name x (by_names xs) ∙ ap (λ found. cond (is_called name x) (Some x) found) (find-by_names name xs)

pub find-map_filter : {X Y : Type 0} (q : Y → Bool) (f : X → Y) (seen : X → Bool) (xs : List X) → find q (map f (filter seen xs)) ≡ option_map f (find (λ x. q (f x) && seen x) xs)
find-map_filter q f seen [] = refl
find-map_filter q f seen (x ∷ xs) =
    elim (cases_Bool (seen x)) [
      | inl t ↦ (rw t (elim (cases_Bool (q (f x))) [ inl u ↦ rw u refl | inr g ↦ rw g (find-map_filter q f seen xs) ]))
      | inr g ↦ (rw g (elim (cases_Bool (q (f x))) [ inl u ↦ rw u (find-map_filter q f seen xs) | inr h ↦ rw h (find-map_filter q f seen xs) ]))
    ]

-- the shown object of a name is what is shown of the object that is seen by it
pub find-objects_shown : (db : Database) (actor : Actor) (name : List ℕ) → find (is_called name) (objects_shown db actor) ≡ option_map (object_shown db actor) (seen_named db actor name)
find-objects_shown db actor name =
    find-by_names name (map (object_shown db actor) (filter (appears db actor) db.objects)) ∙ find-map_filter (is_called name) (object_shown db actor) (appears db actor) db.objects
