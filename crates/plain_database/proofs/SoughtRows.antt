-- A row that a cursor shows is sought in the table.
use Rattle.std.proofs.Common.{◌≡◌, ℕ, ◌<◌, suc, Bool, true, false, List, [], ◌∷◌, map, filter, Option, Some, None, refl, sym, ap, subst, ◌∙◌, inl, inr, arith}
use Rattle.std.specs.Prelude.{◌==◌, ◌&&◌, IfSome, option_map}
use Rattle.std.specs.List.{find}
use Rattle.std.proofs.lemmas.Bool.{and_parts, cases_Bool, eqb-true, eq-eqb, ne_eqb}
use Rattle.std.proofs.lemmas.Option.{none-some}
use Rattle.eeprom.specs.Slots.{Rises}
use Rattle.scql_base.specs.declared.words.Actor.{Actor}
use Rattle.scql_base.specs.declared.condition.Condition.{Condition}
use Rattle.scql_base.specs.declared.cursor.Cursor.{Cursor}
use Rattle.scql_base.specs.declared.records.Object.{Object}
use Rattle.scql_base.specs.declared.records.RowRecord.{RowRecord}
use Rattle.scql_model.specs.Contents.{contents_below, contents_in, contents_of, cut_to, of_table}
use Rattle.scql_model.specs.Cursors.{IsCursorOf}
use Rattle.scql_model.specs.Database.{Database, IsValid, are_named_among, object_stamped}
use Rattle.scql_model.specs.Matching.{matches}
use Rattle.scql_model.specs.Objects.{StampedRow, columns_of, deepest}
use Rattle.scql_model.specs.Rights.{appears, seen_stamped}
use Rattle.scql_model.specs.Resolving.{Resolved, passes_filters, resolved_below, resolved_of}
use Rattle.scql_model.proofs.ChangedLists.{found-each}
use Rattle.scql_model.proofs.KnownNames.{names-valid}
use Rattle.scql_model.proofs.LongerLists.{find-passes}
use Rattle.scql_model.proofs.SeenThrough.{IsSeenThrough-resolved_of}
use Rattle.plain_database.specs.Sought.{admits, is_in_table, is_sought, row_through, sought_row}
use Rattle.plain_database.specs.declared.sought.Sought.{Sought}

-- what is sought among the images of some elements is sought among the elements
pub find-image : {X Y Z : Type 0} (t : X → Bool) (g : X → Y) (p : Y → Bool) (f : Y → Z) (q : Z → Bool) (xs : List X)
    → find q (map f (filter p (map g (filter t xs)))) ≡ option_map (λ x. f (g x)) (find (λ x. t x && (q (f (g x)) && p (g x))) xs)
find-image t g p f q [] = refl
find-image t g p f q (x ∷ xs) =
    let rest = find-image t g p f q xs in
    elim (cases_Bool (t x)) [
      | inl a ↦ elim (cases_Bool (p (g x))) [
        | inl b ↦ elim (cases_Bool (q (f (g x)))) [ inl d ↦ rw (a, b, d) refl | inr d ↦ rw (a, b, d) rest ]
        | inr b ↦ elim (cases_Bool (q (f (g x)))) [ inl d ↦ rw (a, b, d) rest | inr d ↦ rw (a, b, d) rest ]
      ]
      | inr a ↦ rw a rest
    ]

-- what is found among the elements that pass one test passes both
pub find-filter : {X : Type 0} (p q both : X → Bool) (xs : List X) → ((x : X) → both x ≡ (q x && p x)) → find p (filter q xs) ≡ find both xs
find-filter p q both [] is = refl
find-filter p q both (x ∷ xs) is = elim (cases_Bool (q x)) [
  | inl t ↦ elim (cases_Bool (p x)) [ inl u ↦ rw (is x, t, u) refl | inr f ↦ rw (is x, t, f) (find-filter p q both xs is) ]
  | inr f ↦ rw (is x, f) (find-filter p q both xs is)
]

pub and-swap : (a b c : Bool) → (a && (b && c)) ≡ (b && (a && c))
and-swap true b c = refl
and-swap false true c = refl
and-swap false false c = refl

pub find-admitted : (r : Resolved) (conditions : List Condition) (sought : Sought) (rows : List RowRecord)
    → find (is_in_table r conditions) (filter (λ (s : RowRecord). admits sought s.stamp) rows) ≡ find (is_sought r conditions sought) rows
find-admitted r conditions sought rows =
    find-filter (is_in_table r conditions) (λ (s : RowRecord). admits sought s.stamp) (is_sought r conditions sought) rows
    (λ s. and-swap (s.table == r.table) (admits sought s.stamp) (matches r.all conditions s.row && passes_filters r s.row))

-- the columns and conditions of a cursor are named among the columns of its contents
pub cursor-named : (db : Database) (c : Cursor) (r : Resolved) → IsCursorOf db c → resolved_of db.objects c.object ≡ Some r → are_named_among (contents_of db c.object).columns c.columns c.conditions ≡ true
unfolding resolved_of contents_of
cursor-named db c r of is = go (object_stamped db.objects c.object) refl of.named is
  where
    go : (found : Option Object) → object_stamped db.objects c.object ≡ found → IfSome (object_stamped db.objects c.object) (λ (o : Object). are_named_among (columns_of o.kind) c.columns c.conditions ≡ true)
        → resolved_below (suc deepest) db.objects c.object ≡ Some r → are_named_among (contents_in (contents_below deepest db) db (object_stamped db.objects c.object)).columns c.columns c.conditions ≡ true
    go None same named is = absurd (none-some r (rw same at is))
    go (Some o) same named is = rw same (rw same at named)

-- so the row is that of the first record that is sought
pub sought-through : (db : Database) (c : Cursor) (r : Resolved) (sought : Sought) → IsValid db → IsCursorOf db c → resolved_of db.objects c.object ≡ Some r
    → option_map (row_through r c.columns) (find (is_sought r c.conditions sought) db.rows) ≡ sought_row db c sought
sought-through db c r sought valid of is =
    let seen = IsSeenThrough-resolved_of db c.object r (names-valid db valid) is in
    let rows = seen.rows c.columns c.conditions (rw seen.columns at (cursor-named db c r of is)) in
    sym (find-image (λ (s : RowRecord). s.table == r.table) of_table (λ (x : StampedRow). matches r.all c.conditions x.values && passes_filters r x.values)
    (λ (x : StampedRow). record x { values = cut_to r.all c.columns x.values }) (λ (x : StampedRow). admits sought x.stamp) db.rows)
    ∙ ap (find (λ (x : StampedRow). admits sought x.stamp)) (sym rows)

-- where keys rise, the first element that passes a test is the one of its key
pub found-among : {X : Type 0} (key : X → ℕ) (p : X → Bool) (xs : List X) → Rises key xs → IfSome (find p xs) (λ x. find (λ y. key y == key x) xs ≡ Some x)
found-among key p [] rises = tt
found-among {X} key p (x ∷ xs) rises = elim (cases_Bool (p x)) [
  | inl t ↦ rw t (let own = eq-eqb (key x) (key x) refl in rw own refl)
  | inr f ↦ rw f (behind (find p xs) refl (found-among key p xs rises.1))
]
  where
    behind : (found : Option X) → find p xs ≡ found → IfSome found (λ y. find (λ z. key z == key y) xs ≡ Some y) → IfSome found (λ y. find (λ z. key z == key y) (x ∷ xs) ≡ Some y)
    behind None is own = tt
    behind (Some y) is own =
        let less : key x < key y = found-each (λ z. key x < key z) p xs y rises.0 is in
        let other = ne_eqb (key x) (key y) (λ (same : key x ≡ key y). omega arith) in
        rw other own

-- and what is sought in a table is in it
pub found-in_table : (r : Resolved) (conditions : List Condition) (sought : Sought) (rows : List RowRecord) → IfSome (find (is_sought r conditions sought) rows) (λ (s : RowRecord). s.table ≡ r.table)
found-in_table r conditions sought rows = go (find (is_sought r conditions sought) rows) refl
  where
    go : (found : Option RowRecord) → find (is_sought r conditions sought) rows ≡ found → IfSome found (λ (s : RowRecord). s.table ≡ r.table)
    go None is = tt
    go (Some s) is =
        let passes = find-passes (is_sought r conditions sought) rows s is in
        let parts = and_parts (s.table == r.table) (admits sought s.stamp && (matches r.all conditions s.row && passes_filters r s.row)) passes in
        eqb-true s.table r.table parts.0

-- so an object that appears is the one of its stamp
pub seen-there : (db : Database) (actor : Actor) (stamp : ℕ) (o : Object) → IsValid db → seen_stamped db actor stamp ≡ Some o → object_stamped db.objects stamp ≡ Some o
seen-there db actor stamp o valid seen =
    let p = λ (p : Object). p.stamp == stamp && appears db actor p in
    let there = rw seen at (found-among (λ (p : Object). p.stamp) p db.objects valid.objects.rises) in
    let same : o.stamp ≡ stamp = eqb-true o.stamp stamp (and_parts (o.stamp == stamp) (appears db actor o) (find-passes p db.objects o seen)).0 in
    subst (λ n. find (λ (p : Object). p.stamp == n) db.objects ≡ Some o) same there
