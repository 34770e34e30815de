-- Views are seen through: their rows are those of the table that pass the conditions of each view between, cut once.
use Rattle.std.proofs.Common.{◌≡◌, ℕ, zero, suc, ◌==◌, Bool, true, false, ◌&&◌, ◌||◌, List, [], ◌∷◌, length, map, filter, Option, Some, None, option_map, option_and_then, refl, sym, ◌∙◌, ap, subst, inl, inr}
use Rattle.std.specs.List.{list_all, list_any}
use Rattle.std.specs.Option.{option_map_or}
use Rattle.std.specs.Str.{bytes_eq}
use Rattle.std.proofs.lemmas.Bool.{cases_Bool, and_parts, and_from, and_right, or_right, false≢true}
use Rattle.std.proofs.lemmas.Option.{none-some, same_Some}
use Rattle.std.proofs.lemmas.Slice.Eq.{bytes_eq-Decides}
use Rattle.scql_base.specs.declared.condition.Condition.{Condition}
use Rattle.scql_base.specs.declared.records.Object.{Object}
use Rattle.scql_base.specs.declared.records.ObjectKind.{ObjectKind}
use Rattle.scql_base.specs.declared.records.ObjectKind.TheVariants.{Table, View, Dictionary}
use Rattle.scql_model.specs.Database.{Database, are_among, object_stamped, are_named_among}
use Rattle.scql_model.specs.Matching.{Columns, Values, value_of, matches}
use Rattle.scql_model.specs.Objects.{StampedRow, columns_of, depth_over, depth_below, depth_of}
use Rattle.scql_model.specs.Contents.{Contents, cut_to, narrowed, contents_in, contents_below, contents_of}
use Rattle.scql_model.specs.Resolving.{Resolved, resolved_over, resolved_below, resolved_of, passes_filters, rows_of_table, IsSeenThrough, names_its_base}
use Rattle.scql_model.proofs.LongerLists.{find-all}
use Rattle.scql_model.proofs.Depths.{some-map}

-- A value of a row that was cut to columns is that of the row, in each of those columns.
value_of-cut_to : (all columns : Columns) (values : Values) (name : List ℕ) → list_any (bytes_eq name) columns ≡ true → value_of columns (cut_to all columns values) name ≡ value_of all values name
value_of-cut_to all [] values name among = absurd (false≢true among)
value_of-cut_to all (c ∷ columns) values name among =
    elim (cases_Bool (bytes_eq name c)) [
      | inl t ↦ rw t (ap (value_of all values) (sym ((bytes_eq-Decides name c).0 t)))
      | inr f ↦ rw f (value_of-cut_to all columns values name (rw f at among))
    ]

-- What is among some columns is among all in which those are.
among-within : (columns all : Columns) (name : List ℕ) → are_among columns all ≡ true → list_any (bytes_eq name) columns ≡ true → list_any (bytes_eq name) all ≡ true
among-within [] all name within among = absurd (false≢true among)
among-within (c ∷ columns) all name within among =
    let parts = and_parts (list_any (bytes_eq c) all) (are_among columns all) within in
    elim (cases_Bool (bytes_eq name c)) [
      | inl t ↦ subst (λ (n : List ℕ). list_any (bytes_eq n) all ≡ true) (sym ((bytes_eq-Decides name c).0 t)) parts.0
      | inr f ↦ among-within columns all name parts.1 (rw f at among)
    ]

are_among-within : (names columns all : Columns) → are_among columns all ≡ true → are_among names columns ≡ true → are_among names all ≡ true
are_among-within [] columns all within among = refl
are_among-within (n ∷ names) columns all within among =
    let parts = and_parts (list_any (bytes_eq n) columns) (are_among names columns) among in
    and_from (list_any (bytes_eq n) all) (are_among names all) (among-within columns all n within parts.0) (are_among-within names columns all within parts.1)

-- Cutting twice is cutting once, and conditions hold of a cut row where they hold of the row.
cut_to-cut_to : (all columns wanted : Columns) (values : Values) → are_among wanted columns ≡ true → cut_to columns wanted (cut_to all columns values) ≡ cut_to all wanted values
cut_to-cut_to all columns [] values among = refl
cut_to-cut_to all columns (w ∷ wanted) values among =
    let parts = and_parts (list_any (bytes_eq w) columns) (are_among wanted columns) among in
    rw (value_of-cut_to all columns values w parts.0, cut_to-cut_to all columns wanted values parts.1) refl

matches-cut_to : (all columns : Columns) (conditions : List Condition) (values : Values) → are_among columns all ≡ true → are_among (map (λ (c : Condition). c.column) conditions) columns ≡ true
    → matches columns conditions (cut_to all columns values) ≡ matches all conditions values
matches-cut_to all columns [] values within among = refl
matches-cut_to all columns (c ∷ conditions) values within among =
    let parts = and_parts (list_any (bytes_eq c.column) columns) (are_among (map (λ (x : Condition). x.column) conditions) columns) among in
    rw (parts.0, among-within columns all c.column within parts.0, value_of-cut_to all columns values c.column parts.0, matches-cut_to all columns conditions values within parts.1) refl

-- Two filters are one, and a cut between them may wait.
narrowed_twice : (p q late : Values → Bool) (f g h : Values → Values) (rows : List StampedRow) → ((v : Values) → late (f v) ≡ q v) → ((v : Values) → g (f v) ≡ h v)
    → map (λ (r : StampedRow). record r { values = g r.values }) (filter (λ (r : StampedRow). late r.values) (map (λ (r : StampedRow). record r { values = f r.values }) (filter (λ (r : StampedRow). p r.values) rows)))
    ≡ map (λ (r : StampedRow). record r { values = h r.values }) (filter (λ (r : StampedRow). q r.values && p r.values) rows)
narrowed_twice p q late f g h [] same cut = refl
narrowed_twice p q late f g h (r ∷ rows) same cut =
    elim (cases_Bool (p r.values)) [
      | inl t ↦ elim (cases_Bool (q r.values)) [
        | inl u ↦ rw (t, same r.values, u, cut r.values, narrowed_twice p q late f g h rows same cut) refl
        | inr e ↦ rw (t, same r.values, e, narrowed_twice p q late f g h rows same cut) refl
      ]
      | inr e ↦ rw (and_right (q r.values) (p r.values) e, e) (narrowed_twice p q late f g h rows same cut)
    ]

-- A table is seen through to itself.
are_among-more : (names columns : Columns) (c : List ℕ) → are_among names columns ≡ true → are_among names (c ∷ columns) ≡ true
are_among-more [] columns c among = refl
are_among-more (n ∷ names) columns c among =
    let parts = and_parts (list_any (bytes_eq n) columns) (are_among names columns) among in
    and_from (bytes_eq n c || list_any (bytes_eq n) columns) (are_among names (c ∷ columns)) (or_right (bytes_eq n c) (list_any (bytes_eq n) columns) parts.0) (are_among-more names columns c parts.1)

are_among-self : (columns : Columns) → are_among columns columns ≡ true
are_among-self [] = refl
are_among-self (c ∷ columns) = rw ((bytes_eq-Decides c c).1 refl) (are_among-more columns columns c (are_among-self columns))

and-true : (b : Bool) → (b && true) ≡ b
and-true true = refl
and-true false = refl

without_filters : (p : Values → Bool) (rows : List StampedRow) → filter (λ (r : StampedRow). p r.values) rows ≡ filter (λ (r : StampedRow). p r.values && true) rows
without_filters p [] = refl
without_filters p (r ∷ rows) = rw (and-true (p r.values), without_filters p rows) refl

seen-table : (db : Database) (table : ℕ) (columns : Columns) → IsSeenThrough db (record { columns = columns; rows = rows_of_table db table }) (record { table = table; all = columns; columns = columns; filters = [] })
seen-table db table columns = record {
  columns = refl;
  within = are_among-self columns;
  rows = λ wanted conditions named. ap (map (λ (x : StampedRow). record x { values = cut_to columns wanted x.values })) (without_filters (matches columns conditions) (rows_of_table db table));
}

-- A view is seen through to the table of its base.
seen-view : (db : Database) (base : Contents) (r : Resolved) (columns : Columns) (conditions : List Condition) → IsSeenThrough db base r → are_named_among base.columns columns conditions ≡ true
    → IsSeenThrough db (record { columns = columns; rows = narrowed columns conditions base }) (record r { columns = columns; filters = conditions ∷ r.filters })
seen-view db base r columns conditions seen named =
    let among : are_named_among r.columns columns conditions ≡ true = subst (λ (cs : Columns). are_named_among cs columns conditions ≡ true) seen.columns named in
    let parts = and_parts (are_among columns r.columns) (are_among (map (λ (c : Condition). c.column) conditions) r.columns) among in
    let within = are_among-within columns r.columns r.all seen.within parts.0 in
    record {
      columns = refl;
      within = within;
      rows = λ wanted further asked.
          (let ask = and_parts (are_among wanted columns) (are_among (map (λ (c : Condition). c.column) further) columns) asked in
          rw (seen.rows columns conditions among)
          (narrowed_twice (λ (v : Values). matches r.all conditions v && passes_filters r v) (matches r.all further) (matches columns further) (cut_to r.all columns) (cut_to columns wanted) (cut_to r.all wanted) (rows_of_table db r.table)
          (λ v. matches-cut_to r.all columns further v within ask.1) (λ v. cut_to-cut_to r.all columns wanted v ask.0)));
    }

-- what is resolved is there, with the columns of its object
resolved-object : (db : Database) (n stamp : ℕ) (r : Resolved) → resolved_below n db.objects stamp ≡ Some r → (o : Object) × (object_stamped db.objects stamp ≡ Some o) × ((contents_below n db stamp).columns ≡ columns_of o.kind)
resolved-object db zero stamp r is = absurd (none-some r is)
resolved-object db (suc n) stamp r is = go (object_stamped db.objects stamp) refl is
  where
    go : (found : Option Object) → object_stamped db.objects stamp ≡ found → option_and_then (λ (o : Object). resolved_over (resolved_below n db.objects) o o.kind) found ≡ Some r
        → (o : Object) × (object_stamped db.objects stamp ≡ Some o) × ((contents_below (suc n) db stamp).columns ≡ columns_of o.kind)
    go None at is = absurd (none-some r is)
    go (Some o) at is = (o, at, rw at refl)

seen-over : (db : Database) (n : ℕ) (o : Object) (kind : ObjectKind) (r : Resolved)
    → ((base : ℕ) (b : Resolved) → resolved_below n db.objects base ≡ Some b → IsSeenThrough db (contents_below n db base) b) → names_its_base db.objects (record o { kind = kind }) ≡ true
    → resolved_over (resolved_below n db.objects) o kind ≡ Some r → IsSeenThrough db (contents_in (contents_below n db) db (Some (record o { kind = kind }))) r
seen-over db n o (Table columns) r seen named is = subst (IsSeenThrough db (record { columns = columns; rows = rows_of_table db o.stamp })) (same_Some _ r is) (seen-table db o.stamp columns)
seen-over db n o (View base columns conditions) r seen named is =
    let b = some-map (λ (x : Resolved). let over : Resolved = record x { columns = columns; filters = conditions ∷ x.filters } in over) (resolved_below n db.objects base) r is in
    let there = resolved-object db n base b.0 b.1 in
    let among : are_named_among (contents_below n db base).columns columns conditions ≡ true =
    rw there.2 (subst (λ (found : Option Object). option_map_or (λ (x : Object). are_named_among (columns_of x.kind) columns conditions) found true ≡ true) there.1 named) in
    subst (IsSeenThrough db (record { columns = columns; rows = narrowed columns conditions (contents_below n db base) })) b.2 (seen-view db (contents_below n db base) b.0 columns conditions (seen base b.0 b.1) among)
seen-over db n o (Dictionary subject) r seen named is = absurd (none-some r is)

seen-below : (db : Database) (n stamp : ℕ) (r : Resolved) → list_all (names_its_base db.objects) db.objects ≡ true → resolved_below n db.objects stamp ≡ Some r → IsSeenThrough db (contents_below n db stamp) r
seen-below db zero stamp r named is = absurd (none-some r is)
seen-below db (suc n) stamp r named is = go (object_stamped db.objects stamp) refl is (λ (base : ℕ) (b : Resolved) at. seen-below db n base b named at)
  where
    go : (found : Option Object) → object_stamped db.objects stamp ≡ found → option_and_then (λ (o : Object). resolved_over (resolved_below n db.objects) o o.kind) found ≡ Some r
        → ((base : ℕ) (b : Resolved) → resolved_below n db.objects base ≡ Some b → IsSeenThrough db (contents_below n db base) b) → IsSeenThrough db (contents_in (contents_below n db) db found) r
    go None at is seen = absurd (none-some r is)
    go (Some o) at is seen = seen-over db n o o.kind r seen (find-all (names_its_base db.objects) (λ (x : Object). x.stamp == stamp) db.objects o named at) is

pub IsSeenThrough-resolved_of : (db : Database) (stamp : ℕ) (r : Resolved) → list_all (names_its_base db.objects) db.objects ≡ true → resolved_of db.objects stamp ≡ Some r → IsSeenThrough db (contents_of db stamp) r
unfolding resolved_of contents_of
IsSeenThrough-resolved_of db stamp r named is = seen-below db 5 stamp r named is

-- There are as many filters as the depth is.
depth-over : (resolved : ℕ → Option Resolved) (depth : ℕ → Option ℕ) (o : Object) (kind : ObjectKind) → ((base : ℕ) → option_map (λ (r : Resolved). length r.filters) (resolved base) ≡ depth base)
    → option_map (λ (r : Resolved). length r.filters) (resolved_over resolved o kind) ≡ depth_over depth kind
depth-over resolved depth o (Table columns) same = refl
depth-over resolved depth o (View base columns conditions) same = go (resolved base) ∙ ap (option_map suc) (same base)
  where
    go : (found : Option Resolved) → option_map (λ (r : Resolved). length r.filters) (option_map (λ (r : Resolved). let over : Resolved = record r { columns = columns; filters = conditions ∷ r.filters } in over) found)
        ≡ option_map suc (option_map (λ (r : Resolved). length r.filters) found)
    go None = refl
    go (Some r) = refl
depth-over resolved depth o (Dictionary subject) same = refl

depth-resolved : (objects : List Object) (n stamp : ℕ) → option_map (λ (r : Resolved). length r.filters) (resolved_below n objects stamp) ≡ depth_below n objects stamp
depth-resolved objects zero stamp = refl
depth-resolved objects (suc n) stamp = go (object_stamped objects stamp) (λ (base : ℕ). depth-resolved objects n base)
  where
    go : (found : Option Object) → ((base : ℕ) → option_map (λ (r : Resolved). length r.filters) (resolved_below n objects base) ≡ depth_below n objects base)
        → option_map (λ (r : Resolved). length r.filters) (option_and_then (λ (o : Object). resolved_over (resolved_below n objects) o o.kind) found) ≡ option_and_then (λ (o : Object). depth_over (depth_below n objects) o.kind) found
    go None same = refl
    go (Some o) same = depth-over (resolved_below n objects) (depth_below n objects) o o.kind same

pub depth_of-resolved_of : (objects : List Object) (stamp : ℕ) → option_map (λ (r : Resolved). length r.filters) (resolved_of objects stamp) ≡ depth_of objects stamp
unfolding resolved_of depth_of
depth_of-resolved_of objects stamp = depth-resolved objects 5 stamp
