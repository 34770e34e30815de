-- In a valid database each table and view is resolved, and the columns that it shows and those of its conditions are the table's.
use Rattle.std.proofs.Common.{◌≡◌, ℕ, zero, suc, ◌+◌, ◌<◌, ◌==◌, nat_lt, true, false, ◌&&◌, ◌||◌, List, [], ◌∷◌, length, map, Option, Some, None, option_and_then, refl, sym, ◌∙◌, ap, subst, inl, inr}
use Rattle.std.specs.List.{list_all, list_any}
use Rattle.std.specs.Option.{option_map_or}
use Rattle.std.specs.Str.{bytes_eq}
use Rattle.std.proofs.lemmas.Bool.{cases_Bool, and_parts, and_from, or_right, false≢true, eqb-true, ltb-true}
use Rattle.std.proofs.lemmas.Option.{none-some, same_Some}
use Rattle.std.proofs.lemmas.Slice.Eq.{bytes_eq-Decides}
use Rattle.scql_base.specs.declared.condition.Condition.{Condition}
use Rattle.scql_base.specs.declared.records.Object.{Object}
use Rattle.scql_base.specs.declared.records.ObjectKind.{ObjectKind}
use Rattle.scql_base.specs.declared.records.ObjectKind.TheVariants.{Table, View, Dictionary}
use Rattle.scql_model.specs.Database.{Database, IsValid, are_among, are_different, object_stamped, are_named_among}
use Rattle.scql_model.specs.Defining.{is_table_or_view}
use Rattle.scql_model.specs.Matching.{Columns}
use Rattle.scql_model.specs.Objects.{columns_of, deepest, depth_of}
use Rattle.scql_model.specs.Resolving.{AreKnown, Resolved, resolved_over, resolved_below, resolved_of, names_its_base}
use Rattle.scql_model.specs.Rules.{is_founded, may_have_view, rests_on}
use Rattle.scql_model.proofs.Depths.{some-map, depth_of-table, depth_of-view}
use Rattle.scql_model.proofs.LongerLists.{all-weaker, find-all, find-passes}
use Rattle.scql_model.proofs.SeenThrough.{depth_of-resolved_of}

-- what is among some columns is among all in which those are
any-within : (name : List ℕ) (columns all : Columns) → are_among columns all ≡ true → list_any (bytes_eq name) columns ≡ true → list_any (bytes_eq name) all ≡ true
any-within name [] all within among = absurd (false≢true among)
any-within name (c ∷ columns) all within among =
    let parts = and_parts (list_any (bytes_eq c) all) (are_among columns all) within in
    elim (cases_Bool (bytes_eq name c)) [
      | inl t ↦ subst (λ (n : List ℕ). list_any (bytes_eq n) all ≡ true) (sym ((bytes_eq-Decides name c).0 t)) parts.0
      | inr f ↦ any-within name columns all parts.1 (rw f at among)
    ]

pub among-within : (names columns all : Columns) → are_among columns all ≡ true → are_among names columns ≡ true → are_among names all ≡ true
among-within names columns all within among = all-weaker (λ (n : List ℕ). list_any (bytes_eq n) columns) (λ (n : List ℕ). list_any (bytes_eq n) all) names (λ n is. any-within n columns all within is) among

among-self : (columns : Columns) → are_among columns columns ≡ true
among-self [] = refl
among-self (c ∷ columns) =
    rw ((bytes_eq-Decides c c).1 refl)
    (all-weaker (λ (n : List ℕ). list_any (bytes_eq n) columns) (λ (n : List ℕ). bytes_eq n c || list_any (bytes_eq n) columns) columns (λ n is. or_right (bytes_eq n c) (list_any (bytes_eq n) columns) is) (among-self columns))

-- what is resolved shows the columns of its object, which are columns of the table, and so are those of its conditions
pub record IsKnown (objects : List Object) (stamp : ℕ) (r : Resolved) : Type 0 where
  pub object : Object
  pub found : object_stamped objects stamp ≡ Some object
  pub columns : columns_of object.kind ≡ r.columns
  pub within : are_among r.columns r.all ≡ true
  pub filters : list_all (AreKnown r.all) r.filters ≡ true
  -- the table, which has all the columns
  pub table : Object
  pub found_table : object_stamped objects r.table ≡ Some table
  pub all : columns_of table.kind ≡ r.all

known-over : (objects : List Object) (n stamp : ℕ) (o : Object) (kind : ObjectKind) (r : Resolved) → ((base : ℕ) (b : Resolved) → resolved_below n objects base ≡ Some b → IsKnown objects base b)
    → names_its_base objects (record o { kind = kind }) ≡ true → object_stamped objects stamp ≡ Some (record o { kind = kind }) → resolved_over (resolved_below n objects) o kind ≡ Some r → IsKnown objects stamp r
known-over objects n stamp o (Table columns) r known named at is =
    subst (IsKnown objects stamp) (same_Some _ r is) (record {
      object = record o { kind = Table columns };
      found = at;
      columns = refl;
      within = among-self columns;
      filters = refl;
      table = record o { kind = Table columns };
      found_table = ap (object_stamped objects) (eqb-true o.stamp stamp (find-passes (λ (x : Object). x.stamp == stamp) objects (record o { kind = Table columns }) at)) ∙ at;
      all = refl;
    })
known-over objects n stamp o (View base columns conditions) r known named at is =
    let b = some-map (λ (x : Resolved). let over : Resolved = record x { columns = columns; filters = conditions ∷ x.filters } in over) (resolved_below n objects base) r is in
    let there = known base b.0 b.1 in
    let among : are_named_among (columns_of there.object.kind) columns conditions ≡ true =
    subst (λ (found : Option Object). option_map_or (λ (x : Object). are_named_among (columns_of x.kind) columns conditions) found true ≡ true) there.found named in
    let parts = and_parts (are_among columns (columns_of there.object.kind)) (AreKnown (columns_of there.object.kind) conditions) among in
    let shown : are_among columns b.0.columns ≡ true = subst (λ (all : Columns). are_among columns all ≡ true) there.columns parts.0 in
    let asked : AreKnown b.0.columns conditions ≡ true = subst (λ (all : Columns). AreKnown all conditions ≡ true) there.columns parts.1 in
    subst (IsKnown objects stamp) b.2 (record {
      object = record o { kind = View base columns conditions };
      found = at;
      columns = refl;
      within = among-within columns b.0.columns b.0.all there.within shown;
      filters = and_from (AreKnown b.0.all conditions) (list_all (AreKnown b.0.all) b.0.filters) (among-within (map (λ (c : Condition). c.column) conditions) b.0.columns b.0.all there.within asked) there.filters;
      table = there.table;
      found_table = there.found_table;
      all = there.all;
    })
known-over objects n stamp o (Dictionary subject) r known named at is = absurd (none-some r is)

known-below : (objects : List Object) (n stamp : ℕ) (r : Resolved) → list_all (names_its_base objects) objects ≡ true → resolved_below n objects stamp ≡ Some r → IsKnown objects stamp r
known-below objects zero stamp r named is = absurd (none-some r is)
known-below objects (suc n) stamp r named is = go (object_stamped objects stamp) refl is (λ (base : ℕ) (b : Resolved) at. known-below objects n base b named at)
  where
    go : (found : Option Object) → object_stamped objects stamp ≡ found → option_and_then (λ (o : Object). resolved_over (resolved_below n objects) o o.kind) found ≡ Some r
        → ((base : ℕ) (b : Resolved) → resolved_below n objects base ≡ Some b → IsKnown objects base b) → IsKnown objects stamp r
    go None at is known = absurd (none-some r is)
    go (Some o) at is known = known-over objects n stamp o o.kind r known (find-all (names_its_base objects) (λ (x : Object). x.stamp == stamp) objects o named at) at is

-- objects that are founded name their bases
founded-names : (objects : List Object) (o : Object) (kind : ObjectKind) → is_founded objects (record o { kind = kind }) ≡ true → names_its_base objects (record o { kind = kind }) ≡ true
founded-names objects o (Table columns) founded = refl
founded-names objects o (View base columns conditions) founded =
    on_base (object_stamped objects base) (and_parts (are_different columns) (option_map_or (rests_on objects (record o { kind = View base columns conditions }) columns conditions) (object_stamped objects base) false) founded).1
  where
    on_base : (found : Option Object) → option_map_or (rests_on objects (record o { kind = View base columns conditions }) columns conditions) found false ≡ true
        → option_map_or (λ (b : Object). are_named_among (columns_of b.kind) columns conditions) found true ≡ true
    on_base None rests = absurd (false≢true rests)
    on_base (Some b) rests = (and_parts (nat_lt b.stamp o.stamp && (b.owner == o.owner) && may_have_view objects b) (are_named_among (columns_of b.kind) columns conditions) rests).1
founded-names objects o (Dictionary subject) founded = refl

pub names-valid : (db : Database) → IsValid db → list_all (names_its_base db.objects) db.objects ≡ true
names-valid db valid = all-weaker (is_founded db.objects) (names_its_base db.objects) db.objects (λ o founded. founded-names db.objects o o.kind founded) valid.objects.founded

-- what is resolved in a valid database is known
pub IsKnown-resolved_of : (db : Database) (stamp : ℕ) (r : Resolved) → IsValid db → resolved_of db.objects stamp ≡ Some r → IsKnown db.objects stamp r
unfolding resolved_of
IsKnown-resolved_of db stamp r valid is = known-below db.objects 5 stamp r (names-valid db valid) is

-- a base may have a view where it stands at a depth below the greatest
shallow : (objects : List Object) (b : Object) → may_have_view objects b ≡ true → (d : ℕ) × (depth_of objects b.stamp ≡ Some d) × (d < deepest)
shallow objects b may = go (depth_of objects b.stamp) may
  where
    go : (depth : Option ℕ) → option_map_or (λ d. nat_lt d deepest) depth false ≡ true → (d : ℕ) × (depth ≡ Some d) × (d < deepest)
    go None may = absurd (false≢true may)
    go (Some d) may = (d, refl, ltb-true d deepest may)

-- a founded table or view has a depth
depth-founded : (objects : List Object) (o : Object) (kind : ObjectKind) → o.kind ≡ kind → object_stamped objects o.stamp ≡ Some o → is_founded objects (record o { kind = kind }) ≡ true → is_table_or_view kind ≡ true
    → (d : ℕ) × (depth_of objects o.stamp ≡ Some d)
depth-founded objects o (Table columns) same at founded is = (0, depth_of-table objects o at columns same)
depth-founded objects o (View base columns conditions) same at founded is =
    on_base (object_stamped objects base) refl (and_parts (are_different columns) (option_map_or (rests_on objects (record o { kind = View base columns conditions }) columns conditions) (object_stamped objects base) false) founded).1
  where
    on_base : (found : Option Object) → object_stamped objects base ≡ found → option_map_or (rests_on objects (record o { kind = View base columns conditions }) columns conditions) found false ≡ true
        → (d : ℕ) × (depth_of objects o.stamp ≡ Some d)
    on_base None there rests = absurd (false≢true rests)
    on_base (Some b) there rests =
        let may = and_parts (nat_lt b.stamp o.stamp && (b.owner == o.owner)) (may_have_view objects b) (and_parts (nat_lt b.stamp o.stamp && (b.owner == o.owner) && may_have_view objects b) (are_named_among (columns_of b.kind) columns conditions) rests).0 in
        let low = shallow objects b may.1 in
        let stamp : b.stamp ≡ base = eqb-true b.stamp base (find-passes (λ (x : Object). x.stamp == base) objects b there) in
        (low.0 + 1, depth_of-view objects o at base columns conditions same low.0 (ap (depth_of objects) (sym stamp) ∙ low.1) low.2)
depth-founded objects o (Dictionary subject) same at founded is = absurd (false≢true is)

-- each table and view of a valid database is resolved
pub resolved-valid : (db : Database) (o : Object) → IsValid db → object_stamped db.objects o.stamp ≡ Some o → is_table_or_view o.kind ≡ true → (r : Resolved) × (resolved_of db.objects o.stamp ≡ Some r)
resolved-valid db o valid at is =
    let founded = find-all (is_founded db.objects) (λ (x : Object). x.stamp == o.stamp) db.objects o valid.objects.founded at in
    let depth = depth-founded db.objects o o.kind refl at founded is in
    let r = some-map (λ (r : Resolved). length r.filters) (resolved_of db.objects o.stamp) depth.0 (depth_of-resolved_of db.objects o.stamp ∙ depth.1) in
    (r.0, r.1)

-- what an object is resolved to shows the object's columns
pub columns-resolved : (db : Database) (o : Object) (r : Resolved) → IsValid db → object_stamped db.objects o.stamp ≡ Some o → resolved_of db.objects o.stamp ≡ Some r → r.columns ≡ columns_of o.kind
columns-resolved db o r valid at is =
    let known = IsKnown-resolved_of db o.stamp r valid is in
    sym known.columns ∙ ap (λ (x : Object). columns_of x.kind) (same_Some known.object o (sym known.found ∙ at))
