-- The contents and the depth of objects over one another are those of their bases, one further.
use Rattle.std.proofs.Common.{◌≡◌, ℕ, zero, suc, ◌+◌, ◌<◌, ◌≤◌, ◌==◌, List, map, filter, Option, Some, None, IsSome, option_map, option_and_then, refl, sym, ◌∙◌, ap, arith}
use Rattle.std.specs.List.{find}
use Rattle.std.proofs.lemmas.Bool.{false≢true}
use Rattle.std.proofs.lemmas.Option.{none-some, same_Some}
use Rattle.scql_base.specs.declared.words.Subject.{Subject}
use Rattle.scql_base.specs.declared.condition.Condition.{Condition}
use Rattle.scql_base.specs.declared.records.Object.{Object}
use Rattle.scql_base.specs.declared.records.ObjectKind.{ObjectKind}
use Rattle.scql_base.specs.declared.records.ObjectKind.TheVariants.{Table, View, Dictionary}
use Rattle.scql_base.specs.declared.records.RowRecord.{RowRecord}
use Rattle.scql_model.specs.Database.{Database, object_stamped}
use Rattle.scql_model.specs.Matching.{Columns}
use Rattle.scql_model.specs.Objects.{StampedRow, columns_of, dictionary_columns, depth_over, depth_below, depth_of, deepest}
use Rattle.scql_model.specs.Dictionaries.{rows_told}
use Rattle.scql_model.specs.Contents.{Contents, of_table, narrowed, rows_in, contents_in, contents_below, contents_of}

-- a value behind a function is that of a value
pub some-map : {X Y : Type 0} (f : X → Y) (o : Option X) (y : Y) → option_map f o ≡ Some y → (x : X) × (o ≡ Some x) × (f x ≡ y)
some-map f None y is = absurd (none-some y is)
some-map f (Some x) y is = (x, refl, same_Some (f x) y is)

-- Depths. The depth of an object is below the number that it is looked for under, and is the same under any greater one.
below-over : (objects : List Object) (n : ℕ) (kind : ObjectKind) (d : ℕ) → ((stamp k : ℕ) → depth_below n objects stamp ≡ Some k → k < n) → depth_over (depth_below n objects) kind ≡ Some d → d < suc n
below-over objects n (Table columns) d below is = let e = same_Some 0 d is in omega arith
below-over objects n (View base columns conditions) d below is =
    let k = some-map suc (depth_below n objects base) d is in
    let less = below base k.0 k.1 in
    let e = k.2 in omega arith
below-over objects n (Dictionary subject) d below is = absurd (none-some d is)

found-depth : (objects : List Object) (n : ℕ) (found : Option Object) (d : ℕ) → option_and_then (λ (o : Object). depth_over (depth_below n objects) o.kind) found ≡ Some d
    → (o : Object) × (found ≡ Some o) × (depth_over (depth_below n objects) o.kind ≡ Some d)
found-depth objects n None d is = absurd (none-some d is)
found-depth objects n (Some o) d is = (o, refl, is)

depth-less : (objects : List Object) (n stamp d : ℕ) → depth_below n objects stamp ≡ Some d → d < n
depth-less objects zero stamp d is = absurd (none-some d is)
depth-less objects (suc n) stamp d is =
    let o = found-depth objects n (find (λ (o : Object). o.stamp == stamp) objects) d is in
    below-over objects n o.0.kind d (λ (base k : ℕ) h. depth-less objects n base k h) o.2

over-same : (f g : ℕ → Option ℕ) (kind : ObjectKind) (d : ℕ) → ((base k : ℕ) → f base ≡ Some k → k < d → g base ≡ Some k) → depth_over f kind ≡ Some d → depth_over g kind ≡ Some d
over-same f g (Table columns) d same is = is
over-same f g (View base columns conditions) d same is =
    let k = some-map suc (f base) d is in
    let e = k.2 in
    let less : k.0 < d = omega arith in
    ap (option_map suc) (same base k.0 k.1 less) ∙ ap Some k.2
over-same f g (Dictionary subject) d same is = is

found-same : (f g : ℕ → Option ℕ) (found : Option Object) (d : ℕ) → ((base k : ℕ) → f base ≡ Some k → k < d → g base ≡ Some k)
    → option_and_then (λ (o : Object). depth_over f o.kind) found ≡ Some d → option_and_then (λ (o : Object). depth_over g o.kind) found ≡ Some d
found-same f g None d same is = is
found-same f g (Some o) d same is = over-same f g o.kind d same is

depth-more : (objects : List Object) (n stamp d : ℕ) → depth_below n objects stamp ≡ Some d → depth_below (suc n) objects stamp ≡ Some d
depth-more objects zero stamp d is = absurd (none-some d is)
depth-more objects (suc n) stamp d is =
    found-same (depth_below n objects) (depth_below (suc n) objects) (find (λ (o : Object). o.stamp == stamp) objects) d (λ (base k : ℕ) h _. depth-more objects n base k h) is

depth-fewer : (objects : List Object) (n stamp d : ℕ) → depth_below (suc n) objects stamp ≡ Some d → d < n → depth_below n objects stamp ≡ Some d
depth-fewer objects zero stamp d is less = absurd (omega arith)
depth-fewer objects (suc n) stamp d is less =
    found-same (depth_below (suc n) objects) (depth_below n objects) (find (λ (o : Object). o.stamp == stamp) objects) d
    (λ (base k : ℕ) (h : depth_below (suc n) objects base ≡ Some k) (lower : k < d). depth-fewer objects n base k h (omega arith)) is

-- Contents. Those of an object whose depth is below a number are the same under any greater one.
rows-same : (db : Database) (n : ℕ) (o : Object) (kind : ObjectKind) (d : ℕ) → ((base k : ℕ) → depth_below n db.objects base ≡ Some k → contents_below (suc n) db base ≡ contents_below n db base)
    → depth_over (depth_below n db.objects) kind ≡ Some d → rows_in (contents_below (suc n) db) db o kind ≡ rows_in (contents_below n db) db o kind
rows-same db n o (Table columns) d same is = refl
rows-same db n o (View base columns conditions) d same is =
    let k = some-map suc (depth_below n db.objects base) d is in
    ap (narrowed columns conditions) (same base k.0 k.1)
rows-same db n o (Dictionary subject) d same is = refl

contents-same : (db : Database) (n : ℕ) (found : Option Object) (d : ℕ) → ((base k : ℕ) → depth_below n db.objects base ≡ Some k → contents_below (suc n) db base ≡ contents_below n db base)
    → option_and_then (λ (o : Object). depth_over (depth_below n db.objects) o.kind) found ≡ Some d → contents_in (contents_below (suc n) db) db found ≡ contents_in (contents_below n db) db found
contents-same db n None d same is = refl
contents-same db n (Some o) d same is =
    ap (λ (rows : List StampedRow). let contents : Contents = record { columns = columns_of o.kind; rows = rows } in contents) (rows-same db n o o.kind d same is)

contents-more : (db : Database) (n stamp d : ℕ) → depth_below n db.objects stamp ≡ Some d → contents_below (suc n) db stamp ≡ contents_below n db stamp
contents-more db zero stamp d is = absurd (none-some d is)
contents-more db (suc n) stamp d is = contents-same db n (object_stamped db.objects stamp) d (λ (base k : ℕ) h. contents-more db n base k h) is

-- What the object of a stamp contains, by its kind.
module _ (db : Database) (o : Object) (is : object_stamped db.objects o.stamp ≡ Some o) where
  pub contents_of-table : (columns : Columns) → o.kind ≡ Table columns → contents_of db o.stamp ≡ record { columns = columns; rows = map of_table (filter (λ (r : RowRecord). r.table == o.stamp) db.rows) }
  unfolding contents_of
  contents_of-table columns kind = rw (is, kind) refl

  pub contents_of-view : (base : ℕ) (columns : Columns) (conditions : List Condition) → o.kind ≡ View base columns conditions → IsSome (depth_of db.objects o.stamp)
      → contents_of db o.stamp ≡ record { columns = columns; rows = narrowed columns conditions (contents_of db base) }
  unfolding contents_of depth_of
  contents_of-view base columns conditions kind deep = rw (is, kind) (ap of_view (sym (on_base (depth_below 4 db.objects base) refl (rw (is, kind) at deep))))
    where
      of_view : Contents → Contents
      of_view contents = record { columns = columns; rows = narrowed columns conditions contents }

      on_base : (found : Option ℕ) → depth_below 4 db.objects base ≡ found → IsSome (option_map suc found) → contents_below 5 db base ≡ contents_below 4 db base
      on_base None at some = absurd (false≢true some)
      on_base (Some k) at some = contents-more db 4 base k at

  pub contents_of-dictionary : (subject : Subject) → o.kind ≡ Dictionary subject → contents_of db o.stamp ≡ record { columns = dictionary_columns subject; rows = rows_told db o.owner subject }
  unfolding contents_of
  contents_of-dictionary subject kind = rw (is, kind) refl

-- How deep the object of a stamp stands.
pub depth_of-most : (objects : List Object) (stamp depth : ℕ) → depth_of objects stamp ≡ Some depth → depth ≤ deepest
unfolding depth_of
depth_of-most objects stamp depth is = let less = depth-less objects 5 stamp depth is in omega arith

module _ (objects : List Object) (o : Object) (is : object_stamped objects o.stamp ≡ Some o) where
  pub depth_of-table : (columns : Columns) → o.kind ≡ Table columns → depth_of objects o.stamp ≡ Some 0
  unfolding depth_of
  depth_of-table columns kind = rw (is, kind) refl

  pub depth_of-view : (base : ℕ) (columns : Columns) (conditions : List Condition) → o.kind ≡ View base columns conditions → (depth : ℕ) → depth_of objects base ≡ Some depth → depth < deepest → depth_of objects o.stamp ≡ Some (depth + 1)
  unfolding depth_of
  depth_of-view base columns conditions kind depth deep less = rw (is, kind, depth-fewer objects 4 base depth deep less) (ap Some (omega arith))

  pub depth_of-too_deep : (base : ℕ) (columns : Columns) (conditions : List Condition) → o.kind ≡ View base columns conditions → depth_of objects base ≡ Some deepest → depth_of objects o.stamp ≡ None
  unfolding depth_of
  depth_of-too_deep base columns conditions kind deep = rw (is, kind) (none (depth_below 4 objects base) refl)
    where
      none : (found : Option ℕ) → depth_below 4 objects base ≡ found → option_map suc found ≡ None
      none None same = refl
      none (Some k) same =
          let less = depth-less objects 4 base k same in
          let equal = same_Some k 4 (sym (depth-more objects 4 base k same) ∙ deep) in
          absurd (omega arith)

  pub depth_of-dictionary : (subject : Subject) → o.kind ≡ Dictionary subject → depth_of objects o.stamp ≡ None
  unfolding depth_of
  depth_of-dictionary subject kind = rw (is, kind) refl
