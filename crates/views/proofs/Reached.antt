-- What is reached of an object, by its kind.
use Rattle.std.proofs.Common.{◌≡◌, ℕ, suc, true, false, List, [], ◌∷◌, Option, Some, None, option_and_then, refl, sym, subst, ap, ◌∙◌}
use Rattle.std.specs.List.{list_all}
use Rattle.std.proofs.lemmas.Bool.{and_parts}
use Rattle.std.proofs.lemmas.Option.{none-some, same_Some}
use Rattle.scql_base.specs.declared.condition.Condition.{Condition}
use Rattle.scql_base.specs.declared.records.Object.{Object}
use Rattle.scql_base.specs.declared.records.ObjectKind.{ObjectKind}
use Rattle.scql_base.specs.declared.records.ObjectKind.TheVariants.{Table, View, Dictionary}
use Rattle.scql_base.specs.declared.words.Subject.{Subject}
use Rattle.scql_model.specs.Database.{object_stamped}
use Rattle.scql_model.specs.Matching.{Columns}
use Rattle.scql_model.specs.Resolving as model
use Rattle.scql_model.specs.Resolving.{AreKnown, resolved_below, resolved_of, resolved_over}
use Rattle.scql_model.proofs.Depths.{some-map}
use Rattle.views.specs.Resolved.{Reaches}
use Rattle.views.specs.declared.resolving.Resolved.{Resolved}

-- a table is reached at once
pub table-reached : (resolved : ℕ → Option model.Resolved) (o : Object) (kind : ObjectKind) (columns : Columns) (answer : Resolved) (r : model.Resolved) → kind ≡ Table columns → resolved_over resolved o kind ≡ Some r
    → answer.table ≡ o.stamp → answer.all ≡ columns → answer.filters.items ≡ [] → Reaches answer r
table-reached resolved o kind columns answer r same is table all none =
    subst (Reaches answer) (same_Some (record { table = o.stamp; all = columns; columns = columns; filters = [] }) r (rw same at is)) (record { table = table; all = all; filters = rw none tt })

-- what a view is resolved to, its base is under one filter less
pub record PassesTo (resolved : ℕ → Option model.Resolved) (base : ℕ) (conditions : List Condition) (r : model.Resolved) : Type 0 where
  pub under : model.Resolved
  pub at : resolved base ≡ Some under
  pub known : AreKnown under.all conditions ≡ true
  pub filters : list_all (AreKnown under.all) under.filters ≡ true
  pub reaches : (answer : Resolved) → Reaches answer (record under { filters = conditions ∷ under.filters }) → Reaches answer r

pub view-passes : (resolved : ℕ → Option model.Resolved) (o : Object) (kind : ObjectKind) (base : ℕ) (columns : Columns) (conditions : List Condition) (r : model.Resolved) → kind ≡ View base columns conditions → resolved_over resolved o kind ≡ Some r
    → list_all (AreKnown r.all) r.filters ≡ true → PassesTo resolved base conditions r
view-passes resolved o kind base columns conditions r same is known =
    let b = some-map (λ (x : model.Resolved). let over : model.Resolved = record x { columns = columns; filters = conditions ∷ x.filters } in over) (resolved base) r (rw same at is) in
    let whole : list_all (AreKnown b.0.all) (conditions ∷ b.0.filters) ≡ true = subst (λ (x : model.Resolved). list_all (AreKnown x.all) x.filters ≡ true) (sym b.2) known in
    let parts = and_parts (AreKnown b.0.all conditions) (list_all (AreKnown b.0.all) b.0.filters) whole in
    record {
      under = b.0;
      at = b.1;
      known = parts.0;
      filters = parts.1;
      reaches = λ answer here. subst (Reaches answer) b.2 (record { table = here.table; all = here.all; filters = here.filters });
    }

-- a dictionary is not resolved
pub dictionary-none : (resolved : ℕ → Option model.Resolved) (o : Object) (kind : ObjectKind) (subject : Subject) (r : model.Resolved) → kind ≡ Dictionary subject → resolved_over resolved o kind ≡ Some r → false ≡ true
dictionary-none resolved o kind subject r same is = absurd (none-some r (rw same at is))

-- the object of a stamp is resolved as its kind is
pub below-found : (objects : List Object) (n stamp : ℕ) (found : Option Object) (o : Object) (r : model.Resolved) → found ≡ object_stamped objects stamp → found ≡ Some o → resolved_below (suc n) objects stamp ≡ Some r
    → resolved_over (resolved_below n objects) o o.kind ≡ Some r
below-found objects n stamp found o r at some is = ap (option_and_then (λ (x : Object). resolved_over (resolved_below n objects) x x.kind)) (sym some ∙ at) ∙ is

pub below-none : (objects : List Object) (n stamp : ℕ) (found : Option Object) (r : model.Resolved) → found ≡ object_stamped objects stamp → found ≡ None → resolved_below (suc n) objects stamp ≡ Some r → false ≡ true
below-none objects n stamp found r at none is = absurd (none-some r (ap (option_and_then (λ (x : Object). resolved_over (resolved_below n objects) x x.kind)) (sym none ∙ at) ∙ is))

pub of-object : (objects : List Object) (o : Object) (r : model.Resolved) → object_stamped objects o.stamp ≡ Some o → resolved_of objects o.stamp ≡ Some r → resolved_over (resolved_below 4 objects) o o.kind ≡ Some r
unfolding resolved_of
of-object objects o r at is = below-found objects 4 o.stamp (Some o) o r (sym at) refl is

-- nothing is resolved of no objects
pub below-nothing : (objects : List Object) (n stamp : ℕ) (r : model.Resolved) → n ≡ 0 → resolved_below n objects stamp ≡ Some r → false ≡ true
below-nothing objects n stamp r zero is = absurd (none-some r (rw zero at is))
