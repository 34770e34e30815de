-- UPDATE and DELETE through what was chosen: the cursor's object, and the table under it.
use Rattle.std.proofs.Common.{◌≡◌, true, Option, Some, None, Ok, refl, sym, ap, subst, ◌∙◌, inl, inr}
use Rattle.std.specs.Prelude.{IfSome, is_some, option_map}
use Rattle.std.proofs.lemmas.Bool.{cases_Bool, false≢true}
use Rattle.std.proofs.lemmas.Option.{none-some, same_Some}
use Rattle.scql_base.specs.declared.cursor.Cursor.{Cursor}
use Rattle.scql_base.specs.declared.records.Object.{Object}
use Rattle.scql_base.specs.declared.words.Actor.{Actor}
use Rattle.scql_model.specs.Database.{Database, IsValid, object_stamped}
use Rattle.scql_model.specs.Defining.{is_table_or_view}
use Rattle.scql_model.specs.Matching.{Columns}
use Rattle.scql_model.specs.Resolving.{resolved_of}
use Rattle.scql_model.specs.Rights.{seen_stamped}
use Rattle.search_cond.specs.Bound.{Binds}
use Rattle.views.specs.declared.resolving.Resolved.{Resolved}
use Rattle.db_read.specs.Answered.{selectable}
use Rattle.db_read.specs.Scan.{Found, GoesOver, IsFor, IsResolved, IsRight, IsRightFor, found_in, found_of, is_of_table}
use Rattle.db_read.specs.declared.scan.Choice.{Choice}
use Rattle.db_read.proofs.Sighted.{object-stamped, own-stamp, selectable-parts}
use Rattle.db_write.specs.Reached.{HasObject, RestsOn}

-- what is right for a cursor that may be missing is right for the one that is there
pub right-for : (db : Database) (actor : Actor) (scan : Option Found) (cursor : Option Cursor) (c : Cursor) → cursor ≡ Some c → IsRightFor db actor scan cursor → IsRight db actor scan c
right-for db actor scan cursor c is right = subst (λ (o : Option Cursor). IfSome o (IsRight db actor scan)) is right

-- what was found is right with its object
right-of : (db : Database) (actor : Actor) (c : Cursor) (k : Choice) (o : Object) → k.object ≡ Some o → IsRight db actor (found_in true k) c → IsFor db actor c (found_of o k)
right-of db actor c k o is right = subst (λ (found : Option Object). IfSome (option_map (λ (o : Object). found_of o k) found) (IsFor db actor c)) is right

selects : (db : Database) (actor : Actor) (c : Cursor) (p : Found) → IsFor db actor c p → selectable db actor (seen_stamped db actor c.object) ≡ Ok p.object
selects db actor c p right =
    elim (cases_Bool (is_of_table p)) [
      | inl t ↦ (right.table t).selects
      | inr f ↦ (right.told f).selects
    ]

-- and that is the one of the cursor's stamp
pub found-object : (db : Database) (actor : Actor) (c : Cursor) (k : Choice) → IsValid db → IsRight db actor (found_in true k) c → is_some k.object ≡ true → k.object ≡ object_stamped db.objects c.object
found-object db actor c k valid right there = go k.object refl there
  where
    go : (found : Option Object) → k.object ≡ found → is_some found ≡ true → found ≡ object_stamped db.objects c.object
    go None is some = absurd (false≢true some)
    go (Some o) is some = sym (object-stamped db actor c.object o valid (selectable-parts db actor (seen_stamped db actor c.object) o (selects db actor c (found_of o k) (right-of db actor c k o is right))).0)

-- what was found of a table or a view goes over the table,
goes-over : (db : Database) (actor : Actor) (c : Cursor) (k : Choice) (has : HasObject db c k.object) → IsRight db actor (found_in true k) c → GoesOver db actor c (found_of has.object k)
goes-over db actor c k has right = (right-of db actor c k has.object has.is right).table has.kind

-- on which the object rests,
pub found-rests : (db : Database) (actor : Actor) (c : Cursor) (k : Choice) → HasObject db c k.object → IsRight db actor (found_in true k) c → RestsOn db.objects c.object k.resolved.table k.resolved.all k.resolved.filters.items
found-rests db actor c k has right =
    let over = goes-over db actor c k has right in
    record {
      is = over.seen;
      resolved = ap (resolved_of db.objects) (sym (own-stamp db c.object has.object has.at)) ∙ over.resolved;
      on = over.table;
      all = over.all;
      bound = over.filters;
    }

-- and the conditions are bound to its columns
pub found-binds : (db : Database) (actor : Actor) (c : Cursor) (k : Choice) → HasObject db c k.object → IsRight db actor (found_in true k) c → Binds k.conditions k.resolved.all c.conditions
found-binds db actor c k has right =
    let over = goes-over db actor c k has right in
    subst (λ (all : Columns). Binds k.conditions all c.conditions) (sym over.all) over.conditions

-- an object that was found is the one of the cursor's stamp, a table or a view
has-this : (db : Database) (c : Cursor) (found : Option Object) (o : Object) → HasObject db c found → found ≡ Some o → (object_stamped db.objects c.object ≡ Some o) × (is_table_or_view o.kind ≡ true)
has-this db c found o has is =
    let same : has.object ≡ o = same_Some has.object o (sym has.is ∙ is) in
    (subst (λ (x : Object). object_stamped db.objects c.object ≡ Some x) same has.at, subst (λ (x : Object). is_table_or_view x.kind ≡ true) same has.kind)

-- it rests on the table to which it is resolved
pub resolved-rests : (db : Database) (c : Cursor) (found : Option Object) (o : Object) (answer : Resolved) → HasObject db c found → found ≡ Some o → (object_stamped db.objects o.stamp ≡ Some o → IsResolved db.objects o answer)
    → RestsOn db.objects c.object answer.table answer.all answer.filters.items
resolved-rests db c found o answer has is resolves =
    let this = has-this db c found o has is in
    let own = own-stamp db c.object o this.0 in
    let rests = (resolves (ap (object_stamped db.objects) own ∙ this.0)).table this.1 in
    record {
      is = rests.seen;
      resolved = ap (resolved_of db.objects) (sym own) ∙ rests.resolved;
      on = rests.reaches.table;
      all = rests.reaches.all;
      bound = rests.reaches.filters;
    }

-- what has an object isn't missing
pub has-some : (db : Database) (c : Cursor) (found : Option Object) → HasObject db c found → found ≡ None → ⊥
has-some db c found has none = none-some has.object (sym none ∙ has.is)
