-- Where a table is under a layer, and how deep the layer stands.
use Rattle.std.proofs.Common.{◌≡◌, ℕ, zero, suc, true, false, ltb, List, Option, Some, None, refl, sym, subst, ◌∙◌, inl, inr, arith}
use Rattle.std.specs.Prelude.{IfSome, option_map}
use Rattle.std.specs.Option.{option_map_or}
use Rattle.std.proofs.lemmas.Bool.{cases_Bool, le-ltb, lt-ltb, ltb-false, ltb-true}
use Rattle.eeprom.specs.Chip.{Chip}
use Rattle.eeprom.specs.Slots.{Rises}
use Rattle.eeprom.specs.StoreOf.{Slots}
use Rattle.record_store.specs.Held.{Held}
use Rattle.record_store.specs.declared.side.Side.{Side}
use Rattle.scql_base.specs.declared.words.Actor.{Actor}
use Rattle.scql_base.specs.declared.records.Object.{Object}
use Rattle.scql_base.specs.declared.records.ObjectKind.{ObjectKind}
use Rattle.scql_base.specs.declared.records.ObjectKind.TheVariants as kinds
use Rattle.scql_model.specs.Creating.{is_owned_by}
use Rattle.scql_model.specs.Database.{Database, IsValid, object_stamped}
use Rattle.scql_model.specs.Defining.{is_table_or_view}
use Rattle.scql_model.specs.Objects.{columns_of, depth_below, depth_of, depth_over}
use Rattle.scql_model.specs.Rights.{seen_named}
use Rattle.scql_model.specs.Rules.{may_have_view}
use Rattle.scql_model.proofs.Keeping.{IsThere-found}
use Rattle.catalog_codec.specs.Catalog.{object_kind}
use Rattle.record_table.specs.Listed.{listed, slots_of}
use Rattle.record_table.specs.Making.{IsHeld}
use Rattle.db_define.specs.Layers.{IsBase, layer_found, layer_of, reaches_table}
use Rattle.db_define.specs.declared.base.Base.{Base}
use Rattle.db_define.specs.declared.base.Layer.{Layer}
use Rattle.db_define.specs.declared.base.Layer.TheVariants.{Table, View, Other}

at-table : (n : ℕ) (objects : List Object) → reaches_table n objects Table ≡ true
at-table zero objects = refl
at-table (suc n) objects = at-table n objects

at-other : (n : ℕ) (objects : List Object) → reaches_table n objects Other ≡ false
at-other zero objects = refl
at-other (suc n) objects = at-other n objects

less-suc : (d k : ℕ) → ltb (suc d) (suc k) ≡ ltb d k
less-suc d k =
    elim (cases_Bool (ltb d k)) [
      | inl t ↦ (let less = ltb-true d k t in lt-ltb (suc d) (suc k) (omega arith) ∙ sym t)
      | inr f ↦ (let most = ltb-false d k f in le-ltb (suc d) (suc k) (omega arith) ∙ sym f)
    ]

-- one layer deeper
deeper : (k : ℕ) (depth : Option ℕ) → option_map_or (λ d. ltb d (suc k)) (option_map suc depth) false ≡ option_map_or (λ d. ltb d k) depth false
deeper k None = refl
deeper k (Some d) = less-suc d k

-- a layer stands less deep than a number where so many layers under it, less one, is a table
depth-reaches : (n : ℕ) (objects : List Object) (kind : ObjectKind) → option_map_or (λ d. ltb d (suc n)) (depth_over (depth_below (suc n) objects) kind) false ≡ reaches_table n objects (layer_of kind)
depth-reaches n objects (kinds.Table columns) = lt-ltb 0 (suc n) (omega arith) ∙ sym (at-table n objects)
depth-reaches n objects (kinds.Dictionary subject) = sym (at-other n objects)
depth-reaches zero objects (kinds.View base columns conditions) = deeper 0 (depth_below 1 objects base) ∙ none (depth_below 1 objects base)
  where
    none : (depth : Option ℕ) → option_map_or (λ d. ltb d 0) depth false ≡ false
    none None = refl
    none (Some d) = le-ltb d 0 (omega arith)
depth-reaches (suc n) objects (kinds.View base columns conditions) = deeper (suc n) (depth_below (suc (suc n)) objects base) ∙ one (object_stamped objects base) refl (λ o. depth-reaches n objects o.kind)
  where
    one : (found : Option Object) → object_stamped objects base ≡ found → ((o : Object) → option_map_or (λ d. ltb d (suc n)) (depth_over (depth_below (suc n) objects) o.kind) false ≡ reaches_table n objects (layer_of o.kind))
        → option_map_or (λ d. ltb d (suc n)) (depth_below (suc (suc n)) objects base) false ≡ reaches_table n objects (layer_found (object_stamped objects base))
    one None is each = rw is (sym (at-other n objects))
    one (Some o) is each = rw is (each o)

-- a view may rest on an object that is there where a table is at most three layers under it
pub may-reach : (objects : List Object) (o : Object) → object_stamped objects o.stamp ≡ Some o → reaches_table 3 objects (layer_of o.kind) ≡ may_have_view objects o
unfolding depth_of
may-reach objects o there = sym (rw there (depth-reaches 3 objects o.kind))

pub not_at-table : (layer : Layer) (objects : List Object) → (layer ≡ Table → ⊥) → reaches_table 0 objects layer ≡ false
not_at-table Table objects other = absurd (other refl)
not_at-table (View base) objects other = refl
not_at-table Other objects other = refl

-- the object that a search for a stamp finds is the database's
pub stamped-held : (store : Held) (side : Side) (chip : Chip) (db : Database) (stamp : ℕ) (found : Option Object) → IsHeld store side chip db
    → IfSome (slots_of store side chip) (λ slots. Rises object_kind.key (listed object_kind slots) → found ≡ object_stamped (listed object_kind slots) stamp) → found ≡ object_stamped db.objects stamp
stamped-held store side chip db stamp found held said =
    let here = subst (λ (o : Option Slots). IfSome o (λ slots. Rises object_kind.key (listed object_kind slots) → found ≡ object_stamped (listed object_kind slots) stamp)) held.told said in
    subst (λ (objects : List Object). Rises object_kind.key objects → found ≡ object_stamped objects stamp) held.holds.objects here held.valid.objects.rises

-- the base that a name has
pub base-seen : (db : Database) (actor : Actor) (name : List ℕ) (o : Object) (base : Base) → IsValid db → Some o ≡ seen_named db actor name → is_table_or_view o.kind ≡ true → is_owned_by actor o.owner ≡ true
    → base.stamp ≡ o.stamp → base.columns ≡ columns_of o.kind → base.layer ≡ layer_of o.kind → IsBase db actor name base
base-seen db actor name o base valid seen own owned stamp columns layer = record {
  object = o;
  owned = rw (sym seen, own, owned) refl;
  there = (IsThere-found db _ o valid (sym seen)).stamped;
  stamp = stamp;
  columns = columns;
  layer = layer;
}
