-- How deep an object stands, step by step.
use Rattle.std.proofs.Common.{◌≡◌, ℕ, zero, suc, ◌==◌, Bool, true, false, ◌&&◌, ltb, List, Option, Some, None, option_map, refl, sym, ap, ◌∙◌, inl, inr, arith}
use Rattle.std.specs.Prelude.{is_some, nat_lt}
use Rattle.std.specs.Option.{option_map_or, option_and_then}
use Rattle.std.proofs.lemmas.Bool.{cases_Bool, ltb-true, ltb-false, lt-ltb, le-ltb, eqb-true}
use Rattle.std.proofs.lemmas.Option.{none-some, same_Some}
use Rattle.scql_base.specs.declared.condition.Condition.{Condition}
use Rattle.scql_base.specs.declared.records.Object.{Object}
use Rattle.scql_base.specs.declared.records.ObjectKind.{ObjectKind}
use Rattle.scql_base.specs.declared.records.ObjectKind.TheVariants.{Table, View, Dictionary}
use Rattle.scql_model.specs.Objects.{columns_of, depth_below, depth_of, depth_over, object_stamped}
use Rattle.scql_model.specs.Rules.{are_named_among, may_have_view, rests_on}
use Rattle.scql_model.proofs.LongerLists.{find-passes}
use Rattle.card.specs.Founded.{own_columns}

less-suc : (d k : ℕ) → ltb (suc d) (suc k) ≡ ltb d k
less-suc d k =
    elim (cases_Bool (ltb d k)) [
      | inl t ↦ (let less = ltb-true d k t in lt-ltb (suc d) (suc k) (omega arith) ∙ sym t)
      | inr f ↦ (let most = ltb-false d k f in le-ltb (suc d) (suc k) (omega arith) ∙ sym f)
    ]

abbrev is_less : ℕ → Option ℕ → Bool
is_less k depth = option_map_or (λ d. nat_lt d k) depth false

deeper : (k : ℕ) (depth : Option ℕ) → is_less (suc k) (option_map suc depth) ≡ is_less k depth
deeper k None = refl
deeper k (Some d) = less-suc d k

is_some-suc : (depth : Option ℕ) → is_some (option_map suc depth) ≡ is_some depth
is_some-suc None = refl
is_some-suc (Some d) = refl

none-less : (depth : Option ℕ) → is_less 0 depth ≡ false
none-less None = refl
none-less (Some d) = le-ltb d 0 (omega arith)

-- an object stands less deep than a number where that many steps find its depth
less-deep : (n : ℕ) (objects : List Object) (stamp : ℕ) → is_less n (depth_below (suc n) objects stamp) ≡ is_some (depth_below n objects stamp)
less-deep zero objects stamp = none-less (depth_below 1 objects stamp)
less-deep (suc n) objects stamp = go (object_stamped objects stamp) (λ base. less-deep n objects base)
  where
    kind : (k : ObjectKind) → ((base : ℕ) → is_less n (depth_below (suc n) objects base) ≡ is_some (depth_below n objects base))
        → is_less (suc n) (depth_over (depth_below (suc n) objects) k) ≡ is_some (depth_over (depth_below n objects) k)
    kind (Table columns) rest = lt-ltb 0 (suc n) (omega arith)
    kind (View base columns conditions) rest = deeper n (depth_below (suc n) objects base) ∙ rest base ∙ sym (is_some-suc (depth_below n objects base))
    kind (Dictionary subject) rest = refl

    go : (found : Option Object) → ((base : ℕ) → is_less n (depth_below (suc n) objects base) ≡ is_some (depth_below n objects base))
        → is_less (suc n) (option_and_then (λ (o : Object). depth_over (depth_below (suc n) objects) o.kind) found) ≡ is_some (option_and_then (λ (o : Object). depth_over (depth_below n objects) o.kind) found)
    go None rest = refl
    go (Some o) rest = kind o.kind rest

pub shallow : (objects : List Object) (o : Object) → may_have_view objects o ≡ is_some (depth_below 4 objects o.stamp)
unfolding depth_of
shallow objects o = less-deep 4 objects o.stamp

-- One step down.
abbrev pub reaches : ℕ → List Object → ℕ → Bool
reaches n objects stamp = is_some (depth_below n objects stamp)

pub reaches-none : (n : ℕ) (objects : List Object) (stamp : ℕ) → object_stamped objects stamp ≡ None → reaches (suc n) objects stamp ≡ false
reaches-none n objects stamp none = rw none refl

pub reaches-table : (n : ℕ) (objects : List Object) (stamp : ℕ) (o : Object) (columns : List (List ℕ)) → object_stamped objects stamp ≡ Some o → o.kind ≡ Table columns → reaches (suc n) objects stamp ≡ true
reaches-table n objects stamp o columns there is = rw (there, is) refl

pub reaches-base : (n : ℕ) (objects : List Object) (stamp : ℕ) (o : Object) (kind : ObjectKind) (base : ℕ) → object_stamped objects stamp ≡ Some o → o.kind ≡ kind
    → ((depth : ℕ → Option ℕ) → depth_over depth kind ≡ option_map suc (depth base)) → reaches (suc n) objects stamp ≡ reaches n objects base
reaches-base n objects stamp o kind base there is over = rw (there, is, over (depth_below n objects)) (is_some-suc (depth_below n objects base))

pub reaches-dictionary : (n : ℕ) (objects : List Object) (stamp : ℕ) (o : Object) (kind : ObjectKind) → object_stamped objects stamp ≡ Some o → o.kind ≡ kind → ((depth : ℕ → Option ℕ) → depth_over depth kind ≡ None)
    → reaches (suc n) objects stamp ≡ false
reaches-dictionary n objects stamp o kind there is over = rw (there, is, over (depth_below n objects)) refl

-- what is found has the stamp by which it is found
found-stamp : (objects : List Object) (stamp : ℕ) (o : Object) → object_stamped objects stamp ≡ Some o → o.stamp ≡ stamp
found-stamp objects stamp o there = eqb-true o.stamp stamp (find-passes (λ (o : Object). o.stamp == stamp) objects o there)

pub found-there : (objects : List Object) (stamp : ℕ) (o : Object) → object_stamped objects stamp ≡ Some o → object_stamped objects o.stamp ≡ Some o
found-there objects stamp o there = ap (object_stamped objects) (found-stamp objects stamp o there) ∙ there

-- The parts of what a view may rest on.
own-columns : (kind : ObjectKind) (all : List (List ℕ)) → own_columns kind ≡ Some all → columns_of kind ≡ all
own-columns (Table columns) all is = same_Some columns all is
own-columns (View base columns conditions) all is = same_Some columns all is
own-columns (Dictionary subject) all is = absurd (none-some all is)

no-more : (a b : Bool) → (a && false && b) ≡ false
no-more true b = refl
no-more false b = refl

module _ (objects : List Object) (view : Object) (columns : List (List ℕ)) (conditions : List Condition) (base : Object) where
  pub too-young : (nat_lt base.stamp view.stamp && (base.owner == view.owner)) ≡ false → rests_on objects view columns conditions base ≡ false
  too-young young = rw young refl

  pub too-deep : reaches 4 objects base.stamp ≡ false → rests_on objects view columns conditions base ≡ false
  too-deep deep =
      let no : may_have_view objects base ≡ false = shallow objects base ∙ deep in
      rw no (no-more (nat_lt base.stamp view.stamp && (base.owner == view.owner)) (are_named_among (columns_of base.kind) columns conditions))

  pub rests-nowhere : object_stamped objects base.stamp ≡ Some base → own_columns base.kind ≡ None → rests_on objects view columns conditions base ≡ false
  rests-nowhere there none = go base.kind refl none
    where
      go : (kind : ObjectKind) → base.kind ≡ kind → own_columns kind ≡ None → rests_on objects view columns conditions base ≡ false
      go (Table all) is none = absurd (none-some all (sym none))
      go (View under all its_conditions) is none = absurd (none-some all (sym none))
      go (Dictionary subject) is none = too-deep (reaches-dictionary 3 objects base.stamp base (Dictionary subject) there is (λ depth. refl))

  pub rests : (all : List (List ℕ)) → own_columns base.kind ≡ Some all → (nat_lt base.stamp view.stamp && (base.owner == view.owner)) ≡ true → reaches 4 objects base.stamp ≡ true
      → rests_on objects view columns conditions base ≡ are_named_among all columns conditions
  rests all own before deep =
      let yes : may_have_view objects base ≡ true = shallow objects base ∙ deep in
      rw (before, yes, own-columns base.kind all own) refl
