-- What a view rests on.
use Rattle.std.proofs.Common.{◌≡◌, ℕ, ◌==◌, ◌&&◌, Bool, true, false, List, Some, nat_lt, refl, ap, ◌∙◌}
use Rattle.std.proofs.lemmas.Bool.{eqb-true}
use Rattle.scql_base.specs.declared.words.Subject.{Subject}
use Rattle.scql_base.specs.declared.condition.Condition.{Condition}
use Rattle.scql_base.specs.declared.records.Object.{Object}
use Rattle.scql_base.specs.declared.records.ObjectKind.TheVariants.{Dictionary}
use Rattle.scql_model.specs.Objects.{columns_of, depth_of}
use Rattle.scql_model.specs.Rules.{are_named_among, may_have_view, object_stamped, rests_on}
use Rattle.scql_model.proofs.LongerLists.{find-passes}

-- what is found is found by its own stamp
pub found-there : (objects : List Object) (stamp : ℕ) (o : Object) → object_stamped objects stamp ≡ Some o → object_stamped objects o.stamp ≡ Some o
found-there objects stamp o there =
    let is : o.stamp ≡ stamp = eqb-true o.stamp stamp (find-passes (λ (o : Object). o.stamp == stamp) objects o there) in
    ap (object_stamped objects) is ∙ there

-- no view rests on a dictionary
pub rests-on-none : (objects : List Object) (view base : Object) (columns : List (List ℕ)) (conditions : List Condition) (subject : Subject)
    → object_stamped objects base.stamp ≡ Some base → base.kind ≡ Dictionary subject → rests_on objects view columns conditions base ≡ false
unfolding depth_of
rests-on-none objects view base columns conditions subject there is =
    no (nat_lt base.stamp view.stamp) (base.owner == view.owner) (may_have_view objects base) (are_named_among (columns_of base.kind) columns conditions) (rw (there, is) refl)
  where
    no : (a b m d : Bool) → m ≡ false → (a && b && m && d) ≡ false
    no true true m d e = rw e refl
    no true false m d e = refl
    no false b m d e = refl
