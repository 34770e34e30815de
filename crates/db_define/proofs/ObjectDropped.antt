-- DROP TABLE and DROP VIEW: which object is dropped, or the first refusal.
use Rattle.std.proofs.Common.{◌≡◌, ℕ, Bool, true, false, List, [], ◌∷◌, Some, None, Ok, Err, refl, sym, ◌∙◌}
use Rattle.std.specs.List.{list_any}
use Rattle.scql_base.specs.Words.{not_found, security_not_satisfied, conditions_not_satisfied}
use Rattle.scql_base.specs.declared.words.Actor.{Actor}
use Rattle.scql_base.specs.declared.records.Object.{Object}
use Rattle.scql_base.specs.declared.records.ObjectKind.{ObjectKind}
use Rattle.scql_base.specs.declared.records.ObjectKind.TheVariants as kinds
use Rattle.scql_model.specs.Creating.{is_owned_by}
use Rattle.scql_model.specs.Database.{Database}
use Rattle.scql_model.specs.Defining.{has_view, is_based_on, table_dropped, view_dropped}
use Rattle.scql_model.specs.Edits.{with_edits}
use Rattle.scql_model.specs.Refusals.{◌>>=◌}
use Rattle.scql_model.specs.Rights.{seen_named}
use Rattle.db_define.specs.Dependent.{is_view_on}
use Rattle.db_define.specs.Dropped as specs
use Rattle.db_define.specs.Dropped.{dropping, drops}
use Rattle.db_define.specs.declared.dropped.Dropped.{Dropped}
use Rattle.db_define.specs.declared.dropped.Dropped.TheVariants.{Table, View}

any-same : {X : Type 0} (p q : X → Bool) (xs : List X) → ((x : X) → p x ≡ q x) → list_any p xs ≡ list_any q xs
any-same p q [] same = refl
any-same p q (x ∷ xs) same = rw (same x, any-same p q xs same) refl

-- a view rests on an object by its stamp
pub viewed : (db : Database) (o : Object) → has_view db o ≡ list_any (λ (v : Object). is_view_on o.stamp v.kind) db.objects
viewed db o = any-same (λ (v : Object). is_based_on o v.kind) (λ (v : Object). is_view_on o.stamp v.kind) db.objects (λ v. of_kind v.kind)
  where
    of_kind : (kind : ObjectKind) → is_based_on o kind ≡ is_view_on o.stamp kind
    of_kind (kinds.Table columns) = refl
    of_kind (kinds.View base columns conditions) = refl
    of_kind (kinds.Dictionary subject) = refl

-- which object it is, or the first refusal
pub drops-none : (dropped : Dropped) (db : Database) (actor : Actor) (name : List ℕ) → None ≡ seen_named db actor name → (specs.dropped dropped db actor name >>= with_edits db) ≡ Err not_found
unfolding table_dropped view_dropped
drops-none Table db actor name seen = rw (sym seen) refl
drops-none View db actor name seen = rw (sym seen) refl

pub drops-other : (dropped : Dropped) (db : Database) (actor : Actor) (name : List ℕ) (o : Object) → Some o ≡ seen_named db actor name → drops dropped o.kind ≡ false → (specs.dropped dropped db actor name >>= with_edits db) ≡ Err not_found
unfolding table_dropped view_dropped
drops-other Table db actor name o seen other = rw (sym seen, other) refl
drops-other View db actor name o seen other = rw (sym seen, other) refl

pub drops-foreign : (dropped : Dropped) (db : Database) (actor : Actor) (name : List ℕ) (o : Object) → Some o ≡ seen_named db actor name → drops dropped o.kind ≡ true → is_owned_by actor o.owner ≡ false
    → (specs.dropped dropped db actor name >>= with_edits db) ≡ Err security_not_satisfied
unfolding table_dropped view_dropped
drops-foreign Table db actor name o seen own foreign = rw (sym seen, own, foreign) refl
drops-foreign View db actor name o seen own foreign = rw (sym seen, own, foreign) refl

pub drops-viewed : (dropped : Dropped) (db : Database) (actor : Actor) (name : List ℕ) (o : Object) → Some o ≡ seen_named db actor name → drops dropped o.kind ≡ true → is_owned_by actor o.owner ≡ true
    → list_any (λ (v : Object). is_view_on o.stamp v.kind) db.objects ≡ true → (specs.dropped dropped db actor name >>= with_edits db) ≡ Err conditions_not_satisfied
unfolding table_dropped view_dropped
drops-viewed Table db actor name o seen own owned there = rw (sym seen, own, owned, viewed db o ∙ there) refl
drops-viewed View db actor name o seen own owned there = rw (sym seen, own, owned, viewed db o ∙ there) refl

pub drops-found : (dropped : Dropped) (db : Database) (actor : Actor) (name : List ℕ) (o : Object) → Some o ≡ seen_named db actor name → drops dropped o.kind ≡ true → is_owned_by actor o.owner ≡ true
    → list_any (λ (v : Object). is_view_on o.stamp v.kind) db.objects ≡ false → specs.dropped dropped db actor name ≡ Ok (dropping dropped db o)
unfolding table_dropped view_dropped
drops-found Table db actor name o seen own owned none = rw (sym seen, own, owned, viewed db o ∙ none) refl
drops-found View db actor name o seen own owned none = rw (sym seen, own, owned, viewed db o ∙ none) refl
