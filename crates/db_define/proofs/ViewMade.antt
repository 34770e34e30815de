-- A view is made: on what it rests, or the first refusal.
use Rattle.std.proofs.Common.{◌≡◌, ℕ, ◌≤◌, ◌++◌, Bool, true, false, List, ◌∷◌, length, Result, Ok, Err, refl, sym, subst, ◌∙◌, arith}
use Rattle.std.specs.List.{flat_map, list_all, list_any}
use Rattle.std.specs.Prelude.{MatchResult}
use Rattle.std.specs.Result.{IsErrAnd}
use Rattle.std.specs.Str.{bytes_eq}
use Rattle.std.proofs.lemmas.List.{length-append}
use Rattle.std.proofs.lemmas.List.Folds.{list_all-map}
use Rattle.scql_base.specs.Lists.{AreNames}
use Rattle.scql_base.specs.Name.{is_name}
use Rattle.scql_base.specs.Strings.{spelled}
use Rattle.scql_base.specs.Words.{conditions_not_satisfied, not_found, security_not_satisfied}
use Rattle.scql_base.specs.declared.condition.Condition.{Condition}
use Rattle.scql_base.specs.declared.operation.Operation.TheVariants.{CreateView}
use Rattle.scql_base.specs.declared.records.Object.{Object}
use Rattle.scql_base.specs.declared.records.ObjectKind.TheVariants.{View}
use Rattle.scql_base.specs.declared.words.Actor.{Actor}
use Rattle.scql_base.specs.declared.words.StatusWord.{StatusWord}
use Rattle.scql_model.specs.Changing.{edits_of}
use Rattle.scql_model.specs.Creating.{IsActorOf}
use Rattle.scql_model.specs.Database.{Database, IsValid, are_among, are_named_among}
use Rattle.scql_model.specs.Defining.{is_table_or_view, makes_objects, named_anew, new_object, of_kind, owned_by, view_created}
use Rattle.scql_model.specs.Edits.{Edit}
use Rattle.scql_model.specs.Matching.{Columns}
use Rattle.scql_model.specs.Objects.{columns_of}
use Rattle.scql_model.specs.ReadingCommands.{wanted_of}
use Rattle.scql_model.specs.Records as records
use Rattle.scql_model.specs.Rights.{seen_named}
use Rattle.scql_model.specs.Rules.{may_have_view}
use Rattle.scql_model.specs.WellFormed.{HasForm}
use Rattle.scql_model.proofs.Creating.{name-size}
use Rattle.scql_model.proofs.RecordLengths.{names-size}
use Rattle.catalog_codec.specs.Catalog.{object_kind}
use Rattle.catalog_codec.specs.Kinds.{FitsChain}
use Rattle.record_table.specs.Asking.{IsStopOf}
use Rattle.record_table.specs.Making.{IsValidWith}
use Rattle.record_table.specs.declared.stop.Stop.{Stop}
use Rattle.record_table.specs.declared.stop.Stop.TheVariants.{Refused, Fault}
use Rattle.db_define.proofs.ObjectMade.{valid-edits}

-- a view's record isn't too long where its conditions aren't
pub short-view : (stamp owner base : ℕ) (name : List ℕ) (columns : List (List ℕ)) (conditions : List Condition) → is_name name ≡ true → AreNames columns → length (records.conditions.spell conditions) ≤ 255
    → FitsChain object_kind (record { stamp = stamp; name = name; owner = owner; kind = View base columns conditions })
short-view stamp owner base name columns conditions named are few =
    let a = name-size name named in
    let b = names-size columns are.each in
    let c = length-append (flat_map spelled columns) (records.conditions.spell conditions) in
    let d = length-append name (length columns ∷ (flat_map spelled columns ++ records.conditions.spell conditions)) in
    omega (arith, are.count)

module _ (db : Database) (actor : Actor) (name base : List ℕ) (columns : Columns) (conditions : List Condition) where
  pub views-not : makes_objects actor ≡ false → view_created db actor name base columns conditions ≡ Err security_not_satisfied
  unfolding view_created
  views-not may = rw may refl

  pub views-unowned : (word : StatusWord) → makes_objects actor ≡ true → owned_by actor (of_kind is_table_or_view (seen_named db actor base)) ≡ Err word
      → view_created db actor name base columns conditions ≡ Err word
  unfolding view_created
  views-unowned word may owned = rw (may, owned) refl

  pub views-deep : (o : Object) → makes_objects actor ≡ true → owned_by actor (of_kind is_table_or_view (seen_named db actor base)) ≡ Ok o → may_have_view db.objects o ≡ false
      → view_created db actor name base columns conditions ≡ Err conditions_not_satisfied
  unfolding view_created
  views-deep o may owned deep = rw (may, owned, deep) refl

  pub views-unknown : (o : Object) → makes_objects actor ≡ true → owned_by actor (of_kind is_table_or_view (seen_named db actor base)) ≡ Ok o → may_have_view db.objects o ≡ true
      → are_named_among (columns_of o.kind) columns conditions ≡ false → view_created db actor name base columns conditions ≡ Err not_found
  unfolding view_created
  views-unknown o may owned shallow unknown = rw (may, owned, shallow, unknown) refl

  pub views : (o : Object) → makes_objects actor ≡ true → owned_by actor (of_kind is_table_or_view (seen_named db actor base)) ≡ Ok o → may_have_view db.objects o ≡ true
      → are_named_among (columns_of o.kind) columns conditions ≡ true
      → named_anew db (new_object db actor name (View o.stamp (wanted_of (columns_of o.kind) columns) conditions)) ≡ view_created db actor name base columns conditions
  unfolding view_created
  views o may owned shallow known = rw (may, owned, shallow, known) refl

-- a view whose base may not be had is refused as its base is
pub stops-unowned : {T : Type 0} (Q : T → Type 0) (db : Database) (actor : Actor) (name base : List ℕ) (columns : Columns) (conditions : List Condition) (result : Result T Stop) (stop : Stop) → IsErrAnd result (λ given. given ≡ stop)
    → makes_objects actor ≡ true → IsStopOf (owned_by actor (of_kind is_table_or_view (seen_named db actor base))) stop → MatchResult result Q (IsStopOf (view_created db actor name base columns conditions))
stops-unowned Q db actor name base columns conditions (Ok x) stop gives may said = absurd gives
stops-unowned Q db actor name base columns conditions (Err (Refused word)) stop gives may said =
    views-unowned db actor name base columns conditions word may (subst (λ (stop : Stop). IsStopOf (owned_by actor (of_kind is_table_or_view (seen_named db actor base))) stop) (sym gives) said)
stops-unowned Q db actor name base columns conditions (Err Fault) stop gives may said = tt

-- columns are among all, and so are those of conditions
pub among-all : (all columns : Columns) (conditions : List Condition) (known : Bool) → are_among columns all ≡ true → known ≡ list_all (λ (c : Condition). list_any (bytes_eq c.column) all) conditions
    → known ≡ are_named_among all columns conditions
among-all all columns conditions known among is = rw among (is ∙ sym (list_all-map (λ (name : List ℕ). list_any (bytes_eq name) all) (λ (c : Condition). c.column) conditions))

pub valid-view : (db : Database) (actor : Actor) (name base : List ℕ) (columns : Columns) (conditions : List Condition) (edits : List Edit) → IsValid db → IsActorOf db actor → HasForm (CreateView name base columns conditions)
    → length (records.conditions.spell conditions) ≤ 255 → view_created db actor name base columns conditions ≡ Ok edits → IsValidWith db edits
unfolding edits_of
valid-view db actor name base columns conditions edits valid acts form few is = valid-edits db actor (CreateView name base columns conditions) edits valid acts form few is
