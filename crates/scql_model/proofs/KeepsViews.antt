-- CREATE VIEW ends by proper edits or a refusal, and keeps a database valid.
use Rattle.std.proofs.Common.{◌≡◌, ℕ, ◌≤◌, ◌^◌, ◌==◌, ◌&&◌, ◌||◌, Bool, true, false, List, [], ◌∷◌, ◌++◌, length, map, Option, Some, refl, arith}
use Rattle.std.specs.Prelude.{nat_le, nat_lt}
use Rattle.std.specs.List.{find, list_any, list_all, flat_map}
use Rattle.std.specs.Str.{bytes_eq}
use Rattle.std.proofs.lemmas.Bool.{and_parts, and_from, false≢true, le-leb, leb-true}
use Rattle.std.proofs.lemmas.List.{length-append}
use Rattle.std.proofs.lemmas.Slice.Eq.{bytes_eq-Decides}
use Rattle.scql_base.specs.Name.{is_name}
use Rattle.scql_base.specs.Row.{is_narrow}
use Rattle.scql_base.specs.Strings.{spelled}
use Rattle.scql_base.specs.Words.{security_not_satisfied, conditions_not_satisfied, not_found}
use Rattle.scql_base.specs.declared.words.Actor.{Actor}
use Rattle.scql_base.specs.declared.words.Actor.TheVariants.{Public, User as a_user}
use Rattle.scql_base.specs.declared.condition.Condition.{Condition}
use Rattle.scql_base.specs.declared.records.Object.{Object}
use Rattle.scql_base.specs.declared.records.ObjectKind.{ObjectKind}
use Rattle.scql_base.specs.declared.records.ObjectKind.TheVariants.{Table, View, Dictionary}
use Rattle.scql_model.specs.Records as records
use Rattle.scql_model.specs.Records.{is_count_of_columns, is_count_of_conditions, object_fits}
use Rattle.scql_model.specs.Refusals.{or_refused, provided}
use Rattle.scql_model.specs.Rules.{are_different, are_among, are_named_among, is_founded, is_short, may_have_view}
use Rattle.scql_model.specs.Objects.{columns_of}
use Rattle.scql_model.specs.Database.{Database, IsValid}
use Rattle.scql_model.specs.Creating.{IsActorOf, actor_stamp}
use Rattle.scql_model.specs.Matching.{Columns}
use Rattle.scql_model.specs.Parameters.{are_chosen_columns, are_conditions}
use Rattle.scql_model.specs.ReadingCommands.{wanted_of, named_among}
use Rattle.scql_model.specs.Rights.{owns, seen_named}
use Rattle.scql_model.specs.Defining.{makes_objects, of_kind, is_table_or_view, owned_by, new_object, view_created}
use Rattle.scql_model.proofs.Creating.{name-size}
use Rattle.scql_model.proofs.LongerLists.{find-all, all-weaker}
use Rattle.scql_model.proofs.RecordLengths.{names-size}
use Rattle.scql_model.proofs.RightEdits.{Yields, bound-yields, done-yields}
use Rattle.scql_model.proofs.FormedCommands.{not_unless, not_refused}
use Rattle.scql_model.proofs.Outcomes.{AreProper, IsOutcome, outcome-bound, outcome-asked, outcome-owned}
use Rattle.scql_model.proofs.Keeping.{Keeps, IsThere-found, of_kind-parts}
use Rattle.scql_model.proofs.KeepsObjects.{named_anew-outcome, maker-actor, fits-actor, named_anew-keeps}

pub view_created-outcome : (db : Database) (actor : Actor) (name base_name : List ℕ) (columns : Columns) (conditions : List Condition)
    → IsOutcome (AreProper db) (view_created db actor name base_name columns conditions)
unfolding view_created
view_created-outcome db actor name base_name columns conditions =
    outcome-asked (makes_objects actor) security_not_satisfied _ refl λ _.
    outcome-bound (owned_by actor (of_kind is_table_or_view (seen_named db actor base_name))) _ (outcome-owned actor (of_kind is_table_or_view (seen_named db actor base_name))) λ o _.
    outcome-asked (may_have_view db.objects o) conditions_not_satisfied _ refl λ _.
    outcome-asked (are_named_among (columns_of o.kind) columns conditions) not_found _ refl λ _.
    named_anew-outcome db (new_object db actor name (View o.stamp (wanted_of (columns_of o.kind) columns) conditions)) refl

-- columns that an object may have: 1 to 15 different names
record AreNames (columns : Columns) : Type 0 where
  count : is_count_of_columns (length columns) ≡ true
  named : list_all is_name columns ≡ true
  different : are_different columns ≡ true

-- those of a table or a view are
AreNames-base : (db : Database) (q : Object → Bool) (o : Object) → IsValid db → find q db.objects ≡ Some o → is_table_or_view o.kind ≡ true → AreNames (columns_of o.kind)
AreNames-base db q o valid found based = go o.kind refl based
  where
    fits : object_fits o ≡ true
    fits = find-all object_fits q db.objects o valid.objects.limits found

    founded : is_founded db.objects o ≡ true
    founded = find-all (is_founded db.objects) q db.objects o valid.objects.founded found

    go : (kind : ObjectKind) → o.kind ≡ kind → is_table_or_view kind ≡ true → AreNames (columns_of kind)
    go (Table columns) is based =
        let limits = rw is at fits in
        let a = and_parts (nat_lt o.stamp (2 ^ 32)) (nat_lt o.owner (2 ^ 32) && (is_name o.name && (is_count_of_columns (length columns) && list_all is_name columns))) limits in
        let b = and_parts (nat_lt o.owner (2 ^ 32)) (is_name o.name && (is_count_of_columns (length columns) && list_all is_name columns)) a.1 in
        let c = and_parts (is_name o.name) (is_count_of_columns (length columns) && list_all is_name columns) b.1 in
        let d = and_parts (is_count_of_columns (length columns)) (list_all is_name columns) c.1 in
        record { count = d.0; named = d.1; different = rw is at founded }
    go (View base columns conditions) is based =
        let limits = rw is at fits in
        let a = and_parts (nat_lt o.stamp (2 ^ 32)) _ limits in
        let b = and_parts (nat_lt o.owner (2 ^ 32)) _ a.1 in
        let c = and_parts (nat_lt base (2 ^ 32)) _ b.1 in
        let d = and_parts (is_name o.name) _ c.1 in
        let e = and_parts (is_count_of_columns (length columns) && list_all is_name columns) _ d.1 in
        let f = and_parts (is_count_of_columns (length columns)) (list_all is_name columns) e.0 in
        record { count = f.0; named = f.1; different = (and_parts (are_different columns) _ (rw is at founded)).0 }
    go (Dictionary subject) is based = absurd (false≢true based)

-- names are among themselves
among-self : (names : Columns) → are_among names names ≡ true
among-self [] = refl
among-self (name ∷ names) =
    rw ((bytes_eq-Decides name name).1 refl)
    (all-weaker (λ other. list_any (bytes_eq other) names) (λ other. list_any (bytes_eq other) (name ∷ names)) names (λ other there. or_there (bytes_eq other name) (list_any (bytes_eq other) names) there) (among-self names))
  where
    or_there : (a b : Bool) → b ≡ true → (a || b) ≡ true
    or_there true b is = refl
    or_there false b is = is

-- a view's columns are those that are chosen, or all
AreNames-wanted : (all columns : Columns) → AreNames all → are_chosen_columns columns ≡ true → AreNames (wanted_of all columns)
AreNames-wanted all [] are chosen = are
AreNames-wanted all (name ∷ names) are chosen =
    let a = and_parts (nat_le (length (name ∷ names)) 15) (list_all is_name (name ∷ names) && are_different (name ∷ names)) chosen in
    let b = and_parts (list_all is_name (name ∷ names)) (are_different (name ∷ names)) a.1 in
    record { count = and_from (nat_le 1 (length (name ∷ names))) (nat_le (length (name ∷ names)) 15) (le-leb 1 (length (name ∷ names)) (omega arith)) a.0; named = b.0; different = b.1 }

pub among-wanted : (all columns : Columns) (conditions : List Condition) → are_named_among all columns conditions ≡ true → are_named_among all (wanted_of all columns) conditions ≡ true
among-wanted all [] conditions among =
    let parts = and_parts (are_among [] all) (are_among (map (λ (c : Condition). c.column) conditions) all) among in
    and_from (are_among all all) (are_among (map (λ (c : Condition). c.column) conditions) all) (among-self all) parts.1
among-wanted all (name ∷ names) conditions among = among

-- an object that the actor owns
owned-parts : (actor : Actor) (found : Option Object) → Yields (λ o. (found ≡ Some o) × (owns actor o ≡ true)) (owned_by actor found)
owned-parts actor found =
    bound-yields (λ o. (found ≡ Some o) × (owns actor o ≡ true)) (or_refused found not_found) _ λ o is.
    bound-yields (λ o. (found ≡ Some o) × (owns actor o ≡ true)) (provided (owns actor o) security_not_satisfied) _ λ x its.
    done-yields (λ o. (found ≡ Some o) × (owns actor o ≡ true)) o (not_refused found not_found o is, not_unless (owns actor o) security_not_satisfied x its)

own-stamp : (actor : Actor) (o : Object) → owns actor o ≡ true → (o.owner == actor_stamp actor) ≡ true
own-stamp Public o its = absurd (false≢true its)
own-stamp (a_user stamp profile) o its = its

-- a view's record is short where its conditions are
short-view : (o : Object) (base : ℕ) (columns : Columns) (conditions : List Condition) → o.kind ≡ View base columns conditions → is_name o.name ≡ true → AreNames columns
    → length (records.conditions.spell conditions) ≤ 255 → is_short o ≡ true
short-view o base columns conditions is named are few =
    let most = leb-true (length columns) 15 (and_parts (nat_le 1 (length columns)) (nat_le (length columns) 15) are.count).1 in
    let a = name-size o.name named in
    let b = names-size columns are.named in
    let c = length-append (flat_map spelled columns) (records.conditions.spell conditions) in
    let d = length-append o.name (length columns ∷ (flat_map spelled columns ++ records.conditions.spell conditions)) in
    rw is (le-leb _ 512 (omega arith))

-- CREATE VIEW
pub view_created-keeps : (db : Database) (actor : Actor) (name base_name : List ℕ) (columns : Columns) (conditions : List Condition) → IsValid db → IsActorOf db actor → is_name name ≡ true
    → are_chosen_columns columns ≡ true → are_conditions conditions ≡ true → length (records.conditions.spell conditions) ≤ 255 → Yields (Keeps db) (view_created db actor name base_name columns conditions)
unfolding view_created
view_created-keeps db actor name base_name columns conditions valid acts named chosen are few =
    bound-yields (Keeps db) (provided (makes_objects actor) security_not_satisfied) _ λ x may.
    bound-yields (Keeps db) (owned_by actor (of_kind is_table_or_view (seen_named db actor base_name))) _ λ base is.
    bound-yields (Keeps db) (provided (may_have_view db.objects base) conditions_not_satisfied) _ λ y deep.
    bound-yields (Keeps db) (named_among (columns_of base.kind) columns conditions) _ λ z among.
    let found = (owned-parts actor _).each base is in
    let parts = of_kind-parts is_table_or_view (seen_named db actor base_name) base found.0 in
    let there = IsThere-found db _ base valid parts.0 in
    let names = AreNames-wanted (columns_of base.kind) columns (AreNames-base db _ base valid parts.0 parts.1) chosen in
    let wanted = wanted_of (columns_of base.kind) columns in
    let counted = and_parts (is_count_of_conditions (length conditions)) (list_all (λ (c : Condition). is_name c.column && is_narrow c.value) conditions) are in
    let o : Object = new_object db actor name (View base.stamp wanted conditions) in
    let all_among = among-wanted (columns_of base.kind) columns conditions (not_unless (are_named_among (columns_of base.kind) columns conditions) not_found z among) in
    let all_parts = and_parts (are_among wanted (columns_of base.kind)) _ all_among in
    named_anew-keeps db o valid refl (record {
      fits = rw (valid.counter, fits-actor db actor valid acts, there.fits, named, names.count, names.named, counted.0, counted.1) refl;
      short = short-view o base.stamp wanted conditions refl named names few;
      maker = maker-actor db actor acts (not_unless (makes_objects actor) security_not_satisfied x may);
      founded = rw (names.different, there.stamped, there.older, own-stamp actor base found.1, not_unless (may_have_view db.objects base) conditions_not_satisfied y deep, all_parts.0, all_parts.1) refl;
    })
