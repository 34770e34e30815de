-- Commands that make and drop objects end by proper edits or a refusal, and keep a database valid.
use Rattle.std.proofs.Common.{◌≡◌, ℕ, ◌^◌, ◌==◌, ◌&&◌, Bool, true, false, not, List, [], ◌∷◌, ◌++◌, length, filter, Some, refl, ap, sym, subst, ◌∙◌, inl, inr}
use Rattle.std.specs.Prelude.{nat_lt}
use Rattle.std.specs.List.{list_any, list_all}
use Rattle.std.specs.Str.{bytes_eq}
use Rattle.std.proofs.lemmas.List.Folds.{list_all-append, list_all-map}
use Rattle.std.proofs.lemmas.Bool.{cases_Bool, and_parts, false≢true, not-true, eqb-true}
use Rattle.scql_base.specs.Name.{is_name}
use Rattle.scql_base.specs.Words.{already_exists, security_not_satisfied, conditions_not_satisfied}
use Rattle.scql_base.specs.declared.words.Actor.{Actor}
use Rattle.scql_base.specs.declared.words.Actor.TheVariants.{Public, User as a_user}
use Rattle.scql_base.specs.declared.words.Subject.{Subject}
use Rattle.scql_base.specs.declared.records.Object.{Object}
use Rattle.scql_base.specs.declared.records.ObjectKind.{ObjectKind}
use Rattle.scql_base.specs.declared.records.ObjectKind.TheVariants.{Table, View, Dictionary}
use Rattle.scql_base.specs.declared.records.Grant.{Grant}
use Rattle.scql_base.specs.declared.records.RowRecord.{RowRecord}
use Rattle.scql_model.specs.Records.{of_object, of_row, is_count_of_columns, object_fits}
use Rattle.scql_model.specs.Refusals.{provided}
use Rattle.scql_model.specs.Rules.{is_table, are_different, is_made_by_maker, is_founded, is_short, has_table, object_stamped}
use Rattle.scql_model.specs.Database.{Database, IsValid}
use Rattle.scql_model.specs.Creating.{IsActorOf, actor_stamp}
use Rattle.scql_model.specs.Parameters.{are_columns}
use Rattle.scql_model.specs.Rights.{seen_named}
use Rattle.scql_model.specs.Defining.{makes_objects, of_kind, owned_by, new_object, named_anew, object_created, is_based_on, has_view, removing_object, removing_rows, table_dropped, view_dropped}
use Rattle.scql_model.specs.Edits.{has_record, making, removing}
use Rattle.scql_model.proofs.Creating.{maker-profile, actor_fits}
use Rattle.scql_model.proofs.ChangedGrants.{with_grants_left, IsValid-with_grants_left}
use Rattle.scql_model.proofs.ChangedObjects.{IsObjectOf, IsValid-with_object}
use Rattle.scql_model.proofs.ChangedRows.{with_rows_left, IsValid-with_rows_left}
use Rattle.scql_model.proofs.FewerObjects.{is_view_of, IsValid-without_object}
use Rattle.scql_model.proofs.LongerLists.{any-map, all-weaker}
use Rattle.scql_model.proofs.RecordLengths.{short-table, short-dictionary}
use Rattle.scql_model.proofs.Removing.{applied-removing_object, applied-removing_table}
use Rattle.scql_model.proofs.RightEdits.{is_right, AreRight, Yields, bound-yields, done-yields, owned-there, has_record-object, has_record-row, found-there, all-there, right-grants}
use Rattle.scql_model.proofs.FormedCommands.{not_unless}
use Rattle.scql_model.proofs.Outcomes.{AreProper, AreSparing, spares, proper-sparing, proper-making, sparing-grants, sparing-rows, IsOutcome, outcome-done, outcome-bound, outcome-asked, outcome-owned}
use Rattle.scql_model.proofs.Keeping.{HasRoomFor, Keeps, next-making, IsThere, IsThere-found, of_kind-parts}

-- an object is made
pub named_anew-outcome : (db : Database) (o : Object) → o.stamp ≡ db.next → IsOutcome (AreProper db) (named_anew db o)
named_anew-outcome db o next =
    outcome-asked (not (list_any (λ (other : Object). bytes_eq o.name other.name) db.objects)) already_exists _ refl λ _.
    outcome-done (making db (of_object o)) (proper-making db (of_object o) next refl refl)

pub created-outcome : (db : Database) (actor : Actor) (name : List ℕ) (kind : ObjectKind) → IsOutcome (AreProper db) (object_created db actor name kind)
unfolding object_created
created-outcome db actor name kind =
    outcome-asked (makes_objects actor) security_not_satisfied _ refl λ _. named_anew-outcome db (new_object db actor name kind) refl

-- an object that is dropped is there, and so are the grants on it and its rows
seen-there : (db : Database) (actor : Actor) (name : List ℕ) (test : ObjectKind → Bool) (o : Object) → of_kind test (seen_named db actor name) ≡ Some o → has_record db o.stamp ≡ true
seen-there db actor name test o is =
    has_record-object db o.stamp (found-there (λ (p : Object). p.stamp) _ db.objects o (of_kind-parts test (seen_named db actor name) o is).0)

right-removing_object : (db : Database) (o : Object) → has_record db o.stamp ≡ true → AreRight db (removing_object db o)
right-removing_object db o there = rw there (right-grants db (λ (g : Grant). g.object == o.stamp))

right-removing_rows : (db : Database) (o : Object) → AreRight db (removing_rows db o)
right-removing_rows db o =
    list_all-map (is_right db) (λ (r : RowRecord). removing (of_row r)) (filter (λ (r : RowRecord). r.table == o.stamp) db.rows)
    ∙ all-there (λ (r : RowRecord). r.stamp) (has_record db) (λ (r : RowRecord). r.table == o.stamp) db.rows (has_record-row db)

sparing-removing_object : (db : Database) (o : Object) → AreSparing (removing_object db o)
sparing-removing_object db o = sparing-grants (filter (λ (g : Grant). g.object == o.stamp) db.grants)

pub table_dropped-outcome : (db : Database) (actor : Actor) (name : List ℕ) → IsOutcome (AreProper db) (table_dropped db actor name)
unfolding table_dropped
table_dropped-outcome db actor name =
    let found = of_kind is_table (seen_named db actor name) in
    outcome-bound (owned_by actor found) _ (outcome-owned actor found) λ o is.
    outcome-asked (not (has_view db o)) conditions_not_satisfied _ refl λ _.
    outcome-done (removing_object db o ++ removing_rows db o) (proper-sparing db (removing_object db o ++ removing_rows db o)
    (list_all-append (is_right db) (removing_object db o) (removing_rows db o) ∙ rw (right-removing_object db o (seen-there db actor name is_table o is), right-removing_rows db o) refl)
    (list_all-append spares (removing_object db o) (removing_rows db o)
    ∙ rw (sparing-removing_object db o, sparing-rows (filter (λ (r : RowRecord). r.table == o.stamp) db.rows)) refl))

pub view_dropped-outcome : (db : Database) (actor : Actor) (name : List ℕ) → IsOutcome (AreProper db) (view_dropped db actor name)
unfolding view_dropped
view_dropped-outcome db actor name =
    let found = of_kind (λ kind. not (is_table kind)) (seen_named db actor name) in
    outcome-bound (owned_by actor found) _ (outcome-owned actor found) λ o is.
    outcome-asked (not (has_view db o)) conditions_not_satisfied _ refl λ _.
    outcome-done (removing_object db o) (proper-sparing db (removing_object db o)
    (right-removing_object db o (seen-there db actor name (λ kind. not (is_table kind)) o is)) (sparing-removing_object db o))

-- who makes objects is a user that may own them
pub maker-actor : (db : Database) (actor : Actor) → IsActorOf db actor → makes_objects actor ≡ true → is_made_by_maker db.users (actor_stamp actor) ≡ true
maker-actor db Public acts may = absurd (false≢true may)
maker-actor db (a_user stamp profile) acts may = maker-profile db.users stamp profile may acts

pub fits-actor : (db : Database) (actor : Actor) → IsValid db → IsActorOf db actor → nat_lt (actor_stamp actor) (2 ^ 32) ≡ true
fits-actor db Public valid acts = refl
fits-actor db (a_user stamp profile) valid acts = actor_fits db stamp profile valid acts

-- an object is made, whose name no other has
pub named_anew-keeps : (db : Database) (o : Object) → IsValid db → o.stamp ≡ db.next → IsObjectOf db.users db.objects o → Yields (Keeps db) (named_anew db o)
named_anew-keeps db o valid stamp is =
    bound-yields (Keeps db) (provided (not (list_any (λ (other : Object). bytes_eq o.name other.name) db.objects)) already_exists) _ λ x free.
    done-yields (Keeps db) (making db (of_object o)) (λ (room : HasRoomFor db (making db (of_object o))).
    IsValid-with_object db o valid is
    (any-map (bytes_eq o.name) (λ (other : Object). other.name) db.objects ∙ not-true _ (not_unless (not (list_any (λ (other : Object). bytes_eq o.name other.name) db.objects)) already_exists x free))
    stamp room.room (next-making db (of_object o) valid room))

object_created-keeps : (db : Database) (actor : Actor) (name : List ℕ) (kind : ObjectKind) → IsValid db → IsActorOf db actor
    → object_fits (new_object db actor name kind) ≡ true → is_short (new_object db actor name kind) ≡ true → is_founded db.objects (new_object db actor name kind) ≡ true
    → Yields (Keeps db) (object_created db actor name kind)
unfolding object_created
object_created-keeps db actor name kind valid acts fits short founded =
    bound-yields (Keeps db) (provided (makes_objects actor) security_not_satisfied) _ λ x may.
    named_anew-keeps db (new_object db actor name kind) valid refl
    (record { fits = fits; short = short; maker = maker-actor db actor acts (not_unless (makes_objects actor) security_not_satisfied x may); founded = founded })

-- CREATE TABLE and CREATE DICTIONARY
pub table_created-keeps : (db : Database) (actor : Actor) (name : List ℕ) (columns : List (List ℕ)) → IsValid db → IsActorOf db actor → is_name name ≡ true → are_columns columns ≡ true
    → Yields (Keeps db) (object_created db actor name (Table columns))
table_created-keeps db actor name columns valid acts named are =
    let a = and_parts (is_count_of_columns (length columns)) (list_all is_name columns && are_different columns) are in
    let b = and_parts (list_all is_name columns) (are_different columns) a.1 in
    let o : Object = new_object db actor name (Table columns) in
    let fits : object_fits o ≡ true = rw (valid.counter, fits-actor db actor valid acts, named, a.0, b.0) refl in
    object_created-keeps db actor name (Table columns) valid acts fits (short-table o columns refl fits) b.1

pub dictionary_created-keeps : (db : Database) (actor : Actor) (name : List ℕ) (subject : Subject) → IsValid db → IsActorOf db actor → is_name name ≡ true
    → Yields (Keeps db) (object_created db actor name (Dictionary subject))
dictionary_created-keeps db actor name subject valid acts named =
    let o : Object = new_object db actor name (Dictionary subject) in
    let fits : object_fits o ≡ true = rw (valid.counter, fits-actor db actor valid acts, named) refl in
    object_created-keeps db actor name (Dictionary subject) valid acts fits (short-dictionary o subject refl fits) refl

-- What stays of a filter passes it, and what passes none of a test passes its negation.
pub all-left : {X : Type 0} (p : X → Bool) (xs : List X) → list_all p (filter p xs) ≡ true
all-left p [] = refl
all-left p (x ∷ xs) = elim (cases_Bool (p x)) [ inl t ↦ rw (t, t) (all-left p xs) | inr f ↦ rw f (all-left p xs) ]

pub all-none_of : {X : Type 0} (p q : X → Bool) (xs : List X) → ((x : X) → p x ≡ false → q x ≡ true) → list_any p xs ≡ false → list_all q xs ≡ true
all-none_of p q [] each none = refl
all-none_of p q (x ∷ xs) each none =
    elim (cases_Bool (p x)) [
      | inl t ↦ absurd (false≢true (sym (rw t at none)))
      | inr f ↦ rw (each x f) (all-none_of p q xs each (rw f at none))
    ]

-- no view rests on an object that is dropped
no_view-left : (db : Database) (o : Object) → not (has_view db o) ≡ true → list_all (λ (v : Object). not (is_view_of o.stamp v.kind)) db.objects ≡ true
no_view-left db o none = all-none_of (λ (v : Object). is_based_on o v.kind) (λ (v : Object). not (is_view_of o.stamp v.kind)) db.objects (λ v. of_kind v.kind) (not-true (has_view db o) none)
  where
    of_kind : (kind : ObjectKind) → is_based_on o kind ≡ false → not (is_view_of o.stamp kind) ≡ true
    of_kind (Table columns) other = refl
    of_kind (View base columns conditions) other = rw other refl
    of_kind (Dictionary subject) other = refl

-- DROP TABLE: its rows and the grants on it go, and then nothing names it
pub table_dropped-keeps : (db : Database) (actor : Actor) (name : List ℕ) → IsValid db → Yields (Keeps db) (table_dropped db actor name)
unfolding table_dropped
table_dropped-keeps db actor name valid =
    bound-yields (Keeps db) (owned_by actor (of_kind is_table (seen_named db actor name))) _ λ o _.
    bound-yields (Keeps db) (provided (not (has_view db o)) conditions_not_satisfied) _ λ x none.
    done-yields (Keeps db) (removing_object db o ++ removing_rows db o) (λ room.
    subst IsValid (sym (applied-removing_table db o valid.grants.rises valid.rows.rises))
    (IsValid-without_object (left o) o.stamp
    (IsValid-with_rows_left (with_grants_left db (λ (g : Grant). not (g.object == o.stamp))) (λ (r : RowRecord). not (r.table == o.stamp))
    (IsValid-with_grants_left db (λ (g : Grant). not (g.object == o.stamp)) valid))
    (record {
      no_view = no_view-left db o (not_unless (not (has_view db o)) conditions_not_satisfied x none);
      no_grant = all-left (λ (g : Grant). not (g.object == o.stamp)) db.grants;
      no_row = all-left (λ (r : RowRecord). not (r.table == o.stamp)) db.rows;
    })))
  where
    left : Object → Database
    left o = with_rows_left (with_grants_left db (λ (g : Grant). not (g.object == o.stamp))) (λ (r : RowRecord). not (r.table == o.stamp))

-- what isn't a table has no rows
no_row-left : (db : Database) (o : Object) → IsValid db → IsThere db o → not (is_table o.kind) ≡ true → list_all (λ (r : RowRecord). not (r.table == o.stamp)) db.rows ≡ true
no_row-left db o valid there other = all-weaker (has_table db.objects) (λ (r : RowRecord). not (r.table == o.stamp)) db.rows one valid.rows.tables
  where
    one : (r : RowRecord) → has_table db.objects r ≡ true → not (r.table == o.stamp) ≡ true
    one r has =
        elim (cases_Bool (r.table == o.stamp)) [
          | inl t ↦ (let same = eqb-true r.table o.stamp t in
              let found : object_stamped db.objects r.table ≡ Some o = ap (object_stamped db.objects) same ∙ there.stamped in
              let wrong : false ≡ true = rw (found, not-true (is_table o.kind) other) at has in
              absurd (false≢true wrong))
          | inr f ↦ rw f refl
        ]

-- DROP VIEW: the grants on it go, and then nothing names it
pub view_dropped-keeps : (db : Database) (actor : Actor) (name : List ℕ) → IsValid db → Yields (Keeps db) (view_dropped db actor name)
unfolding view_dropped
view_dropped-keeps db actor name valid =
    bound-yields (Keeps db) (owned_by actor (of_kind (λ kind. not (is_table kind)) (seen_named db actor name))) _ λ o is.
    bound-yields (Keeps db) (provided (not (has_view db o)) conditions_not_satisfied) _ λ x none.
    let parts = of_kind-parts (λ kind. not (is_table kind)) (seen_named db actor name) o ((owned-there actor _).each o is) in
    let there = IsThere-found db _ o valid parts.0 in
    done-yields (Keeps db) (removing_object db o) (λ room.
    subst IsValid (sym (applied-removing_object db o valid.grants.rises))
    (IsValid-without_object (with_grants_left db (λ (g : Grant). not (g.object == o.stamp))) o.stamp (IsValid-with_grants_left db (λ (g : Grant). not (g.object == o.stamp)) valid)
    (record {
      no_view = no_view-left db o (not_unless (not (has_view db o)) conditions_not_satisfied x none);
      no_grant = all-left (λ (g : Grant). not (g.object == o.stamp)) db.grants;
      no_row = no_row-left db o valid there parts.1;
    })))
