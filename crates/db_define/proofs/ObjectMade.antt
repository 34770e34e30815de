-- An object is made: which it is, or the first refusal.
use Rattle.std.proofs.Common.{◌≡◌, ℕ, true, false, List, [], ◌∷◌, length, None, Result, Ok, Err, refl, sym, ap, subst, ◌∙◌, arith}
use Rattle.std.specs.List.{flat_map, list_any}
use Rattle.std.proofs.lemmas.List.{length-append}
use Rattle.scql_base.specs.Lists.{AreNames}
use Rattle.scql_base.specs.Name.{is_name}
use Rattle.scql_base.specs.Strings.{spelled}
use Rattle.scql_base.specs.Words.{already_exists, security_not_satisfied}
use Rattle.scql_base.specs.declared.operation.Operation.{Operation}
use Rattle.scql_base.specs.declared.operation.Operation.TheVariants.{CreateTable, CreateDictionary}
use Rattle.scql_base.specs.declared.records.Object.{Object}
use Rattle.scql_base.specs.declared.records.ObjectKind.{ObjectKind}
use Rattle.scql_base.specs.declared.records.ObjectKind.TheVariants.{Table, Dictionary}
use Rattle.scql_base.specs.declared.words.Actor.{Actor}
use Rattle.scql_base.specs.declared.words.StatusWord.{StatusWord}
use Rattle.scql_base.specs.declared.words.Subject.{Subject}
use Rattle.scql_model.specs.Changing.{edits_of}
use Rattle.scql_model.specs.Creating.{IsActorOf}
use Rattle.scql_model.specs.Database.{Database, IsValid}
use Rattle.scql_model.specs.Defining.{makes_objects, named_anew, new_object, object_created}
use Rattle.scql_model.specs.Edits.{Edit, applied, making, with_edits}
use Rattle.scql_model.specs.Records.{of_object, subject_code}
use Rattle.scql_model.specs.Refusals.{◌>>=◌}
use Rattle.scql_model.specs.WellFormed.{FitsCard, HasForm}
use Rattle.scql_model.proofs.Creating.{name-size}
use Rattle.scql_model.proofs.OperationLaws.{IsValid-edits_of}
use Rattle.scql_model.proofs.RecordLengths.{names-size}
use Rattle.catalog_codec.specs.Catalog.{object_kind}
use Rattle.catalog_codec.specs.Kinds.{FitsChain}
use Rattle.object_table.specs.Named.{has_name}
use Rattle.record_table.specs.Making.{IsValidWith}

-- a table's record isn't too long
pub short-table : (stamp owner : ℕ) (name : List ℕ) (columns : List (List ℕ)) → is_name name ≡ true → AreNames columns → FitsChain object_kind (record { stamp = stamp; name = name; owner = owner; kind = Table columns })
short-table stamp owner name columns named are =
    let a = name-size name named in
    let b = names-size columns are.each in
    let c = length-append name (length columns ∷ flat_map spelled columns) in
    omega (arith, are.count)

-- nor is a dictionary's
pub short-dictionary : (stamp owner : ℕ) (name : List ℕ) (subject : Subject) → is_name name ≡ true → FitsChain object_kind (record { stamp = stamp; name = name; owner = owner; kind = Dictionary subject })
short-dictionary stamp owner name subject named =
    let a = name-size name named in
    let b = length-append name (subject_code subject ∷ []) in
    omega arith

-- an object whose name another has is refused, and for any other there is but want of room
pub names-again : (db : Database) (o : Object) → list_any (has_name o.name) db.objects ≡ true → (named_anew db o >>= with_edits db) ≡ Err already_exists
names-again db o taken = rw taken refl

pub names : (db : Database) (o : Object) → list_any (has_name o.name) db.objects ≡ false → named_anew db o ≡ Ok (making db (of_object o))
names db o free = rw free refl

-- who may not make objects is refused first
pub creates-not : (db : Database) (actor : Actor) (name : List ℕ) (kind : ObjectKind) → makes_objects actor ≡ false → (object_created db actor name kind >>= with_edits db) ≡ Err security_not_satisfied
unfolding object_created
creates-not db actor name kind may = rw may refl

pub creates : (db : Database) (actor : Actor) (name : List ℕ) (kind : ObjectKind) → makes_objects actor ≡ true → named_anew db (new_object db actor name kind) ≡ object_created db actor name kind
unfolding object_created
creates db actor name kind may = rw may refl

-- the object that is made is the one that was asked for, and the database with it is valid
pub of-anew : (db : Database) (outcome : Result (List Edit) StatusWord) (asked made : Object) → named_anew db asked ≡ outcome → list_any (has_name asked.name) db.objects ≡ false → asked.stamp ≡ db.next → made ≡ asked
    → ((edits : List Edit) → outcome ≡ Ok edits → IsValidWith db edits) → ((made.stamp ≡ db.next) × IsValidWith db (making db (of_object made))) × (outcome ≡ Ok (making db (of_object made)))
of-anew db outcome asked made is free next same valid =
    let edits = sym is ∙ names db asked free in (
      (ap (λ (o : Object). o.stamp) same ∙ next, subst (λ (o : Object). IsValidWith db (making db (of_object o))) (sym same) (valid (making db (of_object asked)) edits)),
      edits ∙ ap (λ (o : Object). Ok (making db (of_object o))) (sym same),
    )

-- the database with an operation's edits is valid, where there is room
pub valid-edits : (db : Database) (actor : Actor) (operation : Operation) (edits : List Edit) → IsValid db → IsActorOf db actor → HasForm operation → FitsCard db.limit operation
    → edits_of db actor None operation ≡ Ok edits → IsValidWith db edits
valid-edits db actor operation edits valid acts form fits is = λ room. IsValid-edits_of db actor None operation edits (applied db edits) valid acts form fits is (rw room refl)

pub valid-table : (db : Database) (actor : Actor) (name : List ℕ) (columns : List (List ℕ)) (edits : List Edit) → IsValid db → IsActorOf db actor → HasForm (CreateTable name columns)
    → object_created db actor name (Table columns) ≡ Ok edits → IsValidWith db edits
unfolding edits_of
valid-table db actor name columns edits valid acts form is = valid-edits db actor (CreateTable name columns) edits valid acts form tt is

pub valid-dictionary : (db : Database) (actor : Actor) (name : List ℕ) (subject : Subject) (edits : List Edit) → IsValid db → IsActorOf db actor → HasForm (CreateDictionary name subject)
    → object_created db actor name (Dictionary subject) ≡ Ok edits → IsValidWith db edits
unfolding edits_of
valid-dictionary db actor name subject edits valid acts form is = valid-edits db actor (CreateDictionary name subject) edits valid acts form tt is
