-- CREATE USER that isn't refused: its edits, and the database with them.
use Rattle.std.proofs.Common.{ap, ◌≡◌, ℕ, Bool, false, List, Some, None, Ok, refl, sym, subst, ◌∙◌, if◌then◌else◌}
use Rattle.std.proofs.lemmas.Option.{same_Some}
use Rattle.scql_base.specs.declared.records.TheConstants.User.{ALL_TRIES}
use Rattle.scql_base.specs.declared.records.User.{User}
use Rattle.scql_base.specs.declared.words.Actor.{Actor}
use Rattle.scql_base.specs.declared.words.Profile.{Profile}
use Rattle.scql_base.specs.declared.operation.Operation.TheVariants.{CreateUser}
use Rattle.scql_model.specs.Records.{of_user}
use Rattle.scql_model.specs.Database.{Database, IsValid}
use Rattle.scql_model.specs.Creating.{IsActorOf, actor_stamp, is_taken, may_create, new_user, user_added}
use Rattle.scql_model.specs.Changing.{edits_of}
use Rattle.scql_model.specs.Edits.{Edit, applied, making}
use Rattle.scql_model.specs.WellFormed.{HasForm}
use Rattle.scql_model.proofs.FieldLaws.{chosen_some}
use Rattle.scql_model.proofs.OperationLaws.{IsValid-edits_of}
use Rattle.record_table.specs.Making.{IsValidWith}

valid-added : (db : Database) (actor : Actor) (name : List ℕ) (profile : Profile) (secret : List ℕ) (edits : List Edit) → IsValid db → IsActorOf db actor → HasForm (CreateUser name profile secret)
    → user_added db actor name profile secret ≡ Ok edits → IsValidWith db edits
unfolding edits_of
valid-added db actor name profile secret edits valid acts form added = λ room.
    IsValid-edits_of db actor None (CreateUser name profile secret) edits (applied db edits) valid acts form tt added (rw room refl)

-- The user is to be made: nothing refuses it but want of room, and this is its owner.
pub record IsToBeMade (db : Database) (actor : Actor) (name : List ℕ) (profile : Profile) (secret : List ℕ) (owner : ℕ) : Type 0 where
  pub added : user_added db actor name profile secret ≡ Ok (making db (of_user (new_user db actor name profile secret)))
  pub owned : owner ≡ actor_stamp actor
  pub valid : IsValidWith db (making db (of_user (new_user db actor name profile secret)))

pub IsToBeMade-asked : (db : Database) (actor : Actor) (name : List ℕ) (profile : Profile) (secret : List ℕ) (owner : ℕ) (taken : Bool) → IsValid db → IsActorOf db actor → HasForm (CreateUser name profile secret)
    → Some owner ≡ (if may_create actor profile then Some (actor_stamp actor) else None) → taken ≡ is_taken db name → taken ≡ false → IsToBeMade db actor name profile secret owner
IsToBeMade-asked db actor name profile secret owner taken valid acts form owns looked free =
    let may = chosen_some (may_create actor profile) (Some (actor_stamp actor)) owner (sym owns) in
    let added : user_added db actor name profile secret ≡ Ok (making db (of_user (new_user db actor name profile secret))) = rw (may.0, sym looked ∙ free) refl in
    record {
      added = added;
      owned = sym (same_Some _ _ may.1);
      valid = valid-added db actor name profile secret (making db (of_user (new_user db actor name profile secret))) valid acts form added;
    }

-- the user that is made has the next stamp, and the owner and the secret that were asked
abbrev user_of : ℕ → List ℕ → Profile → ℕ → List ℕ → User
user_of stamp name profile owner secret = record { stamp = stamp; name = name; profile = profile; owner = owner; secret = secret; tries = ALL_TRIES }

-- so it may be made, and is the user that the operation asks for
pub of-asked : (db : Database) (actor : Actor) (name : List ℕ) (profile : Profile) (secret : List ℕ) (owner stamp : ℕ) (copied : List ℕ) → IsToBeMade db actor name profile secret owner → stamp ≡ db.next → copied ≡ secret
    → ((stamp ≡ db.next) × IsValidWith db (making db (of_user (user_of stamp name profile owner copied)))) × (user_added db actor name profile secret ≡ Ok (making db (of_user (user_of stamp name profile owner copied))))
of-asked db actor name profile secret owner stamp copied asked next copy =
    let is : user_of stamp name profile owner copied ≡ new_user db actor name profile secret = rw (next, copy, asked.owned) refl in
    ((next, subst (λ u. IsValidWith db (making db (of_user u))) (sym is) asked.valid), asked.added ∙ ap (λ u. Ok (making db (of_user u))) (sym is))
