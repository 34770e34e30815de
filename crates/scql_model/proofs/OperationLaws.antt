-- What is true of every operation that changes the database: it ends by proper edits or a refusal, and keeps a database valid, for an actor
-- of the database and with fields of its form. All cases stand in `edits_of-lawful`; the rest follows.
use Rattle.std.proofs.Common.{◌≡◌, ◌≤◌, ◌+◌, ◌↔◌, List, Option, Result, Ok, Err, true, if◌then◌else◌, refl, ap, sym, ◌∙◌, subst}
use Rattle.std.proofs.lemmas.Bool.{le-leb, ltb-false}
use Rattle.scql_base.specs.Row.{row_size}
use Rattle.scql_base.specs.Words.{instruction_not_supported, no_space}
use Rattle.scql_base.specs.declared.words.Actor.{Actor}
use Rattle.scql_base.specs.declared.words.StatusWord.{StatusWord}
use Rattle.scql_base.specs.declared.cursor.Cursor.{Cursor}
use Rattle.scql_base.specs.declared.cursor.PresentedUser.{PresentedUser}
use Rattle.scql_base.specs.declared.operation.Operation.{Operation}
use Rattle.scql_base.specs.declared.operation.Operation.TheVariants.{CreateTable, CreateView, CreateDictionary, DropTable, DropView, Grant, Revoke, Insert, Update, Delete, CreateUser, DeleteUser}
use Rattle.scql_model.specs.Database.{Database, IsValid, weight}
use Rattle.scql_model.specs.Creating.{IsActorOf}
use Rattle.scql_model.specs.WellFormed.{HasForm, FitsCard}
use Rattle.scql_model.specs.Edits.{Edit, applied, takes_stamp}
use Rattle.scql_model.specs.Changing.{edits_of, lacks_room, with_edits, change_of}
use Rattle.scql_model.specs.Cursors.{Follows}
use Rattle.scql_model.specs.ValidMachine.{IsPresentedIn}
use Rattle.scql_model.proofs.ChangeLaws.{AreMade, AreMade-with_edits, change_of-refused, change_of-edits, same_Err, lacks}
use Rattle.scql_model.proofs.RightEdits.{Yields, next-right}
use Rattle.scql_model.proofs.ObjectsFollow.{Follows-applied}
use Rattle.scql_model.proofs.UsersFollow.{presented-applied}
use Rattle.scql_model.proofs.RefusalWords.{Anything, OrRefuses}
use Rattle.scql_model.proofs.Outcomes.{AreProper, IsOutcome, outcome-refused, gives-outcome, outcome-not_full}
use Rattle.scql_model.proofs.Keeping.{HasRoomFor, Keeps}
use Rattle.scql_model.proofs.KeepsRows.{inserted-outcome, updated-outcome, deleted-outcome, inserted-keeps, updated-keeps, deleted-keeps}
use Rattle.scql_model.proofs.KeepsGrants.{granted-outcome, revoked-outcome, granted-keeps, revoked-keeps}
use Rattle.scql_model.proofs.KeepsObjects.{created-outcome, table_dropped-outcome, view_dropped-outcome, table_created-keeps, dictionary_created-keeps, table_dropped-keeps, view_dropped-keeps}
use Rattle.scql_model.proofs.KeepsViews.{view_created-outcome, view_created-keeps}
use Rattle.scql_model.proofs.KeepsUsers.{user_added-outcome, user_deleted-outcome, user_added-keeps, user_deleted-keeps}

-- how an operation ends, and that its edits keep a database valid
record IsLawful (db : Database) (actor : Actor) (operation : Operation) (r : Result (List Edit) StatusWord) : Type 0 where
  ends : IsOutcome (AreProper db) r
  keeps : IsValid db → IsActorOf db actor → HasForm operation → FitsCard db.limit operation → Yields (Keeps db) r

edits_of-lawful : (db : Database) (actor : Actor) (cursor : Option Cursor) (operation : Operation) → IsLawful db actor operation (edits_of db actor cursor operation)
unfolding edits_of
edits_of-lawful db actor cursor (CreateTable name columns) = record {
  ends = created-outcome db actor name _;
  keeps = λ valid acts form fits. table_created-keeps db actor name columns valid acts form.0 form.1;
}
edits_of-lawful db actor cursor (CreateView name base columns conditions) = record {
  ends = view_created-outcome db actor name base columns conditions;
  keeps = λ valid acts form fits. view_created-keeps db actor name base columns conditions valid acts form.0 form.2 form.3 fits;
}
edits_of-lawful db actor cursor (CreateDictionary name subject) = record {
  ends = created-outcome db actor name _;
  keeps = λ valid acts form fits. dictionary_created-keeps db actor name subject valid acts form;
}
edits_of-lawful db actor cursor (DropTable name) = record {
  ends = table_dropped-outcome db actor name;
  keeps = λ valid acts form fits. table_dropped-keeps db actor name valid;
}
edits_of-lawful db actor cursor (DropView name) = record {
  ends = view_dropped-outcome db actor name;
  keeps = λ valid acts form fits. view_dropped-keeps db actor name valid;
}
edits_of-lawful db actor cursor (Grant privileges object grantee) = record {
  ends = granted-outcome db actor privileges object grantee;
  keeps = λ valid acts form fits. granted-keeps db actor privileges object grantee valid form.0;
}
edits_of-lawful db actor cursor (Revoke privileges object grantee) = record {
  ends = revoked-outcome db actor privileges object grantee;
  keeps = λ valid acts form fits. revoked-keeps db actor privileges object grantee valid;
}
edits_of-lawful db actor cursor (Insert table values) = record {
  ends = inserted-outcome db actor table values;
  keeps = λ valid acts form fits. inserted-keeps db actor table values valid form.1 (le-leb (row_size values) db.limit fits);
}
edits_of-lawful db actor cursor (Update changes) = record {
  ends = updated-outcome db actor cursor changes;
  keeps = λ valid acts form fits. updated-keeps db actor cursor changes valid form;
}
edits_of-lawful db actor cursor Delete = record {
  ends = deleted-outcome db actor cursor;
  keeps = λ valid acts form fits. deleted-keeps db actor cursor valid;
}
edits_of-lawful db actor cursor (CreateUser name profile secret) = record {
  ends = user_added-outcome db actor name profile secret;
  keeps = λ valid acts form fits. user_added-keeps db actor name profile secret valid (record { acts = acts; named = form.0; secret_fits = form.1; not_owner = form.2 });
}
edits_of-lawful db actor cursor (DeleteUser name) = record {
  ends = user_deleted-outcome db actor name;
  keeps = λ valid acts form fits. user_deleted-keeps db actor name valid;
}
edits_of-lawful db actor cursor operation = record {
  ends = outcome-refused instruction_not_supported refl;
  keeps = λ valid acts form fits. record { each = λ edits (is : Err instruction_not_supported ≡ Ok edits). absurd cc };
}

-- Its edits are proper, and its refusals have words of their own.
pub edits_of-proper : (db : Database) (actor : Actor) (cursor : Option Cursor) (operation : Operation) (edits : List Edit) → edits_of db actor cursor operation ≡ Ok edits → AreProper db edits
edits_of-proper db actor cursor operation edits made = (edits_of-lawful db actor cursor operation).ends.each edits made

pub gives-edits_of : (db : Database) (actor : Actor) (cursor : Option Cursor) (operation : Operation) → OrRefuses Anything (edits_of db actor cursor operation)
gives-edits_of db actor cursor operation = gives-outcome (edits_of db actor cursor operation) (edits_of-lawful db actor cursor operation).ends

-- So the next stamp is one more where a stamp was taken, and else it stays.
pub edits_of-next : (db : Database) (actor : Actor) (cursor : Option Cursor) (operation : Operation) (edits : List Edit)
    → edits_of db actor cursor operation ≡ Ok edits → (applied db edits).next ≡ (if takes_stamp edits then db.next + 1 else db.next)
edits_of-next db actor cursor operation edits made = next-right db edits (edits_of-proper db actor cursor operation edits made).right

-- What it makes of a database follows it, and whoever was presented in it is presented in the new one.
pub Follows-edits_of : (db : Database) (actor : Actor) (cursor : Option Cursor) (operation : Operation) (edits : List Edit) → edits_of db actor cursor operation ≡ Ok edits → Follows db (applied db edits)
Follows-edits_of db actor cursor operation edits made =
    let proper = edits_of-proper db actor cursor operation edits made in Follows-applied db edits proper.right proper.kept

pub presented-edits_of : (db : Database) (actor : Actor) (cursor : Option Cursor) (operation : Operation) (edits : List Edit) (p : PresentedUser) → edits_of db actor cursor operation ≡ Ok edits
    → IsPresentedIn db p → IsPresentedIn (applied db edits) p
presented-edits_of db actor cursor operation edits p made is =
    let proper = edits_of-proper db actor cursor operation edits made in presented-applied db edits p proper.right proper.users is

-- edits for which there is room
HasRoomFor-made : (db : Database) (edits : List Edit) (new : Database) → AreMade db edits new → HasRoomFor db edits
HasRoomFor-made db edits new made = record {
  stamps_left = made.stamps_left;
  room = subst (λ (made : Database). weight made ≤ made.cells) made.is (ltb-false new.cells (weight new) made.room);
}

-- Where a command changes a valid database, the new one is valid.
pub IsValid-edits_of : (db : Database) (actor : Actor) (cursor : Option Cursor) (operation : Operation) (edits : List Edit) (new : Database) → IsValid db → IsActorOf db actor → HasForm operation
    → FitsCard db.limit operation → edits_of db actor cursor operation ≡ Ok edits → with_edits db edits ≡ Ok new → IsValid new
IsValid-edits_of db actor cursor operation edits new valid acts form fits edited ok =
    let made = AreMade-with_edits db edits new ok in
    subst IsValid (sym made.is) (((edits_of-lawful db actor cursor operation).keeps valid acts form fits).each edits edited (HasRoomFor-made db edits new made))

-- Want of room is told exactly where a command has edits for which there is none.
pub change_of-full : (db : Database) (actor : Actor) (cursor : Option Cursor) (operation : Operation)
    → (change_of db actor cursor operation ≡ Err no_space) ↔ ((edits : List Edit) × (edits_of db actor cursor operation ≡ Ok edits) × (lacks_room db edits ≡ true))
change_of-full db actor cursor operation = (told (edits_of db actor cursor operation) refl, is_told)
  where
    told : (outcome : Result (List Edit) StatusWord) → edits_of db actor cursor operation ≡ outcome → change_of db actor cursor operation ≡ Err no_space
        → (edits : List Edit) × (edits_of db actor cursor operation ≡ Ok edits) × (lacks_room db edits ≡ true)
    told (Ok edits) made full = (edits, made, lacks db edits (sym (change_of-edits db actor cursor operation edits made) ∙ full))
    told (Err word) refused full =
        absurd (outcome-not_full (edits_of db actor cursor operation) (edits_of-lawful db actor cursor operation).ends
        (refused ∙ ap Err (same_Err word no_space (sym (change_of-refused db actor cursor operation word refused) ∙ full))))

    is_told : ((edits : List Edit) × (edits_of db actor cursor operation ≡ Ok edits) × (lacks_room db edits ≡ true)) → change_of db actor cursor operation ≡ Err no_space
    is_told e = change_of-edits db actor cursor operation e.0 e.1 ∙ rw e.2 refl
