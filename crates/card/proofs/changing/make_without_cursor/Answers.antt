-- Each operation ends as its edits say, and what is none of these is refused, as it is by the model.
use Rattle.std.proofs.Common.{◌≡◌, ℕ, false, List, Option, Some, Err, refl, sym, subst, ◌∙◌, rules}
use Rattle.scql_base.specs.Words.{instruction_not_supported}
use Rattle.scql_base.specs.declared.condition.Condition.{Condition}
use Rattle.scql_base.specs.declared.cursor.Cursor.{Cursor}
use Rattle.scql_base.specs.declared.operation.Operation.{Operation}
use Rattle.scql_base.specs.declared.operation.Operation.TheVariants.{CreateTable, CreateView, CreateDictionary, DropTable, DropView, Grant, Revoke, Insert, Update, Delete, CreateUser, DeleteUser}
use Rattle.scql_base.specs.declared.words.Actor.{Actor}
use Rattle.scql_base.specs.declared.words.Profile.{Profile}
use Rattle.scql_base.specs.declared.words.Subject.{Subject}
use Rattle.scql_model.specs.Changing.{edits_of}
use Rattle.scql_model.specs.Database.{Database}
use Rattle.scql_model.specs.Operations.{kind_of}
use Rattle.row_table.proofs.Endings.{Ended-after, Ended-before, EndedBy-done, EndedBy-stopped}
use Rattle.card.specs.Changing.{goes_through_cursor, stamp_named}
use Rattle.card.proofs.changing.make_without_cursor.Goals as goal

pub create_view-requires-clause-short : goal.create_view-requires-clause-short
create_view-requires-clause-short g c = rw c.in-CreateView.is at c.requires.may.fits

pub returns-in-CreateTable-clause-ended : goal.returns-in-CreateTable-clause-ended
unfolding edits_of
returns-in-CreateTable-clause-ended g c = λ cursor. rw c.in-CreateTable.is (Ended-after (rw c.copy.ensures at c.create_table.ensures.ended) refl refl (λ db held may. ((may.acts, may.form), refl)))

pub returns-in-CreateView-clause-ended : goal.returns-in-CreateView-clause-ended
unfolding edits_of
returns-in-CreateView-clause-ended g c = λ cursor.
    rw c.in-CreateView.is (Ended-after (rw (c.copy-in-CreateView.ensures, c.copy-in-CreateView-2.ensures) at c.create_view.ensures.ended) refl refl (λ db held may. ((may.acts, may.form), refl)))

pub returns-in-CreateDictionary-clause-ended : goal.returns-in-CreateDictionary-clause-ended
unfolding edits_of
returns-in-CreateDictionary-clause-ended g c = λ cursor.
    rw c.in-CreateDictionary.is (Ended-after (rw c.copy-in-CreateDictionary.ensures at c.create_dictionary.ensures.ended) refl refl (λ db held may. ((may.acts, may.form), refl)))

pub returns-in-DropTable-clause-ended : goal.returns-in-DropTable-clause-ended
unfolding edits_of
returns-in-DropTable-clause-ended g c = λ cursor. rw c.in-DropTable.is (Ended-after (rw c.copy-in-DropTable.ensures at c.drop_table.ensures) refl refl (λ db held may. (tt, refl)))

pub returns-in-DropView-clause-ended : goal.returns-in-DropView-clause-ended
unfolding edits_of
returns-in-DropView-clause-ended g c = λ cursor. rw c.in-DropView.is (Ended-after (rw c.copy-in-DropView.ensures at c.drop_view.ensures) refl refl (λ db held may. (tt, refl)))

pub returns-in-Grant-clause-ended : goal.returns-in-Grant-clause-ended
unfolding edits_of
returns-in-Grant-clause-ended g c = λ cursor. rw c.in-Grant.is (Ended-after (rw (c.copy-in-Grant.ensures, c.copy-in-Grant-2.ensures) at c.grant.ensures) refl refl (λ db held may. (may.form, refl)))

pub returns-in-Revoke-clause-ended : goal.returns-in-Revoke-clause-ended
unfolding edits_of
returns-in-Revoke-clause-ended g c = λ cursor. rw c.in-Revoke.is (Ended-after (rw (c.copy-in-Revoke.ensures, c.copy-in-Revoke-2.ensures) at c.revoke.ensures) refl refl (λ db held may. (tt, refl)))

pub returns-in-Insert-clause-ended : goal.returns-in-Insert-clause-ended
unfolding edits_of
returns-in-Insert-clause-ended g c = λ cursor. rw c.in-Insert.is (Ended-after (rw c.copy-in-Insert.ensures at c.insert.ensures) refl refl (λ db held may. ((may.form, may.fits), refl)))

pub returns-in-CreateUser-clause-ended : goal.returns-in-CreateUser-clause-ended
unfolding edits_of
returns-in-CreateUser-clause-ended g c = λ cursor. rw c.in-CreateUser.is (Ended-after (rw c.copy-in-CreateUser.ensures at c.create_user.ensures) refl refl (λ db held may. ((may.acts, may.form), refl)))

pub returns-in_err-delete_user-in-DeleteUser-clause-ended : goal.returns-in_err-delete_user-in-DeleteUser-clause-ended
unfolding edits_of
returns-in_err-delete_user-in-DeleteUser-clause-ended g c = λ cursor.
    rw c.in-DeleteUser.is (Ended-after (EndedBy-stopped c.from_residual.ensures.1 (rw c.copy-in-DeleteUser.ensures at c.in_err-delete_user-in-DeleteUser.ensures.ended)) refl refl (λ db held may. (tt, refl)))

pub returns-in_ok-delete_user-in-DeleteUser-clause-ended : goal.returns-in_ok-delete_user-in-DeleteUser-clause-ended
unfolding edits_of
returns-in_ok-delete_user-in-DeleteUser-clause-ended g c = λ cursor.
    rw c.in-DeleteUser.is (Ended-after (EndedBy-done (rw c.copy-in-DeleteUser.ensures at c.in_ok-delete_user-in-DeleteUser.ensures.ended)) refl refl (λ db held may. (tt, refl)))

pub returns-in_ok-delete_user-in-DeleteUser-clause-gone : goal.returns-in_ok-delete_user-in-DeleteUser-clause-gone
returns-in_ok-delete_user-in-DeleteUser-clause-gone g c = record {
  gone = λ db name held deletes.
      (let same : c.in-DeleteUser.name ≡ name = (let other = sym c.in-DeleteUser.is ∙ deletes in cc) in
      sym (subst (λ (n : List ℕ). stamp_named db n ≡ Some c.in_ok-delete_user-in-DeleteUser.field-0) same ((rw c.copy-in-DeleteUser.ensures at c.in_ok-delete_user-in-DeleteUser.ensures.gone) db held)));
  none = search rules;
}

-- the model refuses what is no change
no-edits : (db : Database) (actor : Actor) (cursor : Option Cursor) (operation : Operation) → goes_through_cursor (kind_of operation) ≡ false → ((name : List ℕ) (columns : List (List ℕ)) → operation ≡ CreateTable name columns → ⊥)
    → ((name base : List ℕ) (columns : List (List ℕ)) (conditions : List Condition) → operation ≡ CreateView name base columns conditions → ⊥) → ((name : List ℕ) (subject : Subject) → operation ≡ CreateDictionary name subject → ⊥)
    → ((name : List ℕ) → operation ≡ DropTable name → ⊥) → ((name : List ℕ) → operation ≡ DropView name → ⊥)
    → ((privileges : ℕ) (object grantee : List ℕ) → operation ≡ Grant privileges object grantee → ⊥) → ((privileges : ℕ) (object grantee : List ℕ) → operation ≡ Revoke privileges object grantee → ⊥)
    → ((table : List ℕ) (row : List (List ℕ)) → operation ≡ Insert table row → ⊥) → ((name : List ℕ) (profile : Profile) (secret : List ℕ) → operation ≡ CreateUser name profile secret → ⊥)
    → ((name : List ℕ) → operation ≡ DeleteUser name → ⊥) → edits_of db actor cursor operation ≡ Err instruction_not_supported
unfolding edits_of
no-edits db actor cursor (CreateTable name columns) without table view dictionary drop drop_view grant revoke row user gone = absurd (table name columns refl)
no-edits db actor cursor (CreateView name base columns conditions) without table view dictionary drop drop_view grant revoke row user gone = absurd (view name base columns conditions refl)
no-edits db actor cursor (CreateDictionary name subject) without table view dictionary drop drop_view grant revoke row user gone = absurd (dictionary name subject refl)
no-edits db actor cursor (DropTable name) without table view dictionary drop drop_view grant revoke row user gone = absurd (drop name refl)
no-edits db actor cursor (DropView name) without table view dictionary drop drop_view grant revoke row user gone = absurd (drop_view name refl)
no-edits db actor cursor (Grant privileges object grantee) without table view dictionary drop drop_view grant revoke row user gone = absurd (grant privileges object grantee refl)
no-edits db actor cursor (Revoke privileges object grantee) without table view dictionary drop drop_view grant revoke row user gone = absurd (revoke privileges object grantee refl)
no-edits db actor cursor (Insert name values) without table view dictionary drop drop_view grant revoke row user gone = absurd (row name values refl)
no-edits db actor cursor (Update changes) without table view dictionary drop drop_view grant revoke row user gone = absurd (cc)
no-edits db actor cursor Delete without table view dictionary drop drop_view grant revoke row user gone = absurd (cc)
no-edits db actor cursor (CreateUser name profile secret) without table view dictionary drop drop_view grant revoke row user gone = absurd (user name profile secret refl)
no-edits db actor cursor (DeleteUser name) without table view dictionary drop drop_view grant revoke row user gone = absurd (gone name refl)
no-edits db actor cursor operation without table view dictionary drop drop_view grant revoke row user gone = refl

pub returns-in_default-clause-ended : goal.returns-in_default-clause-ended
returns-in_default-clause-ended g c = λ cursor. Ended-before c.requires.may.open.stand refl (search rules) (λ db held may.
    let none = no-edits db c.args.actor cursor c.args.operation.now c.requires.no_cursor c.in_default.not-CreateTable c.in_default.not-CreateView c.in_default.not-CreateDictionary c.in_default.not-DropTable
    c.in_default.not-DropView c.in_default.not-Grant c.in_default.not-Revoke c.in_default.not-Insert c.in_default.not-CreateUser c.in_default.not-DeleteUser in
    rw (none, c.refused.ensures) (refl, refl, refl))
