-- What is left is as the edits have it.
use Rattle.std.proofs.Common.{rules, subst, sym}
use Rattle.std.specs.Prelude.{◌==◌, not}
use Rattle.std.proofs.lemmas.Fn.{filter_same}
use Rattle.scql_base.specs.declared.records.Grant.{Grant}
use Rattle.scql_base.specs.declared.records.Object.{Object}
use Rattle.scql_base.specs.declared.records.RowRecord.{RowRecord}
use Rattle.scql_base.specs.declared.records.User.{User}
use Rattle.scql_model.specs.Database.{IsValid}
use Rattle.plain_database.proofs.ChangedRecords.{grant-changed}
use Rattle.plain_database.proofs.Removed.{grant-removed, object-removed, row-removed, table-removed, user-removed}
use Rattle.plain_database.proofs.database.PlainDatabase.make.Goals as goal

pub replace-requires : goal.replace-requires
replace-requires c = record { rises = (subst IsValid (sym c.self.view_is) c.requires).grants.rises }

pub returns-in-ChangeGrant : goal.returns-in-ChangeGrant
returns-in-ChangeGrant c =
    record { ended = rw (c.in-ChangeGrant.is, c.replace.ensures.items, ← c.self.view_is) (grant-changed _ c.in-ChangeGrant.grant (subst IsValid (sym c.self.view_is) c.requires)); same = tt }

pub returns-in-RemoveUser : goal.returns-in-RemoveUser
returns-in-RemoveUser c =
    let users = filter_same _ (λ (v : User). not (v.stamp == c.in-RemoveUser.user.stamp)) _ (λ x b f' k. search rules) _ _ c.retain.ensures.filtered in
    let grants = filter_same _ (λ (v : Grant). not (v.grantee == c.in-RemoveUser.user.stamp)) _ (λ x b f' k. search rules) _ _ c.retain-in-RemoveUser.ensures.filtered in
    record { ended = rw (c.in-RemoveUser.is, users, grants, ← c.self-in-RemoveUser.view_is) (user-removed _ c.in-RemoveUser.user (subst IsValid (sym c.self-in-RemoveUser.view_is) c.requires)); same = tt }

pub returns-in-RemoveObject : goal.returns-in-RemoveObject
returns-in-RemoveObject c =
    let objects = filter_same _ (λ (v : Object). not (v.stamp == c.in-RemoveObject.object.stamp)) _ (λ x b f' k. search rules) _ _ c.retain-in-RemoveObject.ensures.filtered in
    let grants = filter_same _ (λ (v : Grant). not (v.object == c.in-RemoveObject.object.stamp)) _ (λ x b f' k. search rules) _ _ c.retain-in-RemoveObject-2.ensures.filtered in
    record { ended = rw (c.in-RemoveObject.is, objects, grants, ← c.self-in-RemoveObject.view_is) (object-removed _ c.in-RemoveObject.object (subst IsValid (sym c.self-in-RemoveObject.view_is) c.requires)); same = tt }

pub returns-in-RemoveTable : goal.returns-in-RemoveTable
returns-in-RemoveTable c =
    let objects = filter_same _ (λ (v : Object). not (v.stamp == c.in-RemoveTable.table.stamp)) _ (λ x b f' k. search rules) _ _ c.retain-in-RemoveTable.ensures.filtered in
    let grants = filter_same _ (λ (v : Grant). not (v.object == c.in-RemoveTable.table.stamp)) _ (λ x b f' k. search rules) _ _ c.retain-in-RemoveTable-2.ensures.filtered in
    let rows = filter_same _ (λ (v : RowRecord). not (v.table == c.in-RemoveTable.table.stamp)) _ (λ x b f' k. search rules) _ _ c.retain-in-RemoveTable-3.ensures.filtered in
    record { ended = rw (c.in-RemoveTable.is, objects, grants, rows, ← c.self-in-RemoveTable.view_is) (table-removed _ c.in-RemoveTable.table (subst IsValid (sym c.self-in-RemoveTable.view_is) c.requires)); same = tt }

pub returns-in-RemoveGrant : goal.returns-in-RemoveGrant
returns-in-RemoveGrant c =
    let grants = filter_same _ (λ (v : Grant). not (v.stamp == c.in-RemoveGrant.grant.stamp)) _ (λ x b f' k. search rules) _ _ c.retain-in-RemoveGrant.ensures.filtered in
    record { ended = rw (c.in-RemoveGrant.is, grants, ← c.self-in-RemoveGrant.view_is) (grant-removed _ c.in-RemoveGrant.grant (subst IsValid (sym c.self-in-RemoveGrant.view_is) c.requires)); same = tt }

pub returns-in-RemoveRow : goal.returns-in-RemoveRow
returns-in-RemoveRow c =
    let rows = filter_same _ (λ (v : RowRecord). not (v.stamp == c.in-RemoveRow.row.stamp)) _ (λ x b f' k. search rules) _ _ c.retain-in-RemoveRow.ensures.filtered in
    record { ended = rw (c.in-RemoveRow.is, rows, ← c.self-in-RemoveRow.view_is) (row-removed _ c.in-RemoveRow.row (subst IsValid (sym c.self-in-RemoveRow.view_is) c.requires)); same = tt }
