-- What is proved of each statement, at its rule: the place of a fault in it, and that what its rule reads has the form of its commands.
use Rattle.std.proofs.Common.{◌≡◌, ℕ, nat_le, nat_lt, true, false, refl, codes, arith}
use Rattle.std.proofs.lemmas.Bool.{le-leb}
use Rattle.scql_base.specs.declared.operation.Operation.{Operation}
use Rattle.scql_base.specs.declared.operation.Operation.TheVariants.{CreateTable, CreateView, CreateDictionary, CreateUser, DropTable, DropView, Grant, Revoke, Insert, DeleteUser, PresentUser, Verify, Begin, Commit, Rollback}
use Rattle.scql_base.specs.Row.{row_size}
use Rattle.scql_model.specs.Operations.{is_for_channel, kind_of}
use Rattle.scql_model.specs.WellFormed.{HasForm}
use Rattle.scql_model.proofs.FormedCommands.{wants_le}
use Rattle.script.specs.declared.statement.Statement.TheVariants.{Single, Select, UpdateRows, DeleteRows, OpenNumber, CloseNumber, UseNumber, Reset}
use Rattle.script.specs.Reading.{gives}
use Rattle.script.specs.Grammar as grammar
use Rattle.script.specs.Grammar.{create_table, create_view, create_dictionary, create_user, create, drop_table, drop_view, dropping, grant, revoke, insert, select, update, delete_rows, delete_user, delete, present, verify, open_channel, close_channel, use_channel, about_channels, about_transactions, about_users, about_objects, about_rows, statement}
use Rattle.script.proofs.Lawful.{IsLawful, gives-lawful, after-lawful, last-lawful, bind-lawful, word-lawful}
use Rattle.script.proofs.PartRules.{name-lawful, names-lawful, columns-lawful, where_conditions-lawful, literals-lawful, changes-lawful, privileges-lawful, given_secret-lawful, presented_secret-lawful, profile-lawful, subject-lawful, further_channel-lawful, channel-lawful}
use Rattle.script.proofs.Sendable.{IsFormed}

-- a statement of one operation
single-lawful : (operation : Operation) → ((channel : ℕ) → is_for_channel channel (kind_of operation) ≡ true) → wants_le (kind_of operation) ≡ false
    → HasForm operation → IsLawful IsFormed (gives (Single operation))
single-lawful operation channels unwanted form = gives-lawful (Single operation) (record { channels = channels; unwanted = unwanted; form = λ short. form })

create_table-lawful : IsLawful IsFormed grammar.create_table
unfolding create_table
create_table-lawful =
    bind-lawful name-lawful (λ table is. word-lawful (codes "(") refl (bind-lawful names-lawful (λ columns are. word-lawful (codes ")") refl
    (single-lawful (CreateTable table columns) (λ channel. refl) refl (is, are)))))

create_view-lawful : IsLawful IsFormed grammar.create_view
unfolding create_view
create_view-lawful =
    bind-lawful name-lawful (λ view is. word-lawful (codes "AS") refl (word-lawful (codes "SELECT") refl (bind-lawful columns-lawful (λ columns are.
    word-lawful (codes "FROM") refl (bind-lawful name-lawful (λ base is-base. bind-lawful where_conditions-lawful (λ conditions of.
    single-lawful (CreateView view base columns conditions) (λ channel. refl) refl (is, is-base, are, of))))))))

create_dictionary-lawful : IsLawful IsFormed grammar.create_dictionary
unfolding create_dictionary
create_dictionary-lawful =
    bind-lawful name-lawful (λ dictionary is. word-lawful (codes "ON") refl (bind-lawful subject-lawful (λ subject any.
    single-lawful (CreateDictionary dictionary subject) (λ channel. refl) refl is)))

create_user-lawful : IsLawful IsFormed grammar.create_user
unfolding create_user
create_user-lawful =
    bind-lawful name-lawful (λ user is. bind-lawful profile-lawful (λ profile made. bind-lawful given_secret-lawful (λ secret given.
    single-lawful (CreateUser user profile secret) (λ channel. refl) refl (is, given, made))))

create-lawful : IsLawful IsFormed grammar.create
unfolding create
create-lawful =
    after-lawful (codes "TABLE") refl create_table-lawful (after-lawful (codes "VIEW") refl create_view-lawful
    (after-lawful (codes "DICTIONARY") refl create_dictionary-lawful (last-lawful (codes "USER") refl create_user-lawful)))

drop_table-lawful : IsLawful IsFormed grammar.drop_table
unfolding drop_table
drop_table-lawful = bind-lawful name-lawful (λ table is. single-lawful (DropTable table) (λ channel. refl) refl is)

drop_view-lawful : IsLawful IsFormed grammar.drop_view
unfolding drop_view
drop_view-lawful = bind-lawful name-lawful (λ view is. single-lawful (DropView view) (λ channel. refl) refl is)

dropping-lawful : IsLawful IsFormed grammar.dropping
unfolding dropping
dropping-lawful = after-lawful (codes "TABLE") refl drop_table-lawful (last-lawful (codes "VIEW") refl drop_view-lawful)

grant-lawful : IsLawful IsFormed grammar.grant
unfolding grant
grant-lawful =
    bind-lawful privileges-lawful (λ privileges are. word-lawful (codes "ON") refl (bind-lawful name-lawful (λ object is-object. word-lawful (codes "TO") refl
    (bind-lawful name-lawful (λ grantee is. single-lawful (Grant privileges object grantee) (λ channel. refl) refl (are, is-object, is))))))

revoke-lawful : IsLawful IsFormed grammar.revoke
unfolding revoke
revoke-lawful =
    bind-lawful privileges-lawful (λ privileges are. word-lawful (codes "ON") refl (bind-lawful name-lawful (λ object is-object. word-lawful (codes "FROM") refl
    (bind-lawful name-lawful (λ grantee is. single-lawful (Revoke privileges object grantee) (λ channel. refl) refl (are, is-object, is))))))

-- How long a row is isn't looked at yet.
insert-lawful : IsLawful IsFormed grammar.insert
unfolding insert
insert-lawful =
    word-lawful (codes "INTO") refl (bind-lawful name-lawful (λ table is. word-lawful (codes "VALUES") refl (word-lawful (codes "(") refl
    (bind-lawful literals-lawful (λ row are. word-lawful (codes ")") refl (gives-lawful (Single (Insert table row)) (record {
      channels = λ channel. refl;
      unwanted = refl;
      form = λ short. (is, rw (are.count, are.narrow, within (row_size row) short) refl);
    })))))))
  where
    within : (size : ℕ) → nat_lt 1020 size ≡ false → nat_le size 1020 ≡ true
    within size is = le-leb size 1020 (grind (arith, is))

select-lawful : IsLawful IsFormed grammar.select
unfolding select
select-lawful =
    bind-lawful columns-lawful (λ columns are. word-lawful (codes "FROM") refl (bind-lawful name-lawful (λ object is.
    bind-lawful where_conditions-lawful (λ conditions of. gives-lawful (Select object columns conditions) (is, are, of)))))

update-lawful : IsLawful IsFormed grammar.update
unfolding update
update-lawful =
    bind-lawful name-lawful (λ object is. word-lawful (codes "SET") refl (bind-lawful changes-lawful (λ changes are.
    bind-lawful where_conditions-lawful (λ conditions of. gives-lawful (UpdateRows object changes conditions) (is, are, of)))))

delete_rows-lawful : IsLawful IsFormed grammar.delete_rows
unfolding delete_rows
delete_rows-lawful =
    bind-lawful name-lawful (λ object is. bind-lawful where_conditions-lawful (λ conditions of. gives-lawful (DeleteRows object conditions) (is, of)))

delete_user-lawful : IsLawful IsFormed grammar.delete_user
unfolding delete_user
delete_user-lawful = bind-lawful name-lawful (λ user is. single-lawful (DeleteUser user) (λ channel. refl) refl is)

delete-lawful : IsLawful IsFormed grammar.delete
unfolding delete
delete-lawful = after-lawful (codes "FROM") refl delete_rows-lawful (last-lawful (codes "USER") refl delete_user-lawful)

present-lawful : IsLawful IsFormed grammar.present
unfolding present
present-lawful = bind-lawful name-lawful (λ user is. single-lawful (PresentUser user) (λ channel. refl) refl is)

verify-lawful : IsLawful IsFormed grammar.verify
unfolding verify
verify-lawful = bind-lawful presented_secret-lawful (λ secret is. single-lawful (Verify secret) (λ channel. refl) refl is)

open_channel-lawful : IsLawful IsFormed grammar.open_channel
unfolding open_channel
open_channel-lawful = word-lawful (codes "CHANNEL") refl (bind-lawful further_channel-lawful (λ number is. gives-lawful (OpenNumber number) is))

close_channel-lawful : IsLawful IsFormed grammar.close_channel
unfolding close_channel
close_channel-lawful = word-lawful (codes "CHANNEL") refl (bind-lawful further_channel-lawful (λ number is. gives-lawful (CloseNumber number) is))

use_channel-lawful : IsLawful IsFormed grammar.use_channel
unfolding use_channel
use_channel-lawful = bind-lawful channel-lawful (λ number is. gives-lawful (UseNumber number) is)

about_channels-lawful : IsLawful IsFormed grammar.about_channels
unfolding about_channels
about_channels-lawful =
    after-lawful (codes "OPEN") refl open_channel-lawful (after-lawful (codes "CLOSE") refl close_channel-lawful
    (last-lawful (codes "CHANNEL") refl use_channel-lawful))

about_transactions-lawful : IsLawful IsFormed grammar.about_transactions
unfolding about_transactions
about_transactions-lawful =
    after-lawful (codes "BEGIN") refl (single-lawful Begin (λ channel. refl) refl tt)
    (after-lawful (codes "COMMIT") refl (single-lawful Commit (λ channel. refl) refl tt)
    (after-lawful (codes "ROLLBACK") refl (single-lawful Rollback (λ channel. refl) refl tt)
    (after-lawful (codes "RESET") refl (gives-lawful Reset tt) about_channels-lawful)))

about_users-lawful : IsLawful IsFormed grammar.about_users
unfolding about_users
about_users-lawful = after-lawful (codes "PRESENT") refl present-lawful (after-lawful (codes "VERIFY") refl verify-lawful about_transactions-lawful)

about_objects-lawful : IsLawful IsFormed grammar.about_objects
unfolding about_objects
about_objects-lawful =
    after-lawful (codes "CREATE") refl create-lawful (after-lawful (codes "DROP") refl dropping-lawful
    (after-lawful (codes "GRANT") refl grant-lawful (after-lawful (codes "REVOKE") refl revoke-lawful about_users-lawful)))

about_rows-lawful : IsLawful IsFormed grammar.about_rows
unfolding about_rows
about_rows-lawful =
    after-lawful (codes "SELECT") refl select-lawful (after-lawful (codes "UPDATE") refl update-lawful
    (after-lawful (codes "DELETE") refl delete-lawful about_objects-lawful))

pub statement-lawful : IsLawful IsFormed grammar.statement
unfolding statement
statement-lawful = after-lawful (codes "INSERT") refl insert-lawful about_rows-lawful
