-- The changes of a database, as the model's edits.
use Rattle.std.specs.Prelude.{[], ◌∷◌, ◌++◌, List, Result, Ok, Err}
use Rattle.scql_base.specs.declared.words.StatusWord.{StatusWord}
use Rattle.scql_model.specs.Database.{Database}
use Rattle.scql_model.specs.Defining.{removing_object, removing_rows}
use Rattle.scql_model.specs.Edits.{Edit, changing, making, of_grant, of_object, of_row, of_user, removing}
use Rattle.scql_model.specs.Users.{removing_user}
use Rattle.plain_database.specs.declared.change.Change.{Change}
use Rattle.plain_database.specs.declared.change.Change.TheVariants.{AddUser, AddObject, AddGrant, AddRow, ChangeGrant, ChangeRow, RemoveUser, RemoveObject, RemoveTable, RemoveGrant, RemoveRow}

-- the edits that a change is
abbrev pub edits_for : Database → Change → List Edit
edits_for db (AddUser user) = making db (of_user user)
edits_for db (AddObject object) = making db (of_object object)
edits_for db (AddGrant grant) = making db (of_grant grant)
edits_for db (AddRow row) = making db (of_row row)
edits_for db (ChangeGrant grant) = changing (of_grant grant) ∷ []
edits_for db (ChangeRow row) = changing (of_row row) ∷ []
edits_for db (RemoveUser user) = removing_user db user
edits_for db (RemoveObject object) = removing_object db object
edits_for db (RemoveTable table) = removing_object db table ++ removing_rows db table
edits_for db (RemoveGrant grant) = removing (of_grant grant) ∷ []
edits_for db (RemoveRow row) = removing (of_row row) ∷ []

-- those of the change that a command asks for, or the word that it is refused with
abbrev pub edits_decided : Database → Result Change StatusWord → Result (List Edit) StatusWord
edits_decided db (Ok change) = Ok (edits_for db change)
edits_decided db (Err word) = Err word
