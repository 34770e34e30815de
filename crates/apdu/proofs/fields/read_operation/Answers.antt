-- An operation of a name alone is made of the name that is read.
use Rattle.std.proofs.Common.{◌∙◌}
use Rattle.scql_base.specs.declared.operation.Operation.TheVariants.{DropTable, DropView, PresentUser, DeleteUser}
use Rattle.scql_base.specs.Strings.{params_of}
use Rattle.apdu.proofs.FieldsRead.{named-read}
use Rattle.apdu.proofs.fields.read_operation.Goals as goal

pub returns-in-DropTable : goal.returns-in-DropTable
returns-in-DropTable c = rw c.in-DropTable.is (c.read_drop_table.ensures ∙ named-read DropTable (params_of c.args.field.now.octets.now))

pub returns-in-DropView : goal.returns-in-DropView
returns-in-DropView c = rw c.in-DropView.is (c.read_drop_view.ensures ∙ named-read DropView (params_of c.args.field.now.octets.now))

pub returns-in-PresentUser : goal.returns-in-PresentUser
returns-in-PresentUser c = rw c.in-PresentUser.is (c.read_present_user.ensures ∙ named-read PresentUser (params_of c.args.field.now.octets.now))

pub returns-in-DeleteUser : goal.returns-in-DeleteUser
returns-in-DeleteUser c = rw c.in-DeleteUser.is (c.read_delete_user.ensures ∙ named-read DeleteUser (params_of c.args.field.now.octets.now))
