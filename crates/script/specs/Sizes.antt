-- Which statements are too large for their commands.
use Rattle.std.specs.Prelude.{nat_lt, not, Bool, false, ◌||◌, [], None}
use Rattle.scql_base.specs.declared.operation.Operation.{Operation}
use Rattle.scql_base.specs.declared.operation.Operation.TheVariants.{DeclareCursor, Insert, Update}
use Rattle.scql_base.specs.declared.row.TheConstants.Row.{LARGEST}
use Rattle.scql_base.specs.Row.{row_size}
use Rattle.scql_model.specs.Spelling.{fits}
use Rattle.script.specs.declared.statement.Statement.{Statement}
use Rattle.script.specs.declared.statement.Statement.TheVariants.{Single, Select, UpdateRows, DeleteRows}

-- a row of an INSERT has more octets than any table takes
abbrev pub has_long_row : Operation → Bool
has_long_row (Insert table row) = nat_lt LARGEST (row_size row)
has_long_row operation = false

-- the operation's command doesn't fit, on whichever channel
abbrev pub is_operation_too_large : Operation → Bool
is_operation_too_large operation = has_long_row operation || not (fits (record { channel = 0; operation = operation; le = None }))

-- What a statement needs of commands with data: its operation, or a cursor over the rows that it is about, which is one of all columns
-- where rows are changed, and the changes. No other command of a statement has a data field.
abbrev pub is_too_large : Statement → Bool
is_too_large (Single operation) = is_operation_too_large operation
is_too_large (Select object columns conditions) = is_operation_too_large (DeclareCursor object columns conditions)
is_too_large (UpdateRows object changes conditions) = is_operation_too_large (DeclareCursor object [] conditions) || is_operation_too_large (Update changes)
is_too_large (DeleteRows object conditions) = is_operation_too_large (DeclareCursor object [] conditions)
is_too_large statement = false
