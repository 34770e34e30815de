-- What lines are, computed.
use Rattle.std.proofs.Common.{◌≡◌, ℕ, List, [], ◌∷◌, replicate, true, false, Result, Ok, Err, codes, refl}
use Rattle.hex.specs.Hex.{decode_pairs}
use Rattle.scql_base.specs.declared.words.Comparison.TheVariants.{Equal, Greater, NotEqual}
use Rattle.scql_base.specs.declared.condition.Condition.{Condition}
use Rattle.scql_base.specs.declared.operation.Operation.TheVariants.{DropTable, Grant, Insert}
use Rattle.script.specs.declared.fault.ScriptFault.{ScriptFault}
use Rattle.script.specs.declared.fault.ScriptFault.TheVariants.{At}
use Rattle.script.specs.declared.statement.Statement.{Statement}
use Rattle.script.specs.declared.statement.Statement.TheVariants.{Blank, Single, Select, UpdateRows, DeleteRows}
use Rattle.script.specs.Tokens.{closed, tokens_from, tokens_of}
use Rattle.script.specs.Reading.{one, optional, the, more, listed}
use Rattle.script.specs.Meanings.{undoubled}
use Rattle.script.specs.Grammar.{with_name, names, columns, with_condition, conditions, where_conditions, with_literal, literals, with_change, changes, with_privilege, privileges, create_table, create_view, create_dictionary, create_user, create, drop_table, drop_view, dropping, grant, revoke, insert, select, update, delete_rows, delete_user, delete, present, verify, open_channel, close_channel, use_channel, about_channels, about_transactions, about_users, about_objects, about_rows, statement, at_end, whole, name, literal}
use Rattle.script.specs.Sizes.{is_too_large}
use Rattle.script.specs.Line.{statement_of}

-- the statement of a line, with all definitions open
unfoldable read : List ℕ → Result Statement ScriptFault
unfolding closed tokens_from tokens_of undoubled one optional the more listed name literal with_name names columns with_condition conditions where_conditions with_literal literals with_change changes with_privilege privileges create_table create_view create_dictionary create_user create drop_table drop_view dropping grant revoke insert select update delete_rows delete_user delete present verify open_channel close_channel use_channel about_channels about_transactions about_users about_objects about_rows statement at_end whole decode_pairs
read line = statement_of line

-- the line ends where columns may stand
select_alone : read (codes "SELECT") ≡ Err (At 6)
unfolding read
select_alone = refl

-- an unclosed literal begins no token
unclosed : read (codes "INSERT INTO T VALUES ('a") ≡ Err (At 22)
unfolding read
unclosed = refl

-- small letters begin no token
small_letters : read (codes "select * from T") ≡ Err (At 0)
unfolding read
small_letters = refl

-- no statement has a full stop
full_stop : read (codes "SELECT T.A FROM T") ≡ Err (At 8)
unfolding read
full_stop = refl

-- a name that stands a second time
second_name : read (codes "SELECT A, A FROM T") ≡ Err (At 10)
unfolding read
second_name = refl

-- a name behind a name
no_comma : read (codes "SELECT A B FROM T") ≡ Err (At 9)
unfolding read
no_comma = refl

-- the longest literal is a token, and the quote behind it begins none
quote_behind : read (codes "VERIFY 'a''") ≡ Err (At 10)
unfolding read
quote_behind = refl

-- a line that is one ;
only_end : read (codes ";") ≡ Err (At 0)
unfolding read
only_end = refl

-- 01 is no number of a channel
two_digits : read (codes "CHANNEL 01") ≡ Err (At 8)
unfolding read
two_digits = refl

-- < > are two tokens
two_signs : read (codes "DELETE FROM T WHERE A < > '1'") ≡ Err (At 24)
unfolding read
two_signs = refl

-- a name of nine letters
nine_letters : read (codes "DROP TABLE ABCDEFGHI") ≡ Err (At 11)
unfolding read
nine_letters = refl

-- X is a word where its literal has an odd number of digits
odd_digits : read (codes "VERIFY X'1'") ≡ Err (At 7)
unfolding read
odd_digits = refl

-- a line without tokens
empty_line : read (codes " ") ≡ Ok Blank
unfolding read
empty_line = refl

-- a note
note_line : read (codes " # SELECT") ≡ Ok Blank
unfolding read
note_line = refl

-- no word is reserved
table_named_select : read (codes "DROP TABLE SELECT;") ≡ Ok (Single (DropTable (codes "SELECT")))
unfolding read
table_named_select = refl

-- * is all columns
all_columns : read (codes "SELECT*FROM T") ≡ Ok (Select (codes "T") [] [])
unfolding read
all_columns = refl

-- a doubled quote is one, and hexadecimal digits are octets
literals_read : read (codes "INSERT INTO T VALUES ('a''b', X'0fF0')") ≡ Ok (Single (Insert (codes "T") (codes "a'b" ∷ (0x0F ∷ 0xF0 ∷ []) ∷ [])))
unfolding read
literals_read = refl

-- privileges may repeat
privileges_joined : read (codes "GRANT SELECT, UPDATE, SELECT ON T TO ANN") ≡ Ok (Single (Grant 5 (codes "T") (codes "ANN")))
unfolding read
privileges_joined = refl

-- a condition
condition_read : read (codes "DELETE FROM T WHERE A<>'1'") ≡ Ok (DeleteRows (codes "T") (record { column = codes "A"; comparison = NotEqual; value = codes "1" } ∷ []))
unfolding read
condition_read = refl

-- a change
change_read : read (codes "UPDATE T SET A = 'x'") ≡ Ok (UpdateRows (codes "T") ((codes "A", codes "x") ∷ []) [])
unfolding read
change_read = refl

-- two conditions on column A, with values of so many letters a
on_a : ℕ → ℕ → List Condition
on_a n m =
    record { column = codes "A"; comparison = Equal; value = replicate n 97 } ∷
    record { column = codes "A"; comparison = Greater; value = replicate m 97 } ∷ []

-- a data field of 255 octets, and one of 256
fits : is_too_large (Select (codes "T") [] (on_a 120 121)) ≡ false
unfolding on_a
fits = refl

one_more : is_too_large (Select (codes "T") [] (on_a 121 121)) ≡ true
unfolding on_a
one_more = refl

-- an UPDATE of 266 octets goes in parts
in_parts : is_too_large (UpdateRows (codes "T") ((codes "A", replicate 130 97) ∷ (codes "B", replicate 130 98) ∷ []) []) ≡ false
in_parts = refl
