-- Worked lines of the terminal: the definitions compute each text.
use Rattle.std.proofs.Common.{◌≡◌, ℕ, List, [], ◌∷◌, ◌++◌, replicate, codes, refl}
use Rattle.std.specs.Fmt.{digits}
use Rattle.hex.proofs.OnLiterals.{hex_on_literals}
use Rattle.hex.specs.Hex.{decode_pairs}
use Rattle.scql_base.specs.Strings.{params_of, pieces_of}
use Rattle.scql_model.specs.Rights.{holds, appears}
use Rattle.scql_model.specs.Objects.{depth_of}
use Rattle.scql_model.specs.Contents.{contents_of}
use Rattle.scql_model.specs.Moves.{move_of}
use Rattle.scql_model.specs.Defining.{object_created, view_created, table_dropped, view_dropped}
use Rattle.scql_model.specs.Granting.{privileges_granted, privileges_revoked}
use Rattle.scql_model.specs.Writing.{row_inserted, row_updated, row_deleted}
use Rattle.scql_model.specs.Users.{user_deleted}
use Rattle.scql_model.specs.Changing.{edits_of}
use Rattle.scql_model.specs.Database.{fresh}
use Rattle.scql_model.specs.Machine.{start}
use Rattle.scql_model.specs.Form.{form_of}
use Rattle.scql_model.specs.Spelling.{part_octets}
use Rattle.scql_model.specs.Step.{step}
use Rattle.script.specs.Tokens.{closed, tokens_from, tokens_of}
use Rattle.script.specs.Reading.{one, optional, the, more, listed}
use Rattle.script.specs.Meanings.{undoubled}
use Rattle.script.specs.Grammar.{with_name, names, columns, with_condition, conditions, where_conditions, with_literal, literals, with_change, changes, with_privilege, privileges, create_table, create_view, create_dictionary, create_user, create, drop_table, drop_view, dropping, grant, revoke, insert, select, update, delete_rows, delete_user, delete, present, verify, open_channel, close_channel, use_channel, about_channels, about_transactions, about_users, about_objects, about_rows, statement, at_end, whole, name, literal}
use Rattle.planner.specs.Meaning.{meaning, answer_to, declared, row_changed}
use Rattle.scql_model.specs.Lines.{line_text, line_step}
use Rattle.scql_base.specs.declared.words.Comparison.TheVariants.{Less}
use Rattle.planner.specs.SelectLines.{IsSelectLine}
use Rattle.planner.specs.StatementLines.{term_text}

-- the text of lines on a fresh card of so many cells, with all operations and all definitions open
unfoldable printed : ℕ → List (List ℕ) → List ℕ
unfolding line_text line_step meaning answer_to declared row_changed step part_octets form_of params_of pieces_of edits_of move_of holds appears contents_of depth_of object_created view_created table_dropped view_dropped privileges_granted privileges_revoked row_inserted row_updated row_deleted user_deleted hex_on_literals digits closed tokens_from tokens_of undoubled one optional the more listed name literal with_name names columns with_condition conditions where_conditions with_literal literals with_change changes with_privilege privileges create_table create_view create_dictionary create_user create drop_table drop_view dropping grant revoke insert select update delete_rows delete_user delete present verify open_channel close_channel use_channel about_channels about_transactions about_users about_objects about_rows statement at_end whole decode_pairs
printed cells lines = term_text (start (fresh cells)) lines

-- a table, a view on it, and a user who sees the view alone
view_selected : printed 64
    (codes "PRESENT OWNER"
    ∷ codes "CREATE TABLE ITEM (NAME, PLACE, QTY)"
    ∷ codes "INSERT INTO ITEM VALUES ('bolt', 'B1', '0040')"
    ∷ codes "INSERT INTO ITEM VALUES ('cap', 'A2', '0007')"
    ∷ codes "INSERT INTO ITEM VALUES ('rod', 'B1', '0003')"
    ∷ codes "INSERT INTO ITEM VALUES ('it''s', 'B1', '0050')"
    ∷ codes "INSERT INTO ITEM VALUES (X'00', 'A2', '0099')"
    ∷ codes "CREATE VIEW B1 AS SELECT NAME, QTY FROM ITEM WHERE PLACE = 'B1' AND QTY >= '0040'"
    ∷ codes "CREATE USER ANN DBBU"
    ∷ codes "GRANT SELECT ON B1 TO ANN"
    ∷ codes "PRESENT ANN"
    ∷ codes "SELECT * FROM B1"
    ∷ codes "SELECT * FROM ITEM"
    ∷ codes "PRESENT OWNER"
    ∷ codes "SELECT NAME FROM ITEM WHERE PLACE = 'A2'"
    ∷ [])
    ≡ codes "ok\nok\nok\nok\nok\nok\nok\nok\nok\nok\nok\n'bolt', '0040'\n'it''s', '0050'\nrows 2\nrefused 6A88\nok\n'cap'\nX'00'\nrows 2\n"
unfolding printed
view_selected = refl

-- UPDATE outside of a transaction changes all rows or none
full_card : printed 16
    (codes "PRESENT OWNER"
    ∷ codes "CREATE TABLE T (A, B)"
    ∷ codes "INSERT INTO T VALUES ('1', '')"
    ∷ codes "INSERT INTO T VALUES ('2', '')"
    ∷ codes "INSERT INTO T VALUES ('3', '')"
    ∷ (codes "UPDATE T SET B = '" ++ replicate 150 98 ++ codes "'")
    ∷ codes "SELECT * FROM T"
    ∷ [])
    ≡ codes "ok\nok\nok\nok\nok\nrefused 6A84\n'1', ''\n'2', ''\n'3', ''\nrows 3\n"
unfolding printed
full_card = refl

-- in a transaction the rows before the one that was refused stay changed, until it is rolled back
inside_transaction : printed 16
    (codes "PRESENT OWNER"
    ∷ codes "CREATE TABLE T (A, B)"
    ∷ codes "INSERT INTO T VALUES ('1', '')"
    ∷ codes "INSERT INTO T VALUES ('2', '')"
    ∷ codes "INSERT INTO T VALUES ('3', '')"
    ∷ codes "BEGIN"
    ∷ (codes "UPDATE T SET B = '" ++ replicate 150 98 ++ codes "'")
    ∷ codes "SELECT A FROM T WHERE B > 'a'"
    ∷ codes "ROLLBACK"
    ∷ codes "SELECT A FROM T WHERE B > 'a'"
    ∷ codes "CHANNEL 1"
    ∷ codes "SELECT * FROM T"
    ∷ [])
    ≡ codes "ok\nok\nok\nok\nok\nok\nrefused 6A84\n'1'\n'2'\nrows 2\nok\nrows 0\nok\nrefused 6881\n"
unfolding printed
inside_transaction = refl

-- rows are changed and deleted by conditions
changed_and_deleted : printed 64
    (codes "PRESENT OWNER"
    ∷ codes "CREATE TABLE LOAD (K, V)"
    ∷ codes "INSERT INTO LOAD VALUES ('0001', '00149')"
    ∷ codes "INSERT INTO LOAD VALUES ('0002', '11249')"
    ∷ codes "INSERT INTO LOAD VALUES ('0003', '57305')"
    ∷ codes "INSERT INTO LOAD VALUES ('0004', '38044')"
    ∷ codes "UPDATE LOAD SET V = '00000' WHERE V < '10000'"
    ∷ codes "DELETE FROM LOAD WHERE V >= '50000'"
    ∷ codes "SELECT * FROM LOAD"
    ∷ [])
    ≡ codes "ok\nok\nok\nok\nok\nok\nrows 1\nrows 1\n'0001', '00000'\n'0002', '11249'\n'0004', '38044'\nrows 3\n"
unfolding printed
changed_and_deleted = refl

-- a dictionary, and a fault
dictionary_selected : printed 64
    (codes "PRESENT OWNER"
    ∷ codes "CREATE TABLE T (A, B)"
    ∷ codes "CREATE DICTIONARY D ON O"
    ∷ codes "SELECT * FROM D"
    ∷ codes "SELECT A B FROM T"
    ∷ [])
    ≡ codes "ok\nok\nok\n'T', 'T', 'OWNER', '', 'A,B'\n'D', 'D', 'OWNER', 'O', 'NAME,KIND,OWNER,BASE,COLS'\nrows 2\nerror at 9\n"
unfolding printed
dictionary_selected = refl

-- an UPDATE in parts, of a row that the card doesn't take
row_too_long : printed 64
    (codes "PRESENT OWNER"
    ∷ codes "CREATE TABLE T (A, B)"
    ∷ codes "INSERT INTO T VALUES ('1', '2')"
    ∷ (codes "UPDATE T SET A = '" ++ replicate 130 97 ++ codes "', B = '" ++ replicate 130 98 ++ codes "'")
    ∷ codes "SELECT * FROM T"
    ∷ [])
    ≡ codes "ok\nok\nok\nrefused 6A80\n'1', '2'\nrows 1\n"
unfolding printed
row_too_long = refl

-- a line of which the law of SELECTs speaks
select_line : IsSelectLine (record { machine = start (fresh 16); channel = 0 }) (codes "SELECT NAME FROM ITEM WHERE QTY < '0010'") (codes "ITEM") (codes "NAME" ∷ [])
    (record { column = codes "QTY"; comparison = Less; value = codes "0010" } ∷ [])
unfolding closed tokens_from tokens_of undoubled one optional the more listed name literal with_name names columns with_condition conditions where_conditions with_literal literals select about_channels about_transactions about_users about_objects about_rows statement at_end whole
select_line = record { octets = codes "SELECT NAME FROM ITEM WHERE QTY < '0010'"; taken = refl; statement = refl; opened = refl }
