-- Worked racks: the definitions compute each text.
use Rattle.std.proofs.Common.{◌≡◌, ℕ, ◌==◌, List, [], ◌∷◌, Option, Some, None, codes, refl, if◌then◌else◌}
use Rattle.std.specs.Fmt.{digits}
use Rattle.hex.proofs.OnLiterals.{hex_on_literals}
use Rattle.hex.specs.Hex.{decode_pairs}
use Rattle.scql_base.specs.Strings.{params_of, pieces_of}
use Rattle.scql_model.specs.Rights.{holds, appears}
use Rattle.scql_model.specs.Objects.{depth_of}
use Rattle.scql_model.specs.Contents.{contents_of}
use Rattle.scql_model.specs.Moves.{move_of}
use Rattle.scql_model.specs.Defining.{object_created, view_created, table_dropped, view_dropped}
use Rattle.scql_model.specs.Granting.{privileges_granted, privileges_revoked}
use Rattle.scql_model.specs.Writing.{row_inserted, row_updated, row_deleted}
use Rattle.scql_model.specs.Users.{user_deleted}
use Rattle.scql_model.specs.Changing.{edits_of}
use Rattle.scql_model.specs.Database.{Database, fresh}
use Rattle.scql_model.specs.Machine.{start}
use Rattle.scql_model.specs.Form.{form_of}
use Rattle.scql_model.specs.Spelling.{part_octets}
use Rattle.scql_model.specs.Step.{step}
use Rattle.script.specs.Tokens.{closed, tokens_from, tokens_of}
use Rattle.script.specs.Reading.{one, optional, the, more, listed}
use Rattle.script.specs.Meanings.{undoubled}
use Rattle.script.specs.Grammar.{with_name, names, columns, with_condition, conditions, where_conditions, with_literal, literals, with_change, changes, with_privilege, privileges, create_table, create_view, create_dictionary, create_user, create, drop_table, drop_view, dropping, grant, revoke, insert, select, update, delete_rows, delete_user, delete, present, verify, open_channel, close_channel, use_channel, about_channels, about_transactions, about_users, about_objects, about_rows, statement, at_end, whole, name, literal}
use Rattle.planner.specs.Meaning.{meaning, answer_to, declared, row_changed}
use Rattle.scql_model.specs.Lines.{line_text, line_step, state_after}
use Rattle.planner.specs.StatementLines.{TerminalState, statement_lines}
use Rattle.terminal.specs.Holding.{terminal_at}
use Rattle.reader_rack.specs.declared.statement.RackStatement.{RackStatement}
use Rattle.reader_rack.specs.declared.statement.RackStatement.TheVariants.{Select, Eject}
use Rattle.reader_rack.specs.RackText.{nothing, sits, RackState, Turn, rack_text}
use Rattle.reader_rack.specs.Statements.{rack_statement}

-- what is the rack's own
unfoldable read : List ℕ → Option RackStatement
unfolding tokens_from tokens_of
read line = rack_statement line

selects : read (codes " READER\t4 ") ≡ Some (Select 4)
unfolding read
selects = refl

ejects : read (codes "EJECT 1;") ≡ Some (Eject 1)
unfolding read
ejects = refl

no_number : read (codes "READER") ≡ None
unfolding read
no_number = refl

no_reader_0 : read (codes "READER 0") ≡ None
unfolding read
no_reader_0 = refl

no_reader_5 : read (codes "READER 5") ≡ None
unfolding read
no_reader_5 = refl

no_leading_zero : read (codes "READER 01") ≡ None
unfolding read
no_leading_zero = refl

no_two_ends : read (codes "EJECT 1;;") ≡ None
unfolding read
no_two_ends = refl

no_end_between : read (codes "EJECT ; 1") ≡ None
unfolding read
no_end_between = refl

-- two cards in readers 1 and 2
abbrev two_cards : TerminalState → TerminalState → RackState
two_cards first second = record { reader = λ n. if n == 1 then sits first else if n == 2 then sits second else nothing; current = 1 }

abbrev fresh_card : TerminalState
fresh_card = terminal_at (start (fresh 64)) 0

-- a line in which no card goes mute, and one in which the card does before it printed a row
abbrev sound : List ℕ → Turn
sound line = record { line = Some line; fails = None }

abbrev failing : List ℕ → Turn
failing line = record { line = Some line; fails = Some 0 }

-- what a rack prints, with all definitions open
unfoldable told : RackState → List Turn → List ℕ
unfolding line_text line_step meaning answer_to declared row_changed step part_octets form_of params_of pieces_of edits_of move_of holds appears contents_of depth_of object_created view_created table_dropped view_dropped privileges_granted privileges_revoked row_inserted row_updated row_deleted user_deleted hex_on_literals digits closed tokens_from tokens_of undoubled one optional the more listed name literal with_name names columns with_condition conditions where_conditions with_literal literals with_change changes with_privilege privileges create_table create_view create_dictionary create_user create drop_table drop_view dropping grant revoke insert select update delete_rows delete_user delete present verify open_channel close_channel use_channel about_channels about_transactions about_users about_objects about_rows statement at_end whole decode_pairs
told rack turns = rack_text rack turns

-- a card that fails at its second command, in reader 2
a_card_goes_mute : told (two_cards fresh_card fresh_card)
    (sound (codes "READER 2") ∷ sound (codes "PRESENT OWNER") ∷ failing (codes "BEGIN") ∷ sound (codes "BEGIN") ∷ sound (codes "READER 1") ∷ sound (codes "PRESENT OWNER") ∷ [])
    ≡ codes "ok\nok\ncard mute\nno card\nok\nok\n"
unfolding told
a_card_goes_mute = refl

-- a table, a view of it, and a user who may read the view
abbrev filling : List (List ℕ)
filling =
    codes "PRESENT OWNER" ∷ codes "CREATE TABLE ITEM (NAME, PLACE, QTY)" ∷ codes "INSERT INTO ITEM VALUES ('bolt', 'B1', '0040')"
    ∷ codes "INSERT INTO ITEM VALUES ('cap', 'A2', '0007')" ∷ codes "INSERT INTO ITEM VALUES ('rod', 'B1', '0003')"
    ∷ codes "INSERT INTO ITEM VALUES ('it''s', 'B1', '0050')" ∷ codes "INSERT INTO ITEM VALUES (X'00', 'A2', '0099')"
    ∷ codes "CREATE VIEW B1 AS SELECT NAME, QTY FROM ITEM WHERE PLACE = 'B1' AND QTY >= '0040'" ∷ codes "CREATE USER ANN DBBU"
    ∷ codes "GRANT SELECT ON B1 TO ANN" ∷ []

unfoldable filled_card : Database
unfolding line_text line_step meaning answer_to declared row_changed step part_octets form_of params_of pieces_of edits_of move_of holds appears contents_of depth_of object_created view_created table_dropped view_dropped privileges_granted privileges_revoked row_inserted row_updated row_deleted user_deleted hex_on_literals digits closed tokens_from tokens_of undoubled one optional the more listed name literal with_name names columns with_condition conditions where_conditions with_literal literals with_change changes with_privilege privileges create_table create_view create_dictionary create_user create drop_table drop_view dropping grant revoke insert select update delete_rows delete_user delete present verify open_channel close_channel use_channel about_channels about_transactions about_users about_objects about_rows statement at_end whole decode_pairs
filled_card = (state_after statement_lines fresh_card filling).machine.committed

-- each reader has its card's users and tables
each_reader_answers_for_itself : told (two_cards (terminal_at (start filled_card) 0) fresh_card)
    (sound (codes "PRESENT ANN") ∷ sound (codes "READER 2") ∷ sound (codes "PRESENT ANN") ∷ sound (codes "READER 1") ∷ sound (codes "SELECT QTY FROM B1")
    ∷ sound (codes "EJECT 2") ∷ sound (codes "READER 2") ∷ sound (codes "BEGIN") ∷ sound (codes "EJECT 2") ∷ [])
    ≡ codes "ok\nok\nrefused 6A88\nok\n'0040'\n'0050'\nrows 2\nok\nok\nno card\nno card\n"
unfolding told filled_card
each_reader_answers_for_itself = refl

-- a line that is too long is refused, whatever the reader holds
too_long : told (record { reader = λ n. nothing; current = 3 }) (record { line = None; fails = None } ∷ []) ≡ codes "error line too long\n"
unfolding told
too_long = refl
