-- Worked loads: the definitions compute each number and each text.
use Rattle.std.proofs.Common.{◌≡◌, ℕ, List, codes, refl}
use Rattle.std.specs.Fmt.{digits}
use Rattle.hex.proofs.OnLiterals.{hex_on_literals}
use Rattle.hex.specs.Hex.{decode_pairs}
use Rattle.scql_base.specs.Strings.{params_of, pieces_of}
use Rattle.scql_model.specs.Rights.{holds, appears}
use Rattle.scql_model.specs.Objects.{depth_of}
use Rattle.scql_model.specs.Contents.{contents_of}
use Rattle.scql_model.specs.Moves.{move_of}
use Rattle.scql_model.specs.Defining.{object_created, view_created, table_dropped, view_dropped}
use Rattle.scql_model.specs.Granting.{privileges_granted, privileges_revoked}
use Rattle.scql_model.specs.Writing.{row_inserted, row_updated, row_deleted}
use Rattle.scql_model.specs.Users.{user_deleted}
use Rattle.scql_model.specs.Changing.{edits_of}
use Rattle.scql_model.specs.Database.{Database, fresh}
use Rattle.scql_model.specs.Machine.{start}
use Rattle.scql_model.specs.Form.{form_of}
use Rattle.scql_model.specs.Spelling.{part_octets}
use Rattle.scql_model.specs.Step.{step}
use Rattle.script.specs.Tokens.{closed, tokens_from, tokens_of}
use Rattle.script.specs.Reading.{one, optional, the, more, listed}
use Rattle.script.specs.Meanings.{undoubled}
use Rattle.script.specs.Grammar.{with_name, names, columns, with_condition, conditions, where_conditions, with_literal, literals, with_change, changes, with_privilege, privileges, create_table, create_view, create_dictionary, create_user, create, drop_table, drop_view, dropping, grant, revoke, insert, select, update, delete_rows, delete_user, delete, present, verify, open_channel, close_channel, use_channel, about_channels, about_transactions, about_users, about_objects, about_rows, statement, at_end, whole, name, literal}
use Rattle.planner.specs.Meaning.{meaning, answer_to, declared, row_changed}
use Rattle.scql_model.specs.Lines.{line_text, line_step, state_after}
use Rattle.planner.specs.StatementLines.{statement_lines}
use Rattle.terminal.specs.Holding.{terminal_at}
use Rattle.terminal.specs.Load.{next_number, load_script, load_text}

-- the first four numbers from 1 on
first_number : next_number 1 ≡ 149
first_number = refl

second_number : next_number 149 ≡ 11249
second_number = refl

third_number : next_number 11249 ≡ 57305
third_number = refl

fourth_number : next_number 57305 ≡ 38044
fourth_number = refl

-- the text of a load, and the database after it, with all operations and all definitions open
unfoldable told : Database → ℕ → ℕ → List ℕ
unfolding line_text line_step meaning answer_to declared row_changed step part_octets form_of params_of pieces_of edits_of move_of holds appears contents_of depth_of object_created view_created table_dropped view_dropped privileges_granted privileges_revoked row_inserted row_updated row_deleted user_deleted hex_on_literals digits closed tokens_from tokens_of undoubled one optional the more listed name literal with_name names columns with_condition conditions where_conditions with_literal literals with_change changes with_privilege privileges create_table create_view create_dictionary create_user create drop_table drop_view dropping grant revoke insert select update delete_rows delete_user delete present verify open_channel close_channel use_channel about_channels about_transactions about_users about_objects about_rows statement at_end whole decode_pairs
told db k seed = load_text db k seed

unfoldable loaded : Database → ℕ → ℕ → Database
unfolding line_text line_step meaning answer_to declared row_changed step part_octets form_of params_of pieces_of edits_of move_of holds appears contents_of depth_of object_created view_created table_dropped view_dropped privileges_granted privileges_revoked row_inserted row_updated row_deleted user_deleted hex_on_literals digits closed tokens_from tokens_of undoubled one optional the more listed name literal with_name names columns with_condition conditions where_conditions with_literal literals with_change changes with_privilege privileges create_table create_view create_dictionary create_user create drop_table drop_view dropping grant revoke insert select update delete_rows delete_user delete present verify open_channel close_channel use_channel about_channels about_transactions about_users about_objects about_rows statement at_end whole decode_pairs
loaded db k seed = (state_after statement_lines (terminal_at (start db) 0) (load_script k seed)).machine.committed

-- on a fresh card
first_load : told (fresh 64) 4 1 ≡ codes "load rows 3 changed 1 deleted 1 refused 0\n"
unfolding told
first_load = refl

-- and again: the table is there already
second_load : told (loaded (fresh 64) 4 1) 4 1 ≡ codes "load rows 6 changed 2 deleted 1 refused 1\n"
unfolding told loaded
second_load = refl
