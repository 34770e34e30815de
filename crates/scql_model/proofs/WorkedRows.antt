-- Worked lines, from octets of input to octets of output: the definitions compute them.
use Rattle.std.proofs.Common.{◌≡◌, [], ◌∷◌, replicate, refl, true, false}
use Rattle.std.specs.Prelude.{codes}
use Rattle.hex.proofs.OnLiterals.{hex_on_literals}
use Rattle.scql_base.specs.Strings.{params_of, pieces_of}
use Rattle.scql_model.specs.Database.{fresh}
use Rattle.scql_model.specs.Machine.{Machine, start}
use Rattle.scql_model.specs.Form.{form_of}
use Rattle.scql_model.specs.Step.{step}
use Rattle.scql_model.specs.Changing.{edits_of}
use Rattle.scql_model.specs.Defining.{object_created, table_dropped, view_created, view_dropped}
use Rattle.scql_model.specs.Rights.{appears, holds}
use Rattle.scql_model.specs.Granting.{privileges_granted, privileges_revoked}
use Rattle.scql_model.specs.Writing.{row_inserted, row_updated, row_deleted}
use Rattle.scql_model.specs.Contents.{contents_of}
use Rattle.scql_model.specs.Moves.{move_of}
use Rattle.scql_model.specs.Users.{user_deleted}
use Rattle.scql_model.specs.Lines.{command_lines, lines, line_text, line_step, run_text, state_after}

abbrev card : Machine
card = start (fresh 64)

owner_presented : run_text command_lines card (lines (codes "0014008006054F574E4552\n") true) ≡ codes "9000\n"
unfolding line_text line_step step form_of edits_of params_of pieces_of hex_on_literals
owner_presented = refl

unknown_presented : run_text command_lines card (lines (codes "00140080050444414E41") true) ≡ codes "6A88\n"
unfolding line_text line_step step form_of edits_of params_of pieces_of hex_on_literals
unknown_presented = refl

-- the session stays without a user
unknown_leaves : state_after command_lines card (lines (codes "00140080050444414E41") true) ≡ card
unfolding line_text line_step step form_of edits_of params_of pieces_of hex_on_literals
unknown_leaves = refl

-- a user is created by OWNER, once
owner_creates : run_text command_lines card (lines (codes "0014008006054F574E4552\n001400810703414E4E010300\n001400810703414E4E010300\n") true) ≡ codes "9000\n9000\n6A89\n"
unfolding line_text line_step step form_of edits_of params_of pieces_of hex_on_literals
owner_creates = refl

-- nobody is presented, and nothing is made
nobody_creates : run_text command_lines card (lines (codes "00140080050444414E41\n001400810703414E4E010300\n") true) ≡ codes "6A88\n6982\n"
unfolding line_text line_step step form_of edits_of params_of pieces_of hex_on_literals
nobody_creates = refl

-- a profile of OWNER's, no octet of a profile, nobody who makes a user, too few parameters and too many
wrong_creations : run_text command_lines card (lines (codes "001400810703414E4E010100\n0014008106 03414E4E0000\n001400810B03424F4201030431323334\n001400810603414E4E0103\n001400810803414E4E01030000\n0014008100\n") true)
    ≡ codes "6A80\n6A80\n6982\n6A80\n6A80\n6700\n"
unfolding line_text line_step step form_of edits_of params_of pieces_of hex_on_literals
wrong_creations = refl

-- a reset leaves what was committed, and nobody is presented; blanks stand anywhere, and letters are small
resets : run_text command_lines card (lines (codes "0014008006054F574E4552\n001400810703414E4E010300\n re set\n001400810703424F42010300\n0014008003 03414E4E0\nRESET\n") true)
    ≡ codes "9000\n9000\nreset\n6982\nnot hexadecimal\nnot hexadecimal\n"
unfolding line_text line_step step form_of edits_of params_of pieces_of hex_on_literals
resets = refl

-- each refusal of the reading, in its order, and the four cases
refusals : run_text command_lines card (lines (codes "001400\n80140080\n04140080\n00FF0080\n01140080\n0014008F\n10140080\n10140080020154\n00140080\n0014008000\n00140080000154\n0014008002054F\n001400800200\n0014008002014F\n001400800401410142\n") true)
    ≡ codes "6700\n6E00\n6882\n6D00\n6881\n6A86\n6700\n6884\n6700\n6700\n6700\n6A80\n6700\n6A88\n6A80\n"
unfolding line_text line_step step form_of edits_of params_of pieces_of hex_on_literals
refusals = refl

-- without a cursor
nothing_yet : run_text command_lines card (lines (codes "00100088\n00C0000000\n") true) ≡ codes "6985\n6985\n"
unfolding line_text line_step step form_of edits_of move_of params_of pieces_of hex_on_literals
nothing_yet = refl

-- what is no operation
no_operation : run_text command_lines card (lines (codes "0010008F\n00120083\n00160000\n") true) ≡ codes "6A86\n6A86\n6D00\n"
unfolding line_text line_step step form_of edits_of params_of pieces_of hex_on_literals
no_operation = refl

-- one transaction at a time: other channels wait, and nobody is presented meanwhile
one_transaction : run_text command_lines card (lines (codes "0014008006054F574E4552\n0010008006015401410142\n0070000001\n00120080\n0010008C050154017900\n0114008006054F574E4552\n01120080\n00120080\n00708000\n00120081\n00120081\n00120082\n") true)
    ≡ codes "9000\n9000\n019000\n9000\n9000\n6985\n6985\n6985\n6A86\n9000\n6985\n6985\n"
unfolding line_text line_step step form_of edits_of move_of contents_of object_created table_dropped row_inserted row_updated row_deleted user_deleted privileges_granted privileges_revoked appears holds params_of pieces_of hex_on_literals
one_transaction = refl

-- nobody makes or drops a view or a dictionary
nobody_shows : run_text command_lines card (lines (codes "00100081080156015401010141\n00100082040154014F\n00100084020156\n") true) ≡ codes "6982\n6982\n6A88\n"
unfolding line_text line_step step form_of edits_of view_created object_created view_dropped appears holds params_of pieces_of hex_on_literals
nobody_shows = refl

-- a table is made once, and dropped once; nothing is dropped without a data field
table_made : run_text command_lines card (lines (codes "0014008006054F574E4552\n00100080040154 0141\n00100080040154 0141\n00100083\n00100083020154\n00100083020154\n") true) ≡ codes "9000\n9000\n6A89\n6700\n9000\n6A88\n"
unfolding line_text line_step step form_of edits_of object_created table_dropped appears holds params_of pieces_of hex_on_literals
table_made = refl

-- a row has as many values as its table has columns
row_inserted_once : run_text command_lines card (lines (codes "0014008006054F574E4552\n00100080040154 0141\n0010008C0401540178\n0010008C06015401780179\n0010008C0401550178\n") true) ≡ codes "9000\n9000\n9000\n6A80\n6A88\n"
unfolding line_text line_step step form_of edits_of object_created row_inserted appears holds params_of pieces_of hex_on_literals
row_inserted_once = refl

-- and may come in parts
parts_taken : run_text command_lines card (lines (codes "0014008006054F574E4552\n0010008006015401410142\n1010008C03015401\n0010008C0378017A\n") true) ≡ codes "9000\n9000\n9000\n9000\n"
unfolding line_text line_step step form_of edits_of object_created row_inserted appears holds params_of pieces_of hex_on_literals
parts_taken = refl

-- a row is read, with Le too small, and to its end
row_fetched : run_text command_lines card (lines (codes "0014008006054F574E4552\n0010008006015401410142\n0010008C050154017800\n001000870401540100\n00100088\n0010008A00\n0010008A02\n0010008A03\n0010008B00\n0010008B00\n0010008A00\n") true) ≡ codes "9000\n9000\n9000\n9000\n9000\n0178009000\n6C03\n0178009000\n6282\n6282\n6282\n"
unfolding line_text line_step step form_of edits_of move_of contents_of object_created table_dropped row_inserted row_updated row_deleted privileges_granted privileges_revoked appears holds params_of pieces_of hex_on_literals
row_fetched = refl

-- an empty table, and a cursor that isn't opened
nothing_to_read : run_text command_lines card (lines (codes "0014008006054F574E4552\n0010008006015401410142\n0010008A00\n001000870401540100\n0010008A00\n00100089\n00100088\n0010008A00\n") true) ≡ codes "9000\n9000\n6985\n9000\n6985\n6985\n6282\n6282\n"
unfolding line_text line_step step form_of edits_of move_of contents_of object_created table_dropped row_inserted row_updated row_deleted privileges_granted privileges_revoked appears holds params_of pieces_of hex_on_literals
nothing_to_read = refl

-- OWNER, table T with the rows (x, empty) and (y, empty), and a cursor at the first
abbrev two_rows : Machine
two_rows = state_after command_lines card (lines (codes "0014008006054F574E4552\n0010008006015401410142\n0010008C050154017800\n0010008C050154017900\n001000870401540100\n00100088\n") true)

-- a row is changed where it stands, and then deleted
row_changed : run_text command_lines two_rows (lines (codes "0010008D0401410177\n0010008A00\n0010008D0401430177\n00100089\n0010008A00\n0010008E\n0010008A00\n00100088\n0010008A00\n") true) ≡ codes "9000\n0177009000\n6A88\n9000\n0179009000\n9000\n6A83\n9000\n0177009000\n"
unfolding line_text line_step step form_of edits_of move_of contents_of object_created table_dropped row_inserted row_updated row_deleted privileges_granted privileges_revoked appears holds params_of pieces_of hex_on_literals
row_changed = refl

-- another channel deletes the row of a cursor, then drops its table
row_deleted_elsewhere : run_text command_lines two_rows (lines (codes "0070000001\n0114008006054F574E4552\n011000870401540100\n01100088\n0110008E\n0010008A00\n00100089\n0010008A00\n01100083020154\n0110008006015401410142\n0010008A00\n") true) ≡ codes "019000\n9000\n9000\n9000\n9000\n6A83\n9000\n0179009000\n9000\n9000\n6A88\n"
unfolding line_text line_step step form_of edits_of move_of contents_of object_created table_dropped row_inserted row_updated row_deleted privileges_granted privileges_revoked appears holds params_of pieces_of hex_on_literals
row_deleted_elsewhere = refl

-- a privilege is given and taken, and a user deleted, whose session is nobody's then
user_reads : run_text command_lines two_rows (lines (codes "001400810703414E4E010300\n00100085080101015403414E4E\n0070000001\n011400800403414E4E\n011000870401540100\n01100088\n0110008A00\n0110008E\n00100086080101015403414E4E\n0110008A00\n001400820403414E4E\n0110008A00\n001400820403414E4E\n") true) ≡ codes "9000\n9000\n019000\n9000\n9000\n9000\n0178009000\n6982\n9000\n6A88\n9000\n6985\n6A88\n"
unfolding line_text line_step step form_of edits_of move_of contents_of object_created table_dropped row_inserted row_updated row_deleted user_deleted privileges_granted privileges_revoked appears holds params_of pieces_of hex_on_literals
user_reads = refl

-- a secret has four octets at least; OWNER has none to show
short_secret : run_text command_lines card (lines (codes "0014008006054F574E4552\n001400810A03424F42010303313233\n0020000003313233\n") true) ≡ codes "9000\n6A80\n6985\n"
unfolding line_text line_step step form_of edits_of move_of contents_of object_created table_dropped row_inserted row_updated row_deleted user_deleted privileges_granted privileges_revoked appears holds params_of pieces_of hex_on_literals
short_secret = refl

-- three wrong secrets block the user
secret_blocked : run_text command_lines card (lines (codes "0014008006054F574E4552\n001400810B03424F4201030431323334\n001400800403424F42\n002000000430303030\n002000000430303030\n002000000430303030\n002000000431323334\n") true) ≡ codes "9000\n9000\n9000\n63C2\n63C1\n63C0\n6983\n"
unfolding line_text line_step step form_of edits_of move_of contents_of object_created table_dropped row_inserted row_updated row_deleted user_deleted privileges_granted privileges_revoked appears holds params_of pieces_of hex_on_literals
secret_blocked = refl

-- the right one gives all tries back, and is asked once
secret_shown : run_text command_lines card (lines (codes "0014008006054F574E4552\n001400810B03424F4201030431323334\n001400800403424F42\n002000000430303030\n002000000431323334\n002000000431323334\n001400800403424F42\n002000000430303030\n") true) ≡ codes "9000\n9000\n9000\n63C2\n9000\n6985\n9000\n63C2\n"
unfolding line_text line_step step form_of edits_of move_of contents_of object_created table_dropped row_inserted row_updated row_deleted user_deleted privileges_granted privileges_revoked appears holds params_of pieces_of hex_on_literals
secret_shown = refl

-- Channels: the least that is closed is opened and its number answered, a named one is opened once; a channel closes another, or itself, and channel 0 stays open.
channels_opened : run_text command_lines card (lines (codes "0070000001\n00700002\n00700002\n0070000001\n0070000001\n00708002\n00708002\n01708000\n00708000\n") true) ≡ codes "019000\n9000\n6985\n039000\n6A81\n9000\n6881\n9000\n6A86\n"
unfolding line_text line_step step form_of edits_of params_of pieces_of hex_on_literals
channels_opened = refl

-- each has a user of its own, who goes when it is closed
channel_users : run_text command_lines card (lines (codes "0070000001\n0114008006054F574E4552\n0110008006015401410142\n0010008C050154017800\n01708000\n00700001\n0110008006015501410142\n") true) ≡ codes "019000\n9000\n9000\n6A88\n9000\n9000\n6982\n"
unfolding line_text line_step step form_of edits_of object_created row_inserted appears holds params_of pieces_of hex_on_literals
channel_users = refl

-- what isn't hexadecimal, a reset, blanks, notes and empty lines
odd_lines : run_text command_lines card (lines (codes "zz\n0\nreset\n\n# note\n 00 10 00 \n") true) ≡ codes "not hexadecimal\nnot hexadecimal\nreset\n6700\n"
unfolding line_text line_step step form_of edits_of params_of pieces_of hex_on_literals
odd_lines = refl

long_line : run_text command_lines card (lines (replicate 1001 0x30) true) ≡ codes "line too long\n"
unfolding line_text line_step
long_line = refl

-- the last piece is a line where the input has ended
open_end : lines (codes "a\nb") false ≡ codes "a" ∷ []
open_end = refl
