-- Worked lines over the whole machine, with all operations: the definitions compute each answer.
use Rattle.std.proofs.Common.{◌≡◌, ℕ, ◌*◌, List, [], ◌∷◌, ◌++◌, take, drop, replicate, Result, Ok, Err, refl}
use Rattle.std.specs.Prelude.{codes}
use Rattle.hex.specs.Hex.{decode_of, encode_upper}
use Rattle.hex.proofs.OnLiterals.{hex_on_literals}
use Rattle.scql_base.specs.Strings.{params_of, pieces_of}
use Rattle.scql_model.specs.Replies.{Reply}
use Rattle.scql_model.specs.Rights.{holds, appears}
use Rattle.scql_model.specs.Objects.{depth_of}
use Rattle.scql_model.specs.Contents.{contents_of}
use Rattle.scql_model.specs.Moves.{move_of}
use Rattle.scql_model.specs.Defining.{object_created, view_created, table_dropped, view_dropped}
use Rattle.scql_model.specs.Granting.{privileges_granted, privileges_revoked}
use Rattle.scql_model.specs.Writing.{row_inserted, row_updated, row_deleted}
use Rattle.scql_model.specs.Users.{user_deleted}
use Rattle.scql_model.specs.Changing.{edits_of}
use Rattle.scql_model.specs.Database.{fresh}
use Rattle.scql_model.specs.Machine.{Machine, start}
use Rattle.scql_model.specs.Form.{form_of}
use Rattle.scql_model.specs.Step.{Answer, step}
use Rattle.scql_model.specs.Lines.{reply_octets}

-- octets from hexadecimal digits
abbrev pub digits_of : {E : Type 0} → Result (List ℕ) E → List ℕ
digits_of (Ok octets) = octets
digits_of (Err e) = []

unfoldable pub hexadecimal : List ℕ → List ℕ
unfolding hex_on_literals
hexadecimal digits = digits_of (decode_of digits)

-- a step with all operations and all definitions open
unfoldable pub opened : Machine → List ℕ → Answer
unfolding step form_of params_of pieces_of edits_of move_of holds appears contents_of depth_of object_created view_created table_dropped view_dropped privileges_granted privileges_revoked row_inserted row_updated row_deleted user_deleted
opened m octets = step m octets

-- the answers to commands, each in hexadecimal digits and a line of its own; and the machine after them
abbrev answers : Machine → List (List ℕ) → List ℕ
answers m [] = []
answers m (octets ∷ commands) = encode_upper (reply_octets (opened m octets).reply) ++ codes "\n" ++ answers (opened m octets).machine commands

abbrev pub after : Machine → List (List ℕ) → Machine
after m [] = m
after m (octets ∷ commands) = after (opened m octets).machine commands

abbrev pub card : Machine
card = start (fresh 64)

-- a fresh card with OWNER presented
abbrev pub owner_card : Machine
owner_card = after card (hexadecimal (codes "0014008006054F574E4552") ∷ [])

-- and with table T of columns A and B
abbrev pub with_table : Machine
with_table = after owner_card (hexadecimal (codes "0010008006015401410142") ∷ [])

-- and with row (x, empty) in it
abbrev pub with_row : Machine
with_row = after with_table (hexadecimal (codes "0010008C050154017800") ∷ [])

-- OWNER is presented
user_presented : answers card (hexadecimal (codes "0014008006054F574E4552") ∷ [])
    ≡ codes "9000\n"
unfolding opened hexadecimal
user_presented = refl

-- a user who is unknown leaves nobody, who makes nothing
unknown_presented : answers card (hexadecimal (codes "00140080050444414E41") ∷ hexadecimal (codes "001400810703414E4E010300") ∷ [])
    ≡ codes "6A88\n6982\n"
unfolding opened hexadecimal
unknown_presented = refl

-- a user is made once
user_created : answers owner_card (hexadecimal (codes "001400810703414E4E010300") ∷ hexadecimal (codes "001400810703414E4E010300") ∷ [])
    ≡ codes "9000\n6A89\n"
unfolding opened hexadecimal
user_created = refl

-- refusals of the reading, and a cursor that is not there
reading_refusals : answers card (hexadecimal (codes "001000") ∷ hexadecimal (codes "80100088") ∷ hexadecimal (codes "04100088") ∷ hexadecimal (codes "10100088") ∷ hexadecimal (codes "00FF0000") ∷ hexadecimal (codes "01100088") ∷ hexadecimal (codes "0010008F") ∷ hexadecimal (codes "0010008A") ∷ hexadecimal (codes "00100080000154") ∷ hexadecimal (codes "00100088") ∷ [])
    ≡ codes "6700\n6E00\n6882\n6700\n6D00\n6881\n6A86\n6700\n6700\n6985\n"
unfolding opened hexadecimal
reading_refusals = refl

-- a wrong length, and a table
table_created : answers owner_card (hexadecimal (codes "001000800601540141") ∷ hexadecimal (codes "0010008006015401410142") ∷ [])
    ≡ codes "6700\n9000\n"
unfolding opened hexadecimal
table_created = refl

-- nobody makes tables
table_refused : answers card (hexadecimal (codes "0010008006015401410142") ∷ [])
    ≡ codes "6982\n"
unfolding opened hexadecimal
table_refused = refl

-- a row is written and read, with Le too small, and to its end
row_fetched : answers with_table (hexadecimal (codes "0010008C050154017800") ∷ hexadecimal (codes "001000870401540100") ∷ hexadecimal (codes "00100088") ∷ hexadecimal (codes "0010008A00") ∷ hexadecimal (codes "0010008A02") ∷ hexadecimal (codes "0010008A03") ∷ hexadecimal (codes "0010008B00") ∷ hexadecimal (codes "0010008B00") ∷ hexadecimal (codes "0010008A00") ∷ [])
    ≡ codes "9000\n9000\n9000\n0178009000\n6C03\n0178009000\n6282\n6282\n6282\n"
unfolding opened hexadecimal
row_fetched = refl

-- an empty table
nothing_to_read : answers with_table (hexadecimal (codes "001000870401540100") ∷ hexadecimal (codes "00100088") ∷ [])
    ≡ codes "9000\n6282\n"
unfolding opened hexadecimal
nothing_to_read = refl

-- a fresh card with table W of columns A and B
abbrev with_wide : Machine
with_wide = after owner_card (hexadecimal (codes "0010008006015701410142") ∷ [])

-- a row of 240 octets
row_of_240 : answers with_wide ((hexadecimal (codes "0010008CF20157C8") ++ replicate 200 0x61 ++ 0x26 ∷ replicate 38 0x62) ∷ [])
    ≡ codes "9000\n"
unfolding opened hexadecimal
row_of_240 = refl

-- one of 241 has not the form
row_of_241 : answers with_wide ((hexadecimal (codes "0010008CF30157C8") ++ replicate 200 0x61 ++ 0x27 ∷ replicate 39 0x62) ∷ [])
    ≡ codes "6A80\n"
unfolding opened hexadecimal
row_of_241 = refl

-- a card of 16 cells with OWNER presented and table T
abbrev small_card : Machine
small_card = after (start (fresh 16)) (hexadecimal (codes "0014008006054F574E4552") ∷ hexadecimal (codes "0010008006015401410142") ∷ [])

-- thirteen rows fit, and one more after one is deleted
card_filled : answers small_card (hexadecimal (codes "0010008C050154017800") ∷ hexadecimal (codes "0010008C050154017800") ∷ hexadecimal (codes "0010008C050154017800") ∷ hexadecimal (codes "0010008C050154017800") ∷ hexadecimal (codes "0010008C050154017800") ∷ hexadecimal (codes "0010008C050154017800") ∷ hexadecimal (codes "0010008C050154017800") ∷ hexadecimal (codes "0010008C050154017800") ∷ hexadecimal (codes "0010008C050154017800") ∷ hexadecimal (codes "0010008C050154017800") ∷ hexadecimal (codes "0010008C050154017800") ∷ hexadecimal (codes "0010008C050154017800") ∷ hexadecimal (codes "0010008C050154017800") ∷ hexadecimal (codes "0010008C050154017800") ∷ hexadecimal (codes "001000870401540100") ∷ hexadecimal (codes "00100088") ∷ hexadecimal (codes "0010008E") ∷ hexadecimal (codes "0010008C050154017800") ∷ [])
    ≡ codes "9000\n9000\n9000\n9000\n9000\n9000\n9000\n9000\n9000\n9000\n9000\n9000\n9000\n6A84\n9000\n9000\n9000\n9000\n"
unfolding opened hexadecimal
card_filled = refl

-- two rows (x, empty) and (y, empty), and a cursor of channel 0 at the first
abbrev two_rows : Machine
two_rows = after with_row (hexadecimal (codes "0010008C050154017900") ∷ hexadecimal (codes "001000870401540100") ∷ hexadecimal (codes "00100088") ∷ [])

-- another channel deletes the row of a cursor, then drops its table; a table with a view stays
row_deleted_elsewhere : answers two_rows (hexadecimal (codes "0070000001") ∷ hexadecimal (codes "0114008006054F574E4552") ∷ hexadecimal (codes "011000870401540100") ∷ hexadecimal (codes "01100088") ∷ hexadecimal (codes "0110008E") ∷ hexadecimal (codes "0010008A00") ∷ hexadecimal (codes "00100089") ∷ hexadecimal (codes "0010008A00") ∷ hexadecimal (codes "01100083020154") ∷ hexadecimal (codes "0110008006015401410142") ∷ hexadecimal (codes "0010008A00") ∷ hexadecimal (codes "01100081080156015401010141") ∷ hexadecimal (codes "01100083020154") ∷ [])
    ≡ codes "019000\n9000\n9000\n9000\n9000\n6A83\n9000\n0179009000\n9000\n9000\n6A88\n9000\n6985\n"
unfolding opened hexadecimal
row_deleted_elsewhere = refl

-- row (x, empty), and OWNER on channels 0 and 1
abbrev two_channels : Machine
two_channels = after with_row (hexadecimal (codes "0070000001") ∷ hexadecimal (codes "0114008006054F574E4552") ∷ [])

-- what a transaction writes is read elsewhere once it is committed
transaction : answers two_channels (hexadecimal (codes "00120080") ∷ hexadecimal (codes "0010008C050154017900") ∷ hexadecimal (codes "011000870401540100") ∷ hexadecimal (codes "01100088") ∷ hexadecimal (codes "0110008B00") ∷ hexadecimal (codes "0110008C050154017A00") ∷ hexadecimal (codes "00120081") ∷ hexadecimal (codes "0110008B00") ∷ hexadecimal (codes "01100088") ∷ hexadecimal (codes "0110008B00") ∷ [])
    ≡ codes "9000\n9000\n9000\n9000\n6282\n6985\n9000\n6282\n9000\n0179009000\n"
unfolding opened hexadecimal
transaction = refl

-- row (x, s), user ANN, view V of column A, and SELECT on V granted to ANN
abbrev view_card : Machine
view_card = after owner_card (hexadecimal (codes "0010008006015401410142") ∷ hexadecimal (codes "0010008C06015401780173") ∷ hexadecimal (codes "001400810703414E4E010300") ∷ hexadecimal (codes "00100081080156015401010141") ∷ hexadecimal (codes "00100085080101015603414E4E") ∷ [])

-- the same with t in place of s
abbrev other_card : Machine
other_card = after owner_card (hexadecimal (codes "0010008006015401410142") ∷ hexadecimal (codes "0010008C06015401780174") ∷ hexadecimal (codes "001400810703414E4E010300") ∷ hexadecimal (codes "00100081080156015401010141") ∷ hexadecimal (codes "00100085080101015603414E4E") ∷ [])

-- the user reads through the view, and no more
view_read : answers view_card (hexadecimal (codes "001400800403414E4E") ∷ hexadecimal (codes "0010008706015601010142") ∷ hexadecimal (codes "001000870401540100") ∷ hexadecimal (codes "0010008704015A0100") ∷ hexadecimal (codes "001000870401560100") ∷ hexadecimal (codes "00100088") ∷ hexadecimal (codes "0010008A00") ∷ [])
    ≡ codes "9000\n6A88\n6A88\n6A88\n9000\n9000\n01789000\n"
unfolding opened hexadecimal
view_read = refl

-- what the view hides tells nothing
view_read_alike : answers other_card (hexadecimal (codes "001400800403414E4E") ∷ hexadecimal (codes "0010008706015601010142") ∷ hexadecimal (codes "001000870401540100") ∷ hexadecimal (codes "0010008704015A0100") ∷ hexadecimal (codes "001000870401560100") ∷ hexadecimal (codes "00100088") ∷ hexadecimal (codes "0010008A00") ∷ [])
    ≡ codes "9000\n6A88\n6A88\n6A88\n9000\n9000\n01789000\n"
unfolding opened hexadecimal
view_read_alike = refl

-- row (x, empty), and user ANN
abbrev after_users : Machine
after_users = after with_row (hexadecimal (codes "001400810703414E4E010300") ∷ [])

-- a privilege is given and taken, and a user deleted
grants : answers after_users (hexadecimal (codes "00100085080101015403414E4E") ∷ hexadecimal (codes "001400800403414E4E") ∷ hexadecimal (codes "001000870401540100") ∷ hexadecimal (codes "0010008C050154017900") ∷ hexadecimal (codes "00100083020154") ∷ hexadecimal (codes "0014008006054F574E4552") ∷ hexadecimal (codes "00100086080101015403414E4E") ∷ hexadecimal (codes "00100086080101015403414E4E") ∷ hexadecimal (codes "001400820403414E4E") ∷ hexadecimal (codes "001400820403414E4E") ∷ [])
    ≡ codes "9000\n9000\n9000\n6982\n6982\n9000\n9000\n6A88\n9000\n6A88\n"
unfolding opened hexadecimal
grants = refl

-- and with user BOB, whose secret is 1234
abbrev pub with_bob : Machine
with_bob = after owner_card (hexadecimal (codes "001400810B03424F4201030431323334") ∷ [])

user_with_a_secret : answers owner_card (hexadecimal (codes "001400810B03424F4201030431323334") ∷ []) ≡ codes "9000\n"
unfolding opened hexadecimal
user_with_a_secret = refl

-- three wrong secrets block the user
secret_blocked : answers with_bob (hexadecimal (codes "001400800403424F42") ∷ hexadecimal (codes "002000000430303030") ∷ hexadecimal (codes "002000000430303030") ∷ hexadecimal (codes "002000000430303030") ∷ hexadecimal (codes "002000000431323334") ∷ [])
    ≡ codes "9000\n63C2\n63C1\n63C0\n6983\n"
unfolding opened hexadecimal
secret_blocked = refl

-- the right one gives all tries back, and is asked once
secret_shown : answers with_bob (hexadecimal (codes "001400800403424F42") ∷ hexadecimal (codes "002000000430303030") ∷ hexadecimal (codes "002000000431323334") ∷ hexadecimal (codes "002000000431323334") ∷ hexadecimal (codes "001400800403424F42") ∷ hexadecimal (codes "002000000430303030") ∷ [])
    ≡ codes "9000\n63C2\n9000\n6985\n9000\n63C2\n"
unfolding opened hexadecimal
secret_shown = refl

-- channels are opened and closed
channels : answers card (hexadecimal (codes "0070000001") ∷ hexadecimal (codes "00700002") ∷ hexadecimal (codes "00700002") ∷ hexadecimal (codes "0070000001") ∷ hexadecimal (codes "0070000001") ∷ hexadecimal (codes "00708002") ∷ hexadecimal (codes "00708002") ∷ hexadecimal (codes "01708000") ∷ hexadecimal (codes "00708000") ∷ [])
    ≡ codes "019000\n9000\n6985\n039000\n6A81\n9000\n6881\n9000\n6A86\n"
unfolding opened hexadecimal
channels = refl

-- views over views, to depth four
views_over_views : answers owner_card (hexadecimal (codes "0010008006015401410142") ∷ hexadecimal (codes "0010008C06015401310178") ∷ hexadecimal (codes "0010008C06015401320178") ∷ hexadecimal (codes "001000811102563101540102014101420142013D0178") ∷ hexadecimal (codes "0010008110025632025631010101410141013E0131") ∷ hexadecimal (codes "00100087050256320100") ∷ hexadecimal (codes "00100088") ∷ hexadecimal (codes "0010008B00") ∷ hexadecimal (codes "00100088") ∷ hexadecimal (codes "0010008A00") ∷ hexadecimal (codes "001000810A02563302563201010142") ∷ hexadecimal (codes "0010008403025631") ∷ hexadecimal (codes "001000810A02563302563201010141") ∷ hexadecimal (codes "001000810A02563402563301010141") ∷ hexadecimal (codes "001000810A02563502563401010141") ∷ [])
    ≡ codes "9000\n9000\n9000\n9000\n9000\n9000\n9000\n6282\n9000\n01329000\n6A88\n6985\n9000\n9000\n6985\n"
unfolding opened hexadecimal
views_over_views = refl

-- a card whose rows may have 1,020 octets, and one that isn't migrated, each with OWNER presented and table W of six columns
abbrev wide_table : List (List ℕ)
wide_table = hexadecimal (codes "0014008006054F574E4552") ∷ hexadecimal (codes "001000800E0157014101420143014401450146") ∷ []

abbrev longer_card : Machine
longer_card = after (start (record (fresh 64) { limit = 1020 })) wide_table

abbrev shorter_card : Machine
shorter_card = after (start (fresh 64)) wide_table

-- five values of 200 octets and one of 14, as they stand in a row
abbrev long_value : List ℕ
long_value = 0xC8 ∷ replicate 200 0x61

abbrev long_row : List ℕ
long_row = long_value ++ long_value ++ long_value ++ long_value ++ long_value ++ 0x0E ∷ replicate 14 0x62

-- the data field of their INSERT, and a part of it in a command that goes on
abbrev long_field : List ℕ
long_field = 0x01 ∷ 0x57 ∷ long_row

abbrev part : ℕ → List ℕ
part k = hexadecimal (codes "1010008CFF") ++ take 255 (drop (255 * k) long_field)

abbrev last_part : List ℕ
last_part = hexadecimal (codes "0010008C026262")

abbrev in_parts : List (List ℕ)
in_parts = part 0 ∷ part 1 ∷ part 2 ∷ part 3 ∷ last_part ∷ []

row_in_parts : answers longer_card in_parts ≡ codes "9000\n9000\n9000\n9000\n9000\n"
unfolding opened hexadecimal
row_in_parts = refl

row_too_long : answers shorter_card in_parts ≡ codes "9000\n9000\n9000\n9000\n6A80\n"
unfolding opened hexadecimal
row_too_long = refl

-- its answer comes in parts
abbrev reply_to : Machine → List ℕ → Reply
reply_to m octets = (opened m octets).reply

abbrev with_long_row : Machine
with_long_row = after longer_card (in_parts ++ (hexadecimal (codes "001000870401570100") ∷ hexadecimal (codes "00100088") ∷ []))

abbrev fetch_all : List ℕ
fetch_all = hexadecimal (codes "0010008A00")

abbrev get_response : List ℕ
get_response = hexadecimal (codes "00C0000000")

le_too_small : answers with_long_row (hexadecimal (codes "0010008A02") ∷ []) ≡ codes "6C00\n"
unfolding opened hexadecimal
le_too_small = refl

first_of_row : reply_to with_long_row fetch_all ≡ record { body = take 256 long_row; word = record { word = 0x6100 } }
unfolding opened hexadecimal
first_of_row = refl

second_of_row : reply_to (after with_long_row (fetch_all ∷ [])) get_response ≡ record { body = take 256 (drop 256 long_row); word = record { word = 0x6100 } }
unfolding opened hexadecimal
second_of_row = refl

third_of_row : reply_to (after with_long_row (fetch_all ∷ get_response ∷ [])) get_response ≡ record { body = take 256 (drop 512 long_row); word = record { word = 0x61FC } }
unfolding opened hexadecimal
third_of_row = refl

last_of_row : reply_to (after with_long_row (fetch_all ∷ get_response ∷ get_response ∷ [])) get_response ≡ record { body = drop 768 long_row; word = record { word = 0x9000 } }
unfolding opened hexadecimal
last_of_row = refl

nothing_left : answers (after with_long_row (fetch_all ∷ get_response ∷ get_response ∷ get_response ∷ [])) (get_response ∷ []) ≡ codes "6985\n"
unfolding opened hexadecimal
nothing_left = refl

-- what takes no parts, and GET RESPONSE in a wrong form
parts_refused : answers owner_card (hexadecimal (codes "10100083020154") ∷ hexadecimal (codes "00C00000") ∷ hexadecimal (codes "00C0000100") ∷ [])
    ≡ codes "6884\n6700\n6A86\n"
unfolding opened hexadecimal
parts_refused = refl

-- four parts are the most, and a refusal drops them
fifth_part_refused : answers longer_card (part 0 ∷ part 1 ∷ part 2 ∷ part 3 ∷ part 0 ∷ last_part ∷ []) ≡ codes "9000\n9000\n9000\n9000\n6700\n6A80\n"
unfolding opened hexadecimal
fifth_part_refused = refl
