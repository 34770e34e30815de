-- Worked rows of reading: the definitions compute each answer.
use Rattle.std.proofs.Common.{◌≡◌, ℕ, true, false, List, [], ◌∷◌, length, map, flat_map, replicate, Option, Some, None, option_map, refl}
use Rattle.std.specs.Prelude.{codes}
use Rattle.hex.specs.Hex.{encode_upper}
use Rattle.hex.proofs.OnLiterals.{hex_on_literals}
use Rattle.scql_base.specs.declared.words.Actor.{Actor}
use Rattle.scql_base.specs.declared.words.Actor.TheVariants.{Public, User as a_user}
use Rattle.scql_base.specs.declared.words.Profile.TheVariants.{DbO, Dboo, Dbbu}
use Rattle.scql_base.specs.declared.words.Subject.TheVariants.{Objects, Users, Grants}
use Rattle.scql_base.specs.declared.words.Comparison.{Comparison}
use Rattle.scql_base.specs.declared.words.Comparison.TheVariants.{Equal, Less, Greater, AtMost, AtLeast, NotEqual}
use Rattle.scql_base.specs.declared.condition.Condition.{Condition}
use Rattle.scql_base.specs.declared.records.User.{User}
use Rattle.scql_base.specs.declared.records.Object.{Object}
use Rattle.scql_base.specs.declared.records.ObjectKind.{ObjectKind}
use Rattle.scql_base.specs.declared.records.ObjectKind.TheVariants.{Table, View, Dictionary}
use Rattle.scql_base.specs.declared.records.Grant.{Grant}
use Rattle.scql_base.specs.declared.records.RowRecord.{RowRecord}
use Rattle.scql_base.specs.Strings.{spelled}
use Rattle.scql_model.specs.Replies.{Reply}
use Rattle.scql_model.specs.Database.{Database, are_among, owner}
use Rattle.scql_model.specs.Machine.{Reading, no_reading}
use Rattle.scql_model.specs.Lines.{reply_octets}
use Rattle.scql_model.specs.Rights.{holds, appears}
use Rattle.scql_model.specs.Matching.{compares}
use Rattle.scql_model.specs.Objects.{StampedRow, columns_of, depth_of}
use Rattle.scql_model.specs.Contents.{contents_of}
use Rattle.scql_model.specs.ReadingCommands.{ReadingCommand, declare, open_cursor, next, fetch, fetch_next, get_response}
use Rattle.scql_model.specs.Moves.{move_of}
use Rattle.scql_model.specs.Shown.{ShownTable, ShownObject, ShownPlace, not_open, hidden, on, at_end, ShownCursor, shown}
use Rattle.scql_model.specs.Reads.{read_move}
use Rattle.scql_model.specs.ReadingLaws.{replies_to, reading_after, read_replies}
use Rattle.scql_model.specs.Resolving.{resolved_of}

abbrev Row : Type 0
Row = List (List ℕ)

-- the answers to commands in turn, as the card's output prints them
abbrev answers : Database → Actor → Reading → List ReadingCommand → List (List ℕ)
answers db actor reading commands = map (λ (r : Reply). encode_upper (reply_octets r)) (replies_to db actor reading commands)

abbrev the_owner : Actor
the_owner = a_user 1 DbO

abbrev row_of_t : ℕ → Row → RowRecord
row_of_t stamp values = record { stamp = stamp; table = 2; row = values }

abbrev t : Object
t = record { stamp = 2; name = codes "T"; owner = 1; kind = Table (codes "A" ∷ codes "B" ∷ []) }

-- OWNER's card with table T of the columns A and B
abbrev card_with : List RowRecord → Database
card_with rows = record { cells = 64; limit = 240; next = 100; users = owner ∷ []; objects = t ∷ []; grants = []; rows = rows }

abbrev x_and_empty : RowRecord
x_and_empty = row_of_t 3 (codes "x" ∷ [] ∷ [])

abbrev y_and_empty : RowRecord
y_and_empty = row_of_t 4 (codes "y" ∷ [] ∷ [])

abbrev declare_t : ReadingCommand
declare_t = declare (codes "T") [] []

-- without a cursor nothing is opened, fetched or left
no_cursor : answers (card_with []) the_owner no_reading (open_cursor ∷ next ∷ fetch 256 ∷ fetch_next 256 ∷ get_response 256 ∷ [])
    ≡ codes "6985" ∷ codes "6985" ∷ codes "6985" ∷ codes "6985" ∷ codes "6985" ∷ []
unfolding move_of holds appears contents_of hex_on_literals
no_cursor = refl

-- a cursor that isn't open gives nothing
not_opened : answers (card_with (x_and_empty ∷ [])) the_owner no_reading (declare_t ∷ next ∷ fetch 256 ∷ fetch_next 256 ∷ [])
    ≡ codes "9000" ∷ codes "6985" ∷ codes "6985" ∷ codes "6985" ∷ []
unfolding move_of holds appears contents_of hex_on_literals
not_opened = refl

-- one row is fetched; Le 2 is too short, and Le 3 is enough; then the end is reached
one_row : answers (card_with (x_and_empty ∷ [])) the_owner no_reading (declare_t ∷ open_cursor ∷ fetch 256 ∷ fetch 2 ∷ fetch 3 ∷ fetch_next 256 ∷ fetch_next 256 ∷ fetch 256 ∷ next ∷ open_cursor ∷ fetch 256 ∷ [])
    ≡ codes "9000" ∷ codes "9000" ∷ codes "0178009000" ∷ codes "6C03" ∷ codes "0178009000" ∷ codes "6282" ∷ codes "6282" ∷ codes "6282" ∷ codes "6282" ∷ codes "9000" ∷ codes "0178009000" ∷ []
unfolding move_of holds appears contents_of hex_on_literals
one_row = refl

-- a table without rows
no_rows : answers (card_with []) the_owner no_reading (declare_t ∷ open_cursor ∷ []) ≡ codes "9000" ∷ codes "6282" ∷ []
unfolding move_of holds appears contents_of hex_on_literals
no_rows = refl

-- the row of the cursor is deleted on another channel; then the table is dropped and made again
row_deleted : answers (card_with (y_and_empty ∷ [])) the_owner (reading_after (card_with (x_and_empty ∷ y_and_empty ∷ [])) the_owner no_reading (declare_t ∷ open_cursor ∷ [])) (fetch 256 ∷ next ∷ fetch 256 ∷ [])
    ≡ codes "6A83" ∷ codes "9000" ∷ codes "0179009000" ∷ []
unfolding move_of holds appears contents_of hex_on_literals
row_deleted = refl

table_made_again : answers (record (card_with []) { objects = (record t { stamp = 5 }) ∷ [] }) the_owner (reading_after (card_with (y_and_empty ∷ [])) the_owner no_reading (declare_t ∷ open_cursor ∷ [])) (fetch 256 ∷ [])
    ≡ codes "6A88" ∷ []
unfolding move_of holds appears contents_of hex_on_literals
table_made_again = refl

-- conditions, and columns in another order
abbrev condition : List ℕ → Comparison → List ℕ → Condition
condition column comparison value = record { column = column; comparison = comparison; value = value }

selected_rows : answers (card_with (row_of_t 3 (codes "1" ∷ codes "x" ∷ []) ∷ row_of_t 4 (codes "2" ∷ codes "y" ∷ []) ∷ row_of_t 5 (codes "3" ∷ codes "x" ∷ []) ∷ [])) the_owner no_reading
    (declare (codes "T") (codes "B" ∷ codes "A" ∷ []) (condition (codes "B") Equal (codes "x") ∷ []) ∷ open_cursor ∷ fetch 256 ∷ fetch_next 256 ∷ fetch_next 256 ∷ [])
    ≡ codes "9000" ∷ codes "9000" ∷ codes "017801319000" ∷ codes "017801339000" ∷ codes "6282" ∷ []
unfolding move_of holds appears contents_of hex_on_literals
selected_rows = refl

unknown_columns : answers (card_with []) the_owner no_reading (declare (codes "T") (codes "C" ∷ []) [] ∷ declare (codes "T") [] (condition (codes "C") Equal [] ∷ []) ∷ declare (codes "Z") [] [] ∷ [])
    ≡ codes "6A88" ∷ codes "6A88" ∷ codes "6A88" ∷ []
unfolding move_of holds appears contents_of hex_on_literals
unknown_columns = refl

-- values compare octet by octet, a proper prefix first
comparisons : (compares Less [] (codes "a") ≡ true) × (compares Less (codes "a") (codes "ab") ≡ true) × (compares Less (codes "ab") (codes "b") ≡ true) × (compares Less (codes "b") (codes "ab") ≡ false)
    × (compares AtMost (codes "a") (codes "a") ≡ true) × (compares AtLeast (codes "a") (codes "ab") ≡ false) × (compares Greater (codes "b") (codes "ab") ≡ true) × (compares NotEqual (codes "a") (codes "a") ≡ false)
comparisons = (refl, refl, refl, refl, refl, refl, refl, refl)

-- ANN may select from the view V of column A, and sees neither T nor its column B
abbrev ann : User
ann = record { stamp = 4; name = codes "ANN"; profile = Dbbu; owner = 1; secret = []; tries = 3 }

abbrev as_ann : Actor
as_ann = a_user 4 Dbbu

abbrev v : Object
v = record { stamp = 5; name = codes "V"; owner = 1; kind = View 2 (codes "A" ∷ []) [] }

abbrev to_ann : ℕ → ℕ → Grant
to_ann object privileges = record { stamp = 6; object = object; grantee = 4; privileges = privileges }

abbrev card_for_ann : Grant → List ℕ → Database
card_for_ann g secret =
    record { cells = 64; limit = 240; next = 100; users = owner ∷ ann ∷ []; objects = t ∷ v ∷ []; grants = g ∷ []; rows = row_of_t 3 (codes "x" ∷ secret ∷ []) ∷ [] }

view_alone : (secret : List ℕ) → answers (card_for_ann (to_ann 5 1) secret) as_ann no_reading
    (declare (codes "V") (codes "B" ∷ []) [] ∷ declare_t ∷ declare (codes "Z") [] [] ∷ declare (codes "V") [] [] ∷ open_cursor ∷ fetch 256 ∷ [])
    ≡ codes "6A88" ∷ codes "6A88" ∷ codes "6A88" ∷ codes "9000" ∷ codes "9000" ∷ codes "01789000" ∷ []
unfolding move_of holds appears contents_of hex_on_literals
view_alone secret = refl

hidden_column : (secret other : List ℕ) → shown (card_for_ann (to_ann 5 1) secret) as_ann no_reading ≡ shown (card_for_ann (to_ann 5 1) other) as_ann no_reading
unfolding shown holds appears contents_of
hidden_column secret other = refl

-- an object on which another privilege is held appears, and isn't shown; a grant to PUBLIC is everybody's
closed_object : answers (card_for_ann (to_ann 2 2) []) as_ann no_reading (declare_t ∷ declare (codes "V") [] [] ∷ []) ≡ codes "6982" ∷ codes "6A88" ∷ []
unfolding move_of holds appears contents_of hex_on_literals
closed_object = refl

public_grant : answers (card_for_ann (record (to_ann 5 1) { grantee = 0 }) []) Public no_reading (declare (codes "V") [] [] ∷ declare_t ∷ []) ≡ codes "9000" ∷ codes "6A88" ∷ []
unfolding move_of holds appears contents_of hex_on_literals
public_grant = refl

-- a cursor whose object no longer appears, or is closed
abbrev over_v : Reading
over_v = reading_after (card_for_ann (to_ann 5 1) []) as_ann no_reading (declare (codes "V") [] [] ∷ open_cursor ∷ [])

revoked : answers (card_for_ann (to_ann 2 1) []) as_ann over_v (open_cursor ∷ next ∷ fetch 256 ∷ fetch_next 256 ∷ get_response 256 ∷ []) ≡ codes "6A88" ∷ codes "6A88" ∷ codes "6A88" ∷ codes "6A88" ∷ codes "6A88" ∷ []
unfolding move_of holds appears contents_of hex_on_literals
revoked = refl

closed : answers (card_for_ann (to_ann 5 4) []) as_ann over_v (open_cursor ∷ next ∷ fetch 256 ∷ fetch_next 256 ∷ get_response 256 ∷ []) ≡ codes "6982" ∷ codes "6982" ∷ codes "6982" ∷ codes "6982" ∷ codes "6982" ∷ []
unfolding move_of holds appears contents_of hex_on_literals
closed = refl

-- a view's conditions may name columns that it doesn't show
abbrev item : Object
item = record { stamp = 2; name = codes "ITEM"; owner = 1; kind = Table (codes "NAME" ∷ codes "PLACE" ∷ codes "QTY" ∷ []) }

abbrev b1 : Object
b1 = record { stamp = 8; name = codes "B1"; owner = 1; kind = View 2 (codes "NAME" ∷ codes "QTY" ∷ []) (condition (codes "PLACE") Equal (codes "B1") ∷ condition (codes "QTY") AtLeast (codes "0040") ∷ []) }

abbrev items : Database
items = record {
  cells = 64;
  limit = 240;
  next = 11;
  users = owner ∷ record ann { stamp = 9 } ∷ [];
  objects = item ∷ b1 ∷ [];
  grants = record { stamp = 10; object = 8; grantee = 9; privileges = 1 } ∷ [];
  rows =
      row_of_t 3 (codes "bolt" ∷ codes "B1" ∷ codes "0040" ∷ []) ∷ row_of_t 4 (codes "cap" ∷ codes "A2" ∷ codes "0007" ∷ []) ∷ row_of_t 5 (codes "rod" ∷ codes "B1" ∷ codes "0003" ∷ [])
      ∷ row_of_t 6 (codes "it's" ∷ codes "B1" ∷ codes "0050" ∷ []) ∷ row_of_t 7 ((0 ∷ []) ∷ codes "A2" ∷ codes "0099" ∷ []) ∷ [];
}

narrowed_rows : (contents_of items 8).rows
    ≡ (let bolt : StampedRow = record { stamp = 3; values = codes "bolt" ∷ codes "0040" ∷ [] } in bolt) ∷ (let its : StampedRow = record { stamp = 6; values = codes "it's" ∷ codes "0050" ∷ [] } in its) ∷ []
unfolding contents_of
narrowed_rows = refl

hidden_table : answers items (a_user 9 Dbbu) no_reading (declare (codes "ITEM") [] [] ∷ declare (codes "B1") [] (condition (codes "PLACE") Equal (codes "B1") ∷ []) ∷ []) ≡ codes "6A88" ∷ codes "6A88" ∷ []
unfolding move_of holds appears contents_of hex_on_literals
hidden_table = refl

-- views over views
abbrev view_over : ℕ → List ℕ → ℕ → List (List ℕ) → List Condition → Object
view_over stamp name base columns conditions = record { stamp = stamp; name = name; owner = 1; kind = View base columns conditions }

abbrev views : Database
views = record (card_with (row_of_t 3 (codes "1" ∷ codes "x" ∷ []) ∷ row_of_t 4 (codes "2" ∷ codes "x" ∷ []) ∷ [])) {
  objects =
      t ∷ view_over 5 (codes "V1") 2 (codes "A" ∷ codes "B" ∷ []) (condition (codes "B") Equal (codes "x") ∷ []) ∷ view_over 6 (codes "V2") 5 (codes "A" ∷ []) (condition (codes "A") Greater (codes "1") ∷ [])
      ∷ view_over 7 (codes "V3") 6 (codes "A" ∷ []) [] ∷ view_over 8 (codes "V4") 7 (codes "A" ∷ []) [] ∷ view_over 9 (codes "V5") 8 (codes "A" ∷ []) [] ∷ [];
}

second_view : answers views the_owner no_reading (declare (codes "V2") [] [] ∷ open_cursor ∷ fetch 256 ∷ fetch_next 256 ∷ declare (codes "V2") (codes "B" ∷ []) [] ∷ [])
    ≡ codes "9000" ∷ codes "9000" ∷ codes "01329000" ∷ codes "6282" ∷ codes "6A88" ∷ []
unfolding move_of holds appears contents_of hex_on_literals
second_view = refl

fourth_view : answers views the_owner no_reading (declare (codes "V4") [] [] ∷ open_cursor ∷ fetch 256 ∷ fetch_next 256 ∷ []) ≡ codes "9000" ∷ codes "9000" ∷ codes "01329000" ∷ codes "6282" ∷ []
unfolding move_of holds appears contents_of hex_on_literals
fourth_view = refl

-- a view over V2 can't have the column B; V4 may be over V3, and no view over V4
refused_column : are_among (codes "B" ∷ []) (columns_of (view_over 6 (codes "V2") 5 (codes "A" ∷ []) []).kind) ≡ false
refused_column = refl

depths : (depth_of views.objects 2 ≡ Some 0) × (depth_of views.objects 5 ≡ Some 1) × (depth_of views.objects 7 ≡ Some 3) × (depth_of views.objects 8 ≡ Some 4) × (depth_of views.objects 9 ≡ None)
unfolding depth_of
depths = (refl, refl, refl, refl, refl)

-- dictionaries
abbrev d : Object
d = record { stamp = 3; name = codes "D"; owner = 1; kind = Dictionary Objects }

abbrev stamped : ℕ → Row → StampedRow
stamped stamp values = record { stamp = stamp; values = values }

objects_told : (contents_of (record (card_with []) { objects = t ∷ d ∷ [] }) 3).rows
    ≡ stamped 2 (codes "T" ∷ codes "T" ∷ codes "OWNER" ∷ [] ∷ codes "A,B" ∷ []) ∷ stamped 3 (codes "D" ∷ codes "D" ∷ codes "OWNER" ∷ codes "O" ∷ codes "NAME,KIND,OWNER,BASE,COLS" ∷ []) ∷ []
unfolding contents_of
objects_told = refl

-- a maker of objects sees what it owns in its dictionaries, and OWNER sees all; a grant is its object's owner's
abbrev bob : User
bob = record { stamp = 7; name = codes "BOB"; profile = Dboo; owner = 1; secret = []; tries = 3 }

abbrev bobs : ℕ → List ℕ → ObjectKind → Object
bobs stamp name kind = record { stamp = stamp; name = name; owner = 7; kind = kind }

abbrev two_owners : Database
two_owners = record {
  cells = 64;
  limit = 240;
  next = 20;
  users = owner ∷ record ann { owner = 7 } ∷ bob ∷ [];
  objects = t ∷ bobs 8 (codes "W") (Table (codes "C" ∷ [])) ∷ bobs 9 (codes "DO") (Dictionary Objects) ∷ bobs 10 (codes "DU") (Dictionary Users) ∷ bobs 11 (codes "DP") (Dictionary Grants) ∷ record d { stamp = 12; kind = Dictionary Grants } ∷ [];
  grants = record (to_ann 2 1) { stamp = 13 } ∷ record (to_ann 8 9) { stamp = 14; grantee = 0 } ∷ [];
  rows = [];
}

own_users : (contents_of two_owners 10).rows ≡ stamped 4 (codes "ANN" ∷ (3 ∷ []) ∷ codes "BOB" ∷ []) ∷ []
unfolding contents_of
own_users = refl

own_grants : (contents_of two_owners 11).rows ≡ stamped 14 (codes "W" ∷ codes "PUBLIC" ∷ (9 ∷ []) ∷ []) ∷ []
unfolding contents_of
own_grants = refl

all_grants : (contents_of two_owners 12).rows ≡ stamped 13 (codes "T" ∷ codes "ANN" ∷ (1 ∷ []) ∷ []) ∷ stamped 14 (codes "W" ∷ codes "PUBLIC" ∷ (9 ∷ []) ∷ []) ∷ []
unfolding contents_of
all_grants = refl

-- a row of 1,020 octets: with Le 256 it is given in four parts, and a shorter Le is wrong
abbrev long_values : Row
long_values = replicate 200 0x61 ∷ replicate 200 0x61 ∷ replicate 200 0x61 ∷ replicate 200 0x61 ∷ replicate 200 0x61 ∷ replicate 14 0x62 ∷ []

abbrev long_card : Database
long_card = record (card_with (row_of_t 3 long_values ∷ [])) {
  limit = 1020;
  objects = (record t { kind = Table (codes "A" ∷ codes "B" ∷ codes "C" ∷ codes "D" ∷ codes "E" ∷ codes "F" ∷ []) }) ∷ [];
}

abbrev part : Reply → ℕ × ℕ
part r = (length r.body, r.word.word)

long_row : map part (replies_to long_card the_owner no_reading (declare_t ∷ open_cursor ∷ fetch 2 ∷ fetch 255 ∷ fetch 256 ∷ get_response 256 ∷ get_response 256 ∷ get_response 256 ∷ get_response 256 ∷ []))
    ≡ (0, 0x9000) ∷ (0, 0x9000) ∷ (0, 0x6C00) ∷ (0, 0x6C00) ∷ (256, 0x6100) ∷ (256, 0x6100) ∷ (256, 0x61FC) ∷ (252, 0x9000) ∷ (0, 0x6985) ∷ []
unfolding move_of holds appears contents_of
long_row = refl

-- the parts joined are the row
long_body : flat_map (λ (r : Reply). r.body) (replies_to long_card the_owner no_reading (declare_t ∷ open_cursor ∷ fetch_next 256 ∷ open_cursor ∷ fetch 256 ∷ get_response 255 ∷ get_response 256 ∷ get_response 256 ∷ [])) ≡ flat_map spelled long_values
unfolding move_of holds appears contents_of
long_body = refl

-- What is shown: objects in the order of their names, closed where nothing may be selected, and a cursor by its position.
abbrev table_shown : List (List ℕ) → List Row → Option ShownTable
table_shown columns rows = Some (record { columns = columns; rows = rows })

abbrev object_named : List ℕ → Option ShownTable → ShownObject
object_named name table = record { name = name; table = table }

abbrev two_objects : Database
two_objects = record (card_for_ann (to_ann 2 2) (codes "s")) { objects = t ∷ record v { name = codes "AB" } ∷ []; grants = to_ann 2 2 ∷ record (to_ann 5 1) { stamp = 7 } ∷ [] }

shown_to_ann : (shown two_objects as_ann no_reading).objects ≡ object_named (codes "AB") (table_shown (codes "A" ∷ []) ((codes "x" ∷ []) ∷ [])) ∷ object_named (codes "T") None ∷ []
unfolding shown holds appears contents_of
shown_to_ann = refl

shown_to_owner : (shown two_objects the_owner no_reading).objects
    ≡ object_named (codes "AB") (table_shown (codes "A" ∷ []) ((codes "x" ∷ []) ∷ [])) ∷ object_named (codes "T") (table_shown (codes "A" ∷ codes "B" ∷ []) ((codes "x" ∷ codes "s" ∷ []) ∷ [])) ∷ []
unfolding shown holds appears contents_of
shown_to_owner = refl

shown_to_public : (shown two_objects Public no_reading).objects ≡ []
unfolding shown holds appears contents_of
shown_to_public = refl

-- the place of a cursor: not open, on the second row, behind the first row where the second is gone, at the end, and hidden
abbrev place_of : Database → Actor → Reading → Option ShownPlace
place_of db actor reading = option_map (λ (c : ShownCursor). c.place) (shown db actor reading).cursor

abbrev rows_xyz : List RowRecord
rows_xyz = x_and_empty ∷ y_and_empty ∷ row_of_t 6 (codes "z" ∷ [] ∷ []) ∷ []

abbrev on_second : Reading
on_second = reading_after (card_with rows_xyz) the_owner no_reading (declare_t ∷ open_cursor ∷ next ∷ [])

places : (place_of (card_with rows_xyz) the_owner (reading_after (card_with rows_xyz) the_owner no_reading (declare_t ∷ [])) ≡ Some not_open)
    × (place_of (card_with rows_xyz) the_owner on_second ≡ Some (on 1 true))
    × (place_of (card_with (x_and_empty ∷ [])) the_owner on_second ≡ Some (on 1 false))
    × (place_of (card_with rows_xyz) the_owner (reading_after (card_with rows_xyz) the_owner on_second (next ∷ next ∷ [])) ≡ Some at_end)
    × (place_of (card_with rows_xyz) Public on_second ≡ Some hidden)
unfolding shown move_of holds appears contents_of
places = (refl, refl, refl, refl, refl)

-- from what is shown alone the same answers follow
read_row : map (λ (r : Reply). encode_upper (reply_octets r)) (read_replies (shown two_objects as_ann no_reading)
    (declare (codes "T") [] [] ∷ declare (codes "Z") [] [] ∷ declare (codes "AB") [] [] ∷ next ∷ open_cursor ∷ fetch 1 ∷ fetch 256 ∷ fetch_next 256 ∷ fetch 256 ∷ get_response 256 ∷ []))
    ≡ codes "6982" ∷ codes "6A88" ∷ codes "9000" ∷ codes "6985" ∷ codes "9000" ∷ codes "6C02" ∷ codes "01789000" ∷ codes "6282" ∷ codes "6282" ∷ codes "6985" ∷ []
unfolding shown read_move holds appears contents_of hex_on_literals
read_row = refl

-- what is pending is kept by a refusal, and dropped by NEXT
pending_kept : map part (replies_to long_card the_owner no_reading (declare_t ∷ open_cursor ∷ fetch 256 ∷ fetch 2 ∷ get_response 1 ∷ next ∷ get_response 256 ∷ []))
    ≡ (0, 0x9000) ∷ (0, 0x9000) ∷ (256, 0x6100) ∷ (0, 0x6C00) ∷ (1, 0x6100) ∷ (0, 0x6282) ∷ (0, 0x6985) ∷ []
unfolding move_of holds appears contents_of
pending_kept = refl

-- a view over a view, resolved: the table's columns A and B, of which A is shown, and the conditions of both views
second_resolved : resolved_of views.objects 6
    ≡ Some (record { table = 2; all = codes "A" ∷ codes "B" ∷ []; columns = codes "A" ∷ []; filters = (condition (codes "A") Greater (codes "1") ∷ []) ∷ (condition (codes "B") Equal (codes "x") ∷ []) ∷ [] })
unfolding resolved_of
second_resolved = refl
