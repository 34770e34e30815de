-- Worked rows of the changing commands: the definitions compute what each does, and each of its refusals.
use Rattle.std.proofs.Common.{◌≡◌, ℕ, List, [], ◌∷◌, Option, Some, None, Result, Ok, Err, true, zero, suc, map, replicate, refl}
use Rattle.std.specs.Prelude.{codes, is_ok}
use Rattle.scql_base.specs.declared.words.Actor.{Actor}
use Rattle.scql_base.specs.declared.words.Actor.TheVariants.{Public, User as a_user}
use Rattle.scql_base.specs.declared.words.Profile.TheVariants.{DbO, Dboo, Dbbu}
use Rattle.scql_base.specs.declared.words.Subject.TheVariants.{Objects, Users}
use Rattle.scql_base.specs.declared.words.Comparison.TheVariants.{Equal}
use Rattle.scql_base.specs.declared.words.StatusWord.{StatusWord}
use Rattle.scql_base.specs.declared.condition.Condition.{Condition}
use Rattle.scql_base.specs.declared.cursor.Cursor.{Cursor}
use Rattle.scql_base.specs.declared.cursor.Place.{Place}
use Rattle.scql_base.specs.declared.cursor.Place.TheVariants.{NotOpen, At, End}
use Rattle.scql_base.specs.declared.records.User.{User}
use Rattle.scql_base.specs.declared.records.Object.{Object}
use Rattle.scql_base.specs.declared.records.ObjectKind.TheVariants.{Table, View, Dictionary}
use Rattle.scql_base.specs.declared.records.Grant.{Grant}
use Rattle.scql_base.specs.declared.records.RowRecord.{RowRecord}
use Rattle.scql_base.specs.declared.operation.Operation.{Operation}
use Rattle.scql_base.specs.declared.operation.Operation.TheVariants.{CreateTable, CreateView, CreateDictionary, DropTable, DropView, Grant as grant, Revoke, Insert, Update, Delete, CreateUser, DeleteUser}
use Rattle.scql_base.specs.Words.{wrong_data, security_not_satisfied, conditions_not_satisfied, not_found, already_exists, no_space, record_not_found}
use Rattle.scql_model.specs.Database.{Database, owner, fresh, weight}
use Rattle.scql_model.specs.Rights.{holds, appears}
use Rattle.scql_model.specs.Objects.{depth_of}
use Rattle.scql_model.specs.Contents.{contents_of}
use Rattle.scql_model.specs.ReadingCommands.{}
use Rattle.scql_model.specs.Refusals.{◌>>=◌}
use Rattle.scql_model.specs.Defining.{object_created, view_created, table_dropped, view_dropped}
use Rattle.scql_model.specs.Granting.{privileges_granted, privileges_revoked}
use Rattle.scql_model.specs.Writing.{row_inserted, row_updated, row_deleted}
use Rattle.scql_model.specs.Users.{user_deleted}
use Rattle.scql_model.specs.Machine.{Transaction}
use Rattle.scql_model.specs.Edits.{Edit, octets_for, applied}
use Rattle.scql_model.specs.Changing.{edits_of, change_of, transaction_after}

-- the edits of a command and what it does, with all definitions open
unfoldable edits_by : Actor → Option Cursor → Operation → Database → Result (List Edit) StatusWord
unfolding edits_of object_created view_created table_dropped view_dropped privileges_granted privileges_revoked row_inserted row_updated row_deleted user_deleted holds appears depth_of contents_of
edits_by actor cursor operation db = edits_of db actor cursor operation

unfoldable done_by : Actor → Option Cursor → Operation → Database → Result Database StatusWord
unfolding change_of edits_by
done_by actor cursor operation db = change_of db actor cursor operation

-- who asks for what, through which cursor, on which card, and what comes of it
record Case : Type 0 where
  actor : Actor
  cursor : Option Cursor
  operation : Operation
  on : Database
  outcome : Result Database StatusWord

abbrev by : Actor → Option Cursor → Operation → Database → Result Database StatusWord → Case
by actor cursor operation on outcome = record { actor = actor; cursor = cursor; operation = operation; on = on; outcome = outcome }

-- each comes so
abbrev AreDone : List Case → Type 0
AreDone cases = map (λ (c : Case). done_by c.actor c.cursor c.operation c.on) cases ≡ map (λ (c : Case). c.outcome) cases

abbrev the_owner : Actor
the_owner = a_user 1 DbO

-- a table of OWNER's, and the card on which it is alone
abbrev t : Object
t = record { stamp = 2; name = codes "T"; owner = 1; kind = Table (codes "A" ∷ codes "B" ∷ []) }

abbrev with_t : Database
with_t = record (fresh 64) { next = 3; objects = t ∷ [] }

abbrev row_of : ℕ → List ℕ → List ℕ → RowRecord
row_of stamp a b = record { stamp = stamp; table = 2; row = a ∷ b ∷ [] }

-- a card with users ANN and DAN, a view V of column A of T, a dictionary D, two rows, and V granted to ANN
abbrev ann : User
ann = record { stamp = 3; name = codes "ANN"; profile = Dbbu; owner = 1; secret = []; tries = 3 }

abbrev dan : User
dan = record { stamp = 4; name = codes "DAN"; profile = Dboo; owner = 1; secret = []; tries = 3 }

abbrev v : Object
v = record { stamp = 5; name = codes "V"; owner = 1; kind = View 2 (codes "A" ∷ []) [] }

abbrev d : Object
d = record { stamp = 6; name = codes "D"; owner = 1; kind = Dictionary Objects }

abbrev x : RowRecord
x = row_of 7 (codes "x") (codes "s")

abbrev y : RowRecord
y = row_of 8 (codes "y") (codes "t")

abbrev granted : ℕ → ℕ → ℕ → ℕ → Grant
granted stamp object grantee privileges = record { stamp = stamp; object = object; grantee = grantee; privileges = privileges }

abbrev card : Database
card = record {
  cells = 64;
  limit = 240;
  next = 10;
  users = owner ∷ ann ∷ dan ∷ [];
  objects = t ∷ v ∷ d ∷ [];
  grants = granted 9 5 3 1 ∷ [];
  rows = x ∷ y ∷ [];
}

abbrev as_ann : Actor
as_ann = a_user 3 Dbbu

abbrev as_dan : Actor
as_dan = a_user 4 Dboo

-- the same card without a free cell, and without a stamp
abbrev full : Database
full = record card { cells = 10 }

all_cells : weight card ≡ 10
all_cells = refl

abbrev stampless : Database
stampless = record card { next = 4294967295 }

-- DAN may select from T too
abbrev shown_to_dan : Database
shown_to_dan = record card { grants = granted 9 5 3 1 ∷ granted 10 2 4 1 ∷ []; next = 11 }

-- CREATE TABLE
abbrev create_t : Operation
create_t = CreateTable (codes "T") (codes "A" ∷ codes "B" ∷ [])

tables_created : AreDone (
    by the_owner None create_t (fresh 64) (Ok with_t)
    ∷ by Public None create_t (fresh 64) (Err security_not_satisfied)
    -- the right comes before the name
    ∷ by as_ann None create_t card (Err security_not_satisfied)
    -- also a name that DAN doesn't see is taken
    ∷ by as_dan None create_t card (Err already_exists)
    ∷ by the_owner None (CreateTable (codes "U") (codes "A" ∷ [])) full (Err no_space)
    ∷ by the_owner None (CreateTable (codes "U") (codes "A" ∷ [])) stampless (Err no_space)
    -- a taken name comes before a full card
    ∷ by the_owner None create_t full (Err already_exists)
    ∷ []
    )
unfolding done_by
tables_created = refl

-- CREATE DICTIONARY, by an object owner
dictionaries_created : AreDone (
    by as_dan None (CreateDictionary (codes "E") Users) card (Ok (record card { next = 11; objects = t ∷ v ∷ d ∷ record { stamp = 10; name = codes "E"; owner = 4; kind = Dictionary Users } ∷ [] }))
    ∷ by as_dan None (CreateDictionary (codes "D") Users) card (Err already_exists)
    ∷ []
    )
unfolding done_by
dictionaries_created = refl

-- CREATE VIEW
abbrev where_b : List Condition
where_b = record { column = codes "B"; comparison = Equal; value = codes "s" } ∷ []

abbrev create_w : Operation
create_w = CreateView (codes "W") (codes "T") [] where_b

views_created : AreDone (
    -- an empty list of columns becomes all columns
    by the_owner None create_w card (Ok (record card { next = 11; objects = t ∷ v ∷ d ∷ record { stamp = 10; name = codes "W"; owner = 1; kind = View 2 (codes "A" ∷ codes "B" ∷ []) where_b } ∷ [] }))
    ∷ by as_ann None create_w card (Err security_not_satisfied)
    -- nothing of that name, and a dictionary
    ∷ by the_owner None (CreateView (codes "W") (codes "Z") [] []) card (Err not_found)
    ∷ by the_owner None (CreateView (codes "W") (codes "D") [] []) card (Err not_found)
    -- what doesn't appear can't be told from nothing
    ∷ by as_dan None create_w card (Err not_found)
    ∷ by as_dan None create_w shown_to_dan (Err security_not_satisfied)
    ∷ by the_owner None (CreateView (codes "W") (codes "T") (codes "C" ∷ []) []) card (Err not_found)
    -- B is a column of T, and V hides it
    ∷ by the_owner None (CreateView (codes "W") (codes "V") [] where_b) card (Err not_found)
    ∷ by the_owner None (CreateView (codes "V") (codes "T") [] []) card (Err already_exists)
    ∷ by the_owner None create_w full (Err no_space)
    ∷ []
    )
unfolding done_by
views_created = refl

-- views over views: V stands at depth 1, V2 to V4 over it
abbrev view_on : ℕ → List ℕ → ℕ → Object
view_on stamp name base = record { stamp = stamp; name = name; owner = 1; kind = View base (codes "A" ∷ []) [] }

abbrev deep : Database
deep = record card {
  next = 13;
  objects = t ∷ v ∷ d ∷ view_on 10 (codes "V2") 5 ∷ view_on 11 (codes "V3") 10 ∷ [];
}

abbrev v4 : Object
v4 = view_on 13 (codes "V4") 11

abbrev with_v4 : Database
with_v4 = record deep { next = 14; objects = t ∷ v ∷ d ∷ view_on 10 (codes "V2") 5 ∷ view_on 11 (codes "V3") 10 ∷ v4 ∷ [] }

views_over_views : AreDone (
    by the_owner None (CreateView (codes "V4") (codes "V3") (codes "A" ∷ []) []) deep (Ok with_v4)
    ∷ by the_owner None (CreateView (codes "V5") (codes "V4") (codes "A" ∷ []) []) with_v4 (Err conditions_not_satisfied)
    -- the depth comes before the columns
    ∷ by the_owner None (CreateView (codes "V5") (codes "V4") (codes "B" ∷ []) []) with_v4 (Err conditions_not_satisfied)
    ∷ []
    )
unfolding done_by
views_over_views = refl

-- DROP TABLE takes the rows, and the grants on the table
abbrev drop_t : Operation
drop_t = DropTable (codes "T")

tables_dropped : AreDone (
    by the_owner None drop_t (record shown_to_dan { objects = t ∷ d ∷ []; grants = granted 10 2 4 1 ∷ granted 11 6 0 1 ∷ [] }) (Ok (record shown_to_dan { objects = d ∷ []; grants = granted 11 6 0 1 ∷ []; rows = [] }))
    -- no table, one that DAN doesn't see, and one of another's
    ∷ by the_owner None (DropTable (codes "V")) card (Err not_found)
    ∷ by as_dan None drop_t card (Err not_found)
    ∷ by as_dan None drop_t shown_to_dan (Err security_not_satisfied)
    -- a view stands over it
    ∷ by the_owner None drop_t card (Err conditions_not_satisfied)
    ∷ []
    )
unfolding done_by
tables_dropped = refl

-- DROP VIEW
abbrev drop_v : Operation
drop_v = DropView (codes "V")

views_dropped : AreDone (
    by the_owner None drop_v card (Ok (record card { objects = t ∷ d ∷ []; grants = [] }))
    ∷ by the_owner None (DropView (codes "D")) card (Ok (record card { objects = t ∷ v ∷ [] }))
    -- no view, and one of another's
    ∷ by the_owner None (DropView (codes "T")) card (Err not_found)
    ∷ by as_ann None drop_v card (Err security_not_satisfied)
    -- a view stands over it
    ∷ by the_owner None drop_v deep (Err conditions_not_satisfied)
    ∷ []
    )
unfolding done_by
views_dropped = refl

-- GRANT: a new grant, more bits of one, and one to PUBLIC
granted_so : AreDone (
    by the_owner None (grant 6 (codes "T") (codes "ANN")) card (Ok (record card { next = 11; grants = granted 9 5 3 1 ∷ granted 10 2 3 6 ∷ [] }))
    ∷ by the_owner None (grant 5 (codes "V") (codes "ANN")) full (Ok (record full { grants = granted 9 5 3 5 ∷ [] }))
    ∷ by the_owner None (grant 1 (codes "D") (codes "PUBLIC")) card (Ok (record card { next = 11; grants = granted 9 5 3 1 ∷ granted 10 6 0 1 ∷ [] }))
    -- nothing of that name, an object of another's, and nobody of that name
    ∷ by the_owner None (grant 1 (codes "Z") (codes "ANN")) card (Err not_found)
    ∷ by as_ann None (grant 1 (codes "V") (codes "BOB")) card (Err security_not_satisfied)
    ∷ by the_owner None (grant 1 (codes "V") (codes "BOB")) card (Err not_found)
    ∷ by the_owner None (grant 1 (codes "V") (codes "DAN")) full (Err no_space)
    ∷ []
    )
unfolding done_by
granted_so = refl

-- REVOKE: bits that the grant doesn't have are no refusal, and a grant without bits goes
revoked : AreDone (
    by the_owner None (Revoke 6 (codes "V") (codes "ANN")) (record card { grants = granted 9 5 3 5 ∷ [] }) (Ok card)
    ∷ by the_owner None (Revoke 3 (codes "V") (codes "ANN")) card (Ok (record card { grants = [] }))
    -- there is no grant, no object, it is another's, and there is nobody
    ∷ by the_owner None (Revoke 3 (codes "V") (codes "ANN")) (record card { grants = [] }) (Err not_found)
    ∷ by the_owner None (Revoke 1 (codes "Z") (codes "ANN")) card (Err not_found)
    ∷ by as_ann None (Revoke 1 (codes "V") (codes "ANN")) card (Err security_not_satisfied)
    ∷ by the_owner None (Revoke 1 (codes "V") (codes "BOB")) card (Err not_found)
    ∷ []
    )
unfolding done_by
revoked = refl

-- INSERT
abbrev insert_z : Operation
insert_z = Insert (codes "T") (codes "z" ∷ [] ∷ [])

inserted : AreDone (
    by the_owner None insert_z card (Ok (record card { next = 11; rows = x ∷ y ∷ row_of 10 (codes "z") [] ∷ [] }))
    -- by anybody, where PUBLIC may
    ∷ by Public None insert_z (record card { grants = granted 9 2 0 2 ∷ [] }) (Ok (record card { next = 11; grants = granted 9 2 0 2 ∷ []; rows = x ∷ y ∷ row_of 10 (codes "z") [] ∷ [] }))
    -- a view, and a table that ANN doesn't see
    ∷ by the_owner None (Insert (codes "V") (codes "z" ∷ [])) card (Err not_found)
    ∷ by as_ann None insert_z card (Err not_found)
    -- DAN may only select
    ∷ by as_dan None insert_z shown_to_dan (Err security_not_satisfied)
    ∷ by the_owner None (Insert (codes "T") (codes "z" ∷ [])) card (Err wrong_data)
    ∷ by the_owner None insert_z full (Err no_space)
    ∷ by the_owner None insert_z stampless (Err no_space)
    ∷ []
    )
unfolding done_by
inserted = refl

-- on a card of 16 cells there is room for thirteen rows
abbrev repeated : ℕ → Operation → Database → Result Database StatusWord
repeated zero operation db = Ok db
repeated (suc n) operation db = repeated n operation db >>= done_by the_owner None operation

abbrev small : Database
small = record with_t { cells = 16 }

thirteen_rows : is_ok (repeated 13 insert_z small) ≡ true
unfolding done_by
thirteen_rows = refl

fourteen_rows : repeated 14 insert_z small ≡ Err no_space
unfolding done_by
fourteen_rows = refl

-- the longest row of a card that isn't migrated takes nine cells, beside those of the counter, of OWNER and of its table
abbrev with_w : Database
with_w = record (fresh 64) { next = 3; objects = record t { name = codes "W" } ∷ [] }

abbrev with_long_row : Database
with_long_row = record with_w { next = 4; rows = row_of 3 (replicate 200 0x61) (replicate 38 0x62) ∷ [] }

long_row_inserted : done_by the_owner None (Insert (codes "W") (replicate 200 0x61 ∷ replicate 38 0x62 ∷ [])) with_w ≡ Ok with_long_row
unfolding done_by
long_row_inserted = refl

cells_with_long_row : weight with_long_row ≡ 12
cells_with_long_row = refl

-- a table that is dropped and made again is another one, of a new stamp
table_made_again : (done_by the_owner None (DropTable (codes "T")) with_t >>= done_by the_owner None create_t)
    ≡ Ok (record (fresh 64) { next = 4; objects = record t { stamp = 3 } ∷ [] })
unfolding done_by
table_made_again = refl

-- cursors on T, V and D
abbrev cursor_on : ℕ → Place → Option Cursor
cursor_on object place = Some (record { object = object; columns = codes "A" ∷ []; conditions = []; place = place })

abbrev cursor_where_b : ℕ → Option Cursor
cursor_where_b stamp = Some (record { object = 2; columns = codes "A" ∷ []; conditions = where_b; place = At stamp })

-- after a row is deleted there is room for one again
room_again : is_ok (repeated 13 insert_z small >>= λ db. done_by the_owner (cursor_on 2 (At 3)) Delete db >>= done_by the_owner None insert_z) ≡ true
unfolding done_by
room_again = refl

-- DELETE: the row goes
deleted : AreDone (
    by the_owner (cursor_on 2 (At 7)) Delete card (Ok (record card { rows = y ∷ [] }))
    -- and through a view the table's row
    ∷ by as_ann (cursor_on 5 (At 8)) Delete (record card { grants = granted 9 5 3 8 ∷ [] }) (Ok (record card { grants = granted 9 5 3 8 ∷ []; rows = x ∷ [] }))
    -- without a cursor, and before it is opened
    ∷ by the_owner None Delete card (Err conditions_not_satisfied)
    ∷ by the_owner (cursor_on 2 NotOpen) Delete card (Err conditions_not_satisfied)
    -- the object is gone, DAN doesn't see it, or it is a dictionary
    ∷ by the_owner (cursor_on 12 (At 7)) Delete card (Err not_found)
    ∷ by as_dan (cursor_on 2 (At 7)) Delete card (Err not_found)
    ∷ by the_owner (cursor_on 6 (At 2)) Delete card (Err conditions_not_satisfied)
    -- ANN may only select
    ∷ by as_ann (cursor_on 5 (At 7)) Delete card (Err security_not_satisfied)
    -- at the end, where the row is gone, and where it doesn't meet the conditions
    ∷ by the_owner (cursor_on 2 End) Delete card (Err record_not_found)
    ∷ by the_owner (cursor_on 2 (At 9)) Delete card (Err record_not_found)
    ∷ by the_owner (cursor_where_b 8) Delete card (Err record_not_found)
    ∷ []
    )
unfolding done_by
deleted = refl

-- UPDATE: the named values change; the row keeps its stamp and its place, and need not match any longer
abbrev set_b : Operation
set_b = Update ((codes "B", codes "u") ∷ [])

updated : AreDone (
    by the_owner (cursor_where_b 7) set_b card (Ok (record card { rows = row_of 7 (codes "x") (codes "u") ∷ y ∷ [] }))
    -- through a view the table's row
    ∷ by as_ann (cursor_on 5 (At 8)) (Update ((codes "A", codes "u") ∷ [])) (record card { grants = granted 9 5 3 4 ∷ [] }) (Ok (record card { grants = granted 9 5 3 4 ∷ []; rows = x ∷ row_of 8 (codes "u") (codes "t") ∷ [] }))
    -- without a cursor, and before it is opened
    ∷ by the_owner None set_b card (Err conditions_not_satisfied)
    ∷ by the_owner (cursor_on 2 NotOpen) set_b card (Err conditions_not_satisfied)
    -- the object is gone, or it is a dictionary
    ∷ by the_owner (cursor_on 12 (At 7)) set_b card (Err not_found)
    ∷ by the_owner (cursor_on 6 (At 2)) set_b card (Err conditions_not_satisfied)
    -- ANN may only select
    ∷ by as_ann (cursor_on 5 (At 7)) set_b card (Err security_not_satisfied)
    -- V hides column B, also from its owner
    ∷ by the_owner (cursor_on 5 (At 7)) set_b card (Err not_found)
    -- the column comes before the row
    ∷ by the_owner (cursor_on 5 End) set_b card (Err not_found)
    -- at the end, where the row is gone, and where it doesn't meet the conditions
    ∷ by the_owner (cursor_on 2 End) set_b card (Err record_not_found)
    ∷ by the_owner (cursor_on 2 (At 9)) set_b card (Err record_not_found)
    ∷ by the_owner (cursor_where_b 8) set_b card (Err record_not_found)
    ∷ []
    )
unfolding done_by
updated = refl

-- the longest row that a card takes which isn't migrated has 240 octets, and nine cells
abbrev set_long : ℕ → Operation
set_long n = Update ((codes "A", replicate 200 0x61) ∷ (codes "B", replicate n 0x62) ∷ [])

abbrev with_long : ℕ → Database
with_long n = record card { rows = row_of 7 (replicate 200 0x61) (replicate n 0x62) ∷ y ∷ [] }

long_row_cells : weight (with_long 38) ≡ 18
long_row_cells = refl

long_rows : AreDone (
    by the_owner (cursor_on 2 (At 7)) (set_long 38) card (Ok (with_long 38))
    -- a longer one is for a migrated card alone
    ∷ by the_owner (cursor_on 2 (At 7)) (set_long 39) card (Err wrong_data)
    ∷ by the_owner (cursor_on 2 (At 7)) (set_long 39) (record card { limit = 1020 }) (Ok (record (with_long 39) { limit = 1020 }))
    ∷ by the_owner (cursor_on 2 (At 7)) (set_long 38) (record card { cells = 17 }) (Err no_space)
    -- an update takes no stamp
    ∷ by the_owner (cursor_on 2 (At 7)) set_b stampless (Ok (record stampless { rows = row_of 7 (codes "x") (codes "u") ∷ y ∷ [] }))
    ∷ []
    )
unfolding done_by
long_rows = refl

-- CREATE USER
users_created : AreDone (
    by the_owner None (CreateUser (codes "ANN") Dbbu []) (record (fresh 64) { next = 3 }) (Ok (record (fresh 64) { next = 4; users = owner ∷ ann ∷ [] }))
    ∷ by as_ann None (CreateUser (codes "ANN") Dbbu []) card (Err security_not_satisfied)
    ∷ by as_dan None (CreateUser (codes "ANN") Dbbu []) card (Err already_exists)
    ∷ by the_owner None (CreateUser (codes "BOB") Dbbu []) full (Err no_space)
    ∷ []
    )
unfolding done_by
users_created = refl

-- DELETE USER takes the grants to the user
users_deleted : AreDone (
    by the_owner None (DeleteUser (codes "ANN")) card (Ok (record card { users = owner ∷ dan ∷ []; grants = [] }))
    ∷ by the_owner None (DeleteUser (codes "BOB")) card (Err not_found)
    ∷ by as_dan None (DeleteUser (codes "ANN")) card (Err security_not_satisfied)
    -- OWNER is needed, and so is who owns an object or a user
    ∷ by the_owner None (DeleteUser (codes "OWNER")) (fresh 64) (Err conditions_not_satisfied)
    ∷ by the_owner None (DeleteUser (codes "DAN")) (record card { objects = record t { owner = 4 } ∷ [] }) (Err conditions_not_satisfied)
    ∷ by the_owner None (DeleteUser (codes "DAN")) (record card { users = owner ∷ record ann { owner = 4 } ∷ dan ∷ [] }) (Err conditions_not_satisfied)
    ∷ []
    )
unfolding done_by
users_deleted = refl

-- The octets that are written for a change: 32 for each of two cells and 16 for two touched records, or 10 for one that goes.
octets_for_a_row : (edits_by the_owner None insert_z card >>= λ edits. Ok (octets_for edits)) ≡ Ok 80
unfolding edits_by
octets_for_a_row = refl

octets_for_a_row_that_goes : (edits_by the_owner (cursor_on 2 (At 7)) Delete card >>= λ edits. Ok (octets_for edits)) ≡ Ok 10
unfolding edits_by
octets_for_a_row_that_goes = refl

-- What a transaction touches: it inserts a row and changes it, and changes another one twice.
abbrev begun : Result Transaction StatusWord
begun = Ok (record { channel = 0; working = card; touched = [] })

abbrev on_with : Option Cursor → Operation → Result Transaction StatusWord → Result Transaction StatusWord
on_with cursor operation transaction = do
  t ← transaction
  edits ← edits_by the_owner cursor operation t.working
  Ok (transaction_after card t edits (applied t.working edits))

abbrev at_row : ℕ → Operation → Result Transaction StatusWord → Result Transaction StatusWord
at_row stamp operation transaction = on_with (cursor_on 2 (At stamp)) operation transaction

abbrev four_changes : Result Transaction StatusWord
four_changes = at_row 7 set_b (at_row 7 set_b (at_row 10 set_b (on_with None insert_z begun)))

touched_by_four_changes : (four_changes >>= λ t. Ok t.touched) ≡ Ok (0 ∷ 10 ∷ 7 ∷ [])
unfolding edits_by
touched_by_four_changes = refl

-- a row that was never committed leaves where it goes, and one that was committed stays
touched_by_deleting : (at_row 7 Delete (at_row 10 Delete four_changes) >>= λ t. Ok t.touched) ≡ Ok (0 ∷ 7 ∷ [])
unfolding edits_by
touched_by_deleting = refl
