-- The table of operations: which INS, P1 and P2 ask for which (ISO/IEC 7816-7 for those of SCQL, ISO/IEC 7816-4 for VERIFY, MANAGE CHANNEL and GET RESPONSE).
use Rattle.std.specs.Prelude.{ℕ, ◌==◌, not, ◌&&◌, Bool, true, false, List, [], ◌∷◌, map, filter, Option}
use Rattle.std.specs.List.{list_any, find, Contains}
use Rattle.scql_base.specs.declared.operation.Operation.{Operation}
use Rattle.scql_base.specs.declared.operation.Operation.TheVariants as operation
use Rattle.scql_base.specs.declared.operation.Line.{Line}
use Rattle.scql_base.specs.declared.operation.Takes.{Takes}
use Rattle.scql_base.specs.declared.operation.Takes.TheVariants.{Nothing, DataField, LeAlone}
use Rattle.scql_base.specs.declared.operation.OperationKind.{OperationKind}
use Rattle.scql_base.specs.declared.operation.OperationKind.TheVariants.{CreateTable, CreateView, CreateDictionary, DropTable, DropView, Grant, Revoke, DeclareCursor, OpenCursor, Next, Fetch, FetchNext, Insert, Update, Delete, Begin, Commit, Rollback, PresentUser, CreateUser, DeleteUser, Verify, OpenChannel, CloseChannel, GetResponse}

abbrev a_line : ℕ → ℕ → ℕ → OperationKind → Takes → Line
a_line ins p1 p2 kind takes = record { ins = ins; p1 = p1; p2 = p2; kind = kind; takes = takes }

-- all operations; the number of a channel to open or to close is P2
abbrev pub operations : List Line
operations =
    a_line 0x10 0x00 0x80 CreateTable DataField
    ∷ a_line 0x10 0x00 0x81 CreateView DataField
    ∷ a_line 0x10 0x00 0x82 CreateDictionary DataField
    ∷ a_line 0x10 0x00 0x83 DropTable DataField
    ∷ a_line 0x10 0x00 0x84 DropView DataField
    ∷ a_line 0x10 0x00 0x85 Grant DataField
    ∷ a_line 0x10 0x00 0x86 Revoke DataField
    ∷ a_line 0x10 0x00 0x87 DeclareCursor DataField
    ∷ a_line 0x10 0x00 0x88 OpenCursor Nothing
    ∷ a_line 0x10 0x00 0x89 Next Nothing
    ∷ a_line 0x10 0x00 0x8A Fetch LeAlone
    ∷ a_line 0x10 0x00 0x8B FetchNext LeAlone
    ∷ a_line 0x10 0x00 0x8C Insert DataField
    ∷ a_line 0x10 0x00 0x8D Update DataField
    ∷ a_line 0x10 0x00 0x8E Delete Nothing
    ∷ a_line 0x12 0x00 0x80 Begin Nothing
    ∷ a_line 0x12 0x00 0x81 Commit Nothing
    ∷ a_line 0x12 0x00 0x82 Rollback Nothing
    ∷ a_line 0x14 0x00 0x80 PresentUser DataField
    ∷ a_line 0x14 0x00 0x81 CreateUser DataField
    ∷ a_line 0x14 0x00 0x82 DeleteUser DataField
    ∷ a_line 0x20 0x00 0x00 Verify DataField
    ∷ a_line 0x70 0x00 0x00 (OpenChannel 0) LeAlone
    ∷ a_line 0x70 0x00 0x01 (OpenChannel 1) Nothing
    ∷ a_line 0x70 0x00 0x02 (OpenChannel 2) Nothing
    ∷ a_line 0x70 0x00 0x03 (OpenChannel 3) Nothing
    ∷ a_line 0x70 0x80 0x00 (CloseChannel 0) Nothing
    ∷ a_line 0x70 0x80 0x01 (CloseChannel 1) Nothing
    ∷ a_line 0x70 0x80 0x02 (CloseChannel 2) Nothing
    ∷ a_line 0x70 0x80 0x03 (CloseChannel 3) Nothing
    ∷ a_line 0xC0 0x00 0x00 GetResponse LeAlone
    ∷ []

-- an operation is one of the table
abbrev pub IsOperation : OperationKind → Type 0
IsOperation kind = Contains (map (λ (l : Line). l.kind) operations) kind

-- the operations whose commands have Le alone
abbrev pub is_le_alone : Takes → Bool
is_le_alone LeAlone = true
is_le_alone takes = false

abbrev pub WantsLe : OperationKind → Type 0
WantsLe kind = Contains (map (λ (l : Line). l.kind) (filter (λ (l : Line). is_le_alone l.takes) operations)) kind

-- some operation of a table has this instruction
abbrev pub has_instruction : List Line → ℕ → Bool
has_instruction table ins = list_any (λ (l : Line). l.ins == ins) table

-- secrets can be shown where VERIFY is among the operations
abbrev pub has_secrets : List Line → Bool
has_secrets table = has_instruction table 0x20

-- the line of a table for INS, P1 and P2
abbrev pub line_of : List Line → ℕ → ℕ → ℕ → Option Line
line_of table ins p1 p2 = find (λ (l : Line). l.ins == ins && l.p1 == p1 && l.p2 == p2) table

-- channel 0 stays open, so what closes the command's own channel isn't for it
abbrev pub is_for_channel : ℕ → OperationKind → Bool
is_for_channel channel (CloseChannel number) = not (channel == 0 && number == 0)
is_for_channel channel kind = true

-- A command goes on with the parts of another, where both are of the same operation and it is one of the two whose data field may
-- come in parts (command chaining): INSERT or UPDATE.
abbrev pub goes_on : OperationKind → OperationKind → Bool
goes_on Insert Insert = true
goes_on Update Update = true
goes_on kind other = false

-- the data field may come in parts
abbrev pub comes_in_parts : OperationKind → Bool
comes_in_parts kind = goes_on kind kind

-- which operation a command with its fields is of
abbrev pub kind_of : Operation → OperationKind
kind_of (operation.CreateTable name columns) = CreateTable
kind_of (operation.CreateView name base columns conditions) = CreateView
kind_of (operation.CreateDictionary name subject) = CreateDictionary
kind_of (operation.DropTable name) = DropTable
kind_of (operation.DropView name) = DropView
kind_of (operation.Grant privileges object grantee) = Grant
kind_of (operation.Revoke privileges object grantee) = Revoke
kind_of (operation.DeclareCursor object columns conditions) = DeclareCursor
kind_of operation.OpenCursor = OpenCursor
kind_of operation.Next = Next
kind_of operation.Fetch = Fetch
kind_of operation.FetchNext = FetchNext
kind_of (operation.Insert table values) = Insert
kind_of (operation.Update changes) = Update
kind_of operation.Delete = Delete
kind_of operation.Begin = Begin
kind_of operation.Commit = Commit
kind_of operation.Rollback = Rollback
kind_of (operation.PresentUser name) = PresentUser
kind_of (operation.CreateUser name profile secret) = CreateUser
kind_of (operation.DeleteUser name) = DeleteUser
kind_of (operation.Verify secret) = Verify
kind_of (operation.OpenChannel number) = OpenChannel number
kind_of (operation.CloseChannel number) = CloseChannel number
kind_of operation.GetResponse = GetResponse
