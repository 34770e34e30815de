-- Worked spellings of commands: the definitions compute them.
use Rattle.std.proofs.Common.{◌≡◌, ℕ, List, [], ◌∷◌, ◌++◌, map, replicate, Option, Some, None, refl}
use Rattle.std.specs.Prelude.{codes}
use Rattle.std.specs.Result.{result_unwrap_or}
use Rattle.hex.specs.Hex.{decode_of}
use Rattle.hex.proofs.OnLiterals.{hex_on_literals}
use Rattle.scql_base.specs.declared.operation.Command.{Command}
use Rattle.scql_base.specs.declared.operation.Line.{Line}
use Rattle.scql_base.specs.declared.operation.Operation.{Operation}
use Rattle.scql_base.specs.declared.operation.Operation.TheVariants.{CreateTable, CreateView, CreateDictionary, Grant, DeclareCursor, OpenCursor, Fetch, Insert, Update, Verify, OpenChannel, CloseChannel, GetResponse}
use Rattle.scql_base.specs.declared.words.Subject.TheVariants.{Objects}
use Rattle.scql_base.specs.declared.words.Comparison.TheVariants.{Equal}
use Rattle.scql_model.specs.Operations.{operations}
use Rattle.scql_model.specs.Spelling.{line_for, part_count, octets_of, part_octets}

-- octets, from their digits
abbrev octets : List ℕ → List ℕ
octets digits = result_unwrap_or (decode_of digits) []

abbrev on : ℕ → Operation → Option ℕ → Command
on channel operation le = record { channel = channel; operation = operation; le = le }

-- each line of the table is found by its operation, so no two have the same
lines_found : map (λ (l : Line). line_for operations l.kind) operations ≡ map Some operations
lines_found = refl

creates_table : octets_of (on 0 (CreateTable (codes "T") (codes "A" ∷ codes "B" ∷ [])) None) ≡ octets (codes "0010008006015401410142")
unfolding octets_of hex_on_literals
creates_table = refl

creates_view : octets_of (on 0 (CreateView (codes "V") (codes "T") (codes "A" ∷ []) []) None) ≡ octets (codes "00100081080156015401010141")
unfolding octets_of hex_on_literals
creates_view = refl

creates_dictionary : octets_of (on 0 (CreateDictionary (codes "D") Objects) None) ≡ octets (codes "00100082040144014F")
unfolding octets_of hex_on_literals
creates_dictionary = refl

grants : octets_of (on 0 (Grant 1 (codes "V") (codes "ANN")) None) ≡ octets (codes "00100085080101015603414E4E")
unfolding octets_of hex_on_literals
grants = refl

declares : octets_of (on 0 (DeclareCursor (codes "T") [] []) None) ≡ octets (codes "001000870401540100")
unfolding octets_of hex_on_literals
declares = refl

declares_condition : octets_of (on 0 (DeclareCursor (codes "T") (codes "B" ∷ []) (record { column = codes "A"; comparison = Equal; value = codes "x" } ∷ [])) None)
    ≡ octets (codes "001000870C0154010101420141013D0178")
unfolding octets_of hex_on_literals
declares_condition = refl

opens_cursor : octets_of (on 0 OpenCursor None) ≡ octets (codes "00100088")
unfolding octets_of hex_on_literals
opens_cursor = refl

-- Le 2, and 256, which is 00
fetches_two : octets_of (on 0 Fetch (Some 2)) ≡ octets (codes "0010008A02")
unfolding octets_of hex_on_literals
fetches_two = refl

fetches_all : octets_of (on 0 Fetch (Some 256)) ≡ octets (codes "0010008A00")
unfolding octets_of hex_on_literals
fetches_all = refl

updates : octets_of (on 0 (Update ((codes "A", codes "x") ∷ (codes "B", []) ∷ [])) None) ≡ octets (codes "0010008D0701410178014200")
unfolding octets_of hex_on_literals
updates = refl

verifies : octets_of (on 0 (Verify (codes "1234")) None) ≡ octets (codes "002000000431323334")
unfolding octets_of hex_on_literals
verifies = refl

opens_any : octets_of (on 0 (OpenChannel 0) (Some 1)) ≡ octets (codes "0070000001")
unfolding octets_of hex_on_literals
opens_any = refl

opens_none : octets_of (on 0 (OpenChannel 7) None) ≡ []
unfolding octets_of
opens_none = refl

closes_own : octets_of (on 1 (CloseChannel 0) None) ≡ octets (codes "01708000")
unfolding octets_of hex_on_literals
closes_own = refl

asks_for_more : octets_of (on 2 GetResponse (Some 256)) ≡ octets (codes "02C0000000")
unfolding octets_of hex_on_literals
asks_for_more = refl

-- A row of 1,020 octets, whose data field has 1,022: four parts of 255 octets go on, and the last has two.
abbrev values : List (List ℕ)
values = replicate 5 (replicate 200 0x61) ++ (replicate 14 0x62 ∷ [])

abbrev inserts : Command
inserts = on 0 (Insert (codes "W") values) None

five_parts : part_count inserts ≡ 5
five_parts = refl

first_part : part_octets inserts 0
    ≡ octets (codes "1010008CFF0157C8") ++ (replicate 200 0x61 ++ (0xC8 ∷ replicate 51 0x61))
unfolding part_octets hex_on_literals
first_part = refl

fourth_part : part_octets inserts 3
    ≡ octets (codes "1010008CFF") ++ (replicate 41 0x61 ++ (0xC8 ∷ (replicate 200 0x61 ++ (14 ∷ replicate 12 0x62))))
unfolding part_octets hex_on_literals
fourth_part = refl

last_part : part_octets inserts 4 ≡ octets (codes "0010008C026262")
unfolding part_octets hex_on_literals
last_part = refl
