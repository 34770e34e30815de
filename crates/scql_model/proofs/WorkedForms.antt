-- Worked readings of commands, where all operations are built: the definitions compute them.
use Rattle.std.proofs.Common.{◌≡◌, ℕ, Bool, true, false, List, [], ◌∷◌, ◌++◌, take, drop, map, replicate, Option, Some, None, refl}
use Rattle.std.specs.Prelude.{codes}
use Rattle.std.specs.List.{flat_map}
use Rattle.std.specs.Result.{result_unwrap_or}
use Rattle.hex.specs.Hex.{decode_of}
use Rattle.hex.proofs.OnLiterals.{hex_on_literals}
use Rattle.scql_base.specs.declared.operation.Operation.{Operation}
use Rattle.scql_base.specs.declared.operation.Operation.TheVariants.{CreateTable, CreateView, CreateDictionary, Grant, DeclareCursor, OpenCursor, Insert, Update, Verify, OpenChannel, CloseChannel}
use Rattle.scql_base.specs.declared.words.Subject.TheVariants.{Objects}
use Rattle.scql_base.specs.declared.words.Comparison.TheVariants.{Equal}
use Rattle.scql_base.specs.declared.operation.OperationKind.TheVariants as kind
use Rattle.scql_base.specs.Words.{wrong_length, class_not_supported, secure_messaging_not_supported, chaining_not_supported, instruction_not_supported, channel_not_supported, wrong_parameters, wrong_data}
use Rattle.scql_base.specs.Strings.{spelled, params_of, pieces_of}
use Rattle.scql_base.specs.declared.operation.Line.{Line}
use Rattle.scql_model.specs.Operations.{operations, line_of}
use Rattle.scql_model.specs.Form.{Form, refused, refused_on, part_on, a_command, form_of, no_chain}

-- octets, from their digits
abbrev octets_of : List ℕ → List ℕ
octets_of digits = result_unwrap_or (decode_of digits) []

-- channel 0 alone is open, and channels 0 and 1 are
abbrev one_open : List Bool
one_open = true ∷ false ∷ false ∷ false ∷ []

abbrev two_open : List Bool
two_open = true ∷ true ∷ false ∷ false ∷ []

-- on a card whose rows have at most 240 octets
abbrev reading : List ℕ → Form
reading digits = form_of operations (octets_of digits) one_open no_chain 240

abbrev on : ℕ → Operation → Option ℕ → Form
on channel operation le = a_command (record { channel = channel; operation = operation; le = le })

-- each line of the table is found by its own INS, P1 and P2, so no two have the same
lines_found : map (λ (l : Line). line_of operations l.ins l.p1 l.p2) operations ≡ map Some operations
lines_found = refl

-- each refusal in its order
too_short : reading (codes "001000") ≡ refused wrong_length
unfolding form_of hex_on_literals
too_short = refl

another_class : reading (codes "80100088") ≡ refused class_not_supported
unfolding form_of hex_on_literals
another_class = refl

secured : reading (codes "04100088") ≡ refused secure_messaging_not_supported
unfolding form_of hex_on_literals
secured = refl

unknown_instruction : reading (codes "00FF0000") ≡ refused instruction_not_supported
unfolding form_of hex_on_literals
unknown_instruction = refl

closed_channel : reading (codes "01100088") ≡ refused channel_not_supported
unfolding form_of hex_on_literals
closed_channel = refl

unknown_parameters : reading (codes "0010008F") ≡ refused_on 0 wrong_parameters
unfolding form_of hex_on_literals
unknown_parameters = refl

without_le : reading (codes "0010008A") ≡ refused_on 0 wrong_length
unfolding form_of hex_on_literals
without_le = refl

lc_of_none : reading (codes "00100080000154") ≡ refused_on 0 wrong_length
unfolding form_of hex_on_literals
lc_of_none = refl

lc_of_more : reading (codes "001000800601540141") ≡ refused_on 0 wrong_length
unfolding form_of hex_on_literals
lc_of_more = refl

opens_cursor : reading (codes "00100088") ≡ on 0 OpenCursor None
unfolding form_of hex_on_literals
opens_cursor = refl

creates_table : reading (codes "0010008006015401410142") ≡ on 0 (CreateTable (codes "T") (codes "A" ∷ codes "B" ∷ [])) None
unfolding form_of params_of pieces_of hex_on_literals
creates_table = refl

same_columns : reading (codes "0010008006015401410141") ≡ refused_on 0 wrong_data
unfolding form_of params_of pieces_of hex_on_literals
same_columns = refl

creates_view : reading (codes "00100081080156015401010141") ≡ on 0 (CreateView (codes "V") (codes "T") (codes "A" ∷ []) []) None
unfolding form_of params_of pieces_of hex_on_literals
creates_view = refl

creates_dictionary : reading (codes "00100082040144014F") ≡ on 0 (CreateDictionary (codes "D") Objects) None
unfolding form_of params_of pieces_of hex_on_literals
creates_dictionary = refl

grants : reading (codes "00100085080101015603414E4E") ≡ on 0 (Grant 1 (codes "V") (codes "ANN")) None
unfolding form_of params_of pieces_of hex_on_literals
grants = refl

grants_nothing : reading (codes "00100085080100015603414E4E") ≡ refused_on 0 wrong_data
unfolding form_of params_of pieces_of hex_on_literals
grants_nothing = refl

-- all columns, and one column with a condition
declares : reading (codes "001000870401540100") ≡ on 0 (DeclareCursor (codes "T") [] []) None
unfolding form_of params_of pieces_of hex_on_literals
declares = refl

declares_condition : reading (codes "001000870C0154010101420141013D0178")
    ≡ on 0 (DeclareCursor (codes "T") (codes "B" ∷ []) (record { column = codes "A"; comparison = Equal; value = codes "x" } ∷ [])) None
unfolding form_of params_of pieces_of hex_on_literals
declares_condition = refl

half_a_condition : reading (codes "0010008708015401000141013D") ≡ refused_on 0 wrong_data
unfolding form_of params_of pieces_of hex_on_literals
half_a_condition = refl

updates : reading (codes "0010008D0701410178014200") ≡ on 0 (Update ((codes "A", codes "x") ∷ (codes "B", []) ∷ [])) None
unfolding form_of params_of pieces_of hex_on_literals
updates = refl

verifies : reading (codes "002000000431323334") ≡ on 0 (Verify (codes "1234")) None
unfolding form_of hex_on_literals
verifies = refl

-- a row of 240 octets, and one of 241
widest_row : form_of operations (octets_of (codes "0010008CF20157C8") ++ (replicate 200 0x61 ++ (0x26 ∷ replicate 38 0x62))) one_open no_chain 240
    ≡ on 0 (Insert (codes "W") (replicate 200 0x61 ∷ replicate 38 0x62 ∷ [])) None
unfolding form_of params_of pieces_of hex_on_literals
widest_row = refl

too_wide_row : form_of operations (octets_of (codes "0010008CF30157C8") ++ (replicate 200 0x61 ++ (0x27 ∷ replicate 39 0x62))) one_open no_chain 240 ≡ refused_on 0 wrong_data
unfolding form_of params_of pieces_of hex_on_literals
too_wide_row = refl

-- channels
opens_any : reading (codes "0070000001") ≡ on 0 (OpenChannel 0) (Some 1)
unfolding form_of hex_on_literals
opens_any = refl

opens_second : reading (codes "00700002") ≡ on 0 (OpenChannel 2) None
unfolding form_of hex_on_literals
opens_second = refl

closes_second : reading (codes "00708002") ≡ on 0 (CloseChannel 2) None
unfolding form_of hex_on_literals
closes_second = refl

closes_own : form_of operations (octets_of (codes "01708000")) two_open no_chain 240 ≡ on 1 (CloseChannel 0) None
unfolding form_of hex_on_literals
closes_own = refl

keeps_first : reading (codes "00708000") ≡ refused_on 0 wrong_parameters
unfolding form_of hex_on_literals
keeps_first = refl

-- command chaining is for INSERT and UPDATE, in case 3; GET RESPONSE takes Le alone
chained_without_data : reading (codes "10100088") ≡ refused_on 0 wrong_length
unfolding form_of hex_on_literals
chained_without_data = refl

chained_other : reading (codes "10100083020154") ≡ refused_on 0 chaining_not_supported
unfolding form_of hex_on_literals
chained_other = refl

chained_with_le : reading (codes "1010008C01FF00") ≡ refused_on 0 wrong_length
unfolding form_of hex_on_literals
chained_with_le = refl

chained_insert : reading (codes "1010008C0101") ≡ part_on 0 kind.Insert (0x01 ∷ [])
unfolding form_of hex_on_literals
chained_insert = refl

asks_without_le : reading (codes "00C00000") ≡ refused_on 0 wrong_length
unfolding form_of hex_on_literals
asks_without_le = refl

asks_otherwise : reading (codes "00C0000100") ≡ refused_on 0 wrong_parameters
unfolding form_of hex_on_literals
asks_otherwise = refl

-- A row of 1,020 octets, whose data field has 1,022: channel 0 has the first four parts of 255 octets, and the last has two.
abbrev value : List ℕ
value = replicate 200 0x61

abbrev values : List (List ℕ)
values = value ∷ value ∷ value ∷ value ∷ value ∷ replicate 14 0x62 ∷ []

abbrev field : List ℕ
field = flat_map spelled (codes "W" ∷ values)

abbrev four_parts : List (List ℕ)
four_parts = take 255 field ∷ take 255 (drop 255 field) ∷ take 255 (drop 510 field) ∷ take 255 (drop 765 field) ∷ []

abbrev chained : ℕ → List ℕ → Form
chained limit digits = form_of operations (octets_of digits) one_open (λ channel. Some (record { operation = kind.Insert; parts = four_parts })) limit

last_part : drop 1020 field ≡ codes "bb"
last_part = refl

joined_insert : chained 1020 (codes "0010008C026262") ≡ on 0 (Insert (codes "W") values) None
unfolding form_of params_of pieces_of hex_on_literals
joined_insert = refl

joined_too_wide : chained 240 (codes "0010008C026262") ≡ refused_on 0 wrong_data
unfolding form_of params_of pieces_of hex_on_literals
joined_too_wide = refl

fifth_part : chained 1020 (codes "1010008C026262") ≡ refused_on 0 wrong_length
unfolding form_of hex_on_literals
fifth_part = refl

-- then the chain is gone
unjoined_insert : reading (codes "0010008C026262") ≡ refused_on 0 wrong_data
unfolding form_of params_of pieces_of hex_on_literals
unjoined_insert = refl

-- a part of an UPDATE isn't joined to an INSERT
other_chain : chained 1020 (codes "1010008D0101") ≡ part_on 0 kind.Update (0x01 ∷ [])
unfolding form_of hex_on_literals
other_chain = refl
