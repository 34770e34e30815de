-- What is read as a command fits the card: a row that is inserted is within the card's limit, and a view's conditions within a data field.
use Rattle.std.proofs.Common.{◌≡◌, ℕ, zero, suc, ◌+◌, ◌<◌, ◌≤◌, ◌==◌, ◌&&◌, Bool, true, false, not, ◌||◌, List, [], ◌∷◌, ◌++◌, length, take, drop, Option, Some, None, Ok, option_map, if◌then◌else◌, refl, sym, ap, subst, get_or, arith}
use Rattle.std.specs.Prelude.{nat_le, option_and_then}
use Rattle.std.specs.List.{flat_map, list_all, concat}
use Rattle.std.proofs.lemmas.Bool.{leb-true, eqb-true, false≢true}
use Rattle.std.proofs.lemmas.List.{length-append, length-take}
use Rattle.std.proofs.lemmas.Option.{none-some, same_Some}
use Rattle.scql_base.specs.Name.{is_name}
use Rattle.scql_base.specs.Row.{is_narrow, row_size}
use Rattle.scql_base.specs.Strings.{spelled, Pieces, begun, with_octet, strings_in, pieces_of, params_of}
use Rattle.scql_base.specs.Words.{wrong_length, wrong_data}
use Rattle.scql_base.specs.declared.condition.Condition.{Condition}
use Rattle.scql_base.specs.declared.words.Comparison.{Comparison}
use Rattle.scql_base.specs.declared.operation.Command.{Command}
use Rattle.scql_base.specs.declared.operation.Line.{Line}
use Rattle.scql_base.specs.declared.operation.Takes.{Takes}
use Rattle.scql_base.specs.declared.operation.Operation.{Operation}
use Rattle.scql_base.specs.declared.operation.Operation.TheVariants.{CreateView, Insert}
use Rattle.scql_base.specs.declared.operation.OperationKind.{OperationKind}
use Rattle.scql_base.specs.declared.operation.OperationKind.TheVariants as kind
use Rattle.scql_model.specs.Records as records
use Rattle.scql_model.specs.Records.{comparison_code, comparison_of, is_count_of_columns, is_row_within}
use Rattle.scql_model.specs.Parameters.{Choice, conditions_in, choice_in, create_view_in, insert_in, operation_in}
use Rattle.scql_model.specs.WellFormed.{FitsCard}
use Rattle.scql_model.specs.Refusals.{or_refused, provided}
use Rattle.scql_model.specs.Machine.{Chain}
use Rattle.scql_model.specs.Operations.{kind_of, comes_in_parts, is_le_alone, has_secrets}
use Rattle.scql_model.specs.Form.{Tail, le_of, data_of, tail_of, takes_case, is_case_3, data_in, is_chained, channel_asked, line_on, taken_in, parts_of, a_command, part_in, command_in, form_of}
use Rattle.scql_model.proofs.FieldLaws.{AreOctets}
use Rattle.scql_model.proofs.OperationFields.{passed, found, read-operation, has_channel}
use Rattle.scql_model.proofs.FormedCommands.{both, wants_le, is_sound, same_Ok, bound, not_refused, on_channel, no_part, line-passes}

-- strings spell no more octets than those of which they were read
pieces-length : (n : ℕ) (octets : List ℕ) (string : List ℕ) (strings : List (List ℕ)) → pieces_of n octets ≡ Some (string, strings) → length string + length (flat_map spelled strings) ≤ length octets
unfolding pieces_of
pieces-length zero [] string strings is = subst (λ (p : List ℕ × List (List ℕ)). length p.0 + length (flat_map spelled p.1) ≤ 0) (same_Some _ (string, strings) is) (omega arith)
pieces-length (suc n) [] string strings is = absurd (none-some (string, strings) is)
pieces-length zero (octet ∷ octets) string strings is = go (pieces-length octet octets) (pieces_of octet octets) refl is
  where
    go : ((front : List ℕ) (rest : List (List ℕ)) → pieces_of octet octets ≡ Some (front, rest) → length front + length (flat_map spelled rest) ≤ length octets)
        → (p : Pieces) → pieces_of octet octets ≡ p → begun p ≡ Some (string, strings) → length string + length (flat_map spelled strings) ≤ suc (length octets)
    go before None at is = absurd (none-some (string, strings) is)
    go before (Some (front, rest)) at is =
        let less = before front rest at in
        let both = length-append front (flat_map spelled rest) in
        subst (λ (p : List ℕ × List (List ℕ)). length p.0 + length (flat_map spelled p.1) ≤ suc (length octets)) (same_Some _ (string, strings) is) (omega arith)
pieces-length (suc n) (octet ∷ octets) string strings is = go (pieces-length n octets) (pieces_of n octets) refl is
  where
    go : ((front : List ℕ) (rest : List (List ℕ)) → pieces_of n octets ≡ Some (front, rest) → length front + length (flat_map spelled rest) ≤ length octets)
        → (p : Pieces) → pieces_of n octets ≡ p → with_octet octet p ≡ Some (string, strings) → length string + length (flat_map spelled strings) ≤ suc (length octets)
    go before None at is = absurd (none-some (string, strings) is)
    go before (Some (front, rest)) at is =
        let less = before front rest at in
        subst (λ (p : List ℕ × List (List ℕ)). length p.0 + length (flat_map spelled p.1) ≤ suc (length octets)) (same_Some _ (string, strings) is) (omega arith)

params-length : (octets : List ℕ) (strings : List (List ℕ)) → params_of octets ≡ Some strings → length (flat_map spelled strings) ≤ length octets
unfolding params_of
params-length octets strings is = go (pieces_of 0 octets) refl is
  where
    go : (p : Pieces) → pieces_of 0 octets ≡ p → strings_in p ≡ Some strings → length (flat_map spelled strings) ≤ length octets
    go None at is = absurd (none-some strings is)
    go (Some (front, rest)) at is =
        let less = pieces-length 0 octets front rest at in
        subst (λ (s : List (List ℕ)). length (flat_map spelled s) ≤ length octets) (same_Some rest strings is) (omega arith)

drop-length : (n : ℕ) (strings : List (List ℕ)) → length (flat_map spelled (drop n strings)) ≤ length (flat_map spelled strings)
drop-length zero strings = omega arith
drop-length (suc n) [] = omega arith
drop-length (suc n) (string ∷ strings) = let rest = drop-length n strings in let both = length-append string (flat_map spelled strings) in omega arith

-- a condition's record has an octet less than its parameters
abbrev condition_octets : Condition → List ℕ
condition_octets c = spelled c.column ++ (comparison_code c.comparison ∷ spelled c.value)

conditions-length : (strings : List (List ℕ)) (conditions : List Condition) → conditions_in strings ≡ Some conditions → length (flat_map condition_octets conditions) ≤ length (flat_map spelled strings)
conditions-length [] conditions is = subst (λ (cs : List Condition). length (flat_map condition_octets cs) ≤ 0) (same_Some [] conditions is) (omega arith)
conditions-length (column ∷ []) conditions is = absurd (none-some conditions is)
conditions-length (column ∷ [] ∷ strings) conditions is = absurd (none-some conditions is)
conditions-length (column ∷ (a ∷ b ∷ rest) ∷ strings) conditions is = absurd (none-some conditions is)
conditions-length (column ∷ (code ∷ []) ∷ []) conditions is = absurd (none-some conditions is)
conditions-length (column ∷ (code ∷ []) ∷ value ∷ strings) conditions is = go (conditions-length strings) (comparison_of code) (conditions_in strings) refl is
  where
    go : ((rest : List Condition) → conditions_in strings ≡ Some rest → length (flat_map condition_octets rest) ≤ length (flat_map spelled strings))
        → (comparison : Option Comparison) (rest : Option (List Condition)) → conditions_in strings ≡ rest
        → option_and_then (λ (comparison : Comparison). option_map (λ (conditions : List Condition). record { column = column; comparison = comparison; value = value } ∷ conditions) rest) comparison ≡ Some conditions
        → length (flat_map condition_octets conditions) ≤ length (flat_map spelled (column ∷ (code ∷ []) ∷ value ∷ strings))
    go before None rest at is = absurd (none-some conditions is)
    go before (Some comparison) None at is = absurd (none-some conditions is)
    go before (Some comparison) (Some rest) at is =
        let less = before rest at in
        let c : Condition = record { column = column; comparison = comparison; value = value } in
        let a = length-append column (comparison_code comparison ∷ spelled value) in
        let b = length-append (condition_octets c) (flat_map condition_octets rest) in
        let d = length-append column (flat_map spelled ((code ∷ []) ∷ value ∷ strings)) in
        let e = length-append value (flat_map spelled strings) in
        subst (λ (cs : List Condition). length (flat_map condition_octets cs) ≤ length (flat_map spelled (column ∷ (code ∷ []) ∷ value ∷ strings))) (same_Some (c ∷ rest) conditions is) (omega arith)

-- CREATE VIEW: the conditions are behind the names, so that they have fewer octets than the field
choice-length : (strings : List (List ℕ)) (choice : Choice) → choice_in strings ≡ Some choice → length (records.conditions.spell choice.conditions) ≤ length (flat_map spelled strings)
choice-length [] choice is = absurd (none-some choice is)
choice-length ([] ∷ strings) choice is = absurd (none-some choice is)
choice-length ((a ∷ b ∷ rest) ∷ strings) choice is = absurd (none-some choice is)
choice-length ((count ∷ []) ∷ strings) choice is = found (conditions_in (drop count strings)) _ choice is (λ conditions at is.
    passed _ (let c : Choice = record { columns = take count strings; conditions = conditions } in c) choice is (λ test same.
    let less = conditions-length (drop count strings) conditions at in
    let fewer = drop-length count strings in
    subst (λ (c : Choice). length (records.conditions.spell c.conditions) ≤ length (flat_map spelled ((count ∷ []) ∷ strings))) same (omega arith)))

view-fits : (strings : List (List ℕ)) (o : Operation) (limit : ℕ) → create_view_in strings ≡ Some o → length (flat_map spelled strings) ≤ 255 → FitsCard limit o
view-fits [] o limit is few = absurd (none-some o is)
view-fits (name ∷ []) o limit is few = absurd (none-some o is)
view-fits (name ∷ base ∷ strings) o limit is few = found (choice_in strings) _ o is (λ choice at is.
    passed _ (CreateView name base choice.columns choice.conditions) o is (λ test same.
    let less = choice-length strings choice at in
    let a = length-append name (flat_map spelled (base ∷ strings)) in
    let b = length-append base (flat_map spelled strings) in
    subst (FitsCard limit) same (omega arith)))

-- INSERT: the row was read within the limit
insert-fits : (limit : ℕ) (strings : List (List ℕ)) (o : Operation) → insert_in limit strings ≡ Some o → FitsCard limit o
insert-fits limit [] o is = absurd (none-some o is)
insert-fits limit (table ∷ values) o is = passed _ (Insert table values) o is (λ test same.
    let row = (both (is_name table) (is_row_within limit values) test).1 in
    let within = (both (is_count_of_columns (length values) && list_all is_narrow values) (nat_le (row_size values) limit) row).1 in
    subst (FitsCard limit) same (leb-true (row_size values) limit within))

-- an operation of a kind fits, where its data field is one
operation-fits : (secrets : Bool) (asked : OperationKind) (limit : ℕ) (octets : List ℕ) (o : Operation) → kind_of o ≡ asked → operation_in secrets asked limit octets ≡ Some o
    → (comes_in_parts asked ≡ false → length octets ≤ 255) → FitsCard limit o
operation-fits secrets asked limit octets (Insert table values) same is few =
    let inserts : operation_in secrets kind.Insert limit octets ≡ Some (Insert table values) = subst (λ (asked : OperationKind). operation_in secrets asked limit octets ≡ Some (Insert table values)) (sym same) is in
    found (params_of octets) (insert_in limit) (Insert table values) inserts (λ strings at is. insert-fits limit strings (Insert table values) is)
operation-fits secrets asked limit octets (CreateView name base columns conditions) same is few =
    let o : Operation = CreateView name base columns conditions in
    let creates : operation_in secrets kind.CreateView limit octets ≡ Some o = subst (λ (asked : OperationKind). operation_in secrets asked limit octets ≡ Some o) (sym same) is in
    let short : length octets ≤ 255 = few (ap comes_in_parts (sym same)) in
    found (params_of octets) create_view_in o creates (λ strings at is.
    let less = params-length octets strings at in
    view-fits strings o limit is (omega arith))
operation-fits secrets asked limit octets operation same is few = tt

-- a data field in one command has at most 255 octets
data-short : (lc : ℕ) (rest : List ℕ) (tail : Tail) → data_of lc rest ≡ Some tail → length (data_in tail) ≤ lc
data-short lc rest tail is = go (length rest == lc) refl (length rest == lc + 1) is
  where
    go : (alone : Bool) → (length rest == lc) ≡ alone → (with_le : Bool)
        → (if alone then Some (record { body = Some rest; le = None }) else if with_le then Some (record { body = Some (take lc rest); le = Some (le_of (get_or rest lc 0)) }) else None) ≡ Some tail → length (data_in tail) ≤ lc
    go true t with_le is = let same = eqb-true (length rest) lc t in subst (λ (t : Tail). length (data_in t) ≤ lc) (same_Some _ tail is) (omega arith)
    go false f true is = let front = length-take lc rest in subst (λ (t : Tail). length (data_in t) ≤ lc) (same_Some _ tail is) (omega arith)
    go false f false is = absurd (none-some tail is)

tail-short : (after : List ℕ) (tail : Tail) → AreOctets after → tail_of after ≡ Some tail → length (data_in tail) ≤ 255
tail-short [] tail octets is = subst (λ (t : Tail). length (data_in t) ≤ 255) (same_Some _ tail is) (omega arith)
tail-short (le ∷ []) tail octets is = subst (λ (t : Tail). length (data_in t) ≤ 255) (same_Some _ tail is) (omega arith)
tail-short (lc ∷ x ∷ rest) tail octets is = go (lc == 0) is
  where
    go : (none : Bool) → (if none then None else data_of lc (x ∷ rest)) ≡ Some tail → length (data_in tail) ≤ 255
    go true is = absurd (none-some tail is)
    go false is = let most : lc < 256 = octets 0 in let least = data-short lc (x ∷ rest) tail is in omega arith

taken-short : (takes : Takes) (is_part : Bool) (after : List ℕ) (tail : Tail) → AreOctets after → taken_in takes is_part after ≡ Ok tail → length (data_in tail) ≤ 255
taken-short takes is_part after tail octets is =
    bound (or_refused (tail_of after) wrong_length) _ tail is (λ read at is.
    bound (provided (takes_case takes read && (not is_part || is_case_3 read)) wrong_length) _ tail is (λ taken at_taken same.
    subst (λ (t : Tail). length (data_in t) ≤ 255) (same_Ok read tail same) (tail-short after read octets (not_refused (tail_of after) wrong_length read at))))

-- what doesn't come in parts has none before it
pub no_parts : (asked : OperationKind) (chain : Option Chain) → comes_in_parts asked ≡ false → parts_of asked chain ≡ []
no_parts asked None alone = refl
no_parts kind.Insert (Some chain) alone = absurd (false≢true (sym alone))
no_parts kind.Update (Some chain) alone = absurd (false≢true (sym alone))
no_parts asked (Some chain) alone = refl

pub command-fits : (secrets : Bool) (channel : ℕ) (asked : OperationKind) (limit : ℕ) (parts : List (List ℕ)) (tail : Tail) (c : Command) → limit ≤ 1020 → has_channel asked ≡ true
    → length (data_in tail) ≤ 255 → (comes_in_parts asked ≡ false → parts ≡ []) → command_in secrets channel asked limit parts tail ≡ Ok (a_command c) → FitsCard limit c.operation
command-fits secrets channel asked limit parts tail c least number few alone is =
    let octets : List ℕ = concat parts ++ data_in tail in
    bound (or_refused (operation_in secrets asked limit octets) wrong_data) _ (a_command c) is (λ operation at same.
    let reads = not_refused (operation_in secrets asked limit octets) wrong_data operation at in
    let read = read-operation secrets asked limit least number octets operation reads in
    let whole : Command = record { channel = channel; operation = operation; le = tail.le } in
    let is_whole : whole ≡ c = cc in
    subst (λ (c : Command). FitsCard limit c.operation) is_whole
    (operation-fits secrets asked limit octets operation read.kind reads (λ (single : comes_in_parts asked ≡ false). rw (alone single) few)))

-- What is read as a command fits the card.
pub FitsCard-form_of : (table : List Line) (octets : List ℕ) (channels : List Bool) (chain : ℕ → Option Chain) (limit : ℕ) (c : Command)
    → list_all is_sound table ≡ true → AreOctets octets → limit ≤ 1020 → form_of table octets channels chain limit ≡ a_command c → FitsCard limit c.operation
unfolding form_of
FitsCard-form_of table [] channels chain limit c sound are least is = absurd cc
FitsCard-form_of table (cla ∷ []) channels chain limit c sound are least is = absurd cc
FitsCard-form_of table (cla ∷ ins ∷ []) channels chain limit c sound are least is = absurd cc
FitsCard-form_of table (cla ∷ ins ∷ p1 ∷ []) channels chain limit c sound are least is = absurd cc
FitsCard-form_of table (cla ∷ ins ∷ p1 ∷ p2 ∷ after) channels chain limit c sound are least is =
    on_channel (channel_asked table cla ins channels) _ (a_command c) refl is (λ channel at is.
    bound (line_on table channel ins p1 p2) _ (a_command c) is (λ line on_line is.
    bound (taken_in line.takes (is_chained cla) after) _ (a_command c) is (λ tail on_tail is.
    let sound_line = line-passes is_sound table channel ins p1 p2 line sound on_line in
    go (is_chained cla) channel line tail (both (has_channel line.kind) (not (wants_le line.kind) || is_le_alone line.takes) sound_line).0
    (taken-short line.takes (is_chained cla) after tail (λ i. are (suc (suc (suc (suc i))))) on_tail) is)))
  where
    go : (more : Bool) (channel : ℕ) (line : Line) (tail : Tail) → has_channel line.kind ≡ true → length (data_in tail) ≤ 255
        → (if more then part_in channel line.kind (parts_of line.kind (chain channel)) tail else command_in (has_secrets table) channel line.kind limit (parts_of line.kind (chain channel)) tail) ≡ Ok (a_command c)
        → FitsCard limit c.operation
    go true channel line tail number few is = no_part channel line.kind (parts_of line.kind (chain channel)) tail c is
    go false channel line tail number few is =
        command-fits (has_secrets table) channel line.kind limit (parts_of line.kind (chain channel)) tail c least number few (no_parts line.kind (chain channel)) is
