-- Whatever octets the fields of a command have, its parts keep a machine valid, and so does the command.
use Rattle.std.proofs.Common.{◌≡◌, ◌≤◌, ◌<◌, ℕ, zero, suc, ◌+◌, ◌%◌, ◌*◌, ◌&&◌, ◌||◌, not, Bool, true, false, List, [], ◌∷◌, ◌++◌, length, drop, Option, Some, None, if◌then◌else◌, Ok, refl, sym, ◌∙◌, ap, subst, arith, length-take}
use Rattle.std.specs.Prelude.{nat_lt}
use Rattle.std.specs.List.{AllByRecursion, concat, list_all}
use Rattle.std.specs.Option.{option_map_or}
use Rattle.std.proofs.lemmas.Bool.{leb-true, le-leb}
use Rattle.std.proofs.lemmas.Option.{same_Some}
use Rattle.std.proofs.Math.Nat.{mod-eq_of_lt, mod-lt}
use Rattle.scql_base.specs.Words.{wrong_data, wrong_length}
use Rattle.scql_base.specs.declared.operation.Command.{Command}
use Rattle.scql_base.specs.declared.operation.Line.{Line}
use Rattle.scql_base.specs.declared.operation.OperationKind.{OperationKind}
use Rattle.scql_base.specs.declared.operation.Takes.{Takes}
use Rattle.scql_model.specs.Database.{IsValid}
use Rattle.scql_model.specs.Form.{Tail, tail_of, takes_case, is_case_3, data_in, is_chained, channel_asked, line_on, taken_in, parts_of, a_command, part_in, command_in, form_of}
use Rattle.scql_model.specs.Machine.{Machine, Chain, open_channels}
use Rattle.scql_model.specs.Operations.{operations, has_secrets, is_le_alone, kind_of}
use Rattle.scql_model.specs.Parameters.{operation_in}
use Rattle.scql_model.specs.Refusals.{or_refused, provided}
use Rattle.scql_model.specs.Sessions.{command_chain}
use Rattle.scql_model.specs.Spelling.{field_of, line_for, cla_of, with_length, le_octets, part_at, part_by, part_octets, parts_for}
use Rattle.scql_model.specs.Step.{step}
use Rattle.scql_model.specs.ValidMachine.{IsValidMachine}
use Rattle.scql_model.specs.WellFormed.{HasForm, FitsCard}
use Rattle.scql_model.proofs.OperationFields.{read-operation, has_channel}
use Rattle.scql_model.proofs.FormedCommands.{both, wants_le, is_sound, same_Ok, bound, not_refused, on_channel, no_part, line-passes, sound-operations, for_channel-form_of}
use Rattle.scql_model.proofs.KeepsRows.{within_largest}
use Rattle.scql_model.proofs.ReadFits.{command-fits, no_parts}
use Rattle.scql_model.proofs.TailsAgain.{IsLe, tail, tail-again, data-again}
use Rattle.scql_model.proofs.ValidSteps.{IsValidAnswer, valid-stepped}
use Rattle.planner.specs.Meaning.{answer_to}
use Rattle.planner.proofs.InTurn.{answer-holds}

-- An Le is written as one of 1 to 256 is.
record IsWritten (le : Option ℕ) : Type 0 where
  as_le : Option ℕ
  fits : IsLe as_le
  octets : le_octets as_le ≡ le_octets le

written : (le : Option ℕ) → IsWritten le
written None = record { as_le = None; fits = tt; octets = refl }
written (Some le) = go (le % 256) refl (mod-lt le (omega arith))
  where
    go : (octet : ℕ) → le % 256 ≡ octet → octet < 256 → IsWritten (Some le)
    go zero same few = record { as_le = Some 256; fits = (omega arith, omega arith); octets = ap (λ (octet : ℕ). octet ∷ []) (sym same) }
    go (suc octet) same few =
        record { as_le = Some (suc octet); fits = (omega arith, omega (arith, few)); octets = ap (λ (octet : ℕ). octet ∷ []) (mod-eq_of_lt few ∙ sym same) }

-- so the data field is found behind P2
field-found : (field : List ℕ) (le : Option ℕ) (found : Tail) → tail_of (with_length field ++ le_octets le) ≡ Some found → data_in found ≡ field
field-found field le found is =
    let as_one = written le in
    let reads : tail_of (with_length field ++ le_octets le) ≡ Some (tail field as_one.as_le) =
    ap (λ (octets : List ℕ). tail_of (with_length field ++ octets)) (sym as_one.octets) ∙ tail-again field as_one.as_le as_one.fits in
    ap data_in (same_Some found (tail field as_one.as_le) (sym is ∙ reads)) ∙ data-again field as_one.as_le

field-taken : (takes : Takes) (is_part : Bool) (field : List ℕ) (le : Option ℕ) (found : Tail) → taken_in takes is_part (with_length field ++ le_octets le) ≡ Ok found → data_in found ≡ field
field-taken takes is_part field le found is =
    bound (or_refused (tail_of (with_length field ++ le_octets le)) wrong_length) _ found is (λ read at is.
    bound (provided (takes_case takes read && (not is_part || is_case_3 read)) wrong_length) _ found is (λ taken at_taken same.
    subst (λ (t : Tail). data_in t ≡ field) (same_Ok read found same) (field-found field le read (not_refused (tail_of (with_length field ++ le_octets le)) wrong_length read at))))

-- What is read as a command has its form, and fits the card.
record HasFields (limit : ℕ) (c : Command) : Type 0 where
  form : HasForm c.operation
  fits : FitsCard limit c.operation

command-form : (secrets : Bool) (channel : ℕ) (asked : OperationKind) (limit : ℕ) (parts : List (List ℕ)) (tail : Tail) (c : Command) → limit ≤ 1020 → has_channel asked ≡ true
    → command_in secrets channel asked limit parts tail ≡ Ok (a_command c) → HasForm c.operation
command-form secrets channel asked limit parts tail c least number is =
    let octets : List ℕ = concat parts ++ data_in tail in
    bound (or_refused (operation_in secrets asked limit octets) wrong_data) _ (a_command c) is (λ operation at same.
    let whole : Command = record { channel = channel; operation = operation; le = tail.le } in
    let is_whole : whole ≡ c = cc in
    subst (λ (c : Command). HasForm c.operation) is_whole (read-operation secrets asked limit least number octets operation (not_refused (operation_in secrets asked limit octets) wrong_data operation at)).form)

fields-read : (table : List Line) (cla ins p1 p2 : ℕ) (field : List ℕ) (le : Option ℕ) (channels : List Bool) (chain : ℕ → Option Chain) (limit : ℕ) (c : Command)
    → list_all is_sound table ≡ true → limit ≤ 1020 → length field ≤ 255 → form_of table (cla ∷ ins ∷ p1 ∷ p2 ∷ (with_length field ++ le_octets le)) channels chain limit ≡ a_command c → HasFields limit c
unfolding form_of
fields-read table cla ins p1 p2 field le channels chain limit c sound least few is =
    on_channel (channel_asked table cla ins channels) _ (a_command c) refl is (λ channel at is.
    bound (line_on table channel ins p1 p2) _ (a_command c) is (λ line on_line is.
    bound (taken_in line.takes (is_chained cla) (with_length field ++ le_octets le)) _ (a_command c) is (λ found on_tail is.
    let sound_line = line-passes is_sound table channel ins p1 p2 line sound on_line in
    go (is_chained cla) channel line found (both (has_channel line.kind) (not (wants_le line.kind) || is_le_alone line.takes) sound_line).0
    (subst (λ (octets : List ℕ). length octets ≤ 255) (sym (field-taken line.takes (is_chained cla) field le found on_tail)) few) is)))
  where
    go : (more : Bool) (channel : ℕ) (line : Line) (found : Tail) → has_channel line.kind ≡ true → length (data_in found) ≤ 255
        → (if more then part_in channel line.kind (parts_of line.kind (chain channel)) found else command_in (has_secrets table) channel line.kind limit (parts_of line.kind (chain channel)) found) ≡ Ok (a_command c)
        → HasFields limit c
    go true channel line found number few is = no_part channel line.kind (parts_of line.kind (chain channel)) found c is
    go false channel line found number few is = record {
      form = command-form (has_secrets table) channel line.kind limit (parts_of line.kind (chain channel)) found c least number is;
      fits = command-fits (has_secrets table) channel line.kind limit (parts_of line.kind (chain channel)) found c least number few
          (no_parts line.kind (chain channel)) is;
    }

-- A part of a command.
most-limit : (m : Machine) → IsValidMachine m → m.committed.limit ≤ 1020
most-limit m valid = leb-true m.committed.limit 1020 (within_largest m.committed m.committed.limit valid.committed (le-leb m.committed.limit m.committed.limit (omega arith)))

valid-part : (m : Machine) (c : Command) (place : ℕ) → IsValidMachine m → IsValidAnswer (step m (part_octets c place))
unfolding step part_octets form_of
valid-part m c place valid = go (line_for operations (kind_of c.operation))
  where
    field : List ℕ
    field = part_at place (field_of c.operation)

    few : length field ≤ 255
    few = let front = length-take 255 (drop (255 * place) (field_of c.operation)) in omega (arith, front)

    go : (line : Option Line) → IsValidAnswer (step m (option_map_or (λ (l : Line). part_by l c.channel c.le (field_of c.operation) place) line []))
    go None = valid-stepped m (form_of operations [] (open_channels m) (command_chain m) m.committed.limit) valid (λ d is. absurd cc)
    go (Some l) =
        let more : Bool = nat_lt (place + 1) (parts_for (length (field_of c.operation))) in
        let le : Option ℕ = if more then None else c.le in
        valid-stepped m (form_of operations (cla_of c.channel more ∷ l.ins ∷ l.p1 ∷ l.p2 ∷ (with_length field ++ le_octets le)) (open_channels m) (command_chain m) m.committed.limit) valid (λ d is.
        let has = fields-read operations (cla_of c.channel more) l.ins l.p1 l.p2 field le (open_channels m) (command_chain m) m.committed.limit d sound-operations (most-limit m valid) few is in
        (has.form, has.fits, for_channel-form_of operations (cla_of c.channel more ∷ l.ins ∷ l.p1 ∷ l.p2 ∷ (with_length field ++ le_octets le)) (open_channels m) (command_chain m) m.committed.limit d sound-operations (most-limit m valid) is))

-- All parts in turn.
pub all-both : {X : Type 0} (P : X → Type 0) (xs ys : List X) → AllByRecursion P xs → AllByRecursion P ys → AllByRecursion P (xs ++ ys)
all-both P [] ys first then' = then'
all-both P (x ∷ xs) ys first then' = (first.0, all-both P xs ys first.1 then')

pub valid-answer : (m : Machine) (c : Command) → IsValidMachine m → IsValidAnswer (answer_to m c)
valid-answer m c =
    answer-holds (λ n answer. IsValidMachine n → IsValidAnswer answer) c (λ n place. valid-part n c place) (λ n place next later valid.
    let first = valid-part n c place valid in
    let then' = later first.machine in
    record { machine = then'.machine; commits = all-both IsValid (step n (part_octets c place)).commits next.commits first.commits then'.commits }) m
