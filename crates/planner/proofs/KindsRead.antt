-- What is read of octets is on the channel of their class, and of the operation of their line of the table.
use Rattle.std.proofs.Common.{◌≡◌, ℕ, ◌%◌, Bool, true, false, List, [], ◌∷◌, ◌++◌, Option, Some, Ok, Err, if◌then◌else◌, refl, sym, ◌∙◌, ap, subst, arith}
use Rattle.std.specs.Prelude.{slice_get}
use Rattle.std.specs.List.{concat}
use Rattle.std.proofs.lemmas.Option.{same_Some}
use Rattle.scql_base.specs.declared.operation.Command.{Command}
use Rattle.scql_base.specs.declared.operation.Line.{Line}
use Rattle.scql_base.specs.declared.operation.Operation.{Operation}
use Rattle.scql_base.specs.declared.operation.Operation.TheVariants.{Insert, OpenChannel, CloseChannel}
use Rattle.scql_base.specs.declared.operation.OperationKind.{OperationKind}
use Rattle.scql_base.specs.declared.operation.OperationKind.TheVariants as kind
use Rattle.scql_base.specs.Strings.{params_of}
use Rattle.scql_base.specs.Words.{wrong_data, wrong_parameters, chaining_not_supported, channel_not_supported, instruction_not_supported}
use Rattle.scql_model.specs.Machine.{Chain}
use Rattle.scql_model.specs.Operations.{operations, comes_in_parts, has_instruction, has_secrets, is_for_channel, line_of, kind_of}
use Rattle.scql_model.specs.Parameters.{insert_in, operation_in}
use Rattle.scql_model.specs.Refusals.{or_refused, provided}
use Rattle.scql_model.specs.Form.{Form, Tail, data_in, class_of, is_chained, is_open, channel_asked, line_on, taken_in, parts_of, a_command, part_on, part_in, command_in, form_of}
use Rattle.scql_model.proofs.OperationFields.{passed, found, read-operation}
use Rattle.scql_model.proofs.FormedCommands.{bound, not_refused, not_unless, refused-not, same_Ok, on_channel, no_part}

kind-insert : (limit : ℕ) (strings : List (List ℕ)) (o : Operation) → insert_in limit strings ≡ Some o → kind_of o ≡ kind.Insert
kind-insert limit (table ∷ values) o is = passed _ (Insert table values) o is (λ _ same. ap kind_of (sym same))
kind-insert limit [] o is = absurd cc

-- whatever the limit of a row is
kind-operation : (secrets : Bool) (asked : OperationKind) (limit : ℕ) (octets : List ℕ) (o : Operation) → operation_in secrets asked limit octets ≡ Some o → kind_of o ≡ asked
kind-operation secrets kind.Insert limit octets o is = found (params_of octets) (insert_in limit) o is (λ strings _ is. kind-insert limit strings o is)
kind-operation secrets (kind.OpenChannel number) limit octets o is = ap kind_of (sym (same_Some (OpenChannel number) o is))
kind-operation secrets (kind.CloseChannel number) limit octets o is = ap kind_of (sym (same_Some (CloseChannel number) o is))
kind-operation secrets asked limit octets o is = (read-operation secrets asked 0 (omega arith) refl octets o is).kind

command-in : (secrets : Bool) (channel : ℕ) (asked : OperationKind) (limit : ℕ) (parts : List (List ℕ)) (tail : Tail) (c : Command)
    → command_in secrets channel asked limit parts tail ≡ Ok (a_command c) → (c.channel ≡ channel) × (kind_of c.operation ≡ asked)
command-in secrets channel asked limit parts tail c is =
    bound (or_refused (operation_in secrets asked limit (concat parts ++ data_in tail)) wrong_data) _ (a_command c) is (λ operation at same.
    let whole : Command = record { channel = channel; operation = operation; le = tail.le } in
    let is_whole : whole ≡ c = cc in (
      ap (λ (c : Command). c.channel) (sym is_whole),
      ap (λ (c : Command). kind_of c.operation) (sym is_whole)
          ∙ kind-operation secrets asked limit (concat parts ++ data_in tail) operation (not_refused (operation_in secrets asked limit (concat parts ++ data_in tail)) wrong_data operation at),
    ))

part-in : (channel : ℕ) (asked : OperationKind) (parts : List (List ℕ)) (tail : Tail) (form : Form) → part_in channel asked parts tail ≡ Ok form → comes_in_parts asked ≡ true
part-in channel asked parts tail form is =
    bound (provided (comes_in_parts asked) chaining_not_supported) _ form is (λ may at _. not_unless (comes_in_parts asked) chaining_not_supported may at)

-- the line that INS, P1 and P2 ask for, and the channel that the class asks for
line-found : (table : List Line) (channel ins p1 p2 : ℕ) (line : Line) → line_on table channel ins p1 p2 ≡ Ok line → line_of table ins p1 p2 ≡ Some line
line-found table channel ins p1 p2 line is =
    bound (or_refused (line_of table ins p1 p2) wrong_parameters) _ line is (λ found_line at is.
    bound (provided (is_for_channel channel found_line.kind) wrong_parameters) _ line is (λ _ _ same.
    subst (λ (l : Line). line_of table ins p1 p2 ≡ Some l) (same_Ok found_line line same) (not_refused (line_of table ins p1 p2) wrong_parameters found_line at)))

class-channel : (table : List Line) (cla ins : ℕ) (channels : List Bool) (channel : ℕ) → channel_asked table cla ins channels ≡ Ok channel → channel ≡ cla % 4
class-channel table cla ins channels channel is =
    bound (class_of cla) _ channel is (λ _ _ is.
    bound (provided (has_instruction table ins) instruction_not_supported) _ channel is (λ _ _ is. go (is_open (slice_get channels (cla % 4))) is))
  where
    go : (opened : Bool) → (if opened then Ok (cla % 4) else Err channel_not_supported) ≡ Ok channel → channel ≡ cla % 4
    go true is = sym (same_Ok (cla % 4) channel is)
    go false is = refused-not channel_not_supported channel is

-- A command that is read is on the channel of its class, and of the operation of its line.
pub record IsReadBy (cla ins p1 p2 : ℕ) (c : Command) : Type 0 where
  pub line : Line
  pub found : line_of operations ins p1 p2 ≡ Some line
  pub channel : c.channel ≡ cla % 4
  pub kind : kind_of c.operation ≡ line.kind

pub command-read : (cla ins p1 p2 : ℕ) (after : List ℕ) (channels : List Bool) (chain : ℕ → Option Chain) (limit : ℕ) (c : Command)
    → form_of operations (cla ∷ ins ∷ p1 ∷ p2 ∷ after) channels chain limit ≡ a_command c → IsReadBy cla ins p1 p2 c
unfolding form_of
command-read cla ins p1 p2 after channels chain limit c is =
    on_channel (channel_asked operations cla ins channels) _ (a_command c) refl is (λ channel asked is.
    bound (line_on operations channel ins p1 p2) _ (a_command c) is (λ line on_line is.
    bound (taken_in line.takes (is_chained cla) after) _ (a_command c) is (λ tail _ is.
    let read = go (is_chained cla) channel line tail is in
    record {
      line = line;
      found = line-found operations channel ins p1 p2 line on_line;
      channel = read.0 ∙ class-channel operations cla ins channels channel asked;
      kind = read.1;
    })))
  where
    go : (more : Bool) (channel : ℕ) (line : Line) (tail : Tail)
        → (if more then part_in channel line.kind (parts_of line.kind (chain channel)) tail else command_in (has_secrets operations) channel line.kind limit (parts_of line.kind (chain channel)) tail) ≡ Ok (a_command c)
        → (c.channel ≡ channel) × (kind_of c.operation ≡ line.kind)
    go true channel line tail is = no_part channel line.kind (parts_of line.kind (chain channel)) tail c is
    go false channel line tail is = command-in (has_secrets operations) channel line.kind limit (parts_of line.kind (chain channel)) tail c is

-- A part that is read is of an operation that comes in parts, which is that of its line.
pub record IsPartBy (ins p1 p2 : ℕ) : Type 0 where
  pub line : Line
  pub found : line_of operations ins p1 p2 ≡ Some line
  pub comes : comes_in_parts line.kind ≡ true

pub part-read : (cla ins p1 p2 : ℕ) (after : List ℕ) (channels : List Bool) (chain : ℕ → Option Chain) (limit on : ℕ) (of : OperationKind) (part : List ℕ)
    → form_of operations (cla ∷ ins ∷ p1 ∷ p2 ∷ after) channels chain limit ≡ part_on on of part → IsPartBy ins p1 p2
unfolding form_of
part-read cla ins p1 p2 after channels chain limit on of part is =
    on_channel (channel_asked operations cla ins channels) _ (part_on on of part) refl is (λ channel _ is.
    bound (line_on operations channel ins p1 p2) _ (part_on on of part) is (λ line on_line is.
    bound (taken_in line.takes (is_chained cla) after) _ (part_on on of part) is (λ tail _ is. record {
      line = line;
      found = line-found operations channel ins p1 p2 line on_line;
      comes = go (is_chained cla) channel line tail is;
    })))
  where
    go : (more : Bool) (channel : ℕ) (line : Line) (tail : Tail)
        → (if more then part_in channel line.kind (parts_of line.kind (chain channel)) tail else command_in (has_secrets operations) channel line.kind limit (parts_of line.kind (chain channel)) tail) ≡ Ok (part_on on of part)
        → comes_in_parts line.kind ≡ true
    go true channel line tail is = part-in channel line.kind (parts_of line.kind (chain channel)) tail (part_on on of part) is
    go false channel line tail is =
        bound (or_refused (operation_in (has_secrets operations) line.kind limit (concat (parts_of line.kind (chain channel)) ++ data_in tail)) wrong_data) _ (part_on on of part) is (λ _ _ same. absurd cc)

pub kind-read : (l : Line) (cla ins p1 p2 : ℕ) (after : List ℕ) (channels : List Bool) (chain : ℕ → Option Chain) (limit : ℕ) (c : Command) → line_of operations ins p1 p2 ≡ Some l
    → form_of operations (cla ∷ ins ∷ p1 ∷ p2 ∷ after) channels chain limit ≡ a_command c → kind_of c.operation ≡ l.kind
kind-read l cla ins p1 p2 after channels chain limit c at is =
    let read = command-read cla ins p1 p2 after channels chain limit c is in
    read.kind ∙ ap (λ (l : Line). l.kind) (same_Some read.line l (sym read.found ∙ at))
