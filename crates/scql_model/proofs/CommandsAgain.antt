-- What is written of a command is read back as that command, whole or part by part.
use Rattle.std.proofs.Common.{◌≡◌, ◌≤◌, ℕ, zero, suc, ◌&&◌, Bool, true, false, List, [], ◌++◌, Option, Some, None, Ok, refl, ap, arith}
use Rattle.std.specs.Prelude.{slice_get}
use Rattle.std.specs.List.{concat}
use Rattle.scql_base.specs.declared.operation.Command.{Command}
use Rattle.scql_base.specs.declared.operation.Line.{Line}
use Rattle.scql_base.specs.declared.operation.OperationKind.{OperationKind}
use Rattle.scql_model.specs.Machine.{Chain}
use Rattle.scql_model.specs.Operations.{has_instruction, has_secrets, line_of, is_for_channel, kind_of}
use Rattle.scql_model.specs.WellFormed.{IsWellFormed}
use Rattle.scql_model.specs.Form.{Form, is_chained, takes_case, is_case_3, channel_asked, line_on, parts_of, a_command, formed, part_in, form_of, formed_on, refused_on}
use Rattle.scql_model.specs.Refusals.{◌>>=◌, or_refused}
use Rattle.scql_model.specs.Parameters.{operation_in}
use Rattle.scql_base.specs.Words.{wrong_data}
use Rattle.scql_base.specs.declared.operation.Operation.{Operation}
use Rattle.scql_model.specs.Spelling.{field_of, cla_of, apdu_by, octets_of, HasLine, IsTaken, ReadsAs}
use Rattle.scql_model.proofs.OperationFields.{operation-again}
use Rattle.scql_model.proofs.TailsAgain.{tail, tail-again, data-again}
use Rattle.scql_model.proofs.LinesFound.{has_instruction-found}
use Rattle.scql_model.proofs.TakenFields.{Lined-field}

-- CLA
channel-again : (table : List Line) (ins : ℕ) (channels : List Bool) (channel : ℕ) (is_part : Bool) → channel ≤ 3 → has_instruction table ins ≡ true → slice_get channels channel ≡ Some true
    → channel_asked table (cla_of channel is_part) ins channels ≡ Ok channel
channel-again table ins channels zero true near known open' = rw (known, open') refl
channel-again table ins channels zero false near known open' = rw (known, open') refl
channel-again table ins channels (suc zero) true near known open' = rw (known, open') refl
channel-again table ins channels (suc zero) false near known open' = rw (known, open') refl
channel-again table ins channels (suc (suc zero)) true near known open' = rw (known, open') refl
channel-again table ins channels (suc (suc zero)) false near known open' = rw (known, open') refl
channel-again table ins channels (suc (suc (suc zero))) true near known open' = rw (known, open') refl
channel-again table ins channels (suc (suc (suc zero))) false near known open' = rw (known, open') refl
channel-again table ins channels (suc (suc (suc (suc channel)))) is_part near known open' = absurd (omega (arith, near))

chained-again : (channel : ℕ) (is_part : Bool) → channel ≤ 3 → is_chained (cla_of channel is_part) ≡ is_part
chained-again zero true near = refl
chained-again zero false near = refl
chained-again (suc zero) true near = refl
chained-again (suc zero) false near = refl
chained-again (suc (suc zero)) true near = refl
chained-again (suc (suc zero)) false near = refl
chained-again (suc (suc (suc zero))) true near = refl
chained-again (suc (suc (suc zero))) false near = refl
chained-again (suc (suc (suc (suc channel)))) is_part near = absurd (omega (arith, near))

-- INS, P1 and P2
line-again : (table : List Line) (channel : ℕ) (l : Line) (asked : OperationKind) → line_of table l.ins l.p1 l.p2 ≡ Some l → l.kind ≡ asked → is_for_channel channel asked ≡ true
    → line_on table channel l.ins l.p1 l.p2 ≡ Ok l
line-again table channel l asked found same closed = rw (found, same, closed) refl

-- What is read of the octets of a command by a line with some data, where these are a part or the last of a command.
pub part-again : (table : List Line) (l : Line) (channel : ℕ) (asked : OperationKind) (octets : List ℕ) (channels : List Bool) (chain : ℕ → Option Chain) (limit : ℕ)
    → channel ≤ 3 → line_of table l.ins l.p1 l.p2 ≡ Some l → l.kind ≡ asked → is_for_channel channel asked ≡ true
    → takes_case l.takes (tail octets None) && is_case_3 (tail octets None) ≡ true → slice_get channels channel ≡ Some true
    → form_of table (apdu_by l (cla_of channel true) octets None) channels chain limit
    ≡ formed (Ok channel) (λ channel. part_in channel asked (parts_of asked (chain channel)) (tail octets None))
unfolding form_of
part-again table l channel asked octets channels chain limit near found same closed takes open' =
    rw (
      channel-again table l.ins channels channel true near (has_instruction-found table l.ins l.p1 l.p2 l found) open',
      line-again table channel l asked found same closed,
      chained-again channel true near,
      tail-again octets None tt,
      takes,
      same,
    ) refl

-- what a command's whole field is read as
abbrev pub read_as : Command → Option Operation → Form
read_as c None = refused_on c.channel wrong_data
read_as c (Some operation) = a_command (record { channel = c.channel; operation = operation; le = c.le })

formed-read : (c : Command) (found : Option Operation)
    → formed_on c.channel (or_refused found wrong_data >>= (λ (operation : Operation). Ok (a_command (record { channel = c.channel; operation = operation; le = c.le })))) ≡ read_as c found
formed-read c None = refl
formed-read c (Some operation) = refl

pub last-again : (table : List Line) (l : Line) (c : Command) (octets : List ℕ) (channels : List Bool) (chain : ℕ → Option Chain) (limit : ℕ) (found : Option Operation)
    → IsWellFormed c → line_of table l.ins l.p1 l.p2 ≡ Some l → l.kind ≡ kind_of c.operation → takes_case l.takes (tail octets c.le) ≡ true → slice_get channels c.channel ≡ Some true
    → operation_in (has_secrets table) (kind_of c.operation) limit (field_of c.operation) ≡ found → concat (parts_of (kind_of c.operation) (chain c.channel)) ++ octets ≡ field_of c.operation
    → form_of table (apdu_by l (cla_of c.channel false) octets c.le) channels chain limit ≡ read_as c found
unfolding form_of
last-again table l c octets channels chain limit found formed' line same takes open' is joined =
    rw (
      channel-again table l.ins channels c.channel false formed'.channel (has_instruction-found table l.ins l.p1 l.p2 l line) open',
      line-again table c.channel l (kind_of c.operation) line same formed'.closed,
      chained-again c.channel false formed'.channel,
      tail-again octets c.le formed'.le,
      takes,
      same,
      data-again octets c.le,
      joined,
      is,
    ) (formed-read c found)

-- A command in one.
pub command-again : (table : List Line) (limit : ℕ) (c : Command) → IsWellFormed c → HasLine table (kind_of c.operation) → IsTaken (has_secrets table) limit c.operation
    → ReadsAs table limit c [] (octets_of c) (a_command c)
unfolding octets_of
command-again table limit c formed' has taken channels chain open' none =
    let lined = Lined-field c.operation c.le formed'.form formed'.wanted in
    rw lined.found
    (last-again table lined.line c (field_of c.operation) channels chain limit (Some c.operation) formed' (has lined.line lined.found) lined.kind lined.takes open' (operation-again (has_secrets table) limit c.operation formed'.form taken) (ap (λ (parts : List (List ℕ)). concat parts ++ field_of c.operation) none))
