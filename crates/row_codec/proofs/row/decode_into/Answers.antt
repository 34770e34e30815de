-- What is read of octets as a whole is what they spell.
use Rattle.std.proofs.Common.{arith}
use Rattle.scql_model.specs.Records.{row_record}
use Rattle.scql_model.proofs.FieldLaws.{decoded_found, decoded_only}
use Rattle.scql_model.proofs.RecordLaws.{IsLastField-row}
use Rattle.row_codec.proofs.row.decode_into.Goals as goal

pub returns-clause-found : goal.returns-clause-found
returns-clause-found c = decoded_found (λ (_ : Unit {0}). c.read_into.new.row) row_record IsLastField-row c.args.octets.now (λ i. omega (arith, c.type_inv.octets i)) c.read_into.result c.read_into.ensures

pub returns-clause-only : goal.returns-clause-only
returns-clause-only c = decoded_only (λ (_ : Unit {0}). c.read_into.new.row) row_record IsLastField-row c.args.octets.now c.read_into.result c.read_into.ensures
