-- A command of one part is its first part, and its octets are read back.
use Rattle.std.proofs.Common.{◌≡◌, ℕ, List, [], subst, sym, ◌∙◌}
use Rattle.scql_base.specs.declared.operation.Command.{Command}
use Rattle.scql_model.specs.Form.{a_command}
use Rattle.scql_model.specs.Operations.{operations, has_secrets, kind_of}
use Rattle.scql_model.specs.Spelling.{IsTaken, ReadsAs, octets_of}
use Rattle.scql_model.specs.WellFormed.{IsWellFormed}
use Rattle.scql_model.proofs.CommandsAgain.{command-again}
use Rattle.scql_model.proofs.LinesFound.{HasLine-operations}
use Rattle.scql_model.proofs.PartsAgain.{part-one}
use Rattle.apdu.proofs.command.CommandCommandApdu.write.Goals as goal

read_back : (c : Command) (octets : List ℕ) (limit : ℕ) → octets ≡ octets_of c → IsWellFormed c → IsTaken (has_secrets operations) limit c.operation
    → ReadsAs operations limit c [] octets (a_command c)
read_back c octets limit same formed taken =
    subst (λ (octets : List ℕ). ReadsAs operations limit c [] octets (a_command c)) (sym same) (command-again operations limit c formed (HasLine-operations (kind_of c.operation)) taken)

pub returns-clause-octets : goal.returns-clause-octets
returns-clause-octets c = c.write_part.ensures.octets ∙ part-one c.args.self.now c.requires.one

pub returns-clause-read_back : goal.returns-clause-read_back
returns-clause-read_back c = λ limit. read_back c.args.self.now c.write_part.new.out.items limit (c.write_part.ensures.octets ∙ part-one c.args.self.now c.requires.one)
