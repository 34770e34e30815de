-- The octets of a part are read back.
use Rattle.std.proofs.Common.{subst, sym, ◌≡◌, ◌<◌, ◌+◌, ℕ, List, true}
use Rattle.scql_base.specs.declared.operation.Command.{Command}
use Rattle.scql_model.specs.Form.{Form, a_command, part_on}
use Rattle.scql_model.specs.Operations.{operations, has_secrets, kind_of}
use Rattle.scql_model.specs.Spelling.{IsTaken, ReadsAs, first_parts, field_of, fits, part_at, part_count, part_octets}
use Rattle.scql_model.specs.WellFormed.{IsWellFormed}
use Rattle.scql_model.proofs.LinesFound.{HasLine-operations}
use Rattle.scql_model.proofs.PartsAgain.{part-read, last-read}
use Rattle.apdu.proofs.command.CommandCommandApdu.write_part.Goals as goal

reads_as : (c : Command) (place limit : ℕ) (octets : List ℕ) (form : Form) → octets ≡ part_octets c place
    → ReadsAs operations limit c (first_parts place (field_of c.operation)) (part_octets c place) form → ReadsAs operations limit c (first_parts place (field_of c.operation)) octets form
reads_as c place limit octets form same reads = subst (λ (octets : List ℕ). ReadsAs operations limit c (first_parts place (field_of c.operation)) octets form) (sym same) reads

part : (c : Command) (place : ℕ) (octets : List ℕ) → octets ≡ part_octets c place → fits c ≡ true → (limit : ℕ) → IsWellFormed c → place + 1 < part_count c
    → ReadsAs operations limit c (first_parts place (field_of c.operation)) octets (part_on c.channel (kind_of c.operation) (part_at place (field_of c.operation)))
part c place octets same fit limit formed more =
    reads_as c place limit octets (part_on c.channel (kind_of c.operation) (part_at place (field_of c.operation))) same
    (part-read operations limit c place formed fit more (HasLine-operations (kind_of c.operation)))

last : (c : Command) (place : ℕ) (octets : List ℕ) → octets ≡ part_octets c place → fits c ≡ true → (limit : ℕ) → IsWellFormed c → place + 1 ≡ part_count c
    → IsTaken (has_secrets operations) limit c.operation → ReadsAs operations limit c (first_parts place (field_of c.operation)) octets (a_command c)
last c place octets same fit limit formed ends taken =
    reads_as c place limit octets (a_command c) same (last-read operations limit c place formed fit ends (HasLine-operations (kind_of c.operation)) taken)

pub returns-clause-part : goal.returns-clause-part
returns-clause-part c = part c.args.self.now c.args.part c.write.new.out.items c.write.ensures c.requires.fits

pub returns-clause-last : goal.returns-clause-last
returns-clause-last c = last c.args.self.now c.args.part c.write.new.out.items c.write.ensures c.requires.fits
