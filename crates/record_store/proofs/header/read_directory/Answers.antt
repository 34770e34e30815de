use Rattle.std.proofs.Common.{rules}
use Rattle.record_store.proofs.DirectoryRead.{directory-read}
use Rattle.record_store.proofs.header.read_directory.Goals as goal

pub returns-clause-directory : goal.returns-clause-directory
returns-clause-directory g c =
    let n = c.args.header.cells in
    directory-read (g.B.Eeprom.chip c.args.bench.now).image c.read.new.into n 32 _ c.in_ok-numbers_of.field-0.items (search rules)
    c.in_ok-read.ensures.octets c.in_ok-numbers_of.ensures.numbers
