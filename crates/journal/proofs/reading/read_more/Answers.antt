use Rattle.std.proofs.Common.{◌+◌, ◌*◌, length, rules}
use Rattle.eeprom.specs.StoreOf.{journal_place}
use Rattle.journal.proofs.Pushed.{more-read}
use Rattle.journal.proofs.reading.read_more.Goals as goal

pub returns-clause-entries : goal.returns-clause-entries
returns-clause-entries g c =
    more-read (g.B.Eeprom.chip c.args.bench.now.bench.now).image c.read.new.into c.args.entries.now.items c.push_entries.new.entries.items _ (journal_place c.args.bench.now.cells + 2 + 4 * length c.args.entries.now.items) c.args.count _
    c.in_ok-read.ensures.octets (search rules) (search rules) c.push_entries.ensures.entries
