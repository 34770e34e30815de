use Rattle.eeprom.proofs.Taken.{takes-piece}
use Rattle.eeprom.proofs.sources.Pieces.take.Goals as goal

pub returns-clause-taken : goal.returns-clause-taken
returns-clause-taken c =
    takes-piece c.args.self.now.octets.items c.deref.result.now c.args.into.now c.copy_from_slice.new.self c.args.self.now.taken c.args.self.now.piece c.min.result c.min-count.result
    c.deref.ensures.value c.args.self.now.within c.args.self.now.some c.requires c.min.ensures c.min-count.ensures c.copy_from_slice.ensures.after
