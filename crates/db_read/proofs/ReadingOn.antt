-- Reading goes on where it was.
use Rattle.std.proofs.Common.{◌∙◌}
use Rattle.eeprom.specs.declared.device.Eeprom.{Ghosts}
use Rattle.db_read.specs.Reader.{GoesOn}
use Rattle.db_read.specs.declared.reader.Reader.{Reader}

pub on-further : {B : Type 0} {g : Ghosts B} (a b c : Reader B g) → GoesOn a b → GoesOn b c → GoesOn a c
on-further a b c one two = record {
  store = two.store ∙ one.store;
  index = two.index ∙ one.index;
  side = two.side ∙ one.side;
  bench = two.bench ∙ one.bench;
}
