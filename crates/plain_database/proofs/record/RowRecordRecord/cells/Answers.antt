use Rattle.std.proofs.Common.{ap, ◌∙◌, sym}
use Rattle.eeprom.specs.StoreOf.{cells_for}
use Rattle.plain_database.proofs.SpelledSizes.{row-size}
use Rattle.plain_database.proofs.record.RowRecordRecord.cells.Goals as goal

pub returns : goal.returns
returns c = record { number = c.cells_for.ensures.number ∙ (rw c.size.ensures (sym (ap cells_for (row-size c.args.self.now)))); few = c.cells_for.ensures.few }
