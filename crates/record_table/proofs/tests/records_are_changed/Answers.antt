-- A store whose transaction begins is over the same EEPROM.
use Rattle.std.proofs.Common.{rules}
use Rattle.record_table.proofs.tests.records_are_changed.Goals as goal

pub change_some-changed-requires-clause-open : goal.change_some-changed-requires-clause-open
change_some-changed-requires-clause-open g c = record {
  begun = search rules;
  over = let over = rw c.in-Ok.is at c.open-opened.ensures.over in
      record { room = rw c.begin.ensures.begun over.room; stands = c.begin.ensures.stands _ over.stands };
}
