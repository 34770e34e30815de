-- A store whose transaction begins is over the same EEPROM.
use Rattle.std.proofs.Common.{rules}
use Rattle.row_index.proofs.tests.an_index_follows_transactions.Goals as goal

pub put-put-requires : goal.put-put-requires
put-put-requires g c =
    let over = rw c.in-Ok.is at c.open-opened.ensures.over in
    record {
      begun = search rules;
      slot = search rules;
      some = search rules;
      most = search rules;
      over = record { room = rw c.begin.ensures.begun over.room; stands = c.begin.ensures.stands _ over.stands };
    }
