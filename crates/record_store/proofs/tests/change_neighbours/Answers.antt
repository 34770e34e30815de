use Rattle.std.proofs.Common.{refl, ap, arith, rules}
use Rattle.eeprom.specs.Chip.{Still}
use Rattle.record_store.specs.Held.{Held}
use Rattle.record_store.proofs.tests.change_neighbours.Goals as goal

pub commit-requires : goal.commit-requires
commit-requires c = record {
  begun = search rules;
  over = record {
    room = omega (
      arith,
      c.requires.over.room,
      c.in_ok-put-2.ensures.cells,
      c.in_ok-put.ensures.cells,
      ap (λ (held : Held). held.chains.cells) c.begin.ensures.begun,
      ap (λ (still : Still). still.size) c.in_ok-put-2.ensures.moments.still,
      ap (λ (still : Still). still.size) c.in_ok-put.ensures.moments.still,
    );
    stands = (c.in_ok-put-2.ensures.put _ refl).2.stands;
  };
}
