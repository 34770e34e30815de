use Rattle.std.proofs.Common.{[], ◌∷◌, ◌∙◌, arith, length-append}
use Rattle.eeprom.proofs.Places.{numbers_at-push}
use Rattle.record_store.proofs.header.numbers_of.Goals as goal

pub loop-slot-preserved : goal.loop-slot-preserved
loop-slot-preserved c = record {
  numbers = c.in_ok-push.ensures.items
      ∙ numbers_at-push c.args.octets.now c.loop-slot.firsts.items c.loop-slot.slot c.number_of.result c.loop-slot.invariant.numbers c.number_of.ensures.number;
  count = rw c.in_ok-push.ensures.items (omega (arith, length-append c.loop-slot.firsts.items (c.number_of.result ∷ [])));
}
