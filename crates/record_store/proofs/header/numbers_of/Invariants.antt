use Rattle.std.proofs.Common.{◌≡◌, length}
use Rattle.eeprom.specs.StoreOf.{numbers_at}
use Rattle.record_store.proofs.header.numbers_of.Given as goal

abbrev pub invariant-loop-slot : goal.invariant-loop-slot
invariant-loop-slot l = record {
  numbers : l.firsts.items ≡ numbers_at l.octets 0 l.slot;
  count : length l.firsts.items ≡ l.slot;
}
