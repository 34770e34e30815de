-- The numbers so far.
use Rattle.std.proofs.Common.{◌≡◌, length}
use Rattle.eeprom.specs.declared.layout.TheConstants.{HEADER_SIZE}
use Rattle.eeprom.specs.StoreOf as image
use Rattle.plain_image.proofs.journal.written_firsts.Given as goal

abbrev pub invariant-loop-index : goal.invariant-loop-index
invariant-loop-index l = record {
  numbers : l.numbers.items ≡ image.numbers_at l.octets HEADER_SIZE l.index;
  count : length l.numbers.items ≡ l.index;
}
