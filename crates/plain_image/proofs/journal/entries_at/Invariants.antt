-- The entries so far.
use Rattle.std.proofs.Common.{◌≡◌}
use Rattle.eeprom.specs.StoreOf as image
use Rattle.plain_image.proofs.journal.entries_at.Given as goal

abbrev pub invariant-loop-index : goal.invariant-loop-index
invariant-loop-index l = record {
  entries : l.entries.items ≡ image.entries_at l.octets l.place l.index;
}
