-- The entries from here on are still to be put.
use Rattle.std.proofs.Common.{◌≡◌, length, drop}
use Rattle.eeprom.specs.StoreOf as image
use Rattle.plain_image.proofs.journal.put_entries.Given as goal

abbrev pub invariant-loop-entry : goal.invariant-loop-entry
invariant-loop-entry l = record {
  left : image.with_entries l.entries l.fn.firsts ≡ image.with_entries (drop l.entry-index l.entries) l.firsts;
  count : length l.firsts ≡ l.fn.cells;
}
