-- The slots so far, and those of the first cells from here on.
use Rattle.std.proofs.Common.{◌≡◌, drop}
use Rattle.eeprom.specs.StoreOf as image
use Rattle.plain_image.proofs.Leftover.{slots_from}
use Rattle.plain_image.proofs.slots.slots_at.Given as goal

abbrev pub invariant-loop-first : goal.invariant-loop-first
invariant-loop-first l = record {
  left : image.slots_at l.octets l.cells l.firsts ≡ slots_from l.octets l.cells l.used.items l.slots.items (drop l.first-index l.firsts);
}
