-- The payload is that so far, and that of the cells from here on.
use Rattle.std.proofs.Common.{◌≡◌, ◌++◌, drop, flat_map}
use Rattle.eeprom.specs.StoreOf as image
use Rattle.plain_image.proofs.slot.payload_of.Given as goal

abbrev pub invariant-loop-cell : goal.invariant-loop-cell
invariant-loop-cell l = record {
  left : flat_map (image.payload_of l.octets l.cells) l.chain ≡ l.payload.items ++ flat_map (image.payload_of l.octets l.cells) (drop l.cell-index l.chain);
}
