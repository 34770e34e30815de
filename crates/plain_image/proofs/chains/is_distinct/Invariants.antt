-- No cell up to here stands twice.
use Rattle.std.proofs.Common.{◌≡◌, length}
use Rattle.eeprom.specs.StoreOf as image
use Rattle.plain_image.proofs.chains.is_distinct.Given as goal

abbrev pub invariant-loop-rest : goal.invariant-loop-rest
invariant-loop-rest l = image.is_distinct l.cells ≡ image.is_distinct l.rest

abbrev pub decreases-loop-rest : goal.decreases-loop-rest
decreases-loop-rest l = length l.rest
