-- The records in the slots from here on are put.
use Rattle.std.proofs.Common.{◌≡◌, ◌≤◌, true, drop, length}
use Rattle.std.specs.List.{list_all}
use Rattle.eeprom.specs.Slots.{kept}
use Rattle.scql_model.specs.Opens.{counter_stamp}
use Rattle.scql_model.specs.Records.{counter_in}
use Rattle.plain_image.specs.Found.{AreCounters, AreWithin, is_admitted, records_in}
use Rattle.plain_image.proofs.filling.fill.Given as goal

abbrev pub invariant-loop-left : goal.invariant-loop-left
invariant-loop-left l = record {
  within : l.left ≤ length l.slots;
  records : l.database ≡ records_in l.fn.database.cells l.fn.database.limit (drop l.left l.slots);
  counters : AreCounters l.counters (kept counter_stamp counter_in (drop l.left l.slots));
  limits : AreWithin l.database;
  admitted : list_all is_admitted (drop l.left l.slots) ≡ true;
}

abbrev pub decreases-loop-left : goal.decreases-loop-left
decreases-loop-left l = l.left
