-- The columns so far have their places.
use Rattle.std.proofs.Common.{◌≡◌, ◌≤◌, length, take}
use Rattle.views.specs.Resolved.{ArePlaces}
use Rattle.views.proofs.resolving.places_of.Given as goal

abbrev pub invariant-loop-column : goal.invariant-loop-column
invariant-loop-column l = record {
  placed : ArePlaces l.places.items l.all (take l.column-index l.column-items);
  count : length l.places.items ≡ l.column-index;
  fits : length l.column-items ≤ 15;
}
