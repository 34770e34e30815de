use Rattle.std.proofs.Common.{◌≡◌, slice_get, length}
use Rattle.eeprom.specs.Recorded.{AllFit, past_of}
use Rattle.eeprom.specs.Told.{writes_of}
use Rattle.eeprom.proofs.recording.Recording.image_within.Given as goal

abbrev pub invariant-loop-left : goal.invariant-loop-left
invariant-loop-left l = record {
  fit : AllFit (length l.image.items) l.left;
  so_far : slice_get (writes_of (past_of l.self.first.items l.self.events.items)) l.write ≡ slice_get (writes_of (past_of l.image.items l.left)) l.before;
}

abbrev pub decreases-loop-left : goal.decreases-loop-left
decreases-loop-left l = length l.left
