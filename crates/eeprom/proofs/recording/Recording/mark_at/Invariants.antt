use Rattle.std.proofs.Common.{◌≡◌, slice_get, length}
use Rattle.eeprom.proofs.Replayed.{marks_of}
use Rattle.eeprom.proofs.recording.Recording.mark_at.Given as goal

abbrev pub invariant-loop-left : goal.invariant-loop-left
invariant-loop-left l = slice_get (marks_of l.self.events.items) l.write ≡ slice_get (marks_of l.left) l.before

abbrev pub decreases-loop-left : goal.decreases-loop-left
decreases-loop-left l = length l.left
