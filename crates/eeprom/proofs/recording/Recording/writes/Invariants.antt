use Rattle.std.proofs.Common.{◌≡◌, ◌+◌, length}
use Rattle.eeprom.proofs.Replayed.{marks_of}
use Rattle.eeprom.proofs.recording.Recording.writes.Given as goal

abbrev pub invariant-loop-left : goal.invariant-loop-left
invariant-loop-left l = l.count + length (marks_of l.left) ≡ length (marks_of l.self.events.items)

abbrev pub decreases-loop-left : goal.decreases-loop-left
decreases-loop-left l = length l.left
