-- The loop that reads until the range is full or the file ends.
use Rattle.std.proofs.Common.{length, ◌-◌, ◌≤◌}
use Rattle.file_bench.proofs.card_file.CardFile.read.Given as goal

-- what is filled lies in the range
abbrev pub invariant-loop-filled : goal.invariant-loop-filled
invariant-loop-filled l = l.filled ≤ length l.initial.into

abbrev pub decreases-loop-filled : goal.decreases-loop-filled
decreases-loop-filled l = length l.initial.into - l.filled
