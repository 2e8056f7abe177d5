-- `read_all` stays within the buffer, and ends: each turn reads more of it.
use Rattle.std.proofs.Common.{length, ◌-◌, ◌≤◌, ◌≡◌}
use Rattle.replay.proofs.read_all.Given as goal

abbrev pub invariant-loop-n : goal.invariant-loop-n
invariant-loop-n g l = (l.n ≤ length l.buffer) × (length l.buffer ≡ 65536)

abbrev pub decreases-loop-n : goal.decreases-loop-n
decreases-loop-n g l = 65536 - l.n
