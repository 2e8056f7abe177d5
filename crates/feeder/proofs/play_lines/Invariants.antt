use Prim.Native.Nat.{◌-◌, ◌≤◌}
use mathlib.Core.Path.{◌≡◌}
use lib.ListN.{length, take}
use Rattle.pieces.specs.Pieces.{Output}
use Rattle.reports.specs.Reports.{reporting}
use Rattle.reports.specs.Tasks.{state_of, Fits}
use Rattle.feeder.proofs.play_lines.Given as goal

abbrev pub invariant-loop-buffer : goal.invariant-loop-buffer
invariant-loop-buffer l =
    (length l.area ≡ length l.initial.area)
    × (length l.out ≡ length l.initial.out)
    × (l.read ≤ length l.piece)
    × (l.written ≤ length l.initial.out)
    × Fits l.current
    × (length l.buffer ≡ 80)
    × Output reporting (state_of l.initial.current l.initial.area) l.piece (state_of l.current l.area)
    l.read (take l.written l.out)

abbrev pub decreases-loop-buffer : goal.decreases-loop-buffer
decreases-loop-buffer l =
    99999 - l.current.run.played
