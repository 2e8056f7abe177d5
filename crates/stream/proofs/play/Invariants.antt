-- `play` stays within its slices; what it holds of the input is what it may read behind, or play.
use Rattle.std.proofs.Common.{◌≡◌, length}
use Rattle.pieces.specs.Pieces.{Kept}
use Rattle.reports.specs.Tasks.{Fits}
use Rattle.stream.proofs.play.Given as goal

abbrev pub invariant-loop : goal.invariant-loop
invariant-loop g l =
    (length l.input ≡ length l.initial.input) × (length l.area ≡ length l.initial.area)
    × (length l.out ≡ length l.initial.out) × Kept l.stop l.held l.input × Fits l.task
