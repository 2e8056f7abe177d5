-- `play` begins with nothing held.
use Rattle.std.proofs.Common.{refl}
use Rattle.pieces.proofs.Pieces.{kept_first}
use Rattle.stream.proofs.play.Goals as goal

pub loop-init : goal.loop-init
loop-init g c =
    (refl, refl, refl, kept_first c.args.input.now, c.requires.1)
