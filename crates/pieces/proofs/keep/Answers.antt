-- `keep` meets its contract.
use Rattle.pieces.proofs.Pieces.{kept_down}
use Rattle.pieces.proofs.keep.Goals as goal

pub returns : goal.returns
returns c =
    kept_down c.args.stop c.args.input.now c.requires.0 c.requires.1 c.kept-held.ensures c.copy_within.ensures.after
