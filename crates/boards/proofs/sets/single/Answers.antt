-- One bit by a shift.
use Rattle.boards.proofs.Masks.{power_single}
use Rattle.boards.proofs.sets.single.Goals as goal

pub returns : goal.returns
returns c = power_single c.args.i c.requires
