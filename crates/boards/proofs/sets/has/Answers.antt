-- Bit j by a shift.
use Rattle.std.proofs.Common.{sym}
use Rattle.boards.proofs.Groups.{has_shift}
use Rattle.boards.proofs.sets.has.Goals as goal

pub returns : goal.returns
returns c = sym (has_shift c.args.g c.args.j)
