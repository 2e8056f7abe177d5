-- `enter` meets its contract: a board is its own.
use Rattle.protocol.specs.Accesses.{board_of}
use Rattle.entry.proofs.enter.Goals as goal

pub returns : goal.returns
unfolding board_of
returns c = c.enter_by.ensures
