-- `eight_zeros` meets its contract.
use borrow.Author.Tests.{eqb-true}
use Rattle.blocks.proofs.Zeros.{eight_none}
use Rattle.blocks.proofs.eight_zeros.Goals as goal

pub returns : goal.returns
returns c =
    λ e. eight_none c.args.tags.now (eqb-true _ 0 e)
