-- `inspect::same_shape` meets its contract: the four numbers agree.
use borrow.Author.Rules.{rules}
use Rattle.inspect.specs.Same.{same_shape}
use Rattle.inspect.proofs.same_shape.Goals as goal

pub returns : goal.returns
unfolding same_shape
returns c = search rules
