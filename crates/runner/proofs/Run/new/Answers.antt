-- `Run::new` meets its contract.
use mathlib.Core.Path.{refl}
use Rattle.text.specs.Whole.{start}
use Rattle.runner.proofs.Run.new.Goals as goal

pub returns : goal.returns
unfolding start
returns c = (refl, λ area. rw c.off-state.ensures)
