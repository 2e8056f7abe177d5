-- `complete_first` meets its contract: the commit of a group that is decided, completed.
use native.Mathlib.Omega.{arith}
use Rattle.protocol.specs.Image.{total}
use Rattle.recovery.proofs.Laws.{nothing_first, group_first}
use Rattle.recovery.proofs.complete_first.Goals as goal

pub read_decision-requires : goal.read_decision-requires
unfolding total
read_decision-requires c = omega arith

pub returns-in_default : goal.returns-in_default
returns-in_default c = nothing_first _ _ c.read_decision.ensures c.in_default.is

pub returns : goal.returns
returns c =
    group_first _ _ c.read_decision.ensures c.in-Some.is c.complete.ensures
