-- `fault_forecast` meets its contract: refused as a fault, or the fault group and what its blocks cost.
use native.Mathlib.Omega.{arith}
use Rattle.std.proofs.lemmas.Result.{err_from_is_err_and}
use Rattle.volatile.specs.Volatile.{depends}
use Rattle.protocol.specs.Calls.{entry_tests}
use Rattle.costs.specs.Forecasts.{blocks_cost, fault_forecast}
use Rattle.entry.proofs.Laws.{small}
use Rattle.forecast.proofs.Laws.{refused_so, taken_so}
use Rattle.forecast.proofs.fault_forecast.Goals as goal

pub returns-in_err-s : goal.returns-in_err-s
unfolding fault_forecast
returns-in_err-s c =
    let p = err_from_is_err_and c.from_residual.result c.from_residual.ensures.1 in
    rw (p.1, p.2) (refused_so (entry_tests c.args.image.now c.args.state c.args.board) _ _ _ c.in_err-s.ensures)

pub overflow_cast-board : goal.overflow_cast-board
overflow_cast-board c = omega (arith, small c.in_ok-s.ensures.known)

pub fault_closure-group-requires : goal.fault_closure-group-requires
fault_closure-group-requires c = small c.in_ok-s.ensures.known

pub returns : goal.returns
unfolding depends fault_forecast
returns c =
    taken_so (entry_tests c.args.image.now c.args.state c.args.board) blocks_cost c.args.image.now
    c.in_ok-s.ensures.none c.in_ok-s.ensures.known.shaped.shape c.fault_closure-group.ensures.members
    c.blocks_cost-stores.ensures
