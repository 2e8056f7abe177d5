-- `commit_forecast` meets its contract: refused as a start but for 3, or the commit group and what its commit costs.
use native.Mathlib.Omega.{arith}
use Rattle.std.proofs.lemmas.Result.{err_from_is_err_and}
use Rattle.volatile.specs.Volatile.{depends}
use Rattle.protocol.specs.Calls.{entry_tests}
use Rattle.costs.specs.Forecasts.{commit_cost, commit_tests, commit_forecast}
use Rattle.entry.proofs.Laws.{small, refused_first}
use Rattle.forecast.proofs.Laws.{commit_open, commit_passes, refused_so, taken_so}
use Rattle.protocol.specs.declared.Refusal.TheVariants.{CommitOpen}
use Rattle.forecast.proofs.commit_forecast.Goals as goal

pub returns-in_err-s : goal.returns-in_err-s
unfolding commit_forecast
returns-in_err-s c =
    let p = err_from_is_err_and c.from_residual.result c.from_residual.ensures.1 in
    rw (p.1, p.2) (refused_so (commit_tests c.args.image.now c.args.state c.args.board) _ _ _
    (refused_first (entry_tests c.args.image.now c.args.state c.args.board) _ _ c.in_err-s.ensures))

pub returns-then-engaged-ne0 : goal.returns-then-engaged-ne0
unfolding commit_forecast
returns-then-engaged-ne0 c =
    refused_so (commit_tests c.args.image.now c.args.state c.args.board) CommitOpen _ _
    (commit_open c.args.image.now c.args.state c.args.board c.in_ok-s.ensures.none
    (λ z. omega (arith, c.if-engaged-ne0.true, c.engaged.ensures, z)))

pub overflow_cast-board : goal.overflow_cast-board
overflow_cast-board c = omega (arith, small c.in_ok-s.ensures.known)

pub commit_closure-group-requires : goal.commit_closure-group-requires
commit_closure-group-requires c = small c.in_ok-s.ensures.known

pub returns : goal.returns
unfolding depends commit_forecast
returns c =
    let none = commit_passes c.args.image.now c.args.state c.args.board c.in_ok-s.ensures.none
    (omega (arith, c.if-engaged-ne0.false, c.engaged.ensures)) in
    taken_so (commit_tests c.args.image.now c.args.state c.args.board) commit_cost c.args.image.now none
    c.in_ok-s.ensures.known.shaped.shape c.commit_closure-group.ensures.members c.commit_cost-stores.ensures
