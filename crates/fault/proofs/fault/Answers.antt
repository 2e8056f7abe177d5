-- `fault` meets its contract: refused, or the group's blocks restored and its rows emptied.
use mathlib.Core.Path.{refl}
use mathlib.Core.List.{[]}
use native.Mathlib.Omega.{arith}
use Rattle.volatile.specs.Volatile.{depends}
use Rattle.protocol.specs.Calls.{Fault, refusals, entry_tests, record_refused}
use Rattle.store.proofs.Ends.{left_most}
use Rattle.blocks.specs.Banks.{bank, filled}
use Rattle.entry.proofs.Laws.{small, call_refused_first}
use Rattle.fault.proofs.Laws.{fault_done}
use Rattle.fault.proofs.fault.Goals as goal

pub returns-in-Err : goal.returns-in-Err
unfolding refusals entry_tests record_refused
returns-in-Err c =
    call_refused_first (entry_tests _ c.args.state c.args.board) [] _ c.in-Err.ensures c.args.state
    (Fault c.args.board) refl c.refusal.ensures refl

pub overflow_cast-board : goal.overflow_cast-board
overflow_cast-board c = omega (arith, small c.in-Ok.ensures.known)

pub fault_closure-group-requires : goal.fault_closure-group-requires
fault_closure-group-requires c = small c.in-Ok.ensures.known

pub finish-requires : goal.finish-requires
finish-requires c = left_most c.new-whole.ensures c.copy_blocks-left.ensures.makes

pub returns : goal.returns
unfolding refusals bank filled depends
returns c =
    let passed = c.in-Ok.ensures in
    fault_done c.args.state c.args.board passed.known.shaped.shape passed.none c.fault_closure-group.ensures.members
    c.clear-next.ensures c.new-whole.ensures c.copy_blocks-left.ensures c.finish.ensures
