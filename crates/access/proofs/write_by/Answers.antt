-- `write_by` meets its contract: refused with nothing changed, or the stores of its plan as far as the budget goes.
use mathlib.Core.Path.{refl}
use native.Mathlib.Omega.{arith}
use Rattle.protocol.specs.Calls.{record_refused}
use Rattle.store.proofs.Ends.{left_most, turned}
use Rattle.access.proofs.Answers.{within, write_done}
use Rattle.access.proofs.write_by.Goals as goal

pub returns-in-Err : goal.returns-in-Err
unfolding record_refused
returns-in-Err c = turned _ _ c.in-Err.why c.in-Err.ensures refl c.refusal.ensures

pub bind_blocks-next-requires : goal.bind_blocks-next-requires
bind_blocks-next-requires c = grind (arith, within c.in-Ok.ensures.known)

pub put_bytes-left-requires : goal.put_bytes-left-requires
put_bytes-left-requires c = grind (arith, within c.in-Ok.ensures.known)

pub finish-requires : goal.finish-requires
finish-requires c = left_most c.new-budget.ensures c.put_bytes-left.ensures

pub returns : goal.returns
returns c =
    write_done _ _ _ c.in-Ok.ensures.known c.in-Ok.ensures.none c.binding_of-how.ensures c.bind_blocks-next.ensures
    c.new-budget.ensures c.put_bytes-left.ensures c.finish.ensures
