-- `read_by` meets its contract: refused with the buffer as it was, or done with the current bytes.
use native.Mathlib.Omega.{arith}
use Rattle.access.proofs.Answers.{within, read_refused, read_done}
use Rattle.access.proofs.read_by.Goals as goal

pub returns-in-Err : goal.returns-in-Err
returns-in-Err c = read_refused _ _ _ _ _ c.in-Err.why c.in-Err.ensures c.refusal.ensures

pub bind_blocks-next-requires : goal.bind_blocks-next-requires
bind_blocks-next-requires c = grind (arith, within c.in-Ok.ensures.known)

pub fill-requires : goal.fill-requires
fill-requires c = grind (arith, within c.in-Ok.ensures.known, c.in-Ok.ensures.known)

pub returns : goal.returns
returns c =
    read_done _ _ _ _ _ c.in-Ok.ensures c.bind_blocks-next.ensures c.fill.ensures c.new-none.ensures c.finish.ensures
