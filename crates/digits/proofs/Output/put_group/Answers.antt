-- `put_group` meets its contract: zeros, or the high byte and then the low one.
use native.Mathlib.Omega.{arith}
use Rattle.text.specs.Rows.{hexadecimal, byte_text, group_text}
use Rattle.digits.proofs.Laws.{writes_then}
use Rattle.digits.proofs.Output.put_group.Goals as goal

pub returns-then-group-eq0 : goal.returns-then-group-eq0
unfolding group_text byte_text hexadecimal
returns-then-group-eq0 c =
    rw c.if-group-eq0.true c.put_text.ensures

pub put_byte-requires-2 : goal.put_byte-requires-2
unfolding byte_text
put_byte-requires-2 c = omega arith

pub returns : goal.returns
unfolding group_text
returns c = writes_then c.put_byte.ensures c.put_byte-2.ensures
