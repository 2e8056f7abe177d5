-- `put_byte` meets its contract: one digit and then the other.
use Rattle.text.specs.Rows.{byte_text}
use Rattle.digits.proofs.Laws.{writes_then}
use Rattle.digits.proofs.Output.put_byte.Goals as goal

pub returns : goal.returns
unfolding byte_text
returns c = rw (← c.hexadecimal.ensures, ← c.hexadecimal-2.ensures) (writes_then c.put.ensures c.put-2.ensures)
