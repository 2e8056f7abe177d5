use Prim.Native.Nat.{◌*◌}
use lib.ListN.{take}
use Rattle.text.specs.Rows.{bytes_text}
use Rattle.digits.specs.Append.{Appends}
use Rattle.digits.proofs.fill_digits.Given as goal

abbrev pub invariant-loop-x : goal.invariant-loop-x
invariant-loop-x l = Appends (bytes_text (take l.x l.bytes)) 0 l.initial.out (2 * l.x) l.out
