use mathlib.Core.Path.{◌≡◌}
use lib.ListN.{take}
use Rattle.protocol.specs.Calls.{filled}
use Rattle.text.specs.Fields.{decoded}
use Rattle.hexadecimal.proofs.decode.Given as goal

abbrev pub invariant-loop-i : goal.invariant-loop-i
invariant-loop-i l = l.out ≡ filled (take l.i (decoded l.s)) l.initial.out
