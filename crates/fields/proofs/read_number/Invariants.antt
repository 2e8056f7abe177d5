use Prim.Native.Nat.{◌+◌, ◌≤◌}
use mathlib.Core.Path.{◌≡◌}
use lib.ListN.{length, drop}
use Rattle.text.specs.Fields.{before, number_from}
use Rattle.fields.proofs.read_number.Given as goal

abbrev pub invariant-loop-i : goal.invariant-loop-i
invariant-loop-i l =
    (l.v ≤ 65535) × (number_from l.v (before (drop l.i l.s)) ≡ number_from 0 (before l.s))
    × (l.i + length (before (drop l.i l.s)) ≡ length (before l.s))
