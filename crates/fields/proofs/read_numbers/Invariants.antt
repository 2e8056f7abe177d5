use Prim.Native.Nat.{ℕ, suc, ◌<◌}
use mathlib.Core.Path.{◌≡◌}
use lib.ListN.{length, get_or}
use Rattle.std.specs.Prelude.{Some}
use Rattle.text.specs.Fields.{field, number_of}
use Rattle.fields.specs.Numbers.{FieldEnds}
use Rattle.fields.proofs.read_numbers.Given as goal

abbrev pub invariant-loop-i : goal.invariant-loop-i
invariant-loop-i l =
    (length l.values ≡ 4) × FieldEnds l.s l.i l.end
    × ((j : ℕ) → j < l.i → number_of (field (suc j) l.s) ≡ Some (get_or l.values j 0))
