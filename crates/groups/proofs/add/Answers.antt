-- `add` counts one board more of sixteen.
use native.Mathlib.Omega.{arith}
use Rattle.boards.specs.Boards.{has}
use Rattle.boards.proofs.Groups.{count_le}
use Rattle.groups.proofs.add.Goals as goal

pub overflow_add-result : goal.overflow_add-result
overflow_add-result c =
    omega (arith, c.requires.2, count_le 16 (has c.args.before.added))
