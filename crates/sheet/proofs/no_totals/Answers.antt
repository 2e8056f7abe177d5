-- `no_totals` meets its contract.
use native.Mathlib.Omega.{arith}
use Rattle.sheet.proofs.Laws.{default_totals}
use Rattle.sheet.proofs.no_totals.Goals as goal

pub returns : goal.returns
returns c = (
  default_totals _ c.default.ensures,
  record { commits = omega arith; blocks = omega arith; bytes = omega arith },
)
