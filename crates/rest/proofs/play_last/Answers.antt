-- `play_last` meets its contract: what is printed behind the last line stands behind its text.
use mathlib.Core.Path.{sym, ◌∙◌}
use native.Mathlib.Omega.{arith}
use Rattle.digits.proofs.Laws.{take_x, appends_length}
use Rattle.rest.proofs.play_last.Goals as goal

pub returns : goal.returns
returns c = (
  omega (arith, c.close.ensures.room, appends_length c.close.ensures),
  c.last_step-stepped.ensures.output
      ∙ sym (take_x c.close.ensures),
)
