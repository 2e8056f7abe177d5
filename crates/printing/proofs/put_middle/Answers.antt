-- `put_middle` meets its contract: the flag between commas, then the group.
use mathlib.Core.Path.{◌≡◌, sym, ◌∙◌}
use Rattle.boards.proofs.Basics.{if_true, if_false}
use Rattle.text.specs.Rows.{flag_text}
use Rattle.printing.specs.Parts.{middle_text}
use Rattle.digits.proofs.Laws.{writes_then}
use Rattle.printing.proofs.put_middle.Goals as goal
use Rattle.printing.proofs.put_middle.Goals.{then-decided, else-decided}

pub returns : goal.returns
unfolding middle_text flag_text
returns c =
    let flag : c.if-decided.flag ≡ flag_text c.args.decided =
    elim c.if-decided.branch [
      | then-decided w ↦ w.flag-is ∙ sym (if_true 49 48 w.if-decided.true)
      | else-decided w ↦ w.flag-is ∙ sym (if_false 49 48 w.if-decided.false)
    ] in
    rw (← flag) (writes_then c.put_between.ensures c.put_group.ensures)
