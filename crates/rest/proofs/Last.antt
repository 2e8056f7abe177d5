-- The last line, which has no line feed.
use Prim.Native.Nat.{ℕ}
use mathlib.Core.Path.{◌≡◌, sym, ◌∙◌, ap}
use mathlib.Core.Bool.{true}
use mathlib.Core.List.{List, ◌++◌}
use mathlib.Core.Logic.{◌≢◌}
use lib.ListN.{length, take}
use Rattle.text.specs.Events.{taken}
use Rattle.text.specs.Whole.{lines, output_by}
use Rattle.digits.proofs.Laws.{take_x}
use Rattle.pieces.specs.Pieces.{Unbroken}
use Rattle.pieces.proofs.Lines.{output_last}
use Rattle.reports.specs.Reports.{State, report_close, reporting, goes}
use Rattle.reports.specs.Tasks.{state_of, state_after, SteppedOn}
use Rattle.reports.specs.declared.Stepped.{Stepped}
use Rattle.reports.proofs.Laws.{goes_steps}

-- its text is what is written, from the start of the output on
pub last_played : (w : State) (rest : List ℕ) {r : Stepped} {area out x : List ℕ} →
    length rest ≢ 0 → goes w ≡ true → Unbroken rest → SteppedOn w (taken rest) 0 out r area x →
    output_by reporting w (lines rest) ≡ take r.written x ++ report_close (state_of r.task area)
unfolding reporting
last_played w rest {r} {x = x} h going u m =
    let v = state_after w (taken rest) in
    output_last reporting w rest h u (goes_steps w rest going)
    ∙ ap (λ (t : List ℕ). t ++ report_close v) (sym (take_x m.written))
    ∙ ap (λ (v : State). take r.written x ++ report_close v) (sym m.next)
