-- `play_lines` meets its contract: what the lines played so far gave is written.
use mathlib.Core.Path.{◌≡◌, sym, ◌∙◌}
use mathlib.Core.Bool.{true}
use native.Mathlib.Omega.{arith}
use Rattle.reports.specs.Reports.{goes}
use Rattle.reports.specs.Tasks.{state_of}
use Rattle.reports.proofs.Laws.{task_lines, stepped_more}
use Rattle.feeder.proofs.Feeding.{progressed}
use Rattle.feeder.proofs.play_lines.Goals.{After-step-stepped}
use Rattle.feeder.proofs.play_lines.Goals as goal

-- a next line was played
going : (c : After-step-stepped) → goes (state_of c.loop-buffer.current c.loop-buffer.area) ≡ true
going c = sym (c.goes_on.ensures c.loop-buffer.area) ∙ c.loop-buffer-test.true

pub loop-buffer-smaller : goal.loop-buffer-smaller
loop-buffer-smaller c =
    let task = c.loop-buffer.current in
    omega (
      arith,
      stepped_more task c.loop-buffer.area c.step-stepped.ensures,
      task_lines task c.loop-buffer.area (going (goal.at.loop-buffer-smaller c).After-step-stepped),
    )

pub loop-buffer-preserved : goal.loop-buffer-preserved
loop-buffer-preserved c =
    let whole = rw c.in-Some.is at c.next_line.ensures in (
      c.step-stepped.auto.area ∙ c.loop-buffer.invariant.0,
      c.step-stepped.auto.out ∙ c.loop-buffer.invariant.1,
      omega (arith, whole.within),
      omega (arith, c.step-stepped.ensures.written.room, c.loop-buffer.invariant.1),
      c.step-stepped.ensures.fits,
      c.step-stepped.auto.buffer ∙ c.loop-buffer.invariant.5,
      progressed (state_of c.args.task c.args.area.now) (state_of c.loop-buffer.current c.loop-buffer.area) whole
          (going (goal.at.loop-buffer-preserved c).After-step-stepped) c.step-stepped.ensures
          c.loop-buffer.invariant.6,
    )
