-- `step` meets its contract: the line is looked at, played and printed.
use native.Mathlib.Omega.{arith}
use borrow.Author.Rules.{rules}
use Rattle.runner.specs.OneLine.{run_of}
use Rattle.reports.proofs.Laws.{going_lines, can_print, stepped}
use Rattle.reports.proofs.step.Goals as goal

pub play_event-played-requires : goal.play_event-played-requires
play_event-played-requires c = (
  record { whole = c.requires.0.whole; fits = c.requires.0.fits.image },
  going_lines c.args.task.report (run_of c.args.task.run c.args.area.now) c.requires.0.going,
  omega (arith, c.take_apart-parsed.ensures.1),
  omega arith,
)

pub print-report-requires : goal.print-report-requires
print-report-requires c = let h = c.to_be_decided-d.ensures in (
  can_print c.args.task.report (run_of c.args.task.run c.args.area.now) _ _ c.requires.0.fits.report
      c.requires.0.going c.to_be_decided-d.ensures,
  omega arith,
  c.play_event-played.ensures.few,
  omega arith,
)

pub returns : goal.returns
returns c =
    let w = run_of c.args.task.run c.args.area.now in
    rw (← c.take_apart-parsed.ensures.0)
    (stepped w _ _ c.play_event-played.ensures c.args.task.report c.to_be_decided-d.ensures c.print-report.ensures
    (search rules))
