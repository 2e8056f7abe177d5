-- `feed` meets its contract: the lines are played, and what is kept stands at the input's start.
use Rattle.reports.specs.Tasks.{state_of}
use Rattle.feeder.proofs.Feeding.{fed}
use Rattle.feeder.proofs.feed.Goals as goal

pub returns : goal.returns
returns c =
    fed (state_of c.args.task c.args.area.now) c.args.input.now c.keep-held.auto.input c.requires.0
    c.play_lines-progress.ensures c.keep-held.ensures
