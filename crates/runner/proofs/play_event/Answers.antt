-- `play_event` meets its contract.
use Rattle.runner.proofs.OneLine.{played}
use Rattle.runner.proofs.play_event.Goals as goal

pub returns : goal.returns
returns c =
    played c.args.run c.args.area.now c.play-turned.ensures
