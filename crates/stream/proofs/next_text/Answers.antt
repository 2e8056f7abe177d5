-- `next_text` meets its contract: behind the last line nothing is held.
use Rattle.stream.proofs.Texts.{held_limit}
use Rattle.stream.proofs.next_text.Goals as goal

pub returns-in-Limit : goal.returns-in-Limit
returns-in-Limit g c =
    record {
      within = λ end e. cc;
      over = held_limit c.args.held c.args.input.now c.in-Limit.is c.requires.1;
    }
