-- `play_read` meets its contract: the bytes answered stand at the start of the buffer.
use Rattle.protocol.specs.declared.Requester.TheVariants.{Board}
use Rattle.text.specs.Turns.{request_letter, play}
use Rattle.turns.proofs.Turning.{few_read, read_turn}
use Rattle.player.proofs.play_read.Goals as goal

pub end_turn-requires : goal.end_turn-requires
end_turn-requires c =
    let few = few_read c.args.area.now c.args.p.length c.args.p.state (Board c.args.board) c.args.cell c.args.n
    c.args.p.k
    c.args.buffer.now c.requires.1 c.read-reply.ensures c.answered-count.ensures in
    (c.requires.0.fits, c.requires.0.whole, few)

pub returns : goal.returns
unfolding play request_letter
returns c =
    read_turn c.args.area.now c.args.p.length c.args.p.state (Board c.args.board) c.args.cell c.args.n c.args.p.k
    c.args.buffer.now c.requires.1 c.read-reply.ensures c.answered-count.ensures
    (c.end_turn.ensures _)
