-- `play` meets its contract: the line chooses.
use mathlib.Core.Path.{refl}
use native.Mathlib.Nat.{sub-zero}
use lib.ListN.{take}
use borrow.Author.Rules.{rules}
use Rattle.protocol.specs.Calls.{Write, Start, Acknowledge, Fault, PowerUp, plan, acknowledging}
use Rattle.protocol.specs.declared.Requester.TheVariants.{Board}
use Rattle.text.specs.Events.{meant, counted}
use Rattle.text.specs.Turns.{request_letter, play}
use Rattle.player.proofs.Quiet.{stored}
use Rattle.player.proofs.play.Goals as goal

pub slice_bounds-write-end-in-Write : goal.slice_bounds-write-end-in-Write
unfolding counted
slice_bounds-write-end-in-Write c =
    let h = rw (c.in-Ok.is, c.in-Write.is) at c.requires.1 in
    search (rules, h)

pub slice_bounds-start-end-in-Start : goal.slice_bounds-start-end-in-Start
unfolding counted
slice_bounds-start-end-in-Start c =
    let h = rw (c.in-Ok.is, c.in-Start.is) at c.requires.1 in
    search (rules, h)

pub slice_bounds-acknowledge-end-in-Acknowledge : goal.slice_bounds-acknowledge-end-in-Acknowledge
unfolding counted
slice_bounds-acknowledge-end-in-Acknowledge c =
    let h = rw (c.in-Ok.is, c.in-Acknowledge.is) at c.requires.1 in
    search (rules, h)

pub returns-in-Format : goal.returns-in-Format
unfolding meant
returns-in-Format c = rw (c.in-Ok.is, c.in-Format.is) (c.play_format.ensures _)

pub returns-in-Read : goal.returns-in-Read
unfolding meant
returns-in-Read c = rw (c.in-Ok.is, c.in-Read.is) c.play_read.ensures

pub returns-in-Write : goal.returns-in-Write
unfolding meant request_letter plan
returns-in-Write c =
    let line = c.in-Write in
    let bytes = take line.count c.args.buffer.now in
    rw (c.in-Ok.is, line.is)
    (stored (Write (Board line.board) line.cell bytes) c.args.p c.args.area.now c.requires.0 (λ s m. refl)
    (rw (sub-zero line.count) at c.write-reply.ensures) (c.end_turn.ensures _))

pub returns-in-Start : goal.returns-in-Start
unfolding meant request_letter plan acknowledging
returns-in-Start c =
    let line = c.in-Start in
    let bytes = take line.count c.args.buffer.now in
    rw (c.in-Ok.is, line.is)
    (stored (Start line.board bytes) c.args.p c.args.area.now c.requires.0 (λ s m. refl)
    (rw (sub-zero line.count) at c.start-reply.ensures) (c.end_turn-in-Start.ensures _))

pub returns-in-Acknowledge : goal.returns-in-Acknowledge
unfolding meant request_letter plan acknowledging
returns-in-Acknowledge c =
    let line = c.in-Acknowledge in
    let bytes = take line.count c.args.buffer.now in
    rw (c.in-Ok.is, line.is)
    (stored (Acknowledge line.board bytes) c.args.p c.args.area.now c.requires.0 (λ s m. refl)
    (rw (sub-zero line.count) at c.acknowledge-reply.ensures) (c.end_turn-in-Acknowledge.ensures _))

pub returns-in-Fault : goal.returns-in-Fault
unfolding meant request_letter plan
returns-in-Fault c =
    rw (c.in-Ok.is, c.in-Fault.is)
    (stored (Fault c.in-Fault.board) c.args.p c.args.area.now c.requires.0 (λ s m. refl) c.fault-reply.ensures
    (c.end_turn-in-Fault.ensures _))

pub returns-in-PowerUp : goal.returns-in-PowerUp
unfolding meant request_letter plan
returns-in-PowerUp c =
    rw (c.in-Ok.is, c.in-PowerUp.is)
    (stored PowerUp c.args.p c.args.area.now c.requires.0 (λ s m. refl) (c.power_up-reply.ensures c.args.p.state)
    (c.end_turn-in-PowerUp.ensures _))

pub returns-in-Allow : goal.returns-in-Allow
unfolding meant play
returns-in-Allow c = rw (c.in-Ok.is, c.in-Allow.is) (c.tell-in-Allow.ensures _ _)

pub returns-in-Err : goal.returns-in-Err
unfolding meant play
returns-in-Err c = rw c.in-Err.is (c.tell.ensures _ _)
