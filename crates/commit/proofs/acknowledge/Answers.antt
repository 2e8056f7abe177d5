-- `acknowledge` meets its contract: its tests, and then what an acknowledgement stores.
use mathlib.Core.Path.{refl}
use native.Mathlib.Omega.{arith}
use Rattle.protocol.specs.Calls.{Acknowledge, record_refused, plan}
use Rattle.store.proofs.Ends.{performed, turned}
use Rattle.entry.proofs.Laws.{small}
use Rattle.commit.proofs.Laws.{acknowledged_group}
use Rattle.commit.proofs.acknowledge.Goals as goal

pub returns-in-Err : goal.returns-in-Err
unfolding record_refused
returns-in-Err c =
    turned c.args.state (Acknowledge c.args.board c.args.context.now) _ c.in-Err.ensures refl c.refusal.ensures

pub overflow_cast-i : goal.overflow_cast-i
overflow_cast-i c = omega (arith, small c.in-Ok.ensures.known.entry)

pub acknowledge-next-requires : goal.acknowledge-next-requires
acknowledge-next-requires c = small c.in-Ok.ensures.known.entry

pub give-requires : goal.give-requires
give-requires c =
    let offered = c.in-Ok.ensures.known in
    let entry = offered.entry in
    let group = acknowledged_group c.args.state c.args.board c.acknowledge-next.ensures
    c.commit_of-open.ensures c.without-group.ensures in
    (entry.shaped.allowed_shape, entry.shaped.long, entry.board, offered.full, group)

pub returns : goal.returns
unfolding plan
returns c =
    let passed = c.in-Ok.ensures in
    let done = c.give.ensures _ c.acknowledge-next.ensures in
    performed c.args.state (Acknowledge c.args.board c.args.context.now) passed.known.entry.shaped.shape passed.none
    done.reply done.image
