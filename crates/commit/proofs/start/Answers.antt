-- `start` meets its contract: its tests, and then the acknowledgement of its own opened commit.
use mathlib.Core.Path.{refl}
use native.Mathlib.Omega.{arith}
use Rattle.protocol.specs.Calls.{Start, record_refused, plan}
use Rattle.store.proofs.Ends.{performed, turned}
use Rattle.entry.proofs.Laws.{small}
use Rattle.commit.proofs.Laws.{started, started_group}
use Rattle.commit.proofs.start.Goals as goal

pub returns-in-Err : goal.returns-in-Err
unfolding record_refused
returns-in-Err c =
    turned c.args.state (Start c.args.board c.args.context.now) _ c.in-Err.ensures refl c.refusal.ensures

pub overflow_cast-i : goal.overflow_cast-i
overflow_cast-i c = omega (arith, small c.in-Ok.ensures.known.entry)

pub commit_closure-group-requires : goal.commit_closure-group-requires
commit_closure-group-requires c = small c.in-Ok.ensures.known.entry

pub start-next-requires : goal.start-next-requires
start-next-requires c = small c.in-Ok.ensures.known.entry

pub give-requires : goal.give-requires
give-requires c =
    let offered = c.in-Ok.ensures.known in
    let entry = offered.entry in
    let group = started_group c.args.state c.args.board c.start-next.ensures c.commit_closure-group.ensures in
    (entry.shaped.allowed_shape, entry.shaped.long, entry.board, offered.full, group)

pub returns : goal.returns
unfolding plan
returns c =
    let passed = c.in-Ok.ensures in
    let done = c.give.ensures _
    (started c.args.state c.args.board c.start-next.ensures c.commit_closure-group.ensures.members) in
    performed c.args.state (Start c.args.board c.args.context.now) passed.known.entry.shaped.shape passed.none
    done.reply done.image
