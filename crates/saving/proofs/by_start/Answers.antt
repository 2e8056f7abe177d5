-- `by_start` meets its contract: what its tests refuse decides nothing, else its group does, if it is complete.
use mathlib.Core.Path.{◌∙◌}
use native.Mathlib.Omega.{arith}
use Rattle.protocol.specs.Calls.{Start}
use Rattle.entry.proofs.Laws.{small}
use Rattle.commit.proofs.Laws.{started}
use Rattle.page.proofs.Decisions.{start_gives}
use Rattle.saving.proofs.Laws.{refused_nothing, acknowledged_decides}
use Rattle.saving.proofs.by_start.Goals as goal

pub returns-in_default : goal.returns-in_default
returns-in_default c =
    refused_nothing c.args.image.now c.args.state c.args.k (Start c.args.board c.args.context.now) _
    c.in_default.ensures

pub overflow_cast-i : goal.overflow_cast-i
overflow_cast-i c = omega (arith, small c.in-Ok.ensures.known.entry)

pub commit_closure-group-requires : goal.commit_closure-group-requires
commit_closure-group-requires c = small c.in-Ok.ensures.known.entry

pub start-next-requires : goal.start-next-requires
start-next-requires c = small c.in-Ok.ensures.known.entry

pub if_all_acknowledged-requires : goal.if_all_acknowledged-requires
if_all_acknowledged-requires c =
    let shaped = c.in-Ok.ensures.known.entry.shaped in (shaped.allowed_shape, shaped.long)

pub returns : goal.returns
returns c =
    let passed = c.in-Ok.ensures in
    c.if_all_acknowledged.ensures
    ∙ acknowledged_decides c.args.image.now c.args.state c.args.k (start_gives _ _ _ _ passed.none)
    (started c.args.state c.args.board c.start-next.ensures c.commit_closure-group.ensures.members)
    passed.known.entry.shaped.shape
