-- `give` meets its contract: the context's stores, and then those of the commit if all members have acknowledged.
use Prim.Native.Nat.{◌+◌, ◌*◌}
use mathlib.Core.Path.{refl, ◌∙◌, sym, ap}
use native.Mathlib.Omega.{arith}
use Rattle.protocol.specs.Image.{Tentative}
use Rattle.protocol.specs.Calls.{placing}
use Rattle.store.specs.Budget.{Makes, start}
use Rattle.store.specs.Puts.{Puts}
use Rattle.store.specs.Runs.{put_stores}
use Rattle.layout.proofs.Laws.{bounded}
use Rattle.store.proofs.Laws.{well_start, makes_begun, makes_length, makes_well}
use Rattle.store.proofs.Chains.{puts_length, puts_well}
use Rattle.store.proofs.Ends.{left_most}
use Rattle.decision.proofs.Laws.{context_room, given_puts, awaits, commits_all, left_all}
use Rattle.decision.proofs.give.Goals as goal
use Rattle.decision.proofs.give.Goals.{After-put_all-given}

pub overflow_mul-at : goal.overflow_mul-at
overflow_mul-at c =
    omega (arith, context_room c.args.s c.args.i c.requires.0 c.requires.2)

pub overflow_add-at : goal.overflow_add-at
overflow_add-at c =
    omega (arith, context_room c.args.s c.args.i c.requires.0 c.requires.2)

pub put_all-given-requires : goal.put_all-given-requires
put_all-given-requires c =
    omega (arith, context_room c.args.s c.args.i c.requires.0 c.requires.2)

pub overflow_cast-i : goal.overflow_cast-i
overflow_cast-i c =
    omega (arith, bounded c.requires.0, c.requires.2)

-- the context's stores, from the whole budget on
begun : (c : After-put_all-given)
    → Makes (put_stores (c.tentative_at.result + c.args.i * c.args.s.context) c.args.context.now) (start c.args.k)
    c.args.image.now c.put_all-given.result c.put_all-given.new.image
begun c = makes_begun c.new-whole.ensures c.put_all-given.ensures

given : (c : After-put_all-given)
    → Puts c.args.s (placing Tentative (c.args.i * c.args.s.context) c.args.context.now) (start c.args.k)
    c.args.image.now c.put_all-given.result c.put_all-given.new.image
given c = given_puts c.args.i c.args.context.now c.tentative_at.ensures (begun c)

pub finish-requires : goal.finish-requires
finish-requires c =
    left_most c.new-whole.ensures c.put_all-given.ensures

pub returns-then-open-g : goal.returns-then-open-g
returns-then-open-g c =
    let here = (goal.at.returns-then-open-g c).After-put_all-given in
    λ before e.
    awaits c.args.i c.args.context.now c.requires.2 c.requires.3 before e c.requires.4.members (given here)
    c.finish.ensures (λ z. c.if-open-g.true (ap (λ o. o.acknowledged) c.commit_of-open.ensures ∙ z))

pub complete-left-requires : goal.complete-left-requires
complete-left-requires c = (
  c.requires.0,
  puts_length c.announce-told.ensures ∙ makes_length c.put_all-given.ensures ∙ c.requires.1,
  puts_well c.announce-told.ensures
      (makes_well (begun (goal.at.complete-left-requires c).After-put_all-given) (well_start refl)),
)

pub finish-requires-2 : goal.finish-requires-2
finish-requires-2 c =
    left_all (given (goal.at.finish-requires-2 c).After-put_all-given) c.announce-told.ensures c.complete-left.ensures

pub returns : goal.returns
returns c =
    let here = (goal.at.returns c).After-put_all-given in
    λ before e.
    commits_all c.args.i c.args.context.now c.requires.2 c.requires.3 before e c.requires.4.members (given here)
    c.announce-told.ensures c.finish-2.ensures c.requires.1
    (sym (ap (λ o. o.acknowledged) c.commit_of-open.ensures)
    ∙ c.if-open-g.false)
    c.clear-next.ensures c.complete-left.ensures
