-- `put_all` makes the stores of the rounds so far.
use Prim.Native.Nat.{ℕ, ◌+◌}
use mathlib.Core.Path.{◌≡◌, refl}
use native.Mathlib.Omega.{arith}
use lib.ListN.{length, get_or}
use Rattle.boards.specs.Lists.{span}
use Rattle.protocol.specs.Image.{Store}
use Rattle.store.specs.Budget.{one}
use Rattle.store.specs.Runs.{put_stores}
use Rattle.store.proofs.Laws.{makes_none, makes_length}
use Rattle.store.proofs.Runs.{makes_round}
use Rattle.store.proofs.put_all.Goals as goal

pub loop-x-init : goal.loop-x-init
unfolding span
loop-x-init c = (refl, makes_none _ _)

pub loop-x-preserved : goal.loop-x-preserved
loop-x-preserved c =
    let store_of : ℕ → Store = λ i. one (c.args.at + i) (get_or c.args.bytes.now i 0) in
    let round = makes_round store_of c.loop-x.x c.loop-x.invariant.1 c.store-b.ensures in
    (makes_length round, round)

pub returns : goal.returns
unfolding put_stores
returns c =
    let done : c.loop-x.x ≡ length c.args.bytes.now = omega arith in
    rw (← done) c.loop-x.invariant.1
