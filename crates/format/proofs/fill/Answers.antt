-- `fill` meets its contract: at i the bytes from `from` to i - 1 are stored.
use Prim.Native.Nat.{◌-◌}
use mathlib.Core.Path.{◌≡◌, refl, ◌∙◌, subst}
use native.Mathlib.Omega.{arith}
use Rattle.boards.specs.Lists.{span}
use Rattle.store.specs.Budget.{Makes}
use Rattle.store.proofs.Laws.{makes_length}
use Rattle.format.proofs.Laws.{filled_none, filled_more}
use Rattle.format.proofs.fill.Goals as goal

pub loop-i-init : goal.loop-i-init
loop-i-init g c = (refl, λ f _. filled_none f c.args.from)

pub loop-i-preserved : goal.loop-i-preserved
loop-i-preserved g c = (
  makes_length c.store-left.ensures ∙ c.loop-i.invariant.0,
  λ f e. filled_more f c.args.from c.loop-i.i (omega arith) (e c.loop-i.i _ c.loop-i-test.true c.byte_at.ensures)
      (c.loop-i.invariant.1 f e) c.store-left.ensures,
)

pub returns : goal.returns
returns g c f e =
    let all : c.loop-i.i ≡ c.args.to = omega arith in
    subst (λ n. Makes (span f c.args.from (n - c.args.from)) c.args.k c.args.image.now c.loop-i.left c.loop-i.image) all
    (c.loop-i.invariant.1 f e)
