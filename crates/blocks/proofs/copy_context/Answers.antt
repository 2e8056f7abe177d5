-- `copy_context` meets its contract: nothing for a board that is no member, else its context.
use Prim.Native.Nat.{ℕ, ◌+◌, ◌*◌}
use mathlib.Core.Path.{refl, sym, ◌∙◌, ap}
use mathlib.Core.Logic.{inl}
use native.Mathlib.Omega.{arith}
use Rattle.protocol.specs.Image.{total, base}
use Rattle.layout.proofs.Laws.{bounded}
use Rattle.blocks.proofs.Blocks.{context_fits, context_left, context_done}
use Rattle.blocks.proofs.copy_context.Goals as goal

pub overflow_cast-i : goal.overflow_cast-i
overflow_cast-i c = omega (arith, bounded c.requires.0)

pub has-requires : goal.has-requires
has-requires c = omega (arith, bounded c.requires.0)

pub returns-then-not-has : goal.returns-then-not-has
returns-then-not-has c =
    context_left c.args.g c.args.i (sym c.has.ensures ∙ c.if-not-has.true)

pub overflow_mul-all : goal.overflow_mul-all
overflow_mul-all c = omega (arith, bounded c.requires.0)

pub overflow_mul-at : goal.overflow_mul-at
overflow_mul-at c =
    omega (arith, bounded c.requires.0, context_fits c.args.s c.args.i c.requires.2)

pub overflow_add-at : goal.overflow_add-at
unfolding base
overflow_add-at c =
    let fits = context_fits c.args.s c.args.i c.requires.2 in
    omega (arith, bounded c.requires.0, fits, c.tentative_at.ensures)

pub copy_at-requires : goal.copy_at-requires
unfolding base total
copy_at-requires c =
    let fits = context_fits c.args.s c.args.i c.requires.2 in
    record {
      within = (omega (arith, c.tentative_at.ensures), omega (arith, c.tentative_at.ensures));
      apart = inl (omega arith);
    }

pub returns : goal.returns
returns c =
    let at = ap (λ (x : ℕ). x + c.args.i * c.args.s.context) c.tentative_at.ensures in
    context_done c.args.g c.args.i c.requires.2
    (sym c.has.ensures ∙ c.if-not-has.false) at refl c.copy_at.ensures
