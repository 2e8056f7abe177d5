-- `copy_block` meets its contract: nothing for a block of no member, else its bytes and its tag.
use Prim.Native.Nat.{ℕ, ◌+◌, ◌*◌}
use mathlib.Core.Path.{◌≡◌, refl, sym, ◌∙◌, ap}
use native.Mathlib.Omega.{arith}
use Rattle.protocol.specs.Image.{total, base}
use Rattle.layout.proofs.Laws.{bounded}
use Rattle.blocks.proofs.Blocks.{read_at, written_at, block_fits, block_left, block_done, ranges_fit}
use Rattle.blocks.proofs.copy_block.Goals as goal
use Rattle.blocks.proofs.copy_block.Goals.{Joined-how, in-Save, in-Restore}

pub overflow_add-tag : goal.overflow_add-tag
overflow_add-tag c = omega (arith, bounded c.requires.0)

pub bounds-image-b : goal.bounds-image-b
unfolding total
bounds-image-b c = omega arith

pub returns-then-not-tagged_in : goal.returns-then-not-tagged_in
returns-then-not-tagged_in c =
    block_left c.args.g c.args.how c.args.b c.requires.2
    (sym c.tagged_in.ensures ∙ c.if-not-tagged_in.true)

pub overflow_mul-cells : goal.overflow_mul-cells
overflow_mul-cells c = omega (arith, bounded c.requires.0)

pub overflow_mul-at : goal.overflow_mul-at
overflow_mul-at c =
    omega (arith, bounded c.requires.0, block_fits c.args.s c.args.b c.requires.2)

pub overflow_add-at : goal.overflow_add-at
unfolding base
overflow_add-at c =
    let fits = block_fits c.args.s c.args.b c.requires.2 in
    omega (arith, bounded c.requires.0, fits, c.current_at.ensures)

-- where the copy reads and where it writes
offsets : (c : Joined-how)
    → (c.match-how.from.0 ≡ read_at c.args.how (c.args.s.blocks * c.args.s.size))
    × (c.match-how.from.1 ≡ written_at c.args.how (c.args.s.blocks * c.args.s.size))
offsets c =
    elim c.match-how.branch [
      | in-Save w ↦ rw (w.in-Save.is, w.from-is) (refl, refl)
      | in-Restore w ↦ rw (w.in-Restore.is, w.from-is) (refl, refl)
    ]

pub copy_at-copied-requires : goal.copy_at-copied-requires
copy_at-copied-requires c =
    let chosen = offsets (goal.at.copy_at-copied-requires c).Joined-how in
    let at = ap (λ (x : ℕ). x + c.args.b * c.args.s.size) c.current_at.ensures in
    let fit =
    ranges_fit c.args.s c.args.how c.args.b c.requires.2 _ _ _ _ c.requires.1 at
    chosen.0 chosen.1 in
    record { within = fit.0; apart = fit.1 }

pub overflow_add-b : goal.overflow_add-b
overflow_add-b c =
    omega (arith, bounded c.requires.0)

pub store-requires : goal.store-requires
unfolding total
store-requires c = omega arith

pub returns : goal.returns
returns c =
    let chosen = offsets (goal.at.returns c).Joined-how in
    let at = ap (λ (x : ℕ). x + c.args.b * c.args.s.size) c.current_at.ensures in
    block_done c.args.g c.args.how c.args.b c.requires.2
    (sym c.tagged_in.ensures ∙ c.if-not-tagged_in.false)
    at chosen.0 chosen.1 c.copy_at-copied.ensures c.store.ensures
