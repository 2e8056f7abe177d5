-- `inspect::same_areas` meets its contract: both areas end within both images, and each is compared at its offset.
use native.Mathlib.Omega.{arith}
use Rattle.protocol.specs.Image.{Recovery, Checkpoint, size}
use Rattle.layout.proofs.Laws.{bounded}
use Rattle.inspect.proofs.Laws.{area_ends, bank_other, bank_same}
use Rattle.inspect.proofs.same_areas.Goals as goal

pub overflow_mul-s : goal.overflow_mul-s
overflow_mul-s c = omega (arith, bounded c.requires.0)

pub same_bytes-requires : goal.same_bytes-requires
unfolding size
same_bytes-requires c =
    let ends = area_ends c.args.s Recovery c.recovery_at.ensures c.requires.1 c.requires.2 in
    (omega (arith, ends), omega (arith, ends))

pub overflow_mul-s-then-same_bytes : goal.overflow_mul-s-then-same_bytes
overflow_mul-s-then-same_bytes c = omega (arith, bounded c.requires.0)

pub same_bytes-requires-then-same_bytes : goal.same_bytes-requires-then-same_bytes
unfolding size
same_bytes-requires-then-same_bytes c =
    let ends = area_ends c.args.s Checkpoint c.checkpoint_at.ensures c.requires.1 c.requires.2 in
    (omega (arith, ends), omega (arith, ends))

pub returns-then-same_bytes : goal.returns-then-same_bytes
returns-then-same_bytes c =
    bank_same c.args.s c.args.image.now c.args.other.now c.recovery_at.ensures c.same_bytes.ensures
    c.if-same_bytes.true c.checkpoint_at.ensures c.same_bytes-then-same_bytes.ensures

pub returns-else-same_bytes : goal.returns-else-same_bytes
returns-else-same_bytes c =
    bank_other c.args.s c.args.image.now c.args.other.now c.recovery_at.ensures c.same_bytes.ensures
    c.if-same_bytes.false
