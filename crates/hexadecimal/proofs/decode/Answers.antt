-- `decode` meets its contract: the first i bytes of the buffer are those that the first i pairs name.
use mathlib.Core.Path.{◌≡◌, ◌∙◌, ap}
use native.Mathlib.Omega.{arith}
use lib.ListN.{length, take}
use Rattle.protocol.specs.Calls.{filled}
use Rattle.text.specs.Fields.{decoded}
use Rattle.hexadecimal.proofs.Laws.{chunk_at, length_decoded, filled_none, filled_more, filled_all}
use Rattle.hexadecimal.proofs.decode.Goals as goal

pub loop-i-init : goal.loop-i-init
loop-i-init c = filled_none (decoded c.args.s.now) _

pub overflow_mul-out : goal.overflow_mul-out
overflow_mul-out c =
    omega (arith, chunk_at c.args.s.now c.loop-i.i c.as_chunks.ensures.front c.requires.0 (omega arith))

pub overflow_add-out : goal.overflow_add-out
overflow_add-out c =
    omega (arith, chunk_at c.args.s.now c.loop-i.i c.as_chunks.ensures.front c.requires.0 (omega arith))

pub loop-i-preserved : goal.loop-i-preserved
loop-i-preserved c =
    let pair = chunk_at c.args.s.now c.loop-i.i c.as_chunks.ensures.front c.requires.0 (omega arith) in
    filled_more (decoded c.args.s.now) c.args.out.now c.loop-i.i (omega (arith, length_decoded c.args.s.now))
    (omega arith) c.loop-i.invariant (omega (arith, pair))

pub returns : goal.returns
returns c =
    let done : c.loop-i.i ≡ length (decoded c.args.s.now) = omega (arith, length_decoded c.args.s.now) in
    c.loop-i.invariant
    ∙ ap (λ n. filled (take n (decoded c.args.s.now)) c.args.out.now) done
    ∙ filled_all (decoded c.args.s.now) c.args.out.now
