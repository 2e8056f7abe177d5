-- `layout::header_byte` meets its contract: each place of the header by computing, and 0 past its end.
use Prim.Native.Nat.{ℕ}
use mathlib.Core.Path.{◌≡◌, sym, ◌∙◌, ap}
use lib.ListN.{get_or, drop, get_or-append, get_or-eq_default}
use native.Mathlib.Omega.{arith}
use Rattle.protocol.specs.Image.{mark, header}
use Rattle.protocol.specs.declared.Shape.{Shape}
use Rattle.layout.proofs.Laws.{bounded}
use Rattle.layout.proofs.header_byte.Goals as goal

-- what stands at a place that is known
placed : (s : Shape) {i k : ℕ} → i ≡ k → get_or (header s) k 0 ≡ get_or (header s) i 0
placed s e = ap (λ n. get_or (header s) n 0) (sym e)

pub returns-then-i-lt4 : goal.returns-then-i-lt4
unfolding header mark
returns-then-i-lt4 c = sym (get_or-append mark (drop 4 (header c.args.s)) 0 _ c.if-i-lt4.true)

pub overflow_cast-result : goal.overflow_cast-result
overflow_cast-result c = omega (arith, bounded c.requires)

pub overflow_cast-result-in-7 : goal.overflow_cast-result-in-7
overflow_cast-result-in-7 c = omega (arith, bounded c.requires)

pub overflow_cast-result-in-8 : goal.overflow_cast-result-in-8
overflow_cast-result-in-8 c = omega (arith, bounded c.requires)

pub returns-in-4 : goal.returns-in-4
unfolding header mark
returns-in-4 c = placed c.args.s c.in-4.is

pub returns-in-5 : goal.returns-in-5
unfolding header mark
returns-in-5 c = c.exponent.ensures ∙ placed c.args.s c.in-5.is

pub returns-in-6 : goal.returns-in-6
unfolding header mark
returns-in-6 c = placed c.args.s c.in-6.is

pub returns-in-7 : goal.returns-in-7
unfolding header mark
returns-in-7 c = placed c.args.s c.in-7.is

pub returns-in-8 : goal.returns-in-8
unfolding header mark
returns-in-8 c = placed c.args.s c.in-8.is

pub returns-in_default : goal.returns-in_default
unfolding header mark
returns-in_default c =
    sym (get_or-eq_default (header c.args.s) 0 {n = c.args.i} (omega arith))
