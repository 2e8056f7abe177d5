-- `pairs` meets its contract: an even length, and each chunk is a pair of digits.
use mathlib.Core.Path.{sym, ◌∙◌}
use native.Mathlib.Omega.{arith}
use Prim.Native.Nat.{◌/◌}
use lib.ListN.{length}
use borrow.Author.Tests.{eqb-true, eqb-false}
use Rattle.std.proofs.Common.{rules, tests}
use Rattle.std.specs.Simd.{first_chunks}
use Rattle.std.proofs.lemmas.Iterator.{YieldsList-from_slice}
use Rattle.std.proofs.lemmas.Iterator.Search.{all_from_yields_List}
use Rattle.hexadecimal.proofs.Laws.{is_pair, pairs_even, pairs_odd}
use Rattle.hexadecimal.proofs.pairs.Goals as goal

pub returns-then-is_empty : goal.returns-then-is_empty
returns-then-is_empty c =
    let s = c.args.s.now in
    let none = eqb-true _ 0 (sym c.is_empty.ensures ∙ c.if-is_empty.true) in
    all_from_yields_List is_pair _ _ c.all.result c.all.ensures.ran
    (YieldsList-from_slice (first_chunks 2 (length s / 2) s) cc) (λ x b q k. search (rules, tests))
    ∙ pairs_even s (length s / 2) (omega (arith, none, c.as_chunks.ensures.back_len))

pub returns-else-is_empty : goal.returns-else-is_empty
returns-else-is_empty c =
    let s = c.args.s.now in
    let one = eqb-false _ 0 (sym c.is_empty.ensures ∙ c.if-is_empty.false) in
    c.if-is_empty.false ∙ sym (pairs_odd s (length s / 2) (omega (arith, one, c.as_chunks.ensures.back_len)))
