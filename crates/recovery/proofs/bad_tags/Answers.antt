-- `bad_tags` meets its contract: a tag above P among those of all blocks, which lie in the image.
use Prim.Native.Nat.{◌<◌, ◌≤◌}
use native.Mathlib.Omega.{arith}
use borrow.Author.Rules.{rules}
use borrow.Author.Tests.{tests}
use Rattle.std.proofs.lemmas.Iterator.{cases_from_any, YieldsList-from_slice}
use Rattle.layout.proofs.Laws.{bounded}
use Rattle.protocol.specs.Image.{total}
use Rattle.recovery.proofs.Laws.{tags_tested}
use Rattle.recovery.proofs.bad_tags.Goals as goal

pub overflow_add-tags : goal.overflow_add-tags
overflow_add-tags c = omega (arith, bounded c.requires.0)

pub slice_bounds-tags-end : goal.slice_bounds-tags-end
unfolding total
slice_bounds-tags-end c = search rules

pub returns : goal.returns
returns c =
    tags_tested c.args.s c.args.image.now c.requires.1 _
    (cases_from_any _ _ _ (λ t. c.args.s.boards < t) (λ t. t ≤ c.args.s.boards) c.any.ensures.ran
    (YieldsList-from_slice _ cc) (λ x q k. search (rules, tests)) (λ x q k. search (rules, tests)))
