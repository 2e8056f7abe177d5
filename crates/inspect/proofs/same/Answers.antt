-- `inspect::same` meets its contract: each test that fails answers, and images of one shape by their areas.
use mathlib.Core.Path.{sym, ◌∙◌, ap}
use borrow.Author.Rules.{rules}
use Rattle.protocol.specs.Image.{total}
use Rattle.protocol.specs.Calls.{first}
use Rattle.inspect.specs.Same.{compare, compare_tests}
use Rattle.inspect.proofs.Laws.{same_equal, one_shape}
use Rattle.inspect.proofs.same.Goals as goal

pub returns-in_err-s : goal.returns-in_err-s
unfolding compare compare_tests first
returns-in_err-s c = search rules

pub returns-in_err-t : goal.returns-in_err-t
unfolding compare compare_tests first
returns-in_err-t c = search rules

pub same_areas-requires : goal.same_areas-requires
same_areas-requires c =
    let h = c.in_ok-s.ensures.shaped in
    let equal = same_equal _ _ (sym c.same_shape.ensures ∙ c.if-same_shape.true) in
    (h.allowed_shape, h.long, c.in_ok-t.ensures.shaped.long ∙ ap total (sym equal))

pub returns-else-same_shape : goal.returns-else-same_shape
unfolding compare compare_tests first
returns-else-same_shape c = search rules

pub returns-then-same_shape : goal.returns-then-same_shape
returns-then-same_shape c =
    one_shape c.in_ok-s.ensures c.in_ok-t.ensures (sym c.same_shape.ensures ∙ c.if-same_shape.true)
    c.same_areas.ensures
