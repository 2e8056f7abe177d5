-- The strongly connected components of the boards, and the order in which they commit (document 02, Req 07).
use Rattle.std.specs.Prelude.{ℕ, zero, suc, Bool, ◌&&◌, cond, List, [], ◌∷◌, eqb, ltb}
use Rattle.boards.specs.Boards.{has, set_of, Links, commit_group, fault_group}
use Rattle.boards.specs.Rows.{minus}

-- the boards of both g and h
abbrev pub intersection : ℕ → ℕ → ℕ
intersection g h = set_of (λ j. has g j && has h j)

-- The strongly connected component of board i, document 02's "circle": i and all that it depends on and that depend on
-- it, through any chains.
unfoldable pub component : Links → ℕ → ℕ
component d i = intersection (commit_group d i) (fault_group d i)

-- Board i may go next while the boards of `left` are left: it is one of them, and its commit group, without the boards
-- that are gone, is its component.
unfoldable pub ready : Links → ℕ → ℕ → Bool
ready d left i = has left i && eqb (intersection (commit_group d i) left) (component d i)

-- the lowest number below n of which p holds; n if there is none
unfoldable pub lowest : ℕ → (ℕ → Bool) → ℕ
lowest zero p = 0
lowest (suc n) p = cond (p 0) 0 (suc (lowest n (λ i. p (suc i))))

-- The components of the boards of `left` in their order, by recursion on n, which is at least the number of boards
-- left: while there are any, the lowest that may go next goes with its component.
unfoldable pub order_from : Links → ℕ → ℕ → List ℕ
order_from d zero left = []
order_from d (suc n) left =
    let c = component d (lowest 16 (ready d left)) in
    let later = order_from d n (minus left c) in
    cond (eqb left 0) [] (c ∷ later)

-- the boards below p; the order of their components
abbrev pub all_boards : ℕ → ℕ
all_boards p = set_of (λ j. ltb j p)

unfoldable pub order : ℕ → Links → List ℕ
order p d = order_from d p (all_boards p)
