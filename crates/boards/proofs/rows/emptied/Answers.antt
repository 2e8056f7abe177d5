-- Each row is that of `emptied`.
use Prim.Native.Nat.{ℕ, zero, suc, ◌+◌, ◌≤◌, ◌<◌}
use mathlib.Core.Path.{◌≡◌, sym, ◌∙◌, ap, subst}
use mathlib.Core.List.{List}
use mathlib.Core.Logic.{⊎_elim}
use denote.Param.Members.{Mut, Called}
use lib.ListN.{get_or}
use native.Mathlib.Omega.{arith}
use borrow.Author.Rules.{rules}
use Rattle.std.specs.Array.{IsFromFnResultFrom}
use Rattle.boards.specs.Boards.{has, set_of, unlink}
use Rattle.boards.specs.Rows.{links_of, emptied}
use Rattle.boards.proofs.Groups.{below_or}
use Rattle.boards.proofs.Masks.{rows_told}
use Rattle.boards.proofs.rows.emptied.Goals as goal

-- what calls of a closure that stays the same made, index by index
each_made : {F : Type 0} (g : Mut F (ℕ × Unit {0}) ℕ) (f : F) (v : ℕ → ℕ) (ys : List ℕ) →
    ((i y : ℕ) (q : F) → Called g f (i, tt) y q → (y ≡ v i) × (q ≡ f)) →
    (n i : ℕ) → IsFromFnResultFrom g f ys i n → (k : ℕ) → i ≤ k → k < i + n → get_or ys k 0 ≡ v k
each_made g f v ys step zero i made k l m = absurd (omega arith)
each_made g f v ys step (suc n) i (q, y, place, called, rest) k l m =
    let (value, same) = step i y q called in
    let others = subst (λ p. IsFromFnResultFrom g p ys (i + 1) n) same rest in
    ⊎_elim
    (λ (e : k < i + 1).
    let here : i ≡ k = omega arith in
    ap (λ j. get_or ys j 0) (sym here) ∙ place.1 0 ∙ value ∙ ap v here)
    (λ (e : i + 1 ≤ k). each_made g f v ys step n (i + 1) others k e (omega arith))
    (below_or k (i + 1))

pub returns : goal.returns
unfolding emptied unlink links_of
returns c =
    let left = unlink (has c.args.g) (links_of c.args.rows) in
    rows_told left _ (search rules)
    (λ a l. each_made _ _ (λ a. set_of (left a)) _ (λ i y q h. (search rules, search rules)) 16 0
    c.from_fn.ensures.items.each a (omega arith) (omega arith))
