-- Test 12 in its order.
use Prim.Native.Nat.{ℕ, ◌≤◌}
use mathlib.Core.Path.{◌≡◌, sym, ◌∙◌, ap}
use mathlib.Core.Bool.{Bool, true, false, ◌&&◌, ◌||◌, not}
use mathlib.Core.Logic.{◌⊎◌, inl, inr}
use lib.Dec.{leb, eqb}
use borrow.Author.Tests.{eqb-true, le-leb}
use Rattle.boards.specs.Boards.{has}
use Rattle.boards.proofs.Basics.{decide, true_and, and_false, true_or}
use Rattle.boards.proofs.Groups.{has_zero}

-- a chain of tests stops at the first that holds, and passes on to the next
pub or_stop : {a : Bool} (b : Bool) → a ≡ true → true ≡ a || b
or_stop b e = sym (true_or b e)

pub or_pass : {a b x : Bool} → a ≡ false → x ≡ b → x ≡ a || b
or_pass {b = b} e h = h ∙ sym (ap (λ t. t || b) e)

-- of a row at or above p only that it is empty counts
pub row_above : (p i row : ℕ) → p ≤ i → not (eqb row 0) ≡ (leb p i && not (eqb row 0)) || has row i
row_above p i row l = go (decide (eqb row 0))
  where
    go : (eqb row 0 ≡ true) ⊎ (eqb row 0 ≡ false) → not (eqb row 0) ≡ (leb p i && not (eqb row 0)) || has row i
    go (inl e) =
        or_pass (and_false (leb p i) (ap not e))
        (ap not e ∙ sym (ap (λ x. has x i) (eqb-true row 0 e) ∙ has_zero i))
    go (inr e) = ap not e ∙ or_stop (has row i) (true_and (le-leb p i l) (ap not e))
