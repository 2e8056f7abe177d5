-- `bad_rows` meets its contract: `any` over the rows with their indices is `any` over the indices.
use Prim.Native.Nat.{ℕ, zero, suc, ◌+◌}
use native.Mathlib.Nat.{zero-add, add-zero}
use mathlib.Core.Path.{◌≡◌, refl, sym, ◌∙◌, ap, ap₂}
use mathlib.Core.Bool.{Bool, ◌||◌, or_assoc, or-false}
use mathlib.Core.List.{List, [], ◌∷◌}
use native.Mathlib.Omega.{arith}
use borrow.Author.Rules.{rules}
use lib.ListN.{length, get_or}
use Rattle.std.proofs.Common.{tests}
use Rattle.std.specs.List.{list_any, enumerate_from}
use Rattle.std.proofs.lemmas.Iterator.{YieldsList-from_slice}
use Rattle.std.proofs.lemmas.Iterator.Consumers.{YieldsList-from_enumerate}
use Rattle.std.proofs.lemmas.Iterator.Search.{any_from_yields_List}
use Rattle.boards.specs.Lists.{any}
use Rattle.volatile.specs.Volatile.{bad_row, bad_rows}
use Rattle.entry.proofs.checks.bad_rows.Goals as goal

any_same : (n : ℕ) {p q : ℕ → Bool} → ((k : ℕ) → p k ≡ q k) → any n p ≡ any n q
unfolding any
any_same zero e = refl
any_same (suc n) e = ap₂ (λ x y. x || y) (any_same n e) (e n)

-- the first index apart
any_first : (n : ℕ) (p : ℕ → Bool) → any (suc n) p ≡ p 0 || any n (λ k. p (suc k))
unfolding any
any_first zero p = sym (or-false (p 0))
any_first (suc n) p = ap (λ x. x || p (suc n)) (any_first n p) ∙ or_assoc (p 0) _ _

-- a test of each element with its index
any_enumerated : (t : ℕ → ℕ → Bool) (i : ℕ) (xs : List ℕ) →
    list_any (λ (q : ℕ × ℕ). t q.0 q.1) (enumerate_from i xs) ≡ any (length xs) (λ k. t (i + k) (get_or xs k 0))
unfolding any
any_enumerated t i [] = refl
any_enumerated t i (x ∷ xs) =
    ap₂ (λ a b. a || b) (ap (λ n. t n x) (sym (add-zero i)))
    (any_enumerated t (i + 1) xs ∙ any_same (length xs) (λ k. ap (λ n. t n (get_or xs k 0)) (omega arith)))
    ∙ sym (any_first (length xs) (λ k. t (i + k) (get_or (x ∷ xs) k 0)))

pub returns : goal.returns
unfolding bad_rows
returns c =
    let long : length c.args.rows ≡ 16 = search rules in
    any_from_yields_List (λ (q : ℕ × ℕ). bad_row c.args.p q.0 q.1) _ _ _ c.any.ensures.ran
    (YieldsList-from_enumerate (YieldsList-from_slice c.args.rows cc) cc) (λ x b q k. search (rules, tests))
    ∙ any_enumerated (bad_row c.args.p) 0 c.args.rows
    ∙ any_same (length c.args.rows) (λ k. ap (λ n. bad_row c.args.p n (get_or c.args.rows k 0)) (zero-add k))
    ∙ ap (λ n. any n (λ k. bad_row c.args.p k (get_or c.args.rows k 0))) long
