-- Loops, tests and counts over numbers and lists, by which the definitions say "for each" and "how many".
use Rattle.std.specs.Prelude.{ℕ, zero, suc, ◌+◌, Bool, true, false, ◌&&◌, ◌||◌, cond, List, [], ◌∷◌, ◌++◌}

-- what f gives at 0, at 1, up to n - 1, one after the other
unfoldable pub for : {X : Type 0} → ℕ → (ℕ → List X) → List X
for zero f = []
for (suc n) f = for n f ++ f n

-- f at n numbers from a on
unfoldable pub span : {X : Type 0} → (ℕ → X) → ℕ → ℕ → List X
span f a zero = []
span f a (suc n) = f a ∷ span f (suc a) n

-- whether p holds at every number below n; whether it holds at some number below n
unfoldable pub every : ℕ → (ℕ → Bool) → Bool
every zero p = true
every (suc n) p = every n p && p n

unfoldable pub any : ℕ → (ℕ → Bool) → Bool
any zero p = false
any (suc n) p = any n p || p n

-- how many numbers below n have p
unfoldable pub count : ℕ → (ℕ → Bool) → ℕ
count zero p = 0
count (suc n) p = count n p + cond (p n) 1 0

-- whether p holds of some element
unfoldable pub any_of : {X : Type 0} → (X → Bool) → List X → Bool
any_of p [] = false
any_of p (x ∷ xs) = p x || any_of p xs

-- the elements of which p holds
unfoldable pub select : {X : Type 0} → (X → Bool) → List X → List X
select p [] = []
select p (x ∷ xs) = cond (p x) (x ∷ select p xs) (select p xs)
