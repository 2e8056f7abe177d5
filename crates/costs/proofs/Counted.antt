-- Numbers counted: the blocks and boards that a forecast counts.
use Prim.Native.Nat.{ℕ, suc, ◌+◌, ◌*◌, ◌≤◌}
use mathlib.Core.Path.{◌≡◌, sym, ◌∙◌, ap}
use mathlib.Core.Bool.{Bool, cond}
use mathlib.Core.List.{[], ◌∷◌}
use lib.ListN.{length}
use native.Mathlib.Omega.{arith}
use Rattle.boards.specs.Boards.{has, tagged_in}
use Rattle.boards.proofs.Groups.{count, count_le}
use Rattle.protocol.specs.Image.{Memory, Tags}
use Rattle.protocol.specs.declared.Shape.{Shape}
use Rattle.protocol.proofs.Counts.{length_rounds}
use Rattle.costs.specs.Forecasts.{those, boards_of, tagged_blocks, blocks_cost, commit_cost}

pub length_those : (n : ℕ) (p : ℕ → Bool) → length (those n p) ≡ count n p
unfolding those
length_those n p =
    length_rounds 1 n p (λ i. cond (p i) (i ∷ []) []) (λ i e. rw e) (λ i e. rw e) ∙ omega arith

-- by rounds
pub those_none : (p : ℕ → Bool) → length (those 0 p) ≡ 0
unfolding count
those_none p = length_those 0 p

pub those_more : (n : ℕ) (p : ℕ → Bool) → length (those (suc n) p) ≡ length (those n p) + cond (p n) 1 0
unfolding count
those_more n p = length_those (suc n) p ∙ ap (λ c. c + cond (p n) 1 0) (sym (length_those n p))

pub those_most : (n : ℕ) (p : ℕ → Bool) → length (those n p) ≤ n
those_most n p = omega (arith, length_those n p, count_le n p)

-- ---- what a commit of the members g costs, with the tags of m

module _ (s : Shape) (g : ℕ) (m : Memory) where
  abbrev pub figure_blocks : ℕ
  figure_blocks = count s.blocks (λ b. tagged_in g (m Tags b)) * (s.size + 1)

  abbrev pub all_contexts : ℕ
  all_contexts = count s.boards (has g) * s.context

  -- the deciding call: its context and what follows; all calls
  abbrev pub deciding_cost : ℕ
  deciding_cost = s.context + (4 + figure_blocks + all_contexts)

  abbrev pub figure : ℕ
  figure = all_contexts + (4 + figure_blocks + all_contexts)

  pub blocks_counted : blocks_cost s m g ≡ figure_blocks
  unfolding blocks_cost tagged_blocks
  blocks_counted = ap (λ c. c * (s.size + 1)) (length_those s.blocks (λ b. tagged_in g (m Tags b)))

  pub commit_counted : commit_cost s m g ≡ figure
  unfolding commit_cost boards_of
  commit_counted = omega (arith, blocks_counted, ap (λ c. c * s.context) (length_those s.boards (has g)))
