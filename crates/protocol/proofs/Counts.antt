-- How many stores a commit makes (document 01: 4 + m × (S + 1) + g × K after the context) and a format.
use Prim.Native.Nat.{ℕ, zero, suc, ◌+◌, ◌*◌}
use mathlib.Core.Path.{◌≡◌, ◌∙◌, ap}
use mathlib.Core.Bool.{Bool, true, false}
use mathlib.Core.List.{List, [], ◌∷◌, ◌++◌}
use mathlib.Core.Logic.{⊎_elim}
use lib.ListN.{length, length-append}
use native.Mathlib.Omega.{arith}
use Rattle.boards.specs.Lists.{for}
use Rattle.boards.specs.Boards.{has, tagged_in}
use Rattle.protocol.specs.Image.{Area, Decision, Tags, Current, Recovery, Memory, put}
use Rattle.protocol.specs.Calls.{copying, block_copied, blocks_copied, context_saved, completing, deciding}
use Rattle.protocol.specs.declared.Shape.{Shape}
use Rattle.boards.proofs.Basics.{decide}
use Rattle.boards.proofs.Groups.{count}
use Rattle.protocol.proofs.Copies.{length_copying}

-- a loop whose rounds have c elements each where the test passes, and else none
pub length_rounds : {X : Type 0} (c n : ℕ) (p : ℕ → Bool) (f : ℕ → List X)
    → ((i : ℕ) → p i ≡ true → length (f i) ≡ c) → ((i : ℕ) → p i ≡ false → length (f i) ≡ 0)
    → length (for n f) ≡ count n p * c
unfolding for count
length_rounds c zero p f yes_all no_all = omega arith
length_rounds c (suc n) p f yes_all no_all =
    let rest = length_rounds c n p f yes_all no_all in
    length-append (for n f) (f n)
    ∙ ⊎_elim
    (λ (e : p n ≡ true). rw e (let one = yes_all n e in omega arith))
    (λ (e : p n ≡ false). rw e (let one = no_all n e in omega arith))
    (decide (p n))

-- the blocks that pass the test, S bytes and a tag each
pub length_blocks : (s : Shape) (m : Memory) (from to : Area) (chosen : ℕ → Bool)
    → length (blocks_copied s m from to chosen) ≡ count s.blocks (λ b. chosen (m Tags b)) * (s.size + 1)
unfolding blocks_copied block_copied
length_blocks s m from to chosen =
    length_rounds (s.size + 1) s.blocks (λ b. chosen (m Tags b)) (block_copied s m from to chosen)
    (λ b e. rw e (length-append (copying m from to (b * s.size) s.size) (put Tags b 0 ∷ []) ∙ ap (λ n. n + 1)
    (length_copying m from to (b * s.size) s.size)))
    (λ b e. rw e)

-- the members' contexts
length_contexts : (s : Shape) (m : Memory) (g : ℕ)
    → length (for s.boards (context_saved s m g)) ≡ count s.boards (has g) * s.context
unfolding context_saved
length_contexts s m g =
    length_rounds s.context s.boards (has g) (context_saved s m g)
    (λ i e. rw e (length_copying m Area.Tentative Area.Checkpoint (i * s.context) s.context))
    (λ i e. rw e)

-- with m blocks and g members, after the context
pub length_deciding : (s : Shape) (m : Memory) (g : ℕ)
    → length (deciding s m g)
    ≡ 4 + count s.blocks (λ b. tagged_in g (m Tags b)) * (s.size + 1) + count s.boards (has g) * s.context
unfolding deciding completing
length_deciding s m g =
    let blocks = blocks_copied s m Current Recovery (tagged_in g) in
    let contexts = for s.boards (context_saved s m g) in
    let one = length-append blocks (contexts ++ put Decision 0 0 ∷ []) in
    let two = length-append contexts (put Decision 0 0 ∷ []) in
    let three = length_blocks s m Current Recovery (tagged_in g) in
    let four = length_contexts s m g in
    omega arith
