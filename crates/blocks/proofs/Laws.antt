-- What a round of a copying loop reads is not changed by the rounds before it.
use Prim.Native.Nat.{ℕ, ◌*◌}
use mathlib.Core.Path.{◌≡◌, refl, sym, ◌∙◌, ap, ap₂, fun_ext}
use mathlib.Core.Bool.{Bool, cond}
use mathlib.Core.List.{List, [], ◌∷◌, ◌++◌}
use mathlib.Core.Logic.{◌≢◌}
use native.Mathlib.Omega.{arith}
use Rattle.boards.specs.Lists.{for, span}
use Rattle.boards.specs.Boards.{has}
use Rattle.protocol.specs.Image.{Area, Tags, Checkpoint, Memory, Put, put, rank, after}
use Rattle.protocol.specs.Calls.{placing, copying, block_copied, context_saved}
use Rattle.protocol.specs.declared.Shape.{Shape}
use Rattle.boards.proofs.Basics.{all_for}
use Rattle.protocol.proofs.Memory.{else_area, else_index, untouched}
use Rattle.protocol.proofs.Copies.{all_block, all_context}

-- a round of the loop over blocks, by what it reads
round_of : Shape → Area → (ℕ → Bool) → ℕ → (ℕ → ℕ) → ℕ → List Put
round_of s to chosen t f b =
    cond (chosen t) (placing to (b * s.size) (span f (b * s.size) s.size) ++ put Tags b 0 ∷ []) []

block_reads : (s : Shape) (m : Memory) (from to : Area) (chosen : ℕ → Bool) (b : ℕ)
    → block_copied s m from to chosen b ≡ round_of s to chosen (m Tags b) (m from) b
unfolding block_copied copying round_of
block_reads s m from to chosen b = refl

module _ (s : Shape) (m : Memory) (from to : Area) (chosen : ℕ → Bool) (apart : rank from ≢ rank to)
    (banked : rank from ≢ rank Tags)
    (bank : rank to ≢ rank Tags)
  where
    earlier : ℕ → Memory
    earlier b = after (for b (block_copied s m from to chosen)) m

    tag_still : (b : ℕ) → earlier b Tags b ≡ m Tags b
    unfolding earlier
    tag_still b =
        untouched (all_for b (block_copied s m from to chosen) (λ c l.
        all_block s m from to chosen c (λ e. ((λ x v d. else_area bank), else_index (λ q. omega arith))))) m

    from_still : (b i : ℕ) → earlier b from i ≡ m from i
    unfolding earlier
    from_still b i =
        untouched (all_for b (block_copied s m from to chosen) (λ c l.
        all_block s m from to chosen c
        (λ e. ((λ x v d. else_area (λ q. apart (sym q))), else_area (λ q. banked (sym q)))))) m

    pub block_still : (b : ℕ)
        → block_copied s (after (for b (block_copied s m from to chosen)) m) from to chosen b
        ≡ block_copied s m from to chosen b
    unfolding earlier
    block_still b =
        block_reads s (earlier b) from to chosen b
        ∙ ap₂ (λ t f. round_of s to chosen t f b) (tag_still b) (fun_ext (from_still b))
        ∙ sym (block_reads s m from to chosen b)

-- the same of the loop over contexts
pub context_still : (s : Shape) (m : Memory) (g i : ℕ)
    → context_saved s (after (for i (context_saved s m g)) m) g i ≡ context_saved s m g i
unfolding context_saved copying rank
context_still s m g i =
    ap (λ (f : ℕ → ℕ). cond (has g i) (placing Checkpoint (i * s.context) (span f (i * s.context) s.context)) [])
    (fun_ext (λ j. untouched
    (all_for i (context_saved s m g) (λ c l. all_context s m g c (λ e x v d. else_area (λ q. omega arith)))) m))
