-- The parts of a completion, one after the other, are the plan of the definitions.
use Prim.Native.Nat.{ℕ}
use mathlib.Core.Path.{◌≡◌, subst}
use mathlib.Core.Bool.{Bool}
use mathlib.Core.List.{List, [], ◌∷◌, ◌++◌}
use native.Mathlib.Omega.{arith}
use lib.ListN.{length}
use Rattle.boards.specs.Lists.{for}
use Rattle.protocol.specs.Image.{Decision, Current, Recovery, Memory}
use Rattle.protocol.specs.Image.{put, rank, after, view, total}
use Rattle.protocol.specs.Calls.{blocks_copied, context_saved, completing}
use Rattle.boards.specs.Boards.{tagged_in}
use Rattle.protocol.specs.declared.Shape.{Shape}
use Rattle.protocol.proofs.Memory.{untouched, else_area}
use Rattle.protocol.proofs.Copies.{all_blocks, blocks_inside, recovery}
use Rattle.protocol.proofs.Safety.{contexts_cong}
use Rattle.protocol.proofs.Plans.{inside_valid}
use Rattle.store.specs.Budget.{WellBudget}
use Rattle.store.specs.declared.Budget.{Budget}
use Rattle.store.specs.Puts.{Puts}
use Rattle.store.proofs.Chains.{then_puts, then_reads}

-- the contexts are read off the image after the blocks, which is the same as before them
contexts_later : (s : Shape) (m : Memory) (chosen : ℕ → Bool) (g : ℕ)
    → for s.boards (context_saved s (after (blocks_copied s m Current Recovery chosen) m) g)
    ≡ for s.boards (context_saved s m g)
unfolding rank
contexts_later s m chosen g =
    contexts_cong s g _ m
    (λ j. untouched (all_blocks s m Current Recovery chosen (λ b x v l e d. else_area (λ q. omega arith))
    (λ b l e. else_area (λ q. omega arith))) m)

module _ {s : Shape} {x : List ℕ} (long : length x ≡ total s) {b : Budget} (well : WellBudget b) where
  -- the completion of a commit
  pub completes : (g : ℕ) {r r' r'' : Budget} {y z w : List ℕ}
      → Puts s (blocks_copied s (view s x) Current Recovery (tagged_in g)) b x r y
      → Puts s (for s.boards (context_saved s (view s y) g)) r y r' z
      → Puts s (put Decision 0 0 ∷ []) r' z r'' w
      → Puts s (completing s (view s x) g) b x r'' w
  unfolding completing blocks_copied
  completes g {r'' = r''} {w = w} p q t =
      let m = view s x in
      let blocks = blocks_copied s m Current Recovery (tagged_in g) in
      subst (λ cs. Puts s (blocks ++ (cs ++ put Decision 0 0 ∷ [])) b x r'' w) (contexts_later s m (tagged_in g) g)
      (then_reads blocks (λ n. for s.boards (context_saved s n g) ++ put Decision 0 0 ∷ []) long
      (inside_valid (blocks_inside s m Current Recovery (tagged_in g) recovery)) well p
      (then_puts (for s.boards (context_saved s (view s _) g)) (put Decision 0 0 ∷ []) q t))
