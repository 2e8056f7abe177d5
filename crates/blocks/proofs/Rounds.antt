-- The loops over blocks and contexts, one round more.
use Prim.Native.Nat.{ℕ, suc, ◌<◌}
use mathlib.Core.Path.{◌≡◌, subst}
use mathlib.Core.Bool.{Bool}
use mathlib.Core.List.{List, ◌++◌}
use mathlib.Core.Logic.{◌≢◌}
use native.Mathlib.Omega.{arith}
use lib.ListN.{length}
use Rattle.boards.specs.Lists.{for}
use Rattle.protocol.specs.Image.{Area, Tags, rank, view, total}
use Rattle.protocol.specs.Calls.{block_copied, context_saved}
use Rattle.protocol.specs.declared.Shape.{Shape}
use Rattle.protocol.proofs.Copies.{Bank, bank_rank, rounds_inside, contexts_inside}
use Rattle.protocol.proofs.Plans.{inside_valid}
use Rattle.store.specs.Budget.{WellBudget}
use Rattle.store.specs.declared.Budget.{Budget}
use Rattle.store.specs.Puts.{Puts}
use Rattle.blocks.proofs.Laws.{block_still, context_still}
use Rattle.store.proofs.Chains.{then_reads}

module _ {s : Shape} {x : List ℕ} (long : length x ≡ total s) {b r r' : Budget} {y z : List ℕ}
    (well : WellBudget b) where
  pub block_round : (from to : Area) (chosen : ℕ → Bool) → Bank to → rank from ≢ rank to → rank from ≢ rank Tags
      → (n : ℕ) → n < s.blocks
      → Puts s (for n (block_copied s (view s x) from to chosen)) b x r y
      → Puts s (block_copied s (view s y) from to chosen n) r y r' z
      → Puts s (for (suc n) (block_copied s (view s x) from to chosen)) b x r' z
  unfolding for rank
  block_round from to chosen k apart tagged n l p q =
      let f = block_copied s (view s x) from to chosen in
      let high = bank_rank k in
      subst (λ g. Puts s (for n f ++ g) b x r' z) (block_still s (view s x) from to chosen apart tagged (omega arith) n)
      (then_reads (for n f) (λ m. block_copied s m from to chosen n) long
      (inside_valid (rounds_inside s (view s x) from to chosen k n (omega arith))) well p q)

  pub context_round : (g n : ℕ) → n < s.boards
      → Puts s (for n (context_saved s (view s x) g)) b x r y → Puts s (context_saved s (view s y) g n) r y r' z
      → Puts s (for (suc n) (context_saved s (view s x) g)) b x r' z
  unfolding for
  context_round g n l p q =
      let f = context_saved s (view s x) g in
      subst (λ h. Puts s (for n f ++ h) b x r' z) (context_still s (view s x) g n)
      (then_reads (for n f) (λ m. context_saved s m g n) long
      (inside_valid (contexts_inside s (view s x) g n (omega arith))) well p q)
