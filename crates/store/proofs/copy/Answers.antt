-- `copy` makes the stores of the rounds so far, each with the byte of the entry: no store is made where a byte is read.
use Prim.Native.Nat.{ℕ, ◌+◌, ◌≤◌, ◌<◌}
use mathlib.Core.Path.{◌≡◌, refl}
use mathlib.Core.List.{List, [], ◌∷◌}
use mathlib.Core.Logic.{◌≢◌, ◌⊎◌, ⊎_elim}
use native.Mathlib.Omega.{arith}
use lib.ListN.{get_or}
use Rattle.boards.proofs.Basics.{All}
use Rattle.boards.specs.Lists.{span}
use Rattle.protocol.specs.Image.{Store}
use Rattle.store.specs.declared.Budget.{Budget}
use Rattle.store.specs.Budget.{Makes, one}
use Rattle.store.specs.Runs.{copy_stores}
use Rattle.store.proofs.Laws.{makes_none, makes_length}
use Rattle.boards.proofs.Basics.{all_span}
use Rattle.store.proofs.Runs.{makes_round, makes_else}
use Rattle.store.proofs.copy.Goals as goal

-- one round more: the byte that it reads is the entry's, since the stores so far are elsewhere
again : (image : List ℕ) (from to : ℕ) {count j : ℕ} {b r r' : Budget} {y z : List ℕ} →
    (from + count ≤ to) ⊎ (to + count ≤ from) → j < count → Makes (copy_stores image from to j) b image r y →
    Makes (one (to + j) (get_or y (from + j) 0) ∷ []) r y r' z → Makes (copy_stores image from to (j + 1)) b image r' z
unfolding copy_stores
again image from to {j} apart l m n =
    let elsewhere : All (λ (s : Store). s.at ≢ from + j) (copy_stores image from to j) =
    all_span _ 0 j (λ i _ k e. ⊎_elim (λ h. omega arith) (λ h. omega arith) apart) in
    makes_round _ j m (rw (makes_else m (from + j) elsewhere) at n)

pub loop-x-init : goal.loop-x-init
unfolding copy_stores span
loop-x-init c = (refl, makes_none _ _)

pub loop-x-preserved : goal.loop-x-preserved
loop-x-preserved c =
    let round =
    again c.args.part.now c.args.from c.args.to c.requires.apart (omega arith) c.loop-x.invariant.1
    c.store-b.ensures in
    (makes_length round, round)

pub returns : goal.returns
returns c =
    let done : c.loop-x.x ≡ c.args.count = omega arith in
    rw (← done) c.loop-x.invariant.1
