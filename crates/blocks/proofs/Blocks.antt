-- One block and one context: the stores of the leaves are the puts of the definitions.
use Prim.Native.Nat.{ℕ, zero, suc, ◌+◌, ◌-◌, ◌*◌, ◌≤◌, ◌<◌}
use native.Mathlib.Nat.{add-zero, add-suc}
use mathlib.Core.Path.{◌≡◌, sym, subst}
use mathlib.Core.Bool.{true, false}
use mathlib.Core.List.{List, [], ◌∷◌, map-append}
use mathlib.Core.Logic.{◌⊎◌, inl, inr, ◌≢◌}
use native.Mathlib.Numerals.{add-one}
use native.Mathlib.Omega.{arith}
use lib.ListN.{length, get_or, drop}
use Rattle.boards.specs.Lists.{for}
use Rattle.boards.specs.Boards.{has, tagged_in}
use Rattle.protocol.specs.Image.{Decision, Tags, Current, Tentative, Checkpoint, put, raw}
use Rattle.protocol.specs.Image.{rank, base, size, view, total}
use Rattle.protocol.specs.Calls.{copying, block_copied, context_saved}
use Rattle.protocol.specs.declared.Shape.{Shape}
use Rattle.boards.proofs.Basics.{row_fits}
use Rattle.boards.proofs.Masks.{tagged_none}
use Rattle.protocol.proofs.Copies.{Bank, current, recovery, bank_size}
use Rattle.store.specs.Budget.{Makes, one, WellBudget}
use Rattle.store.specs.Runs.{copy_stores, shifted}
use Rattle.store.specs.declared.Budget.{Budget}
use Rattle.store.proofs.Laws.{makes_none, makes_then}
use Rattle.store.proofs.Areas.{copying_lent}
use Rattle.store.specs.Puts.{Puts}
use Rattle.blocks.specs.Banks.{bank, filled, block_puts}
use Rattle.blocks.specs.declared.Copying.{Copying}
use Rattle.blocks.specs.declared.Copying.TheVariants.{Save, Restore}
use Rattle.layout.proofs.Laws.{tag_read}
use Rattle.blocks.proofs.Rounds.{block_round, context_round}

-- where a block stands in its bank, and how far the banks are apart
pub block_fits : (s : Shape) (b : ℕ) → b < s.blocks → b * s.size + s.size ≤ s.blocks * s.size
block_fits s b l = row_fits s.size s.blocks b l

pub context_fits : (s : Shape) (i : ℕ) → i < s.boards → i * s.context + s.context ≤ s.boards * s.context
context_fits s i l = row_fits s.context s.boards i l

-- how far past the current bank a copy reads, and how far it writes
abbrev pub read_at : Copying → ℕ → ℕ
read_at Save c = 0
read_at Restore c = c

abbrev pub written_at : Copying → ℕ → ℕ
written_at Save c = c
written_at Restore c = 0

read_place : (s : Shape) (how : Copying) (i : ℕ)
    → base s Current + i + read_at how (s.blocks * s.size) ≡ base s (bank how) + i
unfolding bank base
read_place s Save i = omega arith
read_place s Restore i = omega arith

written_place : (s : Shape) (how : Copying) (i : ℕ)
    → base s Current + i + written_at how (s.blocks * s.size) ≡ base s (filled how) + i
unfolding filled base
written_place s Save i = omega arith
written_place s Restore i = omega arith

bank_of : (how : Copying) → Bank (bank how)
unfolding bank
bank_of Save = current
bank_of Restore = recovery

filled_of : (how : Copying) → Bank (filled how)
unfolding filled
filled_of Save = recovery
filled_of Restore = current

pub banks_apart : (n c : ℕ) (how : Copying) → n ≤ c
    → (read_at how c + n ≤ written_at how c) ⊎ (written_at how c + n ≤ read_at how c)
banks_apart n c Save l = inl (omega arith)
banks_apart n c Restore l = inr (omega arith)

module _ {s : Shape} {x : List ℕ} (g : ℕ) (how : Copying) (b : ℕ) (l : b < s.blocks) {k : Budget} where
  pub block_left : tagged_in g (get_or x (12 + b) 0) ≡ false → Puts s (block_puts s (view s x) g how b) k x k x
  unfolding block_copied
  block_left e = record { makes = rw (tag_read s x b l, e) (makes_none k x) }

  -- the copier is handed the part of the image from `at` on
  pub block_done : {r r' : Budget} {y z : List ℕ} {at from to : ℕ} → tagged_in g (get_or x (12 + b) 0) ≡ true
      → at ≡ base s Current + b * s.size → from ≡ read_at how (s.blocks * s.size)
      → to ≡ written_at how (s.blocks * s.size)
      → Makes (shifted at (copy_stores (drop at x) from to s.size)) k x r y
      → Makes (one (12 + b) 0 ∷ []) r y r' z → Puts s (block_puts s (view s x) g how b) k x r' z
  unfolding block_copied raw base
  block_done {r} {r'} {y} {z} {at} {from} {to} e p q t m n =
      let i = b * s.size in
      let fits : i + s.size ≤ size s (bank how) = rw (bank_size s (bank_of how)) (block_fits s b l) in
      let same = copying_lent s x (bank how) (filled how) i s.size at from to fits
      (rw (p, q) (read_place s how i)) (rw (p, t) (written_place s how i)) in
      record {
        makes =
            rw (tag_read s x b l, e)
            (subst (λ ss. Makes ss k x r' z) (sym (map-append (raw s)
            (copying (view s x) (bank how) (filled how) i s.size) (put Tags b 0 ∷ [])))
            (makes_then (subst (λ ss. Makes ss k x r y) (sym same) m) n));
      }

module _ {s : Shape} {x : List ℕ} (g i : ℕ) {k : Budget} where
  pub context_left : has g i ≡ false → Puts s (context_saved s (view s x) g i) k x k x
  unfolding context_saved
  context_left e = record { makes = rw e (makes_none k x) }

  pub context_done : {r : Budget} {y : List ℕ} {at all : ℕ} → i < s.boards → has g i ≡ true
      → at ≡ base s Tentative + i * s.context → all ≡ s.boards * s.context
      → Makes (shifted at (copy_stores (drop at x) 0 all s.context)) k x r y
      → Puts s (context_saved s (view s x) g i) k x r y
  unfolding context_saved base size
  context_done {r} {y} {at} {all} l e p q m =
      let i₀ = i * s.context in
      let same = copying_lent s x Tentative Checkpoint i₀ s.context at 0 all (context_fits s i l) (omega arith)
      (omega arith) in
      record { makes = rw e (subst (λ ss. Makes ss k x r y) (sym same) m) }

-- ---- byte 9

pub cleared : (s : Shape) {k r : Budget} {x y : List ℕ} → Makes (one 9 0 ∷ []) k x r y
    → Puts s (put Decision 0 0 ∷ []) k x r y
unfolding raw base
cleared s m = record { makes = m }

-- ---- the loops

offsets_most : (how : Copying) (c : ℕ) → (read_at how c ≤ c) × (written_at how c ≤ c)
offsets_most Save c = (omega arith, omega arith)
offsets_most Restore c = (omega arith, omega arith)

-- the copier's two ranges lie in the image and apart
pub ranges_fit : (s : Shape) (how : Copying) (b : ℕ) → b < s.blocks → (n at from to : ℕ) → n ≡ total s
    → at ≡ base s Current + b * s.size → from ≡ read_at how (s.blocks * s.size)
    → to ≡ written_at how (s.blocks * s.size)
    → ((at + from + s.size ≤ n) × (at + to + s.size ≤ n)) × ((from + s.size ≤ to) ⊎ (to + s.size ≤ from))
unfolding base total
ranges_fit s how b l n at from to e p q t =
    let c = s.blocks * s.size in
    let f = block_fits s b l in
    let most = offsets_most how c in
    ((omega arith, omega arith), rw (q, t) (banks_apart s.size c how (omega arith)))

from_apart : (how : Copying) → (rank (bank how) ≢ rank (filled how)) × (rank (bank how) ≢ rank Tags)
unfolding bank filled rank
from_apart Save = (omega arith, omega arith)
from_apart Restore = (omega arith, omega arith)

module _ {s : Shape} {x : List ℕ} (long : length x ≡ total s) {k r : Budget} {y : List ℕ} (well : WellBudget k) where
  pub blocks_again : (g : ℕ) (how : Copying) (b : ℕ) {r' : Budget} {z : List ℕ} → b < s.blocks
      → Puts s (for b (block_puts s (view s x) g how)) k x r y → Puts s (block_puts s (view s y) g how b) r y r' z
      → Puts s (for (b + 1) (block_puts s (view s x) g how)) k x r' z
  blocks_again g how b l p q =
      rw add-one
      (block_round long well (bank how) (filled how) (tagged_in g) (filled_of how) (from_apart how).0
      (from_apart how).1 b l p q)

  -- blocks without a writer have no round
  skipped : (g : ℕ) (how : Copying) (b d : ℕ) → b + d ≤ s.blocks
      → ((j : ℕ) → b ≤ j → j < b + d → get_or y (12 + j) 0 ≡ 0)
      → Puts s (for b (block_puts s (view s x) g how)) k x r y
      → Puts s (for (b + d) (block_puts s (view s x) g how)) k x r y
  skipped g how b zero l none p = rw add-zero p
  skipped g how b (suc d) l none p =
      let before = skipped g how b d (omega arith) (λ j h i. none j h (omega arith)) p in
      let empty = sym (tagged_none g (none (b + d) (omega arith) (omega arith))) in
      rw (add-suc, ← add-one)
      (blocks_again g how (b + d) (omega arith) before (block_left g how (b + d) (omega arith) empty))

  pub blocks_skip : (g : ℕ) (how : Copying) (b c : ℕ) → b ≤ c → c ≤ s.blocks
      → ((j : ℕ) → b ≤ j → j < c → get_or y (12 + j) 0 ≡ 0)
      → Puts s (for b (block_puts s (view s x) g how)) k x r y
      → Puts s (for c (block_puts s (view s x) g how)) k x r y
  blocks_skip g how b c l m none p =
      let all : b + (c - b) ≡ c = omega arith in
      subst (λ (n : ℕ). Puts s (for n (block_puts s (view s x) g how)) k x r y) all
      (skipped g how b (c - b) (omega arith) (λ j h i. none j h (omega arith)) p)

  pub contexts_again : (g i : ℕ) {r' : Budget} {z : List ℕ} → i < s.boards
      → Puts s (for i (context_saved s (view s x) g)) k x r y → Puts s (context_saved s (view s y) g i) r y r' z
      → Puts s (for (i + 1) (context_saved s (view s x) g)) k x r' z
  contexts_again g i l p q = rw add-one (context_round long well g i l p q)
