-- Stores that move no tag to or from a board of g: of a context, of a write that 13 lets pass, of a rollback of others.
use Prim.Native.Nat.{ℕ, zero, suc, ◌^◌, ◌<◌}
use mathlib.Core.Path.{◌≡◌, refl, sym, ◌∙◌, ap}
use mathlib.Core.Bool.{true, false, ◌&&◌}
use mathlib.Core.List.{List, [], ◌∷◌, map}
use mathlib.Core.Logic.{⊎_elim, ◌≢◌}
use lib.Dec.{eqb}
use native.Mathlib.Omega.{arith}
use borrow.Author.Tests.{eqb-true}
use Rattle.boards.specs.Lists.{any_of}
use Rattle.boards.specs.Boards.{has, meets, tagged_in}
use Rattle.boards.proofs.Basics.{decide, clash, refute, and_true, or_false, All, none, also, all_append, all_cond}
use Rattle.boards.proofs.Groups.{has_below, meets_no}
use Rattle.protocol.specs.Image.{Area, Tags, Current, Recovery, Memory, Put, put, rank, change, after}
use Rattle.protocol.specs.Calls.{placing, tagging, blocks_copied}
use Rattle.protocol.specs.declared.Shape.{Shape}
use Rattle.protocol.proofs.Copies.{all_placing, all_blocks}

-- a put that sets no tag, or one of a block whose tag names no board of g before and after
pub record Apart (g : ℕ) (m : Memory) (p : Put) : Type 0 where
  pub tags : rank p.area ≡ rank Tags
      → (tagged_in g p.value ≡ false) × (tagged_in g (m Tags p.index) ≡ false)

kept_from : {g : ℕ} {m : Memory} {ps : List Put} → All (Apart g m) ps → (n : Memory)
    → ((b : ℕ) → tagged_in g (n Tags b) ≡ tagged_in g (m Tags b))
    → (b : ℕ) → tagged_in g (after ps n Tags b) ≡ tagged_in g (m Tags b)
unfolding after change
kept_from none n same b = same b
kept_from {g} {m} (also {x = p} h hs) n same b =
    kept_from hs (change n p)
    (λ c. ⊎_elim
    (λ (e : eqb (rank p.area) (rank Tags) && eqb p.index c ≡ true).
    let both = and_true (eqb (rank p.area) (rank Tags)) (eqb p.index c) e in
    let out = h.tags (eqb-true _ _ both.0) in
    rw e (out.0 ∙ sym out.1 ∙ ap (λ d. tagged_in g (m Tags d)) (eqb-true _ _ both.1)))
    (λ (e : eqb (rank p.area) (rank Tags) && eqb p.index c ≡ false). rw e (same c))
    (decide (eqb (rank p.area) (rank Tags) && eqb p.index c)))
    b

-- the blocks tagged in g are the same after such puts
pub tags_kept : {g : ℕ} (m : Memory) {ps : List Put} → All (Apart g m) ps
    → (b : ℕ) → tagged_in g (after ps m Tags b) ≡ tagged_in g (m Tags b)
tags_kept m h b = kept_from h m (λ c. refl) b

elsewhere : {g : ℕ} {m : Memory} {i v : ℕ} (a : Area) → rank a ≢ rank Tags → Apart g m (put a i v)
elsewhere a h = record { tags = λ e. absurd (h e) }

pub placing_apart : {g : ℕ} {m : Memory} (a : Area) (i : ℕ) (bytes : List ℕ) → rank a ≢ rank Tags
    → All (Apart g m) (placing a i bytes)
placing_apart a i bytes h = all_placing a i bytes (λ x v l. elsewhere a h)

-- a write by a board outside g to blocks that no board of g tagged
pub tagging_apart : {g : ℕ} (i : ℕ) → has g i ≡ false → (m : Memory) (bs : List ℕ)
    → any_of (tagged_in g) (map (m Tags) bs) ≡ false → All (Apart g m) (tagging m i bs)
unfolding any_of tagging tagged_in
tagging_apart i out m [] e = none
tagging_apart {g} i out m (b ∷ bs) e =
    let both = or_false (tagged_in g (m Tags b)) (any_of (tagged_in g) (map (m Tags) bs)) e in
    all_append
    (all_cond (eqb (m Tags b) (suc i)) (λ f. none) (λ f. also (record { tags = λ r. (out, both.0) }) none))
    (tagging_apart i out m bs both.1)

-- a rollback of boards of which none is in g
pub rollback_apart : {g : ℕ} (h : ℕ) → g < 2 ^ 16 → meets g (has h) ≡ false → (s : Shape) (m : Memory)
    → All (Apart g m) (blocks_copied s m Recovery Current (tagged_in h))
unfolding rank tagged_in
rollback_apart {g} h small e s m =
    all_blocks s m Recovery Current (tagged_in h) (λ b x v l t k. elsewhere Current (omega arith))
    (λ b l t. record { tags = λ r. (refl, other (m Tags b) t) })
  where
    other : (t : ℕ) → tagged_in h t ≡ true → tagged_in g t ≡ false
    other zero q = refl
    other (suc j) q = refute (has g j) (λ y. clash q (meets_no g (has h) e j (has_below 16 g j small y) y))
