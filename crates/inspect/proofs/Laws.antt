-- What Context and Same answer, by the tests that the code makes.
use Prim.Native.Nat.{ℕ, ◌+◌, ◌-◌, ◌*◌, ◌≤◌, ◌<◌}
use mathlib.Core.Path.{◌≡◌, refl, sym, ◌∙◌, ap, ap₂}
use mathlib.Core.Bool.{Bool, true, false}
use mathlib.Core.List.{List}
use lib.Dec.{eqb}
use lib.ListN.{length, take, drop, get_or}
use native.Mathlib.Omega.{arith}
use native.Mathlib.Nat.{add-sub_cancel_left}
use borrow.Author.Tests.{eqb-true, eq-eqb, lt-leb}
use Rattle.std.specs.Bool.{Decides}
use Rattle.std.specs.List.{between}
use Rattle.std.proofs.lemmas.List.Edits.{length-between, get_or-between}
use Rattle.std.proofs.lemmas.List.{ext_get_or}
use Rattle.protocol.specs.Image.{Area, Recovery, Checkpoint, cells, contexts, base, size, total, byte}
use Rattle.protocol.specs.Image.{view}
use Rattle.protocol.specs.Calls.{first, context_tests, context_part, context_status}
use Rattle.protocol.specs.declared.Shape.{Shape}
use Rattle.boards.proofs.Basics.{and_true, false_and, test_ext, every_at, every_all, row_fits}
use Rattle.protocol.proofs.Bridge.{view_at, ends_within}
use Rattle.layout.specs.Headers.{Headed}
use Rattle.layout.proofs.Laws.{bounded}
use Rattle.inspect.specs.Same.{compare_tests, same_shape, same_area, same_areas, same_bytes, compare}

-- ---- Context

module _ (image : List ℕ) (i : ℕ) {s : Shape} (h : Headed 0 image s) {at : ℕ} (e : at ≡ base s Checkpoint)
    (l : i < s.boards)
  where
    pub context_within : (context_status image i ≡ 0)
        × (take (at + i * s.context + s.context - (at + i * s.context)) (drop (at + i * s.context) image)
        ≡ context_part image i)
    unfolding context_part context_tests first
    context_within = rw (h.ordered, h.shaped.shape, lt-leb _ _ l, ← e, add-sub_cancel_left) (refl, refl)

    -- a board's context ends within the image
    pub context_ends : (at + i * s.context + s.context ≤ length image) × (length image < 65536)
    unfolding size
    context_ends =
        let most = (bounded h.shaped.allowed_shape).most_total in
        let long = h.shaped.long in
        omega (arith, ends_within s Checkpoint, row_fits s.context s.boards i l)

-- ---- Same

-- two parts are equal exactly if their bytes are
pub bytes_agree : (image other : List ℕ) (at n : ℕ) → at + n ≤ length image → at + n ≤ length other → {r : Bool}
    → Decides r (between at (at + n) image ≡ between at (at + n) other) → r ≡ same_bytes image other at n
bytes_agree image other at n l m {r} h =
    let xs = between at (at + n) image in
    let ys = between at (at + n) other in
    let long : length xs ≡ n = omega (arith, length-between image at (at + n) l) in
    let as_long : length ys ≡ n = omega (arith, length-between other at (at + n) m) in
    test_ext r (same_bytes image other at n)
    (λ e. every_all n _ (λ i k.
    eq-eqb _ _ (sym (read image at n i k) ∙ ap (λ (zs : List ℕ). get_or zs i 0) (h.0 e) ∙ read other at n i k)))
    (λ e. h.1 (ext_get_or 0 xs ys (long ∙ sym as_long) (λ i k.
    let within : i < n = omega (arith, long) in
    read image at n i within ∙ eqb-true _ _ (every_at n _ e i within) ∙ sym (read other at n i within))))
  where
    read : (x : List ℕ) (a k i : ℕ) → i < k → get_or (between a (a + k) x) i 0 ≡ byte x (a + i)
    read x a k i j = get_or-between x a (a + k) i 0 (omega arith)

module _ (s t : Shape) where
  -- the same shape is equal
  pub same_equal : same_shape s t ≡ true → s ≡ t
  unfolding same_shape
  same_equal h =
      let a = and_true (eqb s.boards t.boards) _ h in
      let b = and_true (eqb s.size t.size) _ a.1 in
      let d = and_true (eqb s.blocks t.blocks) _ b.1 in
      built (eqb-true _ _ a.0) (eqb-true _ _ b.0) (eqb-true _ _ d.0) (eqb-true _ _ d.1)
    where
      built : {p q b c p' q' b' c' : ℕ} → p ≡ p' → q ≡ q' → b ≡ b' → c ≡ c' →
          ◌≡◌ {A = Shape} (record { boards = p; size = q; blocks = b; context = c })
          (record { boards = p'; size = q'; blocks = b'; context = c' })
      built e f g h = cc

module _ (s : Shape) (image other : List ℕ) where
  -- an area's bytes at its offset, by the views
  area_bytes : (a : Area) {at : ℕ} {r : Bool} → at ≡ base s a → r ≡ same_bytes image other at (size s a) →
      r ≡ same_area (view s image) (view s other) a (size s a)
  unfolding same_area
  area_bytes a {r} p e = rw p at e ∙ test_ext _ _
      (λ h. every_all _ _ (λ i l. both i l ∙ every_at _ _ h i l))
      (λ h. every_all _ _ (λ i l. sym (both i l) ∙ every_at _ _ h i l))
    where
      both : (i : ℕ) → i < size s a → eqb (view s image a i) (view s other a i)
          ≡ eqb (byte image (base s a + i)) (byte other (base s a + i))
      both i l = ap₂ eqb (view_at s image a i l) (view_at s other a i l)

  -- where the banks differ the areas do; where they are the same the contexts tell
  pub bank_other : {at : ℕ} {r : Bool} → at ≡ base s Recovery → r ≡ same_bytes image other at (cells s) →
      r ≡ false → r ≡ same_areas s (view s image) (view s other)
  unfolding same_areas size
  bank_other p e h = h ∙ sym (false_and _ (sym (area_bytes Recovery p e) ∙ h))

  pub bank_same : {at from : ℕ} {r b : Bool} → at ≡ base s Recovery → r ≡ same_bytes image other at (cells s) →
      r ≡ true → from ≡ base s Checkpoint → b ≡ same_bytes image other from (contexts s) →
      b ≡ same_areas s (view s image) (view s other)
  unfolding same_areas size
  bank_same p e h q f = rw (sym (area_bytes Recovery p e) ∙ h) (area_bytes Checkpoint q f)

-- an area ends within two images of its shape
pub area_ends : (s : Shape) (a : Area) {at n k : ℕ} → at ≡ base s a → n ≡ total s → k ≡ total s
    → (at + size s a ≤ n) × (at + size s a ≤ k)
area_ends s a p e f = (omega (arith, ends_within s a), omega (arith, ends_within s a))

-- images of one shape are compared by their areas
pub one_shape : {image other : List ℕ} {s t : Shape} {r : Bool} → Headed 0 image s → Headed 0 other t
    → same_shape s t ≡ true → r ≡ same_areas s (view s image) (view s other)
    → record { status = 0; same = r } ≡ compare image other
unfolding compare compare_tests first same_areas
one_shape {image} {other} {s} {t} h k d a =
    rw (a, h.ordered, k.ordered, h.shaped.shape, k.shaped.shape, d, ← same_equal s t d)
