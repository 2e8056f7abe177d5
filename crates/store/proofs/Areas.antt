-- The runs that the leaves store are those that the definitions say of areas.
use Prim.Native.Nat.{ℕ, zero, suc, ◌+◌, ◌≤◌}
use mathlib.Core.Path.{◌≡◌, refl, ◌∙◌, ap, ap₂}
use mathlib.Core.List.{List, [], ◌∷◌, map}
use lib.ListN.{length, get_or, drop}
use lib.Seq.{get_or-drop}
use native.Mathlib.Omega.{arith}
use native.Mathlib.Nat.{zero-add}
use native.Mathlib.Numerals.{one-add}
use Rattle.boards.specs.Lists.{span}
use Rattle.protocol.specs.Image.{Area, base, size, view, Store, raw}
use Rattle.protocol.specs.Calls.{placing, copying}
use Rattle.protocol.specs.declared.Shape.{Shape}
use Rattle.boards.proofs.Basics.{length_span, get_or_span, span_same}
use Rattle.protocol.proofs.Bridge.{view_at}
use Rattle.store.specs.Budget.{one}
use Rattle.store.specs.Runs.{put_stores, copy_stores, shifted}

-- ---- ranges

map_span : {X Y : Type 0} (g : X → Y) (f : ℕ → X) (a n : ℕ) → map g (span f a n) ≡ span (λ x. g (f x)) a n
unfolding span
map_span g f a zero = refl
map_span g f a (suc n) = ap (λ l. g (f a) ∷ l) (map_span g f (suc a) n)

-- stores with equal offsets and bytes are equal
same_one : {i j v w : ℕ} → i ≡ j → v ≡ w → one i v ≡ one j w
same_one p q = ap₂ {C = Store} (λ i v. one i v) p q

-- ---- put_all

pub placing_stores : (s : Shape) (area : Area) (i at : ℕ) (bytes : List ℕ) → at ≡ base s area + i →
    map (raw s) (placing area i bytes) ≡ put_stores at bytes
unfolding placing raw put_stores span
placing_stores s area i at [] e = refl
placing_stores s area i at (b ∷ bs) e =
    ap₂ (λ x l. x ∷ l)
    (same_one (omega arith) refl)
    (placing_stores s area (suc i) (suc at) bs (omega arith)
    ∙ span_same _ _ 0 1 (length bs) (λ x _. rw (zero-add, one-add) (same_one (omega arith) refl)))

-- ---- copy_at

-- the copy in the part of an image from `at` on, in the whole
pub shifted_copy : (image : List ℕ) (at from to n : ℕ) →
    shifted at (copy_stores (drop at image) from to n) ≡ copy_stores image (at + from) (at + to) n
unfolding shifted copy_stores
shifted_copy image at from to n =
    map_span _ _ 0 n
    ∙ span_same _ _ 0 0 n
    (λ x _. rw zero-add
    (same_one (omega arith) (get_or-drop at image (from + x) 0 ∙ ap (λ k. get_or image k 0) (omega arith))))

pub copying_stores : (s : Shape) (image : List ℕ) (from to : Area) (i n : ℕ) → i + n ≤ size s from →
    map (raw s) (copying (view s image) from to i n) ≡ copy_stores image (base s from + i) (base s to + i) n
unfolding copying put_stores copy_stores
copying_stores s image from to i n l =
    placing_stores s to i (base s to + i) (span (view s image from) i n) refl
    ∙ rw length_span
    (span_same _ _ 0 0 n
    (λ x m. rw zero-add (same_one refl
    (get_or_span (view s image from) i n x 0 (omega arith)
    ∙ view_at s image from (i + x) (omega arith)
    ∙ ap (λ k. get_or image k 0) (omega arith)))))

-- the same as the stores of `copy_at`
pub copying_lent : (s : Shape) (image : List ℕ) (from to : Area) (i n at f t : ℕ) → i + n ≤ size s from →
    at + f ≡ base s from + i → at + t ≡ base s to + i →
    map (raw s) (copying (view s image) from to i n) ≡ shifted at (copy_stores (drop at image) f t n)
copying_lent s image from to i n at f t l p q =
    copying_stores s image from to i n l ∙ rw (shifted_copy, p, q)
