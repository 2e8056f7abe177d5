-- Links by tags, and a part of the image as a list of bytes.
use Prim.Native.Nat.{ℕ, zero, suc, ◌+◌, ◌≤◌}
use mathlib.Core.Path.{◌≡◌, refl, ◌∙◌, ap}
use mathlib.Core.List.{List, ◌∷◌}
use lib.ListN.{length, get_or, take, drop}
use lib.Seq.{drop-cons}
use native.Mathlib.Omega.{arith}
use borrow.Author.Tests.{eq-eqb, ne_eqb}
use Rattle.std.specs.List.{between}
use Rattle.boards.specs.Lists.{span}
use Rattle.protocol.specs.Accesses.{bind_tag, bind_boards}
use Rattle.protocol.specs.declared.Binding.{Binding}
use Rattle.volatile.specs.Volatile.{depend}
use Rattle.volatile.specs.declared.Record.{Record}

-- ---- tags

module _ (how : Binding) (r : Record) (i : ℕ) {t : ℕ} where
  pub bind_none : t ≡ 0 → r ≡ bind_tag depend how r i t
  unfolding bind_tag
  bind_none e = rw e

  module _ (j : ℕ) (e : t ≡ suc j) where
    pub bind_own : i ≡ j → r ≡ bind_tag depend how r i t
    unfolding bind_tag
    bind_own f = rw (e, eq-eqb i j f)

    pub bind_other : (i ≡ j → ⊥) → bind_boards depend how r i j ≡ bind_tag depend how r i t
    unfolding bind_tag
    bind_other f = rw (e, ne_eqb i j f)

-- ---- the buffer

-- a part of the image is its bytes one after the other
bytes_from : (image : List ℕ) (a k : ℕ) → a + k ≤ length image
    → take k (drop a image) ≡ span (λ x. get_or image x 0) a k
unfolding span
bytes_from image a zero m = refl
bytes_from image a (suc k) m =
    rw (drop-cons image a 0 (omega arith)) (ap (λ xs. get_or image a 0 ∷ xs) (bytes_from image (suc a) k (omega arith)))

pub part_read : (image : List ℕ) (at n : ℕ) → at + n ≤ length image
    → between at (at + n) image ≡ span (λ x. get_or image x 0) at n
part_read image at n l = ap (λ k. take k (drop at image)) (omega arith) ∙ bytes_from image at n l
