-- The blocks of an access that is not refused 2, the first and the last: when one is overwritten whole, tests of their
-- tags, links made in them.
use Prim.Native.Nat.{ℕ, ◌+◌, ◌-◌, ◌*◌, ◌/◌, ◌<◌}
use native.Mathlib.Nat.{div-mul-le_self, lt-div-mul-add}
use native.Mathlib.Omega.{arith}
use borrow.Author.Tests.{eq-eqb, eqb-true, le-leb, leb-true}
use mathlib.Core.Path.{◌≡◌, refl, sym, ◌∙◌, ap, subst}
use mathlib.Core.Bool.{Bool, true, false, ◌&&◌, ◌||◌, cond, or-false as or-none}
use mathlib.Core.Logic.{◌⊎◌, ⊎_elim}
use lib.Dec.{eqb, leb}
use Rattle.boards.specs.Lists.{any_of}
use Rattle.protocol.specs.Image.{Tags, Memory}
use Rattle.volatile.specs.Volatile.{depend}
use Rattle.protocol.specs.Accesses.{touched, whole, bind_tag, bind_blocks}
use Rattle.protocol.specs.declared.Binding.{Binding}
use Rattle.protocol.specs.Calls.{tags_of}
use Rattle.protocol.specs.declared.Shape.{Shape}
use Rattle.volatile.specs.declared.Record.{Record}
use Rattle.boards.proofs.Basics.{decide, and_true, true_and, test_ext}
use Rattle.protocol.proofs.Accesses.{div_inside, whole_bounds, bounds_whole}
use Rattle.protocol.proofs.Plans.{Ranged}

module _ (s : Shape) (a n : ℕ) where
  abbrev pub first_block : ℕ
  first_block = a / s.size

  abbrev pub last_block : ℕ
  last_block = (a + n - 1) / s.size

  -- ---- by cells

  module _ (positive : 0 < s.size) (r : Ranged s a n) where
    -- a touched block is overwritten whole exactly if it is the only one and there are S cells
    pub whole_touched : (b : ℕ) → (b ≡ first_block) ⊎ (b ≡ last_block)
        → whole s a n b ≡ leb s.size n && eqb first_block last_block
    whole_touched b q =
        test_ext (whole s a n b) (leb s.size n && eqb first_block last_block)
        (λ h.
        let bounds = whole_bounds s a n b h in
        let few = r.few in
        let some = r.some in
        let begins = div_inside s.size b a (omega arith) (omega arith) in
        let ends = div_inside s.size b (a + n - 1) (omega arith) (omega arith) in
        true_and (le-leb s.size n (omega arith)) (eq-eqb first_block last_block (begins ∙ sym ends)))
        (λ h.
        let both = and_true (leb s.size n) (eqb first_block last_block) h in
        let full = leb-true s.size n both.0 in
        let same = eqb-true first_block last_block both.1 in
        let here : b ≡ first_block = ⊎_elim (λ e. e) (λ e. e ∙ sym same) q in
        let low = div-mul-le_self a s.size in
        let high = lt-div-mul-add {a = a + n - 1} {b = s.size} positive in
        let last = ap (λ x. x * s.size) same in
        let block = ap (λ x. x * s.size) here in
        bounds_whole s a n b (omega arith) (omega arith))

  -- ---- by blocks

  either : (t : ℕ → Bool) (x y : ℕ) → x ≡ y → t x || false ≡ t x || t y
  either t x y e = subst (λ z. t x || false ≡ t x || t z) e (or-none (t x) ∙ sym (or_same (t x)))
    where
      or_same : (b : Bool) → b || b ≡ b
      or_same true = refl
      or_same false = refl

  -- a test of a touched block's tag holds of the first block's or of the last one's
  pub any_touched : (m : Memory) (t : ℕ → Bool)
      → any_of t (tags_of s m a n) ≡ t (m Tags first_block) || t (m Tags last_block)
  unfolding touched any_of
  any_touched m t =
      ⊎_elim
      (λ (e : eqb first_block last_block ≡ true).
      rw e (either (λ b. t (m Tags b)) first_block last_block (eqb-true first_block last_block e)))
      (λ (e : eqb first_block last_block ≡ false).
      rw e (ap (λ b. t (m Tags first_block) || b) (or-none (t (m Tags last_block)))))
      (decide (eqb first_block last_block))

  -- links in the first block, and in the last if it is another
  pub bind_touched : (how : ℕ → Binding) (kind : Binding) (tag : ℕ → ℕ) (r : Record) (i : ℕ) → how first_block ≡ kind
      → how last_block ≡ kind → bind_blocks depend how tag r i (touched s a n)
      ≡ let one = bind_tag depend kind r i (tag first_block) in
      cond (eqb first_block last_block) one (bind_tag depend kind one i (tag last_block))
  unfolding touched bind_blocks
  bind_touched how kind tag r i f l =
      ⊎_elim
      (λ (e : eqb first_block last_block ≡ true). rw (e, f))
      (λ (e : eqb first_block last_block ≡ false). rw (e, f, l))
      (decide (eqb first_block last_block))
