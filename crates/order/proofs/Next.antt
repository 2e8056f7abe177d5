-- The next component as the code finds it, and all boards by a shift.
use Prim.Native.Nat.{ℕ, ◌+◌, ◌-◌, ◌*◌, ◌/◌, ◌^◌, ◌≤◌, ◌<◌}
use mathlib.Core.Path.{◌≡◌, sym, ◌∙◌, ap}
use mathlib.Core.Bool.{true, false, not, cond}
use mathlib.Core.List.{List}
use mathlib.Core.Logic.{⊎_elim, ◌≢◌}
use lib.Bits.{bit_and, and_lt}
use lib.Dec.{eqb, ltb}
use lib.ListN.{get_or, get_or-eq_default}
use lib.Pow.{pow_pos, pow_mono, ones_split, high}
use native.Mathlib.Omega.{arith}
use native.Mathlib.Nat.{sub-zero}
use borrow.Author.Tests.{eq-eqb, ne_eqb, lt-ltb, le-ltb}
use Rattle.std.specs.Prelude.{Option, Some, None}
use Rattle.boards.specs.Boards.{has, Links, commit_group, fault_group}
use Rattle.boards.specs.Rows.{links_of}
use Rattle.boards.proofs.Basics.{decide, clash, true_and, false_and, and_false, if_true, if_false, refute}
use Rattle.boards.proofs.Groups.{below_or, has_below, has_small, has_zero, Bounded, Backward}
use Rattle.boards.proofs.Masks.{has_and, has_not, mask_told, Sixteen}
use Rattle.components.specs.Components.{intersection, component, ready, lowest, all_boards}
use Rattle.components.proofs.Ready.{lowest_holds, lowest_least}
use Rattle.components.proofs.Ready as next
use Rattle.order.specs.Call.{WithDependents}

-- ---- sets

pub and_intersection : (g h : ℕ) → g < 2 ^ 16 → h < 2 ^ 16 → bit_and g h ≡ intersection g h
and_intersection g h s t = mask_told 16 _ _ (and_lt 16 g h s t) (λ j l. has_and g h j)

-- sixteen ones without the last 16 - p are the boards below p
pub ones_shift : (p : ℕ) → p ≤ 16 → 65535 / 2 ^ (16 - p) ≡ all_boards p
ones_shift p l =
    let k = 16 - p in
    let sum : p + k ≡ 16 = omega arith in
    let ones : 65535 ≡ (2 ^ p - 1) * 2 ^ k + (2 ^ k - 1) = ap (λ n. 2 ^ n - 1) (sym sum) ∙ ones_split p k in
    let low : 2 ^ k - 1 < 2 ^ k = omega (arith, pow_pos k) in
    let most : 2 ^ p - 1 < 2 ^ 16 = omega (arith, pow_pos p, pow_mono l) in
    ap (λ n. n / 2 ^ k) ones ∙ high (2 ^ p - 1) k low
    ∙ mask_told 16 (2 ^ p - 1) (λ j. ltb j p) most
    (λ j m. ⊎_elim
    (λ (b : j < p).
    ap (λ n. has n j) (sym (sub-zero (2 ^ p - 1))) ∙ has_not p 0 j (pow_pos p) b ∙ ap not (has_zero j)
    ∙ sym (lt-ltb j p b))
    (λ (b : p ≤ j). has_small p (2 ^ p - 1) j (omega (arith, pow_pos p)) b ∙ sym (le-ltb j p b))
    (below_or j p))

-- ---- one board

module _ (d : Links) (left i : ℕ) where
  abbrev answer : Option ℕ
  answer = cond (ready d left i) (Some (component d i)) None

  pub not_left : has left i ≡ false → None ≡ answer
  unfolding ready
  not_left e = sym (if_false (Some (component d i)) None (false_and _ e))

  module _ {needed own some : ℕ} (e : needed ≡ commit_group d i) (f : own ≡ intersection needed (fault_group d i))
      (g : some ≡ intersection needed left)
    where
      own_is : own ≡ component d i
      unfolding component
      own_is = f ∙ ap (λ x. intersection x (fault_group d i)) e

      some_is : some ≡ intersection (commit_group d i) left
      some_is = g ∙ ap (λ x. intersection x left) e

      pub not_ready : some ≢ own → None ≡ answer
      unfolding ready
      not_ready q =
          sym (if_false (Some (component d i)) None
          (and_false (has left i)
          (ne_eqb (intersection (commit_group d i) left) (component d i) (λ same. q (some_is ∙ same ∙ sym own_is)))))

      pub is_ready : has left i ≡ true → some ≡ own → Some own ≡ answer
      unfolding ready
      is_ready h q =
          ap Some own_is
          ∙ sym (if_true (Some (component d i)) None
          (true_and h (eq-eqb (intersection (commit_group d i) left) (component d i) (sym some_is ∙ q ∙ own_is))))

-- ---- the first that may go next

-- sixteen rows of sixteen bits tell of sixteen boards
pub rows_bounded : {rows : List ℕ} → Sixteen rows → Bounded 16 (links_of rows)
unfolding links_of
rows_bounded {rows} s =
    record {
      ends = λ a b e. (
        ⊎_elim
            (λ l. l)
            (λ l.
            clash e (ap (λ g. has g b) (get_or-eq_default rows 0 {n = a} (omega (arith, s.long))) ∙ has_zero b))
            (below_or a 16),
        has_below 16 (get_or rows a 0) b (s.small a).fits e,
      );
    }

module _ {d : Links} (b : Bounded 16 d) (left : ℕ) where
  -- a board whose component is answered may go next, another may not
  pub answered_ready : (i : ℕ) {own : ℕ} → Some own ≡ answer d left i → (ready d left i ≡ true) × (own ≡ component d i)
  answered_ready i e =
      ⊎_elim
      (λ r. let same = e ∙ if_true (Some (component d i)) None r in (r, cc))
      (λ r. let none = e ∙ if_false (Some (component d i)) None r in absurd cc)
      (decide (ready d left i))

  pub answered_none : (i : ℕ) → None ≡ answer d left i → ready d left i ≡ false
  answered_none i e =
      refute (ready d left i) (λ r. let some = e ∙ if_true (Some (component d i)) None r in cc)

  -- the first that may go next is the lowest
  pub first_lowest : (i : ℕ) → i < 16 → ready d left i ≡ true → ((j : ℕ) → j < i → ready d left j ≡ false)
      → i ≡ lowest 16 (ready d left)
  first_lowest i l r before =
      let low = lowest_holds 16 (ready d left) i l r in
      let least = lowest_least 16 (ready d left) i r in
      ⊎_elim (λ k. clash low.1 (before _ k)) (λ k. omega arith) (below_or (lowest 16 (ready d left)) i)

  module _ (small : left < 2 ^ 16) (some : 0 < left) (dependents : WithDependents d left) where
    pub left_back : Backward (has left) d
    left_back = record { onto = dependents }

    pub left_some : eqb left 0 ≡ false
    left_some = ne_eqb left 0 (omega arith)

    -- one may
    pub one_ready : ((j : ℕ) → j < 16 → ready d left j ≡ false) → ⊥
    one_ready none =
        let h = next.next_holds b small left_back left_some in
        clash h.1 (none _ h.0)
