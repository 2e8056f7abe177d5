-- Sets of boards as numbers, chains of dependences, counts, the groups that follow chains, and rows.
use Prim.Native.Nat.{ℕ, zero, suc, ◌+◌, ◌*◌, ◌/◌, ◌%◌, ◌^◌, ◌≤◌, ◌<◌}
use mathlib.Core.Path.{◌≡◌, refl, sym, ◌∙◌, ap, subst, fun_ext}
use mathlib.Core.Bool.{Bool, true, false, ◌&&◌, ◌||◌, not, cond, or-false}
use mathlib.Core.List.{List, [], ◌∷◌}
use mathlib.Core.Logic.{◌⊎◌, inl, inr, ⊎_elim, ◌↔◌, ◌≢◌}
use lib.Dec.{eqb, ltb, leb}
use lib.ListN.{length, get_or, length-append, get_or-append, get_or-eq_default}
use lib.Seq.{get_or_at}
use lib.Pow.{pow_pos, shr-shr}
use native.Mathlib.Omega.{arith}
use native.Mathlib.Nat.{pow-suc, div-one}
use native.Mathlib.Numerals.{one-add}
use borrow.Author.Tests.{ltb-true, ltb-false, lt-leb, eq-eqb, ne_eqb, eqb-true, eqb-false}
use Rattle.boards.specs.Lists.{for}
unfoldable pub use Rattle.boards.specs.Lists.{count}
use Rattle.boards.specs.Boards.{has, mask, set_of, single, with_board, meets, beyond, Links, unlinked, link}
use Rattle.boards.specs.Boards.{unlink}
use Rattle.boards.specs.Boards.{pass, passes, commit_group, fault_group, Chain, here, step, GroupsFollowChains}
use Rattle.boards.specs.Boards.{WordsByMembers}
use Rattle.boards.specs.Rows.{links_of, rows_of, emptied}
use Rattle.boards.proofs.Basics.{decide, clash, and_true, true_and, false_and, and_false, or_true, true_or}
use Rattle.boards.proofs.Basics.{or_right, not_true, false_not, refute, eqb_same, below_suc}
use Rattle.boards.proofs.Basics.{any_none, none_any, some_any, any_some, every_at, every_all}

-- ---- generic: a number is below another or not, and the elements of a loop that gives one at a time

pub below_or : (i n : ℕ) → (i < n) ⊎ (n ≤ i)
below_or i n = ⊎_elim (λ e. inl (ltb-true i n e)) (λ e. inr (ltb-false i n e)) (decide (ltb i n))

module _ {X : Type 0} (f : ℕ → X) where
  pub length_for : (n : ℕ) → length (for n (λ i. f i ∷ [])) ≡ n
  unfolding for
  length_for zero = refl
  length_for (suc n) = length-append (for n (λ i. f i ∷ [])) (f n ∷ []) ∙ omega (arith, length_for n)

  pub get_or_for : (n i : ℕ) (d : X) → i < n → get_or (for n (λ i. f i ∷ [])) i d ≡ f i
  unfolding for
  get_or_for zero i d l = absurd (omega arith)
  get_or_for (suc n) i d l =
      let s = for n (λ i. f i ∷ []) in
      ⊎_elim
      (λ k. get_or-append s (f n ∷ []) d i (omega (arith, length_for n)) ∙ get_or_for n i d k)
      (λ e. get_or_at s (f n) [] d i (length_for n ∙ sym e) ∙ ap f (sym e))
      (below_suc i n l)

-- ---- sets

bit_le : (b : Bool) → cond b 1 0 ≤ 1
bit_le true = omega arith
bit_le false = omega arith

low_bit : (b : Bool) (m : ℕ) → eqb ((cond b 1 0 + 2 * m) % 2) 1 ≡ b
low_bit true m = eq-eqb ((1 + 2 * m) % 2) 1 (omega arith)
low_bit false m = ne_eqb ((0 + 2 * m) % 2) 1 (omega arith)

pub has_zero : (j : ℕ) → has 0 j ≡ false
unfolding has
has_zero zero = refl
has_zero (suc j) = has_zero j

-- the boards of a mask
pub has_mask : (n : ℕ) (p : ℕ → Bool) (j : ℕ) → j < n → has (mask n p) j ≡ p j
unfolding has mask
has_mask zero p j l = absurd (omega arith)
has_mask (suc n) p zero l = low_bit (p 0) (mask n (λ j. p (suc j)))
has_mask (suc n) p (suc j) l =
    let m = mask n (λ j. p (suc j)) in
    let high : (cond (p 0) 1 0 + 2 * m) / 2 ≡ m = omega (arith, bit_le (p 0)) in
    ap (λ x. has x j) high ∙ has_mask n (λ j. p (suc j)) j (omega arith)

pub mask_below : (n : ℕ) (p : ℕ → Bool) → mask n p < 2 ^ n
unfolding mask
mask_below zero p = omega arith
mask_below (suc n) p = omega (arith, pow-suc 2 n, bit_le (p 0), mask_below n (λ j. p (suc j)))

-- a small number has no board above its bits
pub has_small : (n g j : ℕ) → g < 2 ^ n → n ≤ j → has g j ≡ false
unfolding has
has_small zero g j h l = ap (λ x. has x j) (omega arith) ∙ has_zero j
has_small (suc n) g zero h l = absurd (omega arith)
has_small (suc n) g (suc j) h l = has_small n (g / 2) j (omega (arith, pow-suc 2 n)) (omega arith)

pub has_beyond : (n : ℕ) (p : ℕ → Bool) (j : ℕ) → n ≤ j → has (mask n p) j ≡ false
has_beyond n p j l = has_small n (mask n p) j (mask_below n p) l

-- so each of its boards is below them
pub has_below : (n g j : ℕ) → g < 2 ^ n → has g j ≡ true → j < n
has_below n g j h e = ⊎_elim (λ l. l) (λ l. clash e (has_small n g j h l)) (below_or j n)

-- a set is told by its boards
pub has_ext : (n g h : ℕ) → g < 2 ^ n → h < 2 ^ n → ((j : ℕ) → j < n → has g j ≡ has h j) → g ≡ h
unfolding has
has_ext zero g h a b e = omega arith
has_ext (suc n) g h a b e =
    let half : (x : ℕ) → x < 2 ^ suc n → x / 2 < 2 ^ n = λ x l. omega (arith, pow-suc 2 n) in
    let high = has_ext n (g / 2) (h / 2) (half g a) (half h b) (λ j l. e (suc j) (omega arith)) in
    let low : eqb (g % 2) 1 ≡ eqb (h % 2) 1 = e 0 (omega arith) in
    ⊎_elim
    (λ t. omega (arith, high, eqb-true (g % 2) 1 t, eqb-true (h % 2) 1 (sym low ∙ t)))
    (λ t. omega (arith, high, eqb-false (g % 2) 1 t, eqb-false (h % 2) 1 (sym low ∙ t)))
    (decide (eqb (g % 2) 1))

pub has_none : (n g : ℕ) → g < 2 ^ n → ((j : ℕ) → j < n → has g j ≡ false) → g ≡ 0
has_none n g h e = has_ext n g 0 h (pow_pos n) (λ j l. e j l ∙ sym (has_zero j))

-- the two bytes of a set
pub set_split : (g : ℕ) → g % 256 + 256 * (g / 256) ≡ g
set_split g = omega arith

pub has_single : (i j : ℕ) → j < 16 → has (single i) j ≡ eqb i j
has_single i j l = has_mask 16 (λ j. eqb i j) j l

pub has_with : (g i j : ℕ) → j < 16 → has (with_board g i) j ≡ has g j || eqb i j
has_with g i j l = has_mask 16 (λ j. has g j || eqb i j) j l

pub meets_yes : (g : ℕ) (p : ℕ → Bool) (j : ℕ) → j < 16 → has g j ≡ true → p j ≡ true → meets g p ≡ true
meets_yes g p j l h e = some_any 16 (λ j. has g j && p j) j l (true_and h e)

pub meets_no : (g : ℕ) (p : ℕ → Bool) → meets g p ≡ false → (j : ℕ) → j < 16 → has g j ≡ true → p j ≡ false
meets_no g p n j l h = refute (p j) (λ e. clash (true_and h e) (any_none 16 (λ j. has g j && p j) n j l))

pub no_beyond : (p g : ℕ) → ((j : ℕ) → j < 16 → has g j ≡ true → j < p) → beyond p g ≡ false
unfolding beyond
no_beyond p g f =
    none_any 16 (λ j. leb p j && has g j)
    (λ j l. ⊎_elim
    (λ (e : has g j ≡ true). false_and (has g j) (lt-leb p j (f j l e)))
    (λ (e : has g j ≡ false). and_false (leb p j) e)
    (decide (has g j)))

-- ---- dependences

-- every dependence is between boards below n
pub record Bounded (n : ℕ) (d : Links) : Type 0 where
  pub ends : (a b : ℕ) → d a b ≡ true → (a < n) × (b < n)

-- p is closed under dependence, or under its reverse
pub record Forward (p : ℕ → Bool) (d : Links) : Type 0 where
  pub onto : (a b : ℕ) → p a ≡ true → d a b ≡ true → p b ≡ true

pub record Backward (p : ℕ → Bool) (d : Links) : Type 0 where
  pub onto : (a b : ℕ) → p b ≡ true → d a b ≡ true → p a ≡ true

module _ {d : Links} where
  pub chain_join : {i j k : ℕ} → Chain d i j → Chain d j k → Chain d i k
  chain_join here c = c
  chain_join (step e r) c = step e (chain_join r c)

  pub chain_last : {i j k : ℕ} → Chain d i j → d j k ≡ true → Chain d i k
  chain_last c e = chain_join c (step e here)

  pub chain_more : {e : Links} {i j : ℕ} → ((a b : ℕ) → d a b ≡ true → e a b ≡ true) → Chain d i j → Chain e i j
  chain_more f here = here
  chain_more f (step e r) = step (f _ _ e) (chain_more f r)

  pub chain_below : {n i j : ℕ} → Bounded n d → Chain d i j → i < n → j < n
  chain_below b here l = l
  chain_below b (step e r) l = chain_below b r (b.ends _ _ e).1

  pub forward_chain : {p : ℕ → Bool} {i j : ℕ} → Forward p d → Chain d i j → p i ≡ true → p j ≡ true
  forward_chain f here h = h
  forward_chain f (step e r) h = forward_chain f r (f.onto _ _ h e)

  pub backward_chain : {p : ℕ → Bool} {i j : ℕ} → Backward p d → Chain d i j → p j ≡ true → p i ≡ true
  backward_chain f here h = h
  backward_chain f (step e r) h = f.onto _ _ (backward_chain f r h) e

pub chain_turned : {d : Links} {i j : ℕ} → Chain d i j → Chain (λ a b. d b a) j i
chain_turned here = here
chain_turned (step e r) = chain_last (chain_turned r) e

-- the dependences of link and unlink
module _ (d : Links) (i j : ℕ) where
  pub link_new : link d i j i j ≡ true
  unfolding link
  link_new = true_or (d i j) (true_and (eqb_same i) (eqb_same j))

  pub link_old : (a b : ℕ) → d a b ≡ true → link d i j a b ≡ true
  unfolding link
  link_old a b e = or_right (eqb a i && eqb b j) e

  pub link_cases : (a b : ℕ) → link d i j a b ≡ true → ((a ≡ i) × (b ≡ j)) ⊎ (d a b ≡ true)
  unfolding link
  link_cases a b e =
      ⊎_elim
      (λ s. let t = and_true (eqb a i) (eqb b j) s in inl (eqb-true a i t.0, eqb-true b j t.1))
      inr
      (or_true (eqb a i && eqb b j) (d a b) e)

module _ (p : ℕ → Bool) (d : Links) (a b : ℕ) where
  pub unlink_true : unlink p d a b ≡ true → (p a ≡ false) × (p b ≡ false) × (d a b ≡ true)
  unfolding unlink
  unlink_true e =
      let s = and_true (not (p a)) (not (p b) && d a b) e in
      let t = and_true (not (p b)) (d a b) s.1 in
      (not_true (p a) s.0, not_true (p b) t.0, t.1)

  pub true_unlink : p a ≡ false → p b ≡ false → d a b ≡ true → unlink p d a b ≡ true
  unfolding unlink
  true_unlink s t e = true_and (false_not s) (true_and (false_not t) e)

-- what stays bounded
module _ {n : ℕ} {d : Links} (s : Bounded n d) where
  pub link_bounded : {i j : ℕ} → i < n → j < n → Bounded n (link d i j)
  link_bounded {i} {j} l k =
      record { ends = λ a b e. ⊎_elim (λ q. (omega arith, omega arith)) (s.ends a b) (link_cases d i j a b e) }

  pub unlink_bounded : (p : ℕ → Bool) → Bounded n (unlink p d)
  unlink_bounded p = record { ends = λ a b e. s.ends a b (unlink_true p d a b e).2 }

  pub bounded_more : {m : ℕ} → n ≤ m → Bounded m d
  bounded_more l = record { ends = λ a b e. let t = s.ends a b e in (omega (arith, t.0), omega (arith, t.1)) }

  pub turned_bounded : Bounded n (λ a b. d b a)
  turned_bounded = record { ends = λ a b e. ((s.ends b a e).1, (s.ends b a e).0) }

pub unlinked_bounded : (n : ℕ) → Bounded n unlinked
unfolding unlinked
unlinked_bounded n = record { ends = λ a b e. clash e refl }

-- a chain that ends outside a closed set never meets the set
module _ {d : Links} {p : ℕ → Bool} where
  pub chain_outside_forward : {i j : ℕ} → Forward p d → Chain d i j → p j ≡ false → Chain (unlink p d) i j
  chain_outside_forward f here q = here
  chain_outside_forward f (step {i} {j} e r) q =
      let t : p j ≡ false = refute (p j) (λ h. clash (forward_chain f r h) q) in
      let s : p i ≡ false = refute (p i) (λ h. clash (f.onto i j h e) t) in
      step (true_unlink p d i j s t e) (chain_outside_forward f r q)

  pub chain_outside_backward : {i j : ℕ} → Backward p d → Chain d i j → p i ≡ false → Chain (unlink p d) i j
  chain_outside_backward f here q = here
  chain_outside_backward f (step {i} {j} e r) q =
      let t : p j ≡ false = refute (p j) (λ h. clash (f.onto i j h e) q) in
      step (true_unlink p d i j q t e) (chain_outside_backward f r t)

-- ---- counts

pub count_le : (n : ℕ) (p : ℕ → Bool) → count n p ≤ n
unfolding count
count_le zero p = omega arith
count_le (suc n) p = omega (arith, bit_le (p n), count_le n p)

-- a larger set has as many at least, and is the same where it has no more
larger_bit : (x y : Bool) → (x ≡ true → y ≡ true) → (cond x 1 0 ≤ cond y 1 0) × (cond y 1 0 ≤ cond x 1 0 → x ≡ y)
larger_bit true true f = (omega arith, λ k. refl)
larger_bit true false f = clash (f refl) refl
larger_bit false true f = (omega arith, λ k. absurd (omega arith))
larger_bit false false f = (omega arith, λ k. refl)

pub larger_count : (n : ℕ) (p q : ℕ → Bool) → ((j : ℕ) → p j ≡ true → q j ≡ true)
    → (count n p ≤ count n q) × (count n q ≤ count n p → (j : ℕ) → j < n → p j ≡ q j)
unfolding count
larger_count zero p q f = (omega arith, λ k j l. absurd (omega arith))
larger_count (suc n) p q f =
    let r = larger_count n p q f in
    let s = larger_bit (p n) (q n) (f n) in (
      omega (arith, r.0, s.0),
      λ k j l. ⊎_elim
          (r.1 (omega (arith, s.0)) j)
          (λ (t : j ≡ n). ap p t ∙ s.1 (omega (arith, r.0)) ∙ ap q (sym t))
          (below_suc j n l),
    )

pub count_same : (n : ℕ) (p q : ℕ → Bool) → ((i : ℕ) → i < n → p i ≡ q i) → count n p ≡ count n q
unfolding count
count_same zero p q h = refl
count_same (suc n) p q h = rw (h n (omega arith), count_same n p q (λ i l. h i (omega arith)))

pub count_none : (n : ℕ) (p : ℕ → Bool) → ((i : ℕ) → p i ≡ false) → count n p ≡ 0
unfolding count
count_none zero p h = refl
count_none (suc n) p h = rw (h n, count_none n p h)

pub count_some : (n : ℕ) (p : ℕ → Bool) (i : ℕ) → i < n → p i ≡ true → 0 < count n p
unfolding count
count_some zero p i l e = absurd (omega arith)
count_some (suc n) p i l e =
    ⊎_elim
    (λ (k : i < n). omega (arith, count_some n p i k e))
    (λ (k : i ≡ n). rw (ap p (sym k) ∙ e) (omega arith))
    (below_suc i n l)

-- one number more, below n
pub count_one_more : (n : ℕ) (p q : ℕ → Bool) (i : ℕ) → i < n → p i ≡ false → q i ≡ true
    → ((j : ℕ) → j < n → i ≢ j → q j ≡ p j) → count n q ≡ suc (count n p)
unfolding count
count_one_more zero p q i l without within same = absurd (omega arith)
count_one_more (suc n) p q i l without within same =
    ⊎_elim
    (λ (k : i < n).
    rw (same n (omega arith) (omega arith), count_one_more n p q i k without within (λ j b e. same j (omega arith) e))
    (omega arith))
    (λ (k : i ≡ n).
    let before = count_same n q p (λ j b. same j (omega arith) (omega arith)) in
    rw (before, ap q (sym k) ∙ within, ap p (sym k) ∙ without) (omega arith))
    (below_suc i n l)

-- a set with one board more
pub count_with : (p g i : ℕ) → p ≤ 16 → i < p → has g i ≡ false → count p (has (with_board g i)) ≡ suc (count p (has g))
count_with p g i most l without =
    count_one_more p (has g) (has (with_board g i)) i l without
    (has_with g i i (omega arith) ∙ or_right (has g i) (eqb_same i))
    (λ j b e. has_with g i j (omega arith) ∙ ap (λ t. has g j || t) (ne_eqb i j e) ∙ or-false (has g j))

-- ---- groups

module _ (d : Links) (g : ℕ) where
  pub pass_has : (j : ℕ) → j < 16 → has (pass d g) j ≡ has g j || meets g (λ i. d i j)
  unfolding pass
  pass_has j l = has_mask 16 (λ j. has g j || meets g (λ i. d i j)) j l

  pub pass_small : pass d g < 2 ^ 16
  unfolding pass
  pass_small = mask_below 16 (λ j. has g j || meets g (λ i. d i j))

  -- a pass keeps the boards that there are; with no more boards it changes nothing
  pub pass_keeps : g < 2 ^ 16 → (j : ℕ) → has g j ≡ true → has (pass d g) j ≡ true
  pass_keeps s j h = pass_has j (has_below 16 g j s h) ∙ true_or (meets g (λ i. d i j)) h

  pass_stays : g < 2 ^ 16 → count 16 (has (pass d g)) ≤ count 16 (has g) → pass d g ≡ g
  pass_stays s k =
      sym (has_ext 16 g (pass d g) s pass_small ((larger_count 16 (has g) (has (pass d g)) (pass_keeps s)).1 k))

module _ (d : Links) (i : ℕ) where
  abbrev reach : ℕ → ℕ
  reach n = passes d n (single i)

  small : (n : ℕ) → reach n < 2 ^ 16
  unfolding passes
  small zero = mask_below 16 (λ j. eqb i j)
  small (suc n) = pass_small d (reach n)

  itself : i < 16 → (n : ℕ) → has (reach n) i ≡ true
  unfolding passes
  itself l zero = has_single i i l ∙ eqb_same i
  itself l (suc n) = pass_keeps d (reach n) (small n) i (itself l n)

  -- a chain leads to each board that the passes reach
  reached : (n j : ℕ) → has (reach n) j ≡ true → Chain d i j
  unfolding passes
  reached zero j h =
      let l = has_below 16 (single i) j (small 0) h in
      subst (λ k. Chain d i k) (eqb-true i j (sym (has_single i j l) ∙ h)) here
  reached (suc n) j h =
      let g = reach n in
      let l = has_below 16 (pass d g) j (pass_small d g) h in
      ⊎_elim
      (reached n j)
      (λ m.
      let s = any_some 16 (λ k. has g k && d k j) m in
      let t = and_true (has g s.0) (d s.0 j) s.2 in
      chain_last (reached n s.0 t.0) t.1)
      (or_true (has g j) (meets g (λ k. d k j)) (sym (pass_has d g j l) ∙ h))

  -- a bound that every dependence among sixteen boards keeps
  reached_below : {p : ℕ} → i < p → ((a b : ℕ) → a < 16 → b < 16 → d a b ≡ true → b < p) → (n j : ℕ)
      → has (reach n) j ≡ true → j < p
  unfolding passes
  reached_below small ends zero j h =
      let l = has_below 16 (single i) j (mask_below 16 (λ j. eqb i j)) h in
      omega (arith, eqb-true i j (sym (has_single i j l) ∙ h))
  reached_below small ends (suc n) j h =
      let g = reach n in
      let l = has_below 16 (pass d g) j (pass_small d g) h in
      ⊎_elim
      (reached_below small ends n j)
      (λ m.
      let s = any_some 16 (λ k. has g k && d k j) m in
      ends s.0 j s.1 l (and_true (has g s.0) (d s.0 j) s.2).1)
      (or_true (has g j) (meets g (λ k. d k j)) (sym (pass_has d g j l) ∙ h))

  pub commit_group_within : {p : ℕ} → i < p → ((a b : ℕ) → a < 16 → b < 16 → d a b ≡ true → b < p) → (j : ℕ)
      → has (commit_group d i) j ≡ true → j < p
  unfolding commit_group
  commit_group_within small ends = reached_below small ends 16

  -- after n passes another one changes nothing, or there are n boards at least: so sixteen suffice
  settled : (n : ℕ) → (pass d (reach n) ≡ reach n) ⊎ (n ≤ count 16 (has (reach n)))
  unfolding passes
  settled zero = inr (omega arith)
  settled (suc n) =
      ⊎_elim
      (λ e. inl (ap (pass d) e))
      (λ k. ⊎_elim
      (λ m. inr (omega arith))
      (λ m. inl (ap (pass d) (pass_stays d (reach n) (small n) m)))
      (below_or (count 16 (has (reach n))) (count 16 (has (pass d (reach n))))))
      (settled n)

  group_settled : pass d (commit_group d i) ≡ commit_group d i
  unfolding commit_group
  group_settled =
      ⊎_elim
      (λ e. e)
      (λ k. pass_stays d (reach 16) (small 16) (omega (arith, count_le 16 (has (pass d (reach 16))))))
      (settled 16)

  pub commit_group_small : commit_group d i < 2 ^ 16
  unfolding commit_group
  commit_group_small = small 16

  pub commit_group_self : i < 16 → has (commit_group d i) i ≡ true
  unfolding commit_group
  commit_group_self l = itself l 16

  pub commit_group_chain : (j : ℕ) → has (commit_group d i) j ≡ true → Chain d i j
  unfolding commit_group
  commit_group_chain = reached 16

module _ {d : Links} where
  pub commit_group_forward : Bounded 16 d → (i : ℕ) → Forward (has (commit_group d i)) d
  commit_group_forward s i =
      let g = commit_group d i in
      record {
        onto = λ a b h e.
            ap (λ x. has x b) (sym (group_settled d i)) ∙ pass_has d g b (s.ends a b e).1
            ∙ or_right (has g b) (meets_yes g (λ k. d k b) a (s.ends a b e).0 h e);
      }

  -- a board is in the commit group exactly when a chain leads to it
  pub in_commit_group : Bounded 16 d → (i : ℕ) → i < 16 → (j : ℕ) → (has (commit_group d i) j ≡ true) ↔ Chain d i j
  in_commit_group s i l j =
      (commit_group_chain d i j, λ c. forward_chain (commit_group_forward s i) c (commit_group_self d i l))

  pub commit_group_below : {p i : ℕ} → Bounded p d → i < p → (j : ℕ) → has (commit_group d i) j ≡ true → j < p
  commit_group_below {i = i} s l j h = chain_below s (commit_group_chain d i j h) l

-- the same of the fault group, which is the commit group of the dependences turned
module _ (d : Links) (i : ℕ) where
  pub fault_group_self : i < 16 → has (fault_group d i) i ≡ true
  unfolding fault_group
  fault_group_self = commit_group_self (λ a b. d b a) i

  pub fault_group_chain : (j : ℕ) → has (fault_group d i) j ≡ true → Chain d j i
  unfolding fault_group
  fault_group_chain j h = chain_turned (commit_group_chain (λ a b. d b a) i j h)

module _ {d : Links} where
  pub fault_group_backward : Bounded 16 d → (i : ℕ) → Backward (has (fault_group d i)) d
  unfolding fault_group
  fault_group_backward s i = record { onto = λ a b. (commit_group_forward (turned_bounded s) i).onto b a }

  -- a board is in the fault group exactly when a chain leads from it
  pub in_fault_group : Bounded 16 d → (i : ℕ) → i < 16 → (j : ℕ) → (has (fault_group d i) j ≡ true) ↔ Chain d j i
  in_fault_group s i l j =
      (fault_group_chain d i j, λ c. backward_chain (fault_group_backward s i) c (fault_group_self d i l))

-- equal dependences have equal groups
pub links_ext : {d e : Links} → ((a b : ℕ) → d a b ≡ e a b) → d ≡ e
links_ext same = fun_ext (λ a. fun_ext (same a))

-- ---- the rows of a relation

-- a bounded relation is read back from its rows
pub links_rows : {d : Links} → Bounded 16 d → (a b : ℕ) → links_of (rows_of d) a b ≡ d a b
unfolding links_of rows_of
links_rows {d} s a b =
    let row : ℕ → ℕ = λ i. set_of (d i) in
    let none : ((a < 16) × (b < 16) → ⊥) → d a b ≡ false = λ f. refute (d a b) (λ e. f (s.ends a b e)) in
    let zero_row = get_or-eq_default (for 16 (λ i. row i ∷ [])) 0 {n = a} in
    ⊎_elim
    (λ (l : a < 16). ap (λ x. has x b) (get_or_for row 16 a 0 l)
    ∙ ⊎_elim (has_mask 16 (d a) b) (λ k. has_beyond 16 (d a) b k ∙ sym (none (λ e. omega arith))) (below_or b 16))
    (λ (l : 16 ≤ a). ap (λ x. has x b) (zero_row (omega (arith, length_for row 16)))
    ∙ has_zero b ∙ sym (none (λ e. omega arith)))
    (below_or a 16)

pub links_emptied : (rows : List ℕ) (g : ℕ) → Bounded 16 (links_of rows)
    → links_of (emptied rows g) ≡ unlink (has g) (links_of rows)
unfolding emptied
links_emptied rows g s = links_ext (links_rows (unlink_bounded s (has g)))

-- ---- the statements of the definitions

pub groups_follow_chains : GroupsFollowChains
groups_follow_chains d s i l =
    let b : Bounded 16 d = record { ends = s } in
    (in_commit_group b i l, in_fault_group b i l)

in_set : (p : ℕ → Bool) (j : ℕ) → (has (set_of p) j ≡ true) ↔ ((j < 16) × (p j ≡ true))
in_set p j = (
  λ h. let l = has_below 16 (set_of p) j (mask_below 16 p) h in (l, sym (has_mask 16 p j l) ∙ h),
  λ h. has_mask 16 p j h.0 ∙ h.1,
)

-- bit j by a shift
pub has_shift : (g j : ℕ) → has g j ≡ eqb (g / 2 ^ j % 2) 1
unfolding has
has_shift g zero = rw div-one
has_shift g (suc j) = has_shift (g / 2) j ∙ ap (λ x. eqb (x % 2) 1) (shr-shr g 1 j ∙ ap (λ n. g / 2 ^ n) (one-add j))

pub words_by_members : WordsByMembers
words_by_members =
    record {
      bit = has_shift;
      of_set = in_set;
      with_one =
          λ g i j.
          let one = in_set (λ j. has g j || eqb i j) j in (
            λ h.
                let at = one.0 h in
                (at.0, ⊎_elim inl (λ e. inr (eqb-true i j e)) (or_true (has g j) (eqb i j) at.1)),
            λ h. one.1 (h.0, ⊎_elim (true_or (eqb i j)) (λ e. or_right (has g j) (eq-eqb i j e)) h.1),
          );
      met =
          λ g p. (
            λ h.
                let some = any_some 16 (λ j. has g j && p j) h in
                let both = and_true (has g some.0) (p some.0) some.2 in
                (some.0, some.1, both.0, both.1),
            λ h. meets_yes g p h.0 h.1 h.2 h.3,
          );
      inside =
          λ g h. (
            λ e j l b.
                ⊎_elim
                (λ n. clash b (not_true (has g j) n))
                (λ y. y)
                (or_true (not (has g j)) (has h j) (every_at 16 (λ j. not (has g j) || has h j) e j l)),
            λ f.
                every_all 16 (λ j. not (has g j) || has h j)
                (λ j l. ⊎_elim
                (λ e. or_right (not (has g j)) (f j l e))
                (λ e. true_or (has h j) (false_not e))
                (decide (has g j))),
          );
      linked =
          λ d i j a b. (
            link_cases d i j a b,
            ⊎_elim (λ q. rw (q.0, q.1) (link_new d i j)) (link_old d i j a b),
          );
      left = λ p d a b. (unlink_true p d a b, λ h. true_unlink p d a b h.0 h.1 h.2);
    }
