-- How often a board is in a list; lists of the boards of a set, each once.
use Prim.Native.Nat.{ℕ, zero, suc, ◌+◌, ◌^◌, ◌<◌}
use mathlib.Core.Path.{◌≡◌, refl, sym, ◌∙◌, ap, ap₂}
use mathlib.Core.Bool.{Bool, true, false, ◌&&◌, not, cond, and-true as and_yes}
use mathlib.Core.List.{List, [], ◌∷◌, ◌++◌, map}
use mathlib.Core.Logic.{⊎_elim}
use lib.Dec.{eqb, ltb, leb}
use lib.ListN.{length}
use native.Mathlib.Omega.{arith}
use native.Mathlib.Nat.{add-zero, zero-add}
use borrow.Author.Tests.{eqb-true, eqb-false, ne_eqb, ltb-true, lt-ltb, le-ltb, leb-false}
use Rattle.boards.specs.Lists.{for, any_of}
use Rattle.boards.specs.Boards.{has}
use Rattle.boards.proofs.Basics.{decide, or_false, and_true, true_and, false_and, and_false, eqb_same}
use Rattle.boards.proofs.Basics.{test_ext}
use Rattle.boards.proofs.Groups.{has_below, count, count_none, count_one_more}
use Rattle.protocol.specs.Image.{Memory}
use Rattle.protocol.specs.declared.Shape.{Shape}
use Rattle.costs.specs.Forecasts.{those}
use Rattle.shutdown.specs.Shutdown.{times, InAnyOrder, Sequence, ends, goes_on, SequencesThere}
use Rattle.shutdown.specs.Shutdown.{acknowledgements_due, commit_due}

pub times_head : (i : ℕ) (is : List ℕ) → times i (i ∷ is) ≡ suc (times i is)
unfolding times
times_head i is = rw (eqb_same i) (omega arith)

pub times_other : (i j : ℕ) (is : List ℕ) → eqb i j ≡ false → times j (i ∷ is) ≡ times j is
unfolding times
times_other i j is e = rw e (omega arith)

times_append : (j : ℕ) (xs ys : List ℕ) → times j (xs ++ ys) ≡ times j xs + times j ys
unfolding times
times_append j [] ys = omega arith
times_append j (x ∷ xs) ys = omega (arith, times_append j xs ys)

-- ---- the numbers below n of which p holds

module _ (p : ℕ → Bool) (j : ℕ) where
  -- one round of those
  round : (n : ℕ) → times j (cond (p n) (n ∷ []) []) ≡ cond (eqb n j && p n) 1 0
  unfolding times
  round n = go (p n)
    where
      go : (b : Bool) → times j (cond b (n ∷ []) []) ≡ cond (eqb n j && b) 1 0
      go true = add-zero _ ∙ ap (λ t. cond t 1 0) (sym (and_yes (eqb n j)))
      go false = sym (ap (λ t. cond t 1 0) (and_false (eqb n j) refl))

  times_those : (n : ℕ) → times j (those n p) ≡ cond (ltb j n && p j) 1 0
  unfolding those for times
  times_those zero = sym (ap (λ t. cond t 1 0) (false_and (p j) (le-ltb j 0 (omega arith))))
  times_those (suc n) =
      times_append j (those n p) (cond (p n) (n ∷ []) [])
      ∙ ap₂ (λ x y. x + y) (times_those n) (round n)
      ∙ ⊎_elim
      (λ (e : eqb n j ≡ true).
      let same : n ≡ j = eqb-true n j e in
      rw (le-ltb j n (omega arith), e, lt-ltb j (suc n) (omega arith))
      (zero-add (cond (p n) 1 0) ∙ ap (λ x. cond (p x) 1 0) same))
      (λ (e : eqb n j ≡ false).
      let apart = eqb-false n j e in
      let same : ltb j (suc n) ≡ ltb j n =
      test_ext (ltb j (suc n)) (ltb j n)
      (λ h. let l = ltb-true j (suc n) h in lt-ltb j n (omega arith))
      (λ h. let l = ltb-true j n h in lt-ltb j (suc n) (omega arith)) in
      rw (e, same) (add-zero _))
      (decide (eqb n j))

-- the boards of a set of sixteen, ascending
those_any_order : (g : ℕ) → g < 2 ^ 16 → InAnyOrder g (those 16 (has g))
those_any_order g small j =
    times_those (has g) j 16
    ∙ ap (λ t. cond t 1 0)
    (test_ext (ltb j 16 && has g j) (has g j)
    (λ h. (and_true (ltb j 16) (has g j) h).1)
    (λ h. true_and (lt-ltb j 16 (has_below 16 g j small h)) h))

-- or one of them first
first_any_order : (g i : ℕ) → g < 2 ^ 16 → has g i ≡ true
    → InAnyOrder g (i ∷ those 16 (λ j. has g j && not (eqb i j)))
first_any_order g i small member j =
    let other : ℕ → Bool = λ j. has g j && not (eqb i j) in
    ⊎_elim
    (λ (e : eqb i j ≡ true).
    let same : i ≡ j = eqb-true i j e in
    let none : other i ≡ false = and_false (has g i) (ap not (eqb_same i)) in
    ap (λ x. times x (i ∷ those 16 other)) (sym same) ∙ times_head i (those 16 other)
    ∙ ap suc (times_those other i 16 ∙ ap (λ t. cond t 1 0) (and_false (ltb i 16) none))
    ∙ sym (ap (λ t. cond t 1 0) (ap (has g) (sym same) ∙ member)))
    (λ (e : eqb i j ≡ false).
    times_other i j (those 16 other) e ∙ times_those other j 16
    ∙ ap (λ t. cond t 1 0)
    (test_ext (ltb j 16 && other j) (has g j)
    (λ h. (and_true (has g j) _ (and_true (ltb j 16) (other j) h).1).0)
    (λ h. true_and (lt-ltb j 16 (has_below 16 g j small h)) (true_and h (ap not e)))))
    (decide (eqb i j))

pub sequences_there : SequencesThere
unfolding any_of
sequences_there = record { ascending = all; any_start = first_any_order }
  where
    all : (gs : List ℕ) → any_of (leb (2 ^ 16)) gs ≡ false → Sequence gs (map (λ g. those 16 (has g)) gs)
    all [] small = ends
    all (g ∷ gs) small =
        let both = or_false (leb (2 ^ 16) g) (any_of (leb (2 ^ 16)) gs) small in
        goes_on (those_any_order g (leb-false (2 ^ 16) g both.0)) (all gs both.1)

-- ---- how many boards are called

sum : ℕ → (ℕ → ℕ) → ℕ
sum zero f = 0
sum (suc n) f = sum n f + f n

sum_same : (n : ℕ) (f g : ℕ → ℕ) → ((j : ℕ) → f j ≡ g j) → sum n f ≡ sum n g
unfolding sum
sum_same zero f g e = refl
sum_same (suc n) f g e = ap₂ (λ x y. x + y) (sum_same n f g e) (e n)

sum_count : (n : ℕ) (p : ℕ → Bool) → sum n (λ j. cond (p j) 1 0) ≡ count n p
unfolding sum count
sum_count zero p = refl
sum_count (suc n) p = ap (λ x. x + cond (p n) 1 0) (sum_count n p)

sum_both : (n : ℕ) (f g : ℕ → ℕ) → sum n (λ j. f j + g j) ≡ sum n f + sum n g
unfolding sum
sum_both zero f g = omega arith
sum_both (suc n) f g = omega (arith, sum_both n f g)

sum_none : (n : ℕ) → sum n (λ j. 0) ≡ 0
unfolding sum
sum_none zero = refl
sum_none (suc n) = omega (arith, sum_none n)

-- a list of boards below n has as many as each of these is in it
length_times : (n : ℕ) (js : List ℕ) → ((j : ℕ) → 0 < times j js → j < n) → length js ≡ sum n (λ j. times j js)
unfolding times
length_times n [] below = sym (sum_none n)
length_times n (i ∷ js) below =
    let l = below i (omega (arith, times_head i js)) in
    let one : sum n (λ j. cond (eqb i j) 1 0) ≡ 1 =
    sum_count n (eqb i)
    ∙ count_one_more n (λ j. false) (eqb i) i l refl (eqb_same i) (λ j b e. ne_eqb i j e)
    ∙ ap suc (count_none n (λ j. false) (λ j. refl)) in
    let rest = length_times n js (λ j h. below j (omega arith)) in
    let both = sum_both n (λ j. cond (eqb i j) 1 0) (λ j. times j js) in
    omega (arith, one, rest, both)

-- so a set's boards in any order are as many as the set has
pub length_callers : (g : ℕ) → g < 2 ^ 16 → (js : List ℕ) → InAnyOrder g js → length js ≡ count 16 (has g)
length_callers g small js each =
    length_times 16 js
    (λ j h. ⊎_elim
    (λ (e : has g j ≡ true). has_below 16 g j small e)
    (λ (e : has g j ≡ false).
    let none : times j js ≡ 0 = each j ∙ ap (λ t. cond t 1 0) e in absurd (omega arith))
    (decide (has g j)))
    ∙ sum_same 16 (λ j. times j js) (λ j. cond (has g j) 1 0) each ∙ sum_count 16 (has g)

-- a commit has a call for each of them
module _ (s : Shape) (m : Memory) (context : ℕ → List ℕ) (k : ℕ → ℕ) (g : ℕ) where
  length_acknowledgements : (js : List ℕ) → length (acknowledgements_due s m context k g js) ≡ length js
  unfolding acknowledgements_due
  length_acknowledgements [] = refl
  length_acknowledgements (j ∷ js) = ap suc (length_acknowledgements js)

  pub length_commit : (js : List ℕ) → length (commit_due s m context k g js) ≡ length js
  unfolding commit_due
  length_commit [] = refl
  length_commit (i ∷ js) = ap suc (length_acknowledgements js)

-- a set in two parts
pub count_parts : (n : ℕ) (p q r : ℕ → Bool) → ((j : ℕ) → cond (p j) 1 0 ≡ cond (q j) 1 0 + cond (r j) 1 0)
    → count n p ≡ count n q + count n r
unfolding count
count_parts zero p q r e = omega arith
count_parts (suc n) p q r e = omega (arith, count_parts n p q r e, e n)
