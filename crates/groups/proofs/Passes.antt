-- Passes of the search: rows and columns as sets, what a pass adds, and when the group is found.
use Prim.Native.Nat.{ℕ, suc, ◌+◌, ◌^◌, ◌≤◌, ◌<◌}
use mathlib.Core.Path.{◌≡◌, refl, sym, ◌∙◌, ap, ap₂}
use mathlib.Core.Bool.{Bool, true, false, ◌&&◌, ◌||◌, not, and_comm, or_assoc, or-false}
use mathlib.Core.Logic.{◌⊎◌, inl, inr, ⊎_elim, ◌≢◌}
use lib.Dec.{eqb, leb}
use native.Mathlib.Omega.{arith}
use native.Mathlib.Decide.{le_ind}
use borrow.Author.Tests.{eqb-true, eqb-false, leb-true, le-leb, lt-leb}
use Rattle.boards.specs.Lists.{count}
use Rattle.boards.specs.Boards.{has, set_of, single, with_board, meets, Links, pass, passes, commit_group}
use Rattle.boards.specs.Rows.{union, minus}
use Rattle.boards.proofs.Basics.{decide, clash, and_true, true_and, or_true, true_or, or_right, not_true, test_ext}
use Rattle.boards.proofs.Basics.{eqb_same, none_any, any_some}
use Rattle.boards.proofs.Groups.{has_zero, has_mask, has_single, has_with, has_below, has_ext, mask_below, meets_yes}
use Rattle.boards.proofs.Groups.{pass_has, pass_small, pass_keeps, below_or, larger_count, count_none, count_with}
use Rattle.boards.proofs.Masks.{has_not, mask_told, mask_ext}
use Rattle.groups.specs.Search.{kept, with_rows, PassInvariant}
use Rattle.groups.specs.declared.Progress.{Progress}

-- ---- columns, board by board

-- the boards from n on, and those below n of which t holds
abbrev pub remaining : (ℕ → Bool) → ℕ → ℕ
remaining t n = set_of (λ j. leb n j || t j)

module _ (t : ℕ → Bool) where
  pub remaining_first : 65535 ≡ remaining t 0
  remaining_first =
      mask_told 16 65535 _ (omega arith)
      (λ j l. has_not 16 0 j (omega arith) l ∙ ap not (has_zero j) ∙ sym (true_or (t j) (le-leb 0 j (omega arith))))

  pub remaining_next : (n : ℕ) → kept (t n) n (remaining t n) ≡ remaining t (n + 1)
  remaining_next n =
      mask_ext 16 _ _ (λ j l. ap (λ b. b && (t n || not (eqb n j))) (has_mask 16 _ j l) ∙ one j (decide (eqb n j)))
    where
      one : (j : ℕ) → (eqb n j ≡ true) ⊎ (eqb n j ≡ false) →
          (leb n j || t j) && (t n || not (eqb n j)) ≡ leb (n + 1) j || t j
      one j (inl e) =
          let same = eqb-true n j e in
          ap₂ (λ x y. (x || t j) && (t n || not y)) (le-leb n j (omega (arith, same))) e ∙ or-false (t n) ∙ ap t same
          ∙ sym (ap (λ b. b || t j) (lt-leb (n + 1) j (omega (arith, same))))
      one j (inr e) =
          let other = eqb-false n j e in
          let later =
          test_ext (leb n j) (leb (n + 1) j)
          (λ h. le-leb (n + 1) j (omega (arith, leb-true n j h, other)))
          (λ h. le-leb n j (omega (arith, leb-true (n + 1) j h))) in
          ap (λ y. (leb n j || t j) && (t n || not y)) e ∙ ap (λ y. (leb n j || t j) && y) (or_right (t n) refl)
          ∙ and_comm (leb n j || t j) true ∙ ap (λ b. b || t j) later

  pub remaining_last : remaining t 16 ≡ set_of t
  remaining_last = mask_ext 16 _ _ (λ j l. ap (λ b. b || t j) (lt-leb 16 j l))

-- a set without one board, or as it is
pub kept_all : (b g : ℕ) → g < 2 ^ 16 → g ≡ kept true b g
kept_all b g s = mask_told 16 g _ s (λ j l. and_comm true (has g j))

pub kept_others : (b g : ℕ) → minus g (single b) ≡ kept false b g
kept_others b g = mask_ext 16 _ _ (λ j l. ap (λ x. has g j && not x) (has_single b j l))

-- ---- sets within sets

-- a board of h without g is in h and not in g
pub left_board : (g h a : ℕ) → a < 16 → has (minus h g) a ≡ true →
    (has h a ≡ true) × (has g a ≡ false)
left_board g h a l e =
    let (in_h, out) = and_true (has h a) (not (has g a)) (sym (has_mask 16 _ a l) ∙ e) in
    (in_h, not_true (has g a) out)

module _ (g h : ℕ) (s : g < 2 ^ 16) (t : h < 2 ^ 16) (inside : (j : ℕ) → has g j ≡ true → has h j ≡ true) where
  -- where h without g is empty, g and h are the same
  pub none_left : 0 ≡ minus h g → g ≡ h
  none_left e =
      has_ext 16 g h s t
      (λ j l. test_ext _ _ (inside j)
      (λ in_h. ⊎_elim
      (λ in_g. in_g)
      (λ out. clash (true_and in_h (ap not out)) (sym (has_mask 16 _ j l) ∙ ap (λ x. has x j) (sym e) ∙ has_zero j))
      (decide (has g j))))

  -- a proper subset has fewer boards
  pub fewer : g ≢ h → count 16 (has g) < count 16 (has h)
  fewer other =
      let larger = larger_count 16 (has g) (has h) inside in
      ⊎_elim
      (λ l. l)
      (λ l. absurd (other (has_ext 16 g h s t (larger.1 l))))
      (below_or (count 16 (has g)) (count 16 (has h)))

-- ---- rows added

module _ (d : Links) where
  pub rows_none : (m : ℕ) → m < 2 ^ 16 → m ≡ with_rows d m 0
  unfolding with_rows
  rows_none m s =
      mask_told 16 m _ s (λ j l. sym (ap (λ b. has m j || b) (none_any 16 (λ i. has 0 i && d i j)
      (λ i k. ap (λ b. b && d i j) (has_zero i))) ∙ or-false (has m j)))

  pub rows_more : (m g a : ℕ) → a < 16 → union (with_rows d m g) (set_of (d a)) ≡ with_rows d m (with_board g a)
  unfolding with_rows
  rows_more m g a l =
      mask_ext 16 _ _ (λ j k. ap₂ (λ x y. x || y) (has_mask 16 _ j k) (has_mask 16 _ j k) ∙ or_assoc (has m j) _ _
      ∙ ap (λ b. has m j || b) (meets_with (λ i. d i j)))
    where
      meets_with : (p : ℕ → Bool) → meets g p || p a ≡ meets (with_board g a) p
      meets_with p = test_ext _ _ there back
        where
          there : meets g p || p a ≡ true → meets (with_board g a) p ≡ true
          there e =
              ⊎_elim
              (λ some.
              let (i, k, both) = any_some 16 (λ i. has g i && p i) some in
              let (in_g, holds) = and_true (has g i) (p i) both in
              meets_yes (with_board g a) p i k (has_with g a i k ∙ true_or (eqb a i) in_g) holds)
              (meets_yes (with_board g a) p a l (has_with g a a l ∙ or_right (has g a) (eqb_same a)))
              (or_true (meets g p) (p a) e)

          back : meets (with_board g a) p ≡ true → meets g p || p a ≡ true
          back e =
              let (i, k, both) = any_some 16 (λ i. has (with_board g a) i && p i) e in
              let (in_both, holds) = and_true (has (with_board g a) i) (p i) both in
              ⊎_elim
              (λ in_g. true_or (p a) (meets_yes g p i k in_g holds))
              (λ own. or_right (meets g p) (ap p (eqb-true a i own) ∙ holds))
              (or_true (has g i) (eqb a i) (sym (has_with g a i k) ∙ in_both))

  -- one more board of m has its row added
  pub one_added : (m a : ℕ) {p q : Progress} → a < 16 → has m a ≡ true → has p.added a ≡ false →
      PassInvariant d m p → q.members ≡ union p.members (set_of (d a)) → q.added ≡ with_board p.added a →
      q.count ≡ suc p.count → PassInvariant d m q
  one_added m a {p} {q} l in_m out w members added one_more =
      record {
        inside = λ j e.
            let e = ap (λ g. has g j) (sym added) ∙ e in
            let k = has_below 16 (with_board p.added a) j (mask_below 16 _) e in
            ⊎_elim
            (w.inside j)
            (λ own. ap (has m) (sym (eqb-true a j own)) ∙ in_m)
            (or_true (has p.added j) (eqb a j) (sym (has_with p.added a j k) ∙ e));
        covered = members ∙ ap (λ x. union x (set_of (d a))) w.covered ∙ rows_more m p.added a l
            ∙ ap (with_rows d m) (sym added);
        counted = one_more ∙ ap suc w.counted ∙ sym (ap (λ g. count 16 (has g)) added
            ∙ count_with 16 p.added a (omega arith) l out);
      }

  -- before the first pass no row was added
  pub begun : {p : Progress} → p.members < 2 ^ 16 → p.added ≡ 0 → p.count ≡ 0 → PassInvariant d p.members p
  begun {p} s added count_zero =
      record {
        inside = λ j e. clash (ap (λ g. has g j) (sym added) ∙ e) (has_zero j);
        covered = rows_none p.members s ∙ ap (with_rows d p.members) (sym added);
        counted = count_zero ∙ sym (ap (λ g. count 16 (has g)) added ∙ count_none 16 (has 0) has_zero);
      }

  -- after a pass from the members m they are among the members, and so are all that their rows have
  pub passed : (m : ℕ) {q : Progress} → m < 2 ^ 16 → q.members ≡ pass d m → q.added ≡ m →
      q.count ≡ count 16 (has q.added) → PassInvariant d q.members q
  unfolding with_rows
  passed m {q} s members added counted =
      record {
        inside = λ j e. ap (λ g. has g j) members ∙ pass_keeps d m s j (ap (λ g. has g j) (sym added) ∙ e);
        covered = members ∙ mask_told 16 _ _ (pass_small d m) (λ j l.
            pass_has d m j l ∙ twice (has m j) _ ∙ sym (ap (λ b. b || meets m (λ i. d i j)) (pass_has d m j l)))
            ∙ ap₂ (with_rows d) (sym members) (sym added);
        counted = counted;
      }
    where
      twice : (a b : Bool) → a || b ≡ (a || b) || b
      twice true b = refl
      twice false true = refl
      twice false false = refl

-- after a pass that adds nothing every later one adds nothing, so the group is found
pub passes_stay : (d : Links) (s n m : ℕ) → n ≤ m → pass d (passes d n s) ≡ passes d n s → passes d m s ≡ passes d n s
unfolding passes
passes_stay d s n m l h = le_ind (λ k. passes d k s ≡ passes d n s) refl (λ k r e. ap (pass d) e ∙ h) m l

pub found_early : (d : Links) (i n g : ℕ) → n ≤ 16 → g ≡ passes d n (single i) → pass d g ≡ g → g ≡ commit_group d i
unfolding commit_group
found_early d i n g l e h = e ∙ sym (passes_stay d (single i) n 16 l (ap (pass d) (sym e) ∙ h ∙ e))
